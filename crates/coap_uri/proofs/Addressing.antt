-- The form of a target's text, and the host of a URI.
use Rattle.std.proofs.Common.{◌≡◌, ◌⊎◌, inl, inr, ℕ, Bool, true, false, not, List, [], ◌∷◌, codes, Option, Some, None, Result, Ok, Err, MatchBool, MatchOption, option_map, refl, sym, ap, subst, get_or, lit<, IsTrue}
use Rattle.std.specs.Result.{result_ok}
use Rattle.std.specs.Bool.{Decides, one_answer}
use Rattle.std.specs.Net.Grammar.{IsIpv4Text, Parses}
use Rattle.std.specs.Str.Pattern.{FindsCharPrefix, FindsText, HasMatch, HasPrefixMatch}
use Rattle.std.specs.declared.net.ipv4_addr.Ipv4Addr.{Ipv4Addr}
use Rattle.std.proofs.lemmas.Bool.{cases_eq, ne_eqb}
use Rattle.std.proofs.lemmas.Str.Pattern.{contains_text, starts_char}
use Rattle.coap_client.specs.Paths.{slash}
use Rattle.url.specs.Host.{host_text}
use Rattle.url.specs.Parts.{Parts, nonempty_host}
use Rattle.coap_uri.specs.declared.address.AddressError.{AddressError}
use Rattle.coap_uri.specs.declared.address.AddressError.TheVariants as address_error
use Rattle.coap_uri.specs.Addresses.{HasHost, IsHostOf, IsNoAddress, IsNoUri, IsReadAsUri, begins_with_slash}

-- a text begins with a slash exactly if its first byte is one
begins : (text : List ℕ) → Decides (begins_with_slash text) (get_or text 0 0 ≡ slash)
begins [] = (λ x. absurd (cc x), λ h. absurd (cc h))
begins (first ∷ text) = by (cases_eq first slash)
  where
    by : (first ≡ slash) ⊎ (first ≡ slash → ⊥) → Decides (begins_with_slash (first ∷ text)) (get_or (first ∷ text) 0 0 ≡ slash)
    by (inl same) = (λ x. same, λ h. ap (λ b. begins_with_slash (b ∷ text)) same)
    by (inr other) = (λ x. absurd (cc (x, ne_eqb first slash other)), λ h. absurd (other h))

-- a text that contains `://` is read as a URI exactly if it doesn't start with a slash.
pub read_as_uri : (text : List ℕ) (contains starts : Bool) → MatchBool contains (HasMatch (FindsText (codes "://")) text) (FindsText (codes "://") text None) → contains ≡ true
    → MatchBool starts (HasPrefixMatch (FindsCharPrefix 47) text) (FindsCharPrefix 47 text None) → (IsTrue (not starts) → IsReadAsUri text) × (IsReadAsUri text → IsTrue (not starts))
read_as_uri text contains true scheme is slashed =
    let same = one_answer true (begins_with_slash text) (starts_char 47 text true slashed (lit< tt) (lit< tt)) (begins text) in
    (λ h. absurd (cc h), λ u. absurd (cc (same, u.no_slash)))
read_as_uri text contains false scheme is slashed =
    let same = one_answer false (begins_with_slash text) (starts_char 47 text false slashed (lit< tt) (lit< tt)) (begins text) in
    (λ h. record { scheme = (contains_text contains (codes "://") text scheme).0 is; no_slash = sym same }, λ u. refl)

pub read_as_path : (text : List ℕ) (contains : Bool) → MatchBool contains (HasMatch (FindsText (codes "://")) text) (FindsText (codes "://") text None) → contains ≡ false
    → (IsTrue contains → IsReadAsUri text) × (IsReadAsUri text → IsTrue contains)
read_as_path text contains scheme is = (λ h. absurd (cc (h, is)), λ u. (contains_text contains (codes "://") text scheme).1 u.scheme)

-- a name other than `localhost` denotes the IPv4 address that it parses to, or none if it doesn't
-- parse.
pub parsed_host : {E : Type 0} (name : List ℕ) (r : Result Ipv4Addr E) (o : Option Ipv4Addr) → o ≡ result_ok r → Parses IsIpv4Text name r → (name ≡ codes "localhost" → ⊥)
    → MatchOption o ((ip : Ipv4Addr) → IsHostOf name ip → ⊥) (IsHostOf name)
parsed_host name (Ok ip) o is h other = subst (λ (x : Option Ipv4Addr). MatchOption x ((a : Ipv4Addr) → IsHostOf name a → ⊥) (IsHostOf name)) (sym is) (inr h)
parsed_host name (Err e) o is h other = subst (λ (x : Option Ipv4Addr). MatchOption x ((a : Ipv4Addr) → IsHostOf name a → ⊥) (IsHostOf name)) (sym is)
    (λ a k. elim k as (λ _. ⊥) [ inl local ↦ other local.0 | inr ip ↦ h a ip ])

-- if the name of a URI's host denotes no IPv4 address, the URI's host denotes none.
pub hostless : (uri : Parts) (name : List ℕ) (o : Option Ipv4Addr) → option_map host_text (nonempty_host uri) ≡ Some name → ((x : Ipv4Addr) → o ≡ Some x → ⊥)
    → MatchOption o ((ip : Ipv4Addr) → IsHostOf name ip → ⊥) (IsHostOf name) → (ip : Ipv4Addr) → HasHost uri ip → ⊥
hostless uri name None is none h ip host =
    let same : host.name ≡ name = cc (host.name_is, is) in
    h ip (subst (λ n. IsHostOf n ip) same host.host_is)
hostless uri name (Some x) is none h ip host = none x refl

-- ---- the form decides

-- the only error of a path without a port is `NoPort`.
pub only_no_port : (text : List ℕ) (e : AddressError) → (IsReadAsUri text → ⊥) → IsNoAddress text None e → e ≡ address_error.NoPort
only_no_port text address_error.NoPort path h = refl
only_no_port text address_error.TwoPorts path h = absurd (path h.0)
only_no_port text address_error.NoUri path h = absurd (path h.0)
only_no_port text address_error.Parts path h = absurd (path h.0)
only_no_port text address_error.Host path h = absurd (path h.0)
only_no_port text address_error.Escape path h = absurd (path h.0)
only_no_port text address_error.NoMemory path h = absurd (path h)

-- the only error of a path with a port is `NoMemory`.
pub only_no_memory : (text : List ℕ) (port : ℕ) (e : AddressError) → (IsReadAsUri text → ⊥) → IsNoAddress text (Some port) e → e ≡ address_error.NoMemory
only_no_memory text port address_error.NoPort path h = absurd (cc h.1)
only_no_memory text port address_error.TwoPorts path h = absurd (path h.0)
only_no_memory text port address_error.NoUri path h = absurd (path h.0)
only_no_memory text port address_error.Parts path h = absurd (path h.0)
only_no_memory text port address_error.Host path h = absurd (path h.0)
only_no_memory text port address_error.Escape path h = absurd (path h.0)
only_no_memory text port address_error.NoMemory path h = refl

-- the only error of a URI with a port is `TwoPorts`.
pub only_two_ports : (text : List ℕ) (port : ℕ) (e : AddressError) → IsReadAsUri text → IsNoAddress text (Some port) e → e ≡ address_error.TwoPorts
only_two_ports text port address_error.NoPort uri h = absurd (h.0 uri)
only_two_ports text port address_error.TwoPorts uri h = refl
only_two_ports text port address_error.NoUri uri h = absurd (cc h.1)
only_two_ports text port address_error.Parts uri h = absurd (cc h.1)
only_two_ports text port address_error.Host uri h = absurd (cc h.1)
only_two_ports text port address_error.Escape uri h = absurd (cc h.1)
only_two_ports text port address_error.NoMemory uri h = absurd (h uri)

-- an error of a URI without a port is one of `IsNoUri`.
pub only_of_uri : (text : List ℕ) (e : AddressError) → IsReadAsUri text → IsNoAddress text None e → IsNoUri text e
only_of_uri text address_error.NoPort uri h = absurd (h.0 uri)
only_of_uri text address_error.TwoPorts uri h = absurd (cc h.1)
only_of_uri text address_error.NoUri uri h = h.2
only_of_uri text address_error.Parts uri h = h.2
only_of_uri text address_error.Host uri h = h.2
only_of_uri text address_error.Escape uri h = h.2
only_of_uri text address_error.NoMemory uri h = tt

-- A text represents a network in one way only: its parts before and after the slash determine it.
use Rattle.std.proofs.Common.{◌≡◌, ℕ, suc, ◌<◌, ◌≤◌, List, [], ◌∷◌, ◌++◌, length, refl, sym, ◌∙◌, subst, arith}
use Rattle.std.proofs.Common.{map, Option, None, Some, MatchOption, slice_index_or, Bor}
use Rattle.std.specs.Net.Addr.{ipv4_octets}
use Rattle.std.specs.Net.Grammar.{IsDotted, IsIpv4Text}
use Rattle.std.specs.declared.net.ipv4_addr.Ipv4Addr.{Ipv4Addr}
use Rattle.fc_front.specs.declared.policy.Network.{Network}
use Rattle.fc_lines.specs.Fields.{IsNoNumber, IsNumber}
use Rattle.fc_lines.specs.Policies.{AreManagers, AreNetworks, AreNoManagers, AreNoNetworks, IsNetwork, IsNoNetwork, IsUnslashed, slash}
use Rattle.fc_lines.proofs.Reading.{AreSame}

rest_unslashed : (x : ℕ) (a : List ℕ) → IsUnslashed (x ∷ a) → IsUnslashed a
rest_unslashed x a u = λ i lt. u (suc i) (omega (arith, lt))

-- a text has only one split at its first slash.
cut : (a b a' b' : List ℕ) → IsUnslashed a → IsUnslashed a' → a ++ (slash ∷ b) ≡ a' ++ (slash ∷ b') → AreSame a b a' b'
cut [] b [] b' u u' e = record { first = refl; rest = cc e }
cut [] b (x ∷ a') b' u u' e = absurd (u' 0 (omega arith) (cc e))
cut (x ∷ a) b [] b' u u' e = absurd (u 0 (omega arith) (cc e))
cut (x ∷ a) b (y ∷ a') b' u u' e =
    let same = cut a b a' b' (rest_unslashed x a u) (rest_unslashed y a' u') (cc e) in
    let head : y ≡ x = cc e in
    record { first = cc (head, same.first); rest = same.rest }

-- a text that is split at a slash has a slash.
uncut : (a b : List ℕ) → IsUnslashed (a ++ (slash ∷ b)) → ⊥
uncut [] b u = u 0 (omega arith) refl
uncut (x ∷ a) b u = uncut a b (rest_unslashed x (a ++ (slash ∷ b)) u)

-- a text without a slash represents no network.
pub no_slash : (text : List ℕ) → IsUnslashed text → IsNoNetwork text
no_slash text u = record { none = λ n w. uncut w.address w.digits (subst IsUnslashed w.text_is u) }

-- the parts of a text before and after its first slash.
pub record IsCut (text address digits : List ℕ) : Type 0 where
  pub text_is : text ≡ address ++ (slash ∷ digits)
  pub first : IsUnslashed address

-- the parts of a text around its first slash are those of the network that it represents.
same_parts : (text address digits : List ℕ) (n : Network) → IsCut text address digits → (w : IsNetwork text n) → AreSame address digits w.address w.digits
same_parts text address digits n c w = cut address digits w.address w.digits c.first w.first (sym c.text_is ∙ w.text_is)

-- a text whose part before the first slash is no IPv4 address represents no network.
pub no_address : (text address digits : List ℕ) → IsCut text address digits → ((a : Ipv4Addr) → IsIpv4Text address a → ⊥) → IsNoNetwork text
no_address text address digits c none = record {
  none = λ n w.
      let same = same_parts text address digits n c w in
      none (record { octets = n.ip }) (subst (λ (l : List ℕ). IsDotted l n.ip) same.first w.dotted);
}

-- a text whose part after the first slash is no number below 256 represents no network.
pub no_bits : (text address digits : List ℕ) → IsCut text address digits → IsNoNumber digits 256 → IsNoNetwork text
no_bits text address digits c none = record {
  none = λ n w.
      let same = same_parts text address digits n c w in
      let few = w.few in
      none.none n.bits (omega (arith, few)) (subst (λ (l : List ℕ). IsNumber l n.bits) same.rest w.bits);
}

-- a text whose part after the first slash is a number above 32 represents no network.
pub too_many : (text address digits : List ℕ) (bits : ℕ) → IsCut text address digits → IsNumber digits bits → 32 < bits → IsNoNetwork text
too_many text address digits bits c number many = record {
  none = λ n w.
      let same = same_parts text address digits n c w in
      let its : IsNumber digits n.bits = subst (λ (l : List ℕ). IsNumber l n.bits) same.rest w.bits in
      let both : bits ≡ n.bits = sym number.value ∙ its.value in
      let few = w.few in
      omega (arith, both, few, many);
}

-- an IPv4 address, a slash, and a number of at most 32 represent a network.
pub is_network : (text address digits : List ℕ) (a : Ipv4Addr) (ip : List ℕ) (bits : ℕ) → IsCut text address digits → IsIpv4Text address a → ip ≡ ipv4_octets a → IsNumber digits bits → bits ≤ 32
    → IsNetwork text (record { ip = ip; bits = bits })
is_network text address digits a ip bits c dotted octets number few = record {
  address = address;
  digits = digits;
  text_is = c.text_is;
  first = c.first;
  dotted = subst (IsDotted address) (sym octets) dotted;
  bits = number;
  few = few;
}

-- ---- texts of networks

-- if the first text represents no network, the texts represent no list of networks.
pub none_first : (a : List ℕ) (texts : List (List ℕ)) → IsNoNetwork a → AreNoNetworks (a ∷ texts)
none_first a texts w = record { none = go }
  where
    go : (ns : List Network) → AreNetworks (a ∷ texts) ns → ⊥
    go [] are = are
    go (n ∷ ns) are = w.none n are.0

-- if texts represent no list of networks, one more text in front and these texts represent none.
pub none_later : (a : List ℕ) (texts : List (List ℕ)) → AreNoNetworks texts → AreNoNetworks (a ∷ texts)
none_later a texts w = record { none = go }
  where
    go : (ns : List Network) → AreNetworks (a ∷ texts) ns → ⊥
    go [] are = are
    go (n ∷ ns) are = w.none ns are.1

-- ---- one to four texts

abbrev at : List (Bor (List ℕ)) → ℕ → List ℕ
at texts i = (slice_index_or texts i (record { ref_ptr = (0, 0); now = [] })).now

abbrev texts_of : List (Bor (List ℕ)) → List (List ℕ)
texts_of texts = map (λ (text : Bor (List ℕ)). text.now) texts

abbrev Networks : List (List ℕ) → Option (List Network) → Type 0
Networks texts r = MatchOption r (AreNoNetworks texts) (AreNetworks texts)

abbrev Managers : List (Bor (List ℕ)) → Option (List Network) → Type 0
Managers texts r = MatchOption r (AreNoManagers (texts_of texts)) (AreManagers (texts_of texts))

-- if the managers of `texts` are exactly the networks of `four`, the result for `four` is right for
-- `texts`.
stand_for : (texts four : List (List ℕ)) (r : Option (List Network)) → ((ns : List Network) → AreManagers texts ns → AreNetworks four ns) → ((ns : List Network) → AreNetworks four ns → AreManagers texts ns)
    → Networks four r → MatchOption r (AreNoManagers texts) (AreManagers texts)
stand_for texts four None down up w = record { none = λ ns m. w.none ns (down ns m) }
stand_for texts four (Some ns) down up w = up ns w

pub one_text : (ts : List (Bor (List ℕ))) (r : Option (List Network)) → 1 ≤ length ts → length ts < 2 → Networks (at ts 0 ∷ at ts 0 ∷ at ts 0 ∷ at ts 0 ∷ []) r → Managers ts r
one_text [] r le lt w = absurd (omega (arith, le))
one_text (a ∷ []) r le lt w = stand_for (a.now ∷ []) (a.now ∷ a.now ∷ a.now ∷ a.now ∷ []) r (λ ns m. m) (λ ns m. m) w
one_text (a ∷ b ∷ ts) r le lt w = absurd (omega (arith, lt))

pub two_texts : (ts : List (Bor (List ℕ))) (r : Option (List Network)) → 2 ≤ length ts → length ts < 3 → Networks (at ts 0 ∷ at ts 1 ∷ at ts 1 ∷ at ts 1 ∷ []) r → Managers ts r
two_texts [] r le lt w = absurd (omega (arith, le))
two_texts (a ∷ []) r le lt w = absurd (omega (arith, le))
two_texts (a ∷ b ∷ []) r le lt w = stand_for (a.now ∷ b.now ∷ []) (a.now ∷ b.now ∷ b.now ∷ b.now ∷ []) r (λ ns m. m) (λ ns m. m) w
two_texts (a ∷ b ∷ c ∷ ts) r le lt w = absurd (omega (arith, lt))

pub three_texts : (ts : List (Bor (List ℕ))) (r : Option (List Network)) → 3 ≤ length ts → length ts < 4 → Networks (at ts 0 ∷ at ts 1 ∷ at ts 2 ∷ at ts 2 ∷ []) r → Managers ts r
three_texts [] r le lt w = absurd (omega (arith, le))
three_texts (a ∷ []) r le lt w = absurd (omega (arith, le))
three_texts (a ∷ b ∷ []) r le lt w = absurd (omega (arith, le))
three_texts (a ∷ b ∷ c ∷ []) r le lt w = stand_for (a.now ∷ b.now ∷ c.now ∷ []) (a.now ∷ b.now ∷ c.now ∷ c.now ∷ []) r (λ ns m. m) (λ ns m. m) w
three_texts (a ∷ b ∷ c ∷ d ∷ ts) r le lt w = absurd (omega (arith, lt))

pub four_texts : (ts : List (Bor (List ℕ))) (r : Option (List Network)) → 4 ≤ length ts → length ts < 5 → Networks (at ts 0 ∷ at ts 1 ∷ at ts 2 ∷ at ts 3 ∷ []) r → Managers ts r
four_texts [] r le lt w = absurd (omega (arith, le))
four_texts (a ∷ []) r le lt w = absurd (omega (arith, le))
four_texts (a ∷ b ∷ []) r le lt w = absurd (omega (arith, le))
four_texts (a ∷ b ∷ c ∷ []) r le lt w = absurd (omega (arith, le))
four_texts (a ∷ b ∷ c ∷ d ∷ []) r le lt w = stand_for (a.now ∷ b.now ∷ c.now ∷ d.now ∷ []) (a.now ∷ b.now ∷ c.now ∷ d.now ∷ []) r (λ ns m. m) (λ ns m. m) w
four_texts (a ∷ b ∷ c ∷ d ∷ e ∷ ts) r le lt w = absurd (omega (arith, lt))

-- five texts or more represent no managers.
pub many_texts : (ts : List (Bor (List ℕ))) → 5 ≤ length ts → AreNoManagers (texts_of ts)
many_texts [] many = absurd (omega (arith, many))
many_texts (a ∷ []) many = absurd (omega (arith, many))
many_texts (a ∷ b ∷ []) many = absurd (omega (arith, many))
many_texts (a ∷ b ∷ c ∷ []) many = absurd (omega (arith, many))
many_texts (a ∷ b ∷ c ∷ d ∷ []) many = absurd (omega (arith, many))
many_texts (a ∷ b ∷ c ∷ d ∷ e ∷ ts) many = record { none = λ ns m. m }

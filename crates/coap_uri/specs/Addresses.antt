-- The server and the resource of a client's request: a path at a port of this host, or a URI of the
-- scheme coap, read as the URL Standard says (RFC 7252, sections 6.1 and 6.4).
use Rattle.std.specs.Global.{Vec}
use Rattle.std.specs.Prelude.{◌≡◌, ◌≢◌, ◌==◌, ◌||◌, ◌⊎◌, ℕ, nat_eq, is_some, Bool, true, false, List, [], ◌∷◌, map, Option, Some, None, Ok, Err, codes, option_map, unwrap_or, if◌then◌else◌}
use Rattle.std.specs.List.{after_first, before_first, list_any, slice_split}
use Rattle.std.specs.Net.Addr.{ipv4_octets}
use Rattle.std.specs.Net.Grammar.{IsIpv4Text}
use Rattle.std.specs.Net.Socket.{v4_ip, v4_port}
use Rattle.std.specs.Str.Iter.{HasSubslice}
use Rattle.std.specs.declared.net.ipv4_addr.Ipv4Addr.{Ipv4Addr}
use Rattle.coap_client.specs.Paths.{path_text, slash}
use Rattle.percent_encoding.specs.Percent.{percent_decode}
use Rattle.url.specs.Parser.{parse_url}
use Rattle.url.specs.declared.error.ParseError.{ParseError}
use Rattle.url.specs.Host.{host_text}
use Rattle.url.specs.Parts.{Parts, has_credentials, nonempty_host}
use Rattle.coap_uri.specs.declared.address.Address.{Address}
use Rattle.coap_uri.specs.declared.address.AddressError.{AddressError}
use Rattle.coap_uri.specs.declared.address.AddressError.TheVariants as address_error

abbrev pub ampersand : ℕ
ampersand = 38

-- vectors of bytes, as lists of bytes.
abbrev pub texts_in : List (Vec ℕ) → List (List ℕ)
texts_in texts = map (λ text. text.items) texts

-- the pieces of a text between separators, with their escapes decoded; an empty text has no pieces.
abbrev pub decoded_pieces : ℕ → List ℕ → List (List ℕ)
decoded_pieces byte [] = []
decoded_pieces byte (first ∷ text) = map percent_decode (slice_split (λ b. b == byte) (first ∷ text))

-- the pieces of a text between separators, unchanged: in a target at a port, escapes aren't
-- decoded.
abbrev pub plain_pieces : ℕ → List ℕ → List (List ℕ)
plain_pieces byte [] = []
plain_pieces byte (first ∷ text) = slice_split (λ b. b == byte) (first ∷ text)

-- whether a byte is `?`. In a target at a port, the path ends before the first `?`, and the query's
-- arguments follow that `?`.
abbrev pub is_question : ℕ → Bool
is_question b = b == 63

-- the segments of a URI's path. A path that doesn't begin with a slash has none.
abbrev pub segments_in : List ℕ → List (List ℕ)
segments_in [] = []
segments_in (first ∷ path) = if first == slash then decoded_pieces slash path else []

-- a host's name denotes this IPv4 address: the name is the address's text; or it is `localhost`,
-- and the address is 127.0.0.1.
abbrev pub IsHostOf : List ℕ → Ipv4Addr → Type 0
IsHostOf name ip = ((name ≡ codes "localhost") × (ipv4_octets ip ≡ 127 ∷ 0 ∷ 0 ∷ 1 ∷ [])) ⊎ IsIpv4Text name ip

-- the bytes contain a slash, which would split a segment in two.
abbrev pub has_slash : List ℕ → Bool
has_slash bytes = list_any (λ b. nat_eq b slash) bytes

-- a URI has a user, a password or a fragment, which URIs of the scheme coap don't have.
abbrev pub has_other_parts : Parts → Bool
has_other_parts uri = has_credentials uri || is_some uri.fragment

-- the address has the URI's host, port, path and query. The URI has no other parts, and no segment
-- of its path contains a slash.
pub record HasParts (uri : Parts) (a : Address) : Type 0 where
  pub no_others : has_other_parts uri ≡ false
  pub name : List ℕ
  pub name_is : option_map host_text (nonempty_host uri) ≡ Some name
  pub host_is : IsHostOf name (v4_ip a.server)
  pub port_is : v4_port a.server ≡ unwrap_or uri.port 5683
  pub no_slash : list_any has_slash (segments_in uri.path) ≡ false
  pub path_is : a.path.items ≡ path_text (segments_in uri.path)
  pub query_is : texts_in a.query.items ≡ decoded_pieces ampersand (unwrap_or uri.query [])

-- the text is a URI of the scheme coap with this address.
pub record IsOfUri (text : List ℕ) (a : Address) : Type 0 where
  pub uri : Parts
  pub parsed : parse_url None text ≡ Ok uri
  pub scheme_is : uri.scheme ≡ codes "coap"
  pub has : HasParts uri a

-- the text is a path with a query, and this is the text's address at a port of this host.
pub record IsAtPort (text : List ℕ) (port : ℕ) (a : Address) : Type 0 where
  pub host_is : ipv4_octets (v4_ip a.server) ≡ 127 ∷ 0 ∷ 0 ∷ 1 ∷ []
  pub port_is : v4_port a.server ≡ port
  pub path_is : a.path.items ≡ before_first is_question text
  pub query_is : texts_in a.query.items ≡ plain_pieces ampersand (after_first is_question text)

-- ---- the form of a text

-- the text begins with a slash.
abbrev pub begins_with_slash : List ℕ → Bool
begins_with_slash [] = false
begins_with_slash (first ∷ text) = first == slash

-- a text is read as a URI if it has `://` and doesn't begin with a slash; any other text is a path.
pub record IsReadAsUri (text : List ℕ) : Type 0 where
  pub scheme : HasSubslice text (codes "://")
  pub no_slash : begins_with_slash text ≡ false

-- the text fits the port: with a port it is a path, and without one it is a URI.
abbrev pub FitsPort : List ℕ → Option ℕ → Type 0
FitsPort text (Some port) = IsReadAsUri text → ⊥
FitsPort text None = IsReadAsUri text

-- the address of a path at this port, or of a URI without a port.
abbrev pub IsAddressBy : List ℕ → Option ℕ → Address → Type 0
IsAddressBy text (Some port) a = IsAtPort text port a
IsAddressBy text None a = IsOfUri text a

-- the text is a path if there is a port, and else a URI. This is its address.
pub record IsAddress (text : List ℕ) (port : Option ℕ) (a : Address) : Type 0 where
  pub form : FitsPort text port
  pub is : IsAddressBy text port a

-- ---- no address

-- the text is no URI by the URL Standard, or is a URI of another scheme.
abbrev pub IsNoCoapUri : List ℕ → Type 0
IsNoCoapUri text =
    ((error : ParseError) × (parse_url None text ≡ Err error))
    ⊎ ((uri : Parts) × (parse_url None text ≡ Ok uri) × (uri.scheme ≢ codes "coap"))

-- the URI's host denotes this IPv4 address.
pub record HasHost (uri : Parts) (ip : Ipv4Addr) : Type 0 where
  pub name : List ℕ
  pub name_is : option_map host_text (nonempty_host uri) ≡ Some name
  pub host_is : IsHostOf name ip

-- the URI has no other parts, and its host denotes an IPv4 address.
pub record IsAtHost (uri : Parts) : Type 0 where
  pub no_others : has_other_parts uri ≡ false
  pub ip : Ipv4Addr
  pub host : HasHost uri ip

-- the first reason why the parts of a coap URI are no address: it has other parts; its host denotes
-- no IPv4 address; or a segment of its path contains a slash. A lack of memory is reported only if
-- the URI has no other parts and its host denotes an IPv4 address.
abbrev pub IsUnfitBy : Parts → AddressError → Type 0
IsUnfitBy uri address_error.Parts = has_other_parts uri ≡ true
IsUnfitBy uri address_error.Host = (has_other_parts uri ≡ false) × ((ip : Ipv4Addr) → HasHost uri ip → ⊥)
IsUnfitBy uri address_error.Escape = IsAtHost uri × (list_any has_slash (segments_in uri.path) ≡ true)
IsUnfitBy uri address_error.NoMemory = IsAtHost uri
IsUnfitBy uri other = ⊥

-- the reason why the segments of a URI's path are no path: one contains a slash, or memory can't be
-- allocated.
abbrev pub IsUnfitSegment : List ℕ → AddressError → Type 0
IsUnfitSegment path address_error.Escape = list_any has_slash (segments_in path) ≡ true
IsUnfitSegment path address_error.NoMemory = Unit {0}
IsUnfitSegment path other = ⊥

pub record IsUnfitUri (text : List ℕ) (error : AddressError) : Type 0 where
  pub uri : Parts
  pub parsed : parse_url None text ≡ Ok uri
  pub scheme_is : uri.scheme ≡ codes "coap"
  pub unfit : IsUnfitBy uri error

abbrev pub IsNoUri : List ℕ → AddressError → Type 0
IsNoUri text address_error.NoUri = IsNoCoapUri text
IsNoUri text address_error.NoMemory = Unit {0}
IsNoUri text other = IsUnfitUri text other

-- the reason why a text has no address. It is a path without a port, a URI with a port, or a URI
-- that can't be a request's target. A lack of memory is reported only for a path with a port, and
-- for a URI without a port.
abbrev pub IsNoAddress : List ℕ → Option ℕ → AddressError → Type 0
IsNoAddress text port address_error.NoPort = (IsReadAsUri text → ⊥) × (port ≡ None)
IsNoAddress text port address_error.TwoPorts = IsReadAsUri text × (is_some port ≡ true)
IsNoAddress text port address_error.NoMemory = FitsPort text port
IsNoAddress text port other = IsReadAsUri text × (port ≡ None) × IsNoUri text other

-- A server's policy as text.
use Rattle.std.specs.Prelude.{◌≡◌, ◌≢◌, ◌*◌, ◌<◌, ◌≤◌, ℕ, List, [], ◌∷◌, ◌++◌, length, slice_index}
use Rattle.std.specs.Net.Grammar.{IsDotted}
use Rattle.fc_front.specs.declared.policy.Network.{Network}
use Rattle.fc_front.specs.declared.policy.Policy.{Policy}
use Rattle.fc_lines.specs.Fields.{IsNumber}

abbrev pub slash : ℕ
slash = 47

-- no byte of the text is a slash.
abbrev pub IsUnslashed : List ℕ → Type 0
IsUnslashed text = (i : ℕ) → i < length text → slice_index text i ≢ slash

-- an IPv4 address, a slash, and the decimal number of the address's first bits that all addresses
-- of the network share.
pub record IsNetwork (text : List ℕ) (n : Network) : Type 0 where
  pub address : List ℕ
  pub digits : List ℕ
  pub text_is : text ≡ address ++ (slash ∷ digits)
  pub first : IsUnslashed address
  pub dotted : IsDotted address n.ip
  pub bits : IsNumber digits n.bits
  pub few : n.bits ≤ 32

-- the text represents no network.
pub record IsNoNetwork (text : List ℕ) : Type 0 where
  pub none : (n : Network) → IsNetwork text n → ⊥

-- there are as many texts as networks, and each text represents the network at the same place.
abbrev pub AreNetworks : List (List ℕ) → List Network → Type 0
AreNetworks [] [] = Unit {0}
AreNetworks (text ∷ texts) (n ∷ ns) = IsNetwork text n × AreNetworks texts ns
AreNetworks texts ns = ⊥

-- the texts represent no list of networks.
pub record AreNoNetworks (texts : List (List ℕ)) : Type 0 where
  pub none : (ns : List Network) → AreNetworks texts ns → ⊥

-- one to four texts give four networks: the last network is repeated for the missing ones.
abbrev pub AreManagers : List (List ℕ) → List Network → Type 0
AreManagers (a ∷ []) ns = AreNetworks (a ∷ a ∷ a ∷ a ∷ []) ns
AreManagers (a ∷ b ∷ []) ns = AreNetworks (a ∷ b ∷ b ∷ b ∷ []) ns
AreManagers (a ∷ b ∷ c ∷ []) ns = AreNetworks (a ∷ b ∷ c ∷ c ∷ []) ns
AreManagers (a ∷ b ∷ c ∷ d ∷ []) ns = AreNetworks (a ∷ b ∷ c ∷ d ∷ []) ns
AreManagers texts ns = ⊥

-- the texts represent no four managers.
pub record AreNoManagers (texts : List (List ℕ)) : Type 0 where
  pub none : (ns : List Network) → AreManagers texts ns → ⊥

-- the policy of these texts of networks and these limits: 1 to 65,536 exchanges, a share of at
-- least 1, and 1 to 86,400 seconds after which a notification is confirmable.
pub record IsPolicyOf (texts : List (List ℕ)) (exchanges share seconds : ℕ) (p : Policy) : Type 0 where
  pub managers : AreManagers texts p.managers
  pub exchanges_are : p.limits.exchanges ≡ exchanges
  pub share_is : p.limits.share ≡ share
  pub confirm_after_is : p.confirm_after ≡ 1000 * seconds
  pub some : 1 ≤ exchanges
  pub most : exchanges ≤ 65536
  pub some_each : 1 ≤ share
  pub some_seconds : 1 ≤ seconds
  pub most_seconds : seconds ≤ 86400

-- no policy has these texts of networks and these limits.
pub record IsNoPolicy (texts : List (List ℕ)) (exchanges share seconds : ℕ) : Type 0 where
  pub none : (p : Policy) → IsPolicyOf texts exchanges share seconds p → ⊥

-- Events as lines of text.
use Rattle.std.specs.Prelude.{◌≡◌, ◌⊎◌, ◌==◌, ℕ, ◌<◌, ◌≤◌, ◌^◌, List, ◌∷◌, ◌++◌, Bool, true, false, length, map, Option, Ok, codes}
use Rattle.std.specs.Borrow.{Bor}
use Rattle.std.specs.List.{Contains, slice_split}
use Rattle.hex.specs.Hex.{decode_of, decode_sized}
use Rattle.fc_core.specs.declared.event.Event.{Event}
use Rattle.fc_core.specs.declared.event.Event.TheVariants.{Deliver, Peek, Take, Commit, Install, Remove, Refuse, Receipt, Raise, Answer, Due, Fire, Fresh, Note, GiveUp, Signal, Tick, ShardTick, Lose}
use Rattle.coap_msg.specs.declared.types.Endpoint.{Endpoint}
use Rattle.fc_help.specs.Region.{no_readings}
use Rattle.fc_registry.specs.Slots.{last_serial}
use Rattle.fc_front.specs.Policies.{default_policy}
use Rattle.fc_front.specs.declared.policy.Policy.{Policy}
use Rattle.fc_server.specs.declared.server.Begin.{Begin}
use Rattle.fc_lines.specs.Fields.{space, IsNumber}
use Rattle.fc_lines.specs.Emissions.{peer_endpoint}
use Rattle.fc_lines.specs.Policies.{IsPolicyOf}

abbrev pub Bytes : Type 0
Bytes = List ℕ

abbrev pub equals : ℕ
equals = 61

abbrev pub comma : ℕ
comma = 44

-- the words of a line, which are separated by single spaces.
abbrev pub line_words : Bytes → List Bytes
line_words line = slice_split (λ b. b == space) line

-- the bytes of each word.
abbrev pub texts : List (Bor (List ℕ)) → List Bytes
texts words = map (λ word. word.now) words

-- one of the parts is `key=value`.
abbrev pub HasPart : List Bytes → Bytes → Bytes → Type 0
HasPart parts key value = Contains parts (key ++ (equals ∷ value))

-- one of the parts is `key=N`, with the number N in decimal digits, which is below a limit.
pub record HasNumber (parts : List Bytes) (key : Bytes) (limit n : ℕ) : Type 0 where
  pub value : Bytes
  pub part : HasPart parts key value
  pub digits : IsNumber value n
  pub below : n < limit

-- the digit of a flag, 0 or 1.
abbrev pub flag_digit : Bool → Bytes
flag_digit false = codes "0"
flag_digit true = codes "1"

-- one of the parts is `key=0` or `key=1`, with the digit of the flag.
abbrev pub HasFlag : List Bytes → Bytes → Bool → Type 0
HasFlag parts key flag = HasPart parts key (flag_digit flag)

abbrev pub HasJob : List Bytes → ℕ → Type 0
HasJob parts job = HasNumber parts (codes "job") (2 ^ 64) job

abbrev pub HasTime : List Bytes → ℕ → Type 0
HasTime parts now = HasNumber parts (codes "now") (2 ^ 64) now

abbrev pub HasShard : List Bytes → ℕ → Type 0
HasShard parts shard = HasNumber parts (codes "shard") 256 shard

-- one of the parts is `ep=N`, and the endpoint is that of peer N.
pub record HasEndpoint (parts : List Bytes) (endpoint : Endpoint) : Type 0 where
  pub peer : ℕ
  pub number : HasNumber parts (codes "ep") 256 peer
  pub endpoint_is : endpoint ≡ peer_endpoint peer

-- one of the words is `data=hex`, and its hex digits represent these bytes.
pub record HasData (words : List Bytes) (bytes : List ℕ) : Type 0 where
  pub digits : Bytes
  pub part : HasPart words (codes "data") digits
  pub bytes_are : decode_of digits ≡ Ok bytes

-- there are three parts, and one of them is `readings=hex`, whose 128 hex digits represent these
-- readings.
pub record AreEncoded (parts : List Bytes) (readings : List ℕ) : Type 0 where
  pub digits : Bytes
  pub part : HasPart parts (codes "readings") digits
  pub bytes_are : decode_sized digits 64 ≡ Ok readings
  pub count : length parts ≡ 3

-- the readings are those of the part `readings=hex`, or zeros if there are only two parts.
abbrev pub HasReadings : List Bytes → List ℕ → Type 0
HasReadings parts readings = AreEncoded parts readings ⊎ ((length parts ≡ 2) × (readings ≡ no_readings))

-- the name is `wanted`, and there are `count` parts.
abbrev pub IsForm : Bytes → List Bytes → Bytes → ℕ → Type 0
IsForm name parts wanted count = (name ≡ wanted) × (length parts ≡ count)

-- the name and the parts, in any order, are those of this event.
abbrev pub IsEventOf : Bytes → List Bytes → Event → Type 0
IsEventOf name parts (Deliver now endpoint sent) =
    IsForm name parts (codes "Deliver") 3 × HasTime parts now × HasEndpoint parts endpoint × HasData (name ∷ parts) sent.now
IsEventOf name parts (Peek job slot) = IsForm name parts (codes "Peek") 2 × HasJob parts job × HasNumber parts (codes "slot") 256 slot
IsEventOf name parts (Take job memory readings) =
    (name ≡ codes "Take") × HasJob parts job × HasFlag parts (codes "memory") memory × HasReadings parts readings
IsEventOf name parts (Commit job now) = IsForm name parts (codes "Commit") 2 × HasJob parts job × HasTime parts now
IsEventOf name parts (Install job memory) = IsForm name parts (codes "Install") 2 × HasJob parts job × HasFlag parts (codes "memory") memory
IsEventOf name parts (Remove job) = IsForm name parts (codes "Remove") 1 × HasJob parts job
IsEventOf name parts (Refuse job) = IsForm name parts (codes "Refuse") 1 × HasJob parts job
IsEventOf name parts (Receipt job) = IsForm name parts (codes "Receipt") 1 × HasJob parts job
IsEventOf name parts (Raise job) = IsForm name parts (codes "Raise") 1 × HasJob parts job
IsEventOf name parts (Answer job now) = IsForm name parts (codes "Answer") 2 × HasJob parts job × HasTime parts now
IsEventOf name parts (Due shard now) = IsForm name parts (codes "Due") 2 × HasShard parts shard × HasTime parts now
IsEventOf name parts (Fire slot now) = IsForm name parts (codes "Fire") 2 × HasNumber parts (codes "slot") 64 slot × HasTime parts now
IsEventOf name parts (Fresh job now) = IsForm name parts (codes "Fresh") 2 × HasJob parts job × HasTime parts now
IsEventOf name parts (Note job now random) =
    IsForm name parts (codes "Note") 3 × HasJob parts job × HasTime parts now × HasNumber parts (codes "random") 65536 random
IsEventOf name parts (GiveUp job now) = IsForm name parts (codes "GiveUp") 2 × HasJob parts job × HasTime parts now
IsEventOf name parts (Signal shard endpoint mid reset) =
    IsForm name parts (codes "Signal") 4 × HasShard parts shard × HasEndpoint parts endpoint
    × HasNumber parts (codes "mid") 65536 mid × HasFlag parts (codes "reset") reset
IsEventOf name parts (Tick now) = IsForm name parts (codes "Tick") 1 × HasTime parts now
IsEventOf name parts (ShardTick shard now) = IsForm name parts (codes "ShardTick") 2 × HasShard parts shard × HasTime parts now
IsEventOf name parts (Lose job) = IsForm name parts (codes "Lose") 1 × HasJob parts job

-- the words are those of this event: its name, and then its parts.
pub record AreOfEvent (words : List Bytes) (event : Event) : Type 0 where
  pub name : Bytes
  pub parts : List Bytes
  pub words_are : words ≡ name ∷ parts
  pub says : IsEventOf name parts event

-- the seconds after which a notification is confirmable: 86,400 if there are five parts, and the
-- number of the part `confirm-after=N` if there are six.
abbrev pub HasSeconds : List Bytes → ℕ → Type 0
HasSeconds parts seconds =
    ((length parts ≡ 5) × (seconds ≡ 86400)) ⊎ ((length parts ≡ 6) × HasNumber parts (codes "confirm-after") (2 ^ 64) seconds)

-- a policy of these networks, with the limits and the seconds that the parts give.
pub record HasLimits (parts networks : List Bytes) (policy : Policy) : Type 0 where
  pub seconds : ℕ
  pub exchanges : HasNumber parts (codes "exchanges") (2 ^ 64) policy.limits.exchanges
  pub share : HasNumber parts (codes "share") (2 ^ 64) policy.limits.share
  pub confirm_after : HasSeconds parts seconds
  pub is : IsPolicyOf networks policy.limits.exchanges policy.limits.share seconds policy

-- the parts give this policy. One of them is `managers=` with the networks, which are separated by
-- commas.
pub record SaysPolicy (parts : List Bytes) (policy : Policy) : Type 0 where
  pub networks : Bytes
  pub managers : HasPart parts (codes "managers") networks
  pub limits : HasLimits parts (slice_split (λ b. b == comma) networks) policy

-- the parts give this policy, or there are two parts, and the policy is the default one.
abbrev pub HasPolicy : List Bytes → Policy → Type 0
HasPolicy parts policy = SaysPolicy parts policy ⊎ ((length parts ≡ 2) × (policy ≡ default_policy))

-- the name and the parts, in any order, give this initial state of a server. The state has the
-- serial of the empty slots, the first message ID, and the policy.
abbrev pub IsBeginOf : Bytes → List Bytes → Begin → Type 0
IsBeginOf name parts begin =
    (name ≡ codes "Begin") × HasNumber parts (codes "serial") (2 ^ 64) begin.serial × (begin.serial ≤ last_serial)
    × HasNumber parts (codes "id") 65536 begin.id × HasPolicy parts begin.policy

-- the words give this initial state: a name, and then its parts.
pub record SaysBegin (words : List Bytes) (begin : Begin) : Type 0 where
  pub name : Bytes
  pub parts : List Bytes
  pub words_are : words ≡ name ∷ parts
  pub says : IsBeginOf name parts begin

-- the words of a line, and the datagram in its word `data=hex`, if there is one.
pub record Line : Type 0 where
  pub words : List Bytes
  pub datagram : Option (List ℕ)

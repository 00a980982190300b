-- A transfer in terms of the added payloads alone, without the list of transfers: the payloads
-- since the last block number 0, joined (RFC 7959, section 2.5).
use Rattle.std.specs.Prelude.{◌≡◌, ◌≢◌, ◌⊎◌, ℕ, ◌+◌, ◌*◌, ◌<◌, ◌≤◌, Bool, true, false, List, [], ◌∷◌, ◌++◌, length, find, Option, Some, None}
use Rattle.std.specs.Option.{option_map}
use Rattle.coap_msg.specs.declared.types.Endpoint.{Endpoint}
use Rattle.coap_msg.specs.Windows.{window}
use Rattle.coap_block.specs.declared.transfer.Transfer.{Transfer}
use Rattle.coap_opts.specs.Values.{Place, block_size}
use Rattle.coap_block.specs.Uploads.{is_transfer_of, live, others, same_key}
use Rattle.coap_block.specs.Transfers.{Addition, transfers}

-- the times of the additions never decreased, and are at most `now`.
abbrev pub RisesTo : ℕ → List Addition → Type 0
RisesTo now [] = Unit {0}
RisesTo now (a ∷ h) = (a.at ≤ now) × RisesTo a.at h

-- the stored bytes of the transfer in progress of an endpoint and slot, if there is one.
abbrev pub bytes_held : ℕ → Endpoint → ℕ → List Transfer → Option (List ℕ)
bytes_held now to n held = option_map (λ t. t.body.items) (find (is_transfer_of to n) (live now held))

-- the number of transfers of other endpoints and slots in progress when a payload is added.
abbrev pub others_at : Addition → List Addition → ℕ
others_at a h = length (others a.endpoint a.slot (live a.at (transfers h)))

-- the block of an addition, if the addition is for this endpoint and slot.
abbrev pub block_if : Bool → Option Place → Option Place
block_if true block = block
block_if false block = None

abbrev pub block_for : Endpoint → ℕ → Addition → Option Place
block_for to n a = block_if (same_key a.endpoint a.slot to n) a.block

-- a block with number 0 begins a new body if fewer than 16 other transfers are in progress. Any
-- other block begins at the end of the payloads `before`, which are those of the transfer in
-- progress.
abbrev pub Begins : (List ℕ → Type 0) → ℕ → Place → List ℕ → Type 0
Begins UnderWay rest b before = ((b.number ≡ 0) × (rest < 16) × (before ≡ [])) ⊎ ((b.number ≢ 0) × UnderWay before × (b.number * block_size b.szx ≡ length before))

-- if more blocks follow, a payload has exactly the block size; the last payload has at most that
-- size.
abbrev pub HasLength : Bool → ℕ → ℕ → Type 0
HasLength true size bytes = bytes ≡ size
HasLength false size bytes = bytes ≤ size

-- the block fits: it begins as in `Begins`, and its payload has the right length. The body with the
-- block is the payloads before it and its own, joined, and has at most 8,208 bytes.
pub record Fits (UnderWay : List ℕ → Type 0) (rest : ℕ) (b : Place) (payload body : List ℕ) : Type 0 where
  pub before : List ℕ
  pub begins : Begins UnderWay rest b before
  pub long : HasLength b.more (block_size b.szx) (length payload)
  pub joined : body ≡ before ++ payload
  pub within : length body ≤ 8208

-- at `now`, a transfer is in progress since its latest block: that block fitted, more blocks
-- follow, and it was added less than EXCHANGE_LIFETIME before `now`.
pub record Continued (now : ℕ) (UnderWay : List ℕ → Type 0) (rest at : ℕ) (b : Place) (payload body : List ℕ) : Type 0 where
  pub recent : now < at + window
  pub more : b.more ≡ true
  pub fits : Fits UnderWay rest b payload body

abbrev pub StillUnderWay : ℕ → ℕ → List ℕ → ℕ → (List ℕ → Type 0) → (List ℕ → Type 0) → Option Place → List ℕ → Type 0
StillUnderWay now at payload rest Before Left None body = Left body
StillUnderWay now at payload rest Before Left (Some b) body = Continued now Before rest at b payload body

-- the transfer of an endpoint and slot is in progress at `now`, and its bytes so far are `body`. A
-- payload that isn't a block of the transfer doesn't change the transfer.
abbrev pub IsUnderWay : ℕ → Endpoint → ℕ → List Addition → List ℕ → Type 0
IsUnderWay now to n [] body = ⊥
IsUnderWay now to n (a ∷ h) body = StillUnderWay now a.at a.payload (others_at a h) (IsUnderWay a.at to n h) (IsUnderWay now to n h) (block_for to n a) body

-- the block fits after the payloads before it, and the body with the block is `body`.
abbrev pub FitsBehind : List Addition → Addition → Place → List ℕ → Type 0
FitsBehind h a b body = Fits (IsUnderWay a.at a.endpoint a.slot h) (others_at a h) b a.payload body

-- the block begins at the end of the payloads `before` (none for number 0).
abbrev pub BeginsBehind : List Addition → Addition → Place → List ℕ → Type 0
BeginsBehind h a b before = Begins (IsUnderWay a.at a.endpoint a.slot h) (others_at a h) b before

-- The replay of a list: each line is an event, the events are executed on one server, and the
-- results are printed.
use Rattle.std.specs.Prelude.{◌≡◌, ◌≢◌, ◌⊎◌, All, ℕ, zero, suc, ◌<◌, ◌==◌, List, [], ◌∷◌, ◌++◌, flat_map, if◌then◌else◌, length, map, Option, IfSome}
use Rattle.std.specs.Io.KnownBytes.{Appends}
use Rattle.std.specs.List.{slice_split}
use Rattle.coap_msg.specs.declared.types.Emission.{Emission}
use Rattle.fc_registry.specs.Shards.{slot_in_shards}
use Rattle.fc_registry.specs.Slots.{Shard, Slot, vars_in, version_in}
use Rattle.fc_core.specs.declared.event.Event.{Event}
use Rattle.fc_core.specs.History.{seen, slot_at}
use Rattle.fc_core.specs.Legal.{IsLegal}
use Rattle.fc_front.specs.Policies.{default_policy}
use Rattle.fc_server.specs.declared.server.Begin.{Begin}
use Rattle.fc_world.specs.Histories.{history_from}
use Rattle.fc_replay.specs.Listed.{AreOfEvent, Bytes, SaysBegin, line_words}
use Rattle.fc_replay.specs.Printed.{emitted_line, line_at}

-- the lines of a list, which are separated by line feeds.
abbrev pub listed_lines : Bytes → List Bytes
listed_lines list = slice_split (λ b. b == 10) list

-- the text is the list, with or without a line feed at the end.
abbrev pub IsText : Bytes → Bytes → Type 0
IsText text list = (text ≡ list) ⊎ (text ≡ list ++ 10 ∷ [])

-- a text's first line, which has no line feed, and the text after it.
abbrev pub IsFirstLine : Bytes → Bytes → Bytes → Type 0
IsFirstLine text line rest = All (λ b. b ≢ 10) line × ((text ≡ line ++ 10 ∷ rest) ⊎ ((text ≡ line) × (rest ≡ [])))

-- the first line of the text gives the server's initial state, and `rest` follows it.
pub record HasBeginLine (text : Bytes) (begin : Begin) (rest : Bytes) : Type 0 where
  pub line : Bytes
  pub first : IsFirstLine text line rest
  pub says : SaysBegin (line_words line) begin

-- the server's initial state, and the text of the events. The state is that of the first line, or
-- the default one: serial 0, message ID 0 and the default policy.
abbrev pub HasBeginning : Bytes → Begin → Bytes → Type 0
HasBeginning text begin rest = ((rest ≡ text) × (begin ≡ record { serial = 0; id = 0; policy = default_policy })) ⊎ HasBeginLine text begin rest

-- there are as many lines as events, and the words of each line are the event at the same place.
abbrev pub AreEvents : List (List Bytes) → List Event → Type 0
AreEvents [] [] = Unit {0}
AreEvents (words ∷ lines) (event ∷ events) = AreOfEvent words event × AreEvents lines events
AreEvents lines events = ⊥

-- the output for a slot: a line, or nothing if the slot's serial is 0.
abbrev pub told_of : ℕ → Slot → List ℕ
told_of number slot = if slot.serial == 0 then [] else line_at number slot.serial (version_in slot.present) (vars_in slot.present)

-- the output for each slot below a number, in increasing order.
abbrev pub told_below : ℕ → List Shard → List ℕ
told_below zero shards = []
told_below (suc n) shards = told_below n shards ++ told_of n (slot_in_shards shards n)

-- the output for all 64 slots.
abbrev pub told_of_all : List Shard → List ℕ
told_of_all shards = told_below 64 shards

-- the events of a list were executed in their order, on a server with this initial state. Their
-- emissions were printed, and then the output for each slot.
pub record AreReplayed (begin : Begin) (list : Bytes) (before after : Option (List ℕ)) : Type 0 where
  pub events : List Event
  pub say : AreEvents (map line_words (listed_lines list)) events
  pub emissions : List (Option Emission)
  pub count : length emissions ≡ length events
  pub legal : IsLegal (history_from begin events emissions)
  pub shards : List Shard
  pub slots : (n : ℕ) → n < 64 → slot_in_shards shards n ≡ slot_at (seen (history_from begin events emissions)) n
  pub printed : Appends before after (flat_map emitted_line emissions ++ told_of_all shards)

-- a text was read and replayed. If the text has no events, nothing was printed.
pub record IsReplayed (known before after : Option (List ℕ)) : Type 0 where
  pub text : Bytes
  pub read : IfSome known (λ bytes. text ≡ bytes)
  pub begin : Begin
  pub rest : Bytes
  pub begun : HasBeginning text begin rest
  pub list : Bytes
  pub is : IsText rest list
  pub done : ((length rest ≡ 0) × Appends before after []) ⊎ AreReplayed begin list before after

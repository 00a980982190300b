-- The events of a list's lines, and the output for slots.
use Rattle.std.proofs.Common.{◌≡◌, ℕ, suc, ◌+◌, ◌%◌, ◌<◌, if◌then◌else◌, ◌==◌, List, [], ◌∷◌, ◌++◌, Option, Some, None, append-nil, append_assoc, arith, inl, inr, refl, get_or, length, map, take, sym, ap, subst, ◌∙◌}
use Rattle.std.specs.Io.KnownBytes.{Appends, Keeps}
use Rattle.std.proofs.lemmas.List.{get_or_default, map_push, take_more}
use Rattle.std.specs.Prelude.{IfSome, flat_map}
use Rattle.coap_msg.specs.declared.types.Emission.{Emission}
use Rattle.fc_core.specs.declared.event.Event.{Event}
use Rattle.fc_core.specs.History.{seen, slot_at}
use Rattle.fc_core.specs.Legal.{IsLegal}
use Rattle.fc_registry.specs.Shards.{AreShards, no_shard, shard_at, slot_in_shards}
use Rattle.fc_registry.specs.Slots.{Shard, Slot, slot_in}
use Rattle.fc_server.specs.declared.server.Begin.{Begin}
use Rattle.fc_world.specs.Histories.{history_from}
use Rattle.fc_replay.specs.Listed.{AreOfEvent, Bytes, Line, line_words}
use Rattle.fc_replay.specs.Printed.{IsSlotLine, emitted_line, line_at, slot_text}
use Rattle.fc_replay.specs.Replayed.{AreEvents, AreReplayed, HasBeginning, IsReplayed, IsText, listed_lines, told_below, told_of, told_of_all}
use Rattle.fc_replay.specs.declared.printer.SlotLine.{SlotLine}

-- events of some lines, and the event of one more line, are the events of all these lines.
says_more : (lines : List (List Bytes)) (events : List Event) (words : List Bytes) (event : Event) → AreEvents lines events → AreOfEvent words event → AreEvents (lines ++ words ∷ []) (events ++ event ∷ [])
says_more [] [] words event are is = (is, tt)
says_more [] (e ∷ es) words event are is = absurd are
says_more (l ∷ ls) [] words event are is = absurd are
says_more (l ∷ ls) (e ∷ es) words event are is = (are.0, says_more ls es words event are.1 is)

-- let `before` be the events of the first `k` lines, and `event` that of the next line. Then
-- `before` and `event` after them are the events of the first `k + 1` lines.
pub event_more : (lines : List Line) (k : ℕ) (line : Line) (before after : List Event) (event : Event) → k < length lines → line ≡ get_or lines k line → AreEvents (map (λ (l : Line). l.words) (take k lines)) before → AreOfEvent line.words event → after ≡ before ++ event ∷ [] → AreEvents (map (λ (l : Line). l.words) (take (k + 1) lines)) after
event_more lines k line before after event less at are is pushed =
    let taken = take_more lines k line less ∙ ap (λ (l : Line). take k lines ++ l ∷ []) (sym at) in
    let words = ap (map (λ (l : Line). l.words)) taken ∙ map_push (λ (l : Line). l.words) (take k lines) line in
    subst (λ (e : List Event). AreEvents (map (λ (l : Line). l.words) (take (k + 1) lines)) e) (sym pushed) (subst (λ (w : List (List Bytes)). AreEvents w (before ++ event ∷ [])) (sym words) (says_more (map (λ (l : Line). l.words) (take k lines)) before line.words event are is))

-- the line that is printed for a slot is the output for the slot's state.
pub slot_told : (number : ℕ) (slot : Slot) (line : SlotLine) → IsSlotLine slot line → slot_text number line ≡ told_of number slot
slot_told number slot line is = λ i. if is.serial i == 0 then [] else line_at number (is.serial i) (is.version i) (is.vars i)

-- two texts that were appended one after the other were appended as one text.
appended : (a b c : Option (List ℕ)) (x y : List ℕ) → Appends a b x → Appends b c y → Appends a c (x ++ y)
appended None b c x y v w = tt
appended (Some xs) None c x y v w = absurd v
appended (Some xs) (Some ys) None x y v w = absurd w
appended (Some xs) (Some ys) (Some zs) x y v w = w ∙ (ap (λ (l : List ℕ). l ++ y) v ∙ append_assoc xs x y)

plus_one : (n : ℕ) → n + 1 ≡ suc n
plus_one n = omega arith

-- if the slots below `number` were printed, and then slot `number`, the slots below `number + 1`
-- were printed. The shard at place `k` has that slot.
pub tells_more : (number n k : ℕ) (shards : List Shard) (shard : Shard) (line : SlotLine) (a b c : Option (List ℕ)) → AreShards shards → n ≡ number → k ≡ n % 8 → k < 8 → shard ≡ get_or shards k shard → Appends a b (told_below number shards) → IsSlotLine (slot_in shard n) line → Appends b c (slot_text number line) → Appends a c (told_below (number + 1) shards)
tells_more number n k shards shard line a b c are same owned less at before is more =
    let own : shard ≡ shard_at shards (number % 8) = at ∙ (get_or_default shards k shard no_shard (subst (λ (m : ℕ). k < m) (sym are.count) less) ∙ ap (shard_at shards) (owned ∙ ap (λ (m : ℕ). m % 8) same)) in
    let here = subst (λ (m : ℕ). IsSlotLine (slot_in (shard_at shards (number % 8)) m) line) same (subst (λ (s : Shard). IsSlotLine (slot_in s n) line) own is) in
    let told : slot_text number line ≡ told_of number (slot_in_shards shards number) = slot_told number (slot_in_shards shards number) line here in
    subst (λ (m : ℕ). Appends a c (told_below m shards)) (sym (plus_one number)) (appended a b c (told_below number shards) (told_of number (slot_in_shards shards number)) before (subst (λ (t : List ℕ). Appends b c t) told more))

-- if a text was appended, and the output didn't change after that, the text was appended in all.
pub kept_after : (a b c : Option (List ℕ)) (text : List ℕ) → Appends a b text → Keeps b c → Appends a c text
kept_after None b c text v k = tt
kept_after (Some xs) None c text v k = absurd v
kept_after (Some xs) (Some ys) None text v k = absurd k
kept_after (Some xs) (Some ys) (Some zs) text v k = k ∙ v

-- output that stays the same has nothing appended.
nothing_appended : (known : Option (List ℕ)) → Appends known known []
nothing_appended None = tt
nothing_appended (Some xs) = sym (append-nil xs)

-- if the events of a list were executed, and their results were printed, the list was replayed. The
-- lists of each pair are a vector's items and those of its slice, which are the same.
pub replayed : (begin : Begin) (list : Bytes) (lines lent : List Line) (events given : List Event) (emissions sent : List (Option Emission)) (shards told : List Shard) (a b c : Option (List ℕ)) → map (λ (l : Line). l.words) lines ≡ map line_words (listed_lines list) → lent ≡ lines → AreEvents (map (λ (l : Line). l.words) lent) events → given ≡ events → length emissions ≡ length given → IsLegal (history_from begin given emissions) → ((n : ℕ) → n < 64 → slot_in_shards shards n ≡ slot_at (seen (history_from begin given emissions)) n) → sent ≡ emissions → told ≡ shards → Appends a b (flat_map emitted_line sent) → Appends b c (told_of_all told) → AreReplayed begin list a c
replayed begin list lines lent events given emissions sent shards told a b c words of_lines say of_events count legal slots of_emissions of_shards first second = record {
  events = events;
  say = subst (λ (w : List (List Bytes)). AreEvents w events) (ap (map (λ (l : Line). l.words)) of_lines ∙ words) say;
  emissions = emissions;
  count = count ∙ ap (λ (l : List Event). length l) of_events;
  legal = subst (λ (l : List Event). IsLegal (history_from begin l emissions)) of_events legal;
  shards = shards;
  slots = subst (λ (l : List Event). (n : ℕ) → n < 64 → slot_in_shards shards n ≡ slot_at (seen (history_from begin l emissions)) n) of_events slots;
  printed = appended a b c (flat_map emitted_line emissions) (told_of_all shards) (subst (λ (l : List (Option Emission)). Appends a b (flat_map emitted_line l)) of_emissions first) (subst (λ (l : List Shard). Appends b c (told_of_all l)) of_shards second);
}

-- if a text without events was read, and nothing was printed, the text was replayed.
pub replayed_nothing : (known out : Option (List ℕ)) (text lent rest : Bytes) (begin : Begin) → IfSome known (λ (bytes : List ℕ). text ≡ bytes) → lent ≡ text → HasBeginning lent begin rest → length rest ≡ 0 → IsReplayed known out out
replayed_nothing known out text lent rest begin read same begun empty = record {
  text = text;
  read = read;
  begin = begin;
  rest = rest;
  begun = subst (λ (t : Bytes). HasBeginning t begin rest) same begun;
  list = rest;
  is = inl refl;
  done = inl (empty, nothing_appended out);
}

-- if a text was read, and the list of its events was replayed, the text was replayed.
pub replayed_text : (known a b c : Option (List ℕ)) (text lent rest list : Bytes) (begin : Begin) → IfSome known (λ (bytes : List ℕ). text ≡ bytes) → lent ≡ text → HasBeginning lent begin rest → IsText rest list → AreReplayed begin list a b → Keeps b c → IsReplayed known a c
replayed_text known a b c text lent rest list begin read same begun is done kept = record {
  text = text;
  read = read;
  begin = begin;
  rest = rest;
  begun = subst (λ (t : Bytes). HasBeginning t begin rest) same begun;
  list = list;
  is = is;
  done = inr (record {
    events = done.events;
    say = done.say;
    emissions = done.emissions;
    count = done.count;
    legal = done.legal;
    shards = done.shards;
    slots = done.slots;
    printed = kept_after a b c (flat_map emitted_line done.emissions ++ told_of_all done.shards) done.printed kept;
  });
}

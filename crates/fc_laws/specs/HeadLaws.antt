-- Definitions for the laws of head words.
use Rattle.std.specs.Prelude.{◌≡◌, ℕ, ◌==◌, ◌⊎◌, if◌then◌else◌, List, [], ◌∷◌, ◌++◌, is_some}
use Rattle.fc_registry.specs.Restored.{restored_slot}
use Rattle.fc_registry.specs.Slots.{Slot}
use Rattle.fc_core.specs.Stage.{Stage}
use Rattle.fc_core.specs.Stage.{ToRaise}
use Rattle.fc_front.specs.Heads.{first_word, head_word}
use Rattle.fc_core.specs.declared.event.Event.{Event}
use Rattle.fc_core.specs.declared.event.Event.TheVariants.{Raise}
use Rattle.fc_core.specs.History.{History, BeginsWith, Then, Seen, seen, stage}
use Rattle.fc_core.specs.Laws.{slot_of}

-- the head word of a slot in this state.
abbrev pub slot_word : Slot → ℕ
slot_word slot = head_word slot.serial (is_some slot.present)

-- if the new stage is to raise a head word, the old stage is the same, or the word is that of this
-- slot.
abbrev pub PublishesAt : Slot → Stage → Stage → Type 0
PublishesAt slot old (ToRaise word content) = (old ≡ ToRaise word content) ⊎ (word ≡ slot_word slot)
PublishesAt slot old other = Unit {0}

-- the head word that a job at this stage is to raise, if any.
abbrev pub word_to_raise : Stage → List ℕ
word_to_raise (ToRaise word content) = word ∷ []
word_to_raise other = []

-- the head word that an event raises for slot n, if any. The event is the `Raise` of a job of slot
-- n, which is at the stage of the raise.
abbrev pub words_raised : ℕ → Event → Seen → List ℕ
words_raised n (Raise k) s = if slot_of s k == n then word_to_raise (stage s k) else []
words_raised n other s = []

-- the head words that were raised for slot n, the newest first. A start raises the first of them.
abbrev pub raises_of : ℕ → History → List ℕ
raises_of n (BeginsWith stored id policy) = first_word (restored_slot (stored n)) ∷ []
raises_of n (Then h r) = words_raised n r.event (seen h) ++ raises_of n h

-- Head words: the published states of the slots, which can be read without a snapshot.
use Rattle.std.specs.Prelude.{ℕ, ◌+◌, ◌*◌, ◌/◌, ◌%◌, ◌==◌, ◌&&◌, Bool, true, false, List, Option, Some, None, map, max, replicate, slice_index_or, slice_set}
use Rattle.std.specs.List.{list_any, range_with_len}
use Rattle.fc_ticket.specs.Tickets.{Present}
use Rattle.fc_registry.specs.Slots.{Slot}

-- the head word of a slot: twice its serial, plus one if it has a program.
abbrev pub head_word : ℕ → Bool → ℕ
head_word serial true = 2 * serial + 1
head_word serial false = 2 * serial

-- the serial in a head word.
abbrev pub serial_in : ℕ → ℕ
serial_in word = word / 2

-- whether a head word says that its slot has a program.
abbrev pub is_present : ℕ → Bool
is_present word = word % 2 == 1

-- the head words of slots 0 to 63, each 0 before any was raised.
abbrev pub no_words : List ℕ
no_words = replicate 64 0

-- the head word that a start raises for a program at this serial. The word of an empty slot is 0,
-- as no job has raised it; like each even word it says that the slot is empty.
abbrev pub word_at_start : ℕ → Option Present → ℕ
word_at_start serial None = 0
word_at_start serial (Some p) = head_word serial true

-- the head word of a slot at a start.
abbrev pub first_word : Slot → ℕ
first_word slot = word_at_start slot.serial slot.present

-- the head words of slots 0 to 63 at a start, where these are the slots.
abbrev pub first_words : (ℕ → Slot) → List ℕ
first_words slots = map (λ n. first_word (slots n)) (range_with_len 0 64)

abbrev pub word_at : List ℕ → ℕ → ℕ
word_at words n = slice_index_or words n 0

-- the head words after slot n's word was raised to this word, or left if that is lower.
abbrev pub word_raised : ℕ → ℕ → List ℕ → List ℕ
word_raised n word words = slice_set words n (max (word_at words n) word)

-- the head words after slot n's word was raised, if a word is given.
abbrev pub published : Option ℕ → ℕ → List ℕ → List ℕ
published None n words = words
published (Some word) n words = word_raised n word words

-- the head word says that the slot has a program, at one of these serials.
abbrev pub is_match : ℕ → List ℕ → Bool
is_match word serials = is_present word && list_any (λ serial. serial == serial_in word) serials

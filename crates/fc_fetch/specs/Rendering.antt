-- The rendering of an observer's notes: a line of output, a line on standard error, or none.
use Rattle.std.specs.Prelude.{◌≡◌, ℕ, ◌+◌, ◌%◌, ◌++◌, map, Bool, true, false, List, [], ◌∷◌, length, Ok, Option, codes, if◌then◌else◌}
use Rattle.coap_observer.specs.Completions.{AreOutcomes, BlockOutcome, IsStateEnd, Joined, Missing, StateEnd, Superseded, id_after, state_from}
use Rattle.coap_observer.specs.Notes.{AreNotes, IsWatching, Note}
use Rattle.coap_observer.specs.Notices.{is_first_part}
use Rattle.coap_client.specs.Parts.{largest_szx}
use Rattle.coap_client.specs.Replies.{next_of_answer}
use Rattle.coap_observer.specs.Representations.{begun, unfetched_text}
use Rattle.coap_observer.specs.declared.joining.Unfetched.{Unfetched}
use Rattle.coap_observer.specs.declared.observing.Observer.{Observer}
use Rattle.coap_observer.specs.declared.watch.Observation.{Observation}
use Rattle.coap_msg.specs.Codes.{code_text}
use Rattle.coap_msg.specs.Reading.{reading_of}
use Rattle.coap_msg.specs.Wire.{Message}
use Rattle.fc_fetch.specs.Fetching.{ended_line}
use Rattle.fc_fetch.specs.Printing.{line_bytes}
use Rattle.fc_fetch.specs.declared.console.Console.{Console}
use Rattle.fc_fetch.specs.declared.printer.Shown.{Shown}

-- the code and, if there are bytes, a space and the bytes.
abbrev pub note_text : Shown → ℕ → List ℕ → List ℕ
note_text shown code [] = ended_line (code_text code)
note_text shown code (b ∷ payload) = ended_line (code_text code ++ (codes " " ++ line_bytes shown (b ∷ payload)))

-- the line on standard error for a state whose further blocks can't be fetched.
abbrev pub missing_text : Unfetched → List ℕ
missing_text cause = ended_line (codes "a state isn't printed: " ++ unfetched_text cause)

-- the message is the first of several blocks (RFC 7959, section 2.4).
abbrev pub has_further : Message → Bool
has_further m = is_first_part (next_of_answer 0 largest_szx m)

-- the rendering of a note.
pub data Rendering : Type 0 where
  -- its message is whole, and is printed.
  Whole : Rendering
  -- its message is the first of several blocks. While the observer had this watch, the others were
  -- requested with message IDs from `first` on, with these outcomes, until this end of the state.
  Blocks : (first : ℕ) (watch : Observation) (outcomes : List BlockOutcome) (end : StateEnd) → Rendering

-- its line of output, if it has one: a whole message, or the blocks of a state, joined.
abbrev pub rendered_text : Shown → Message → Rendering → List ℕ
rendered_text shown m Whole = note_text shown m.code m.payload
rendered_text shown m (Blocks first w outcomes (Joined code body)) = note_text shown code body
rendered_text shown m other = []

-- its line on standard error, if it has one: a state whose further blocks can't be fetched.
abbrev pub rendered_error : Rendering → List ℕ
rendered_error (Blocks first w outcomes (Missing cause)) = missing_text cause
rendered_error other = []

abbrev pub has_line : Rendering → Bool
has_line Whole = true
has_line (Blocks first w outcomes (Joined code body)) = true
has_line other = false

-- a note, and its rendering.
pub record RenderedNote : Type 0 where
  pub note : Note
  pub rendering : Rendering

-- ---- several notes, newest first

abbrev pub notes_of : List RenderedNote → List Note
notes_of rs = map (λ r. r.note) rs

-- a newer notification superseded the state.
abbrev pub IsNewerNote : (List ℕ → Type 0) → (List ℕ → Type 0) → (ℕ → Type 0) → Observer → Note → List Note → StateEnd → Type 0
IsNewerNote went came told o n older (Superseded bytes time) =
    (newer : Note) × (reading_of bytes ≡ Ok newer.message) × AreNotes went came told o.token o.id (newer ∷ n ∷ older)
IsNewerNote went came told o n older end = Unit {0}

-- the further blocks of a state were requested, one after the other, until one of these ends: its
-- blocks are whole, a newer notification arrived before, or they can't be fetched.
pub record IsStateRendered (went came : List ℕ → Type 0) (told : ℕ → Type 0) (o : Observer) (n : Note) (older : List Note) (first : ℕ) (w : Observation) (outcomes : List BlockOutcome)
    (end : StateEnd) : Type 0 where
  pub further : has_further n.message ≡ true
  pub watching : IsWatching went came told o.token o.id n older w
  pub are : AreOutcomes went came told o w first (begun n.message) outcomes
  pub ends : IsStateEnd (state_from (begun n.message) outcomes) (length outcomes) end
  pub newer : IsNewerNote went came told o n older end

-- the rendering fits the note: just the first of several blocks has others to fetch.
abbrev pub IsRendering : (List ℕ → Type 0) → (List ℕ → Type 0) → (ℕ → Type 0) → Observer → Note → List Note → Rendering → Type 0
IsRendering went came told o n older Whole = has_further n.message ≡ false
IsRendering went came told o n older (Blocks first w outcomes end) = IsStateRendered went came told o n older first w outcomes end

-- the notification that superseded a state is the next note.
abbrev pub IsSuccessor : Rendering → Note → Type 0
IsSuccessor (Blocks first w outcomes (Superseded bytes time)) n = reading_of bytes ≡ Ok n.message
IsSuccessor other n = Unit {0}

abbrev pub is_superseded : Rendering → Bool
is_superseded (Blocks first w outcomes (Superseded bytes time)) = true
is_superseded other = false

abbrev pub SucceedsNotes : List RenderedNote → Note → Type 0
SucceedsNotes [] n = Unit {0}
SucceedsNotes (r ∷ rs) n = IsSuccessor r.rendering n

-- the requests for the further blocks have message IDs from this one on.
abbrev pub BeginsAt : ℕ → Rendering → Type 0
BeginsAt next Whole = Unit {0}
BeginsAt next (Blocks first w outcomes end) = first ≡ next

-- the next message ID for a further block after a note, if it was this one before the note.
abbrev pub id_after_note : Observer → ℕ → Rendering → ℕ
id_after_note o next Whole = next
id_after_note o next (Blocks first w outcomes end) = id_after o first outcomes end

-- the next message ID for a further block after these notes. The first is the second after that of
-- the registration. Each state continues from the state before it, so that an ID is used again only
-- after all the others (RFC 7252, section 4.4).
abbrev pub ids_after : Observer → List RenderedNote → ℕ
ids_after o [] = (o.id + 2) % 65536
ids_after o (r ∷ rs) = id_after_note o (ids_after o rs) r.rendering

-- the oldest note is rendered first, and each continues from the notes before it.
abbrev pub AreRendered : (List ℕ → Type 0) → (List ℕ → Type 0) → (ℕ → Type 0) → Observer → List RenderedNote → Type 0
AreRendered went came told o [] = Unit {0}
AreRendered went came told o (r ∷ rs) =
    AreRendered went came told o rs
    × (IsRendering went came told o r.note (notes_of rs) r.rendering × (SucceedsNotes rs r.note × BeginsAt (ids_after o rs) r.rendering))

-- all of them are whole messages.
abbrev pub AreWhole : List RenderedNote → Type 0
AreWhole [] = Unit {0}
AreWhole (r ∷ rs) = AreWhole rs × (r.rendering ≡ Whole)

-- the output, in order of arrival.
abbrev pub notes_text : Shown → List RenderedNote → List ℕ
notes_text shown [] = []
notes_text shown (r ∷ rs) = notes_text shown rs ++ rendered_text shown r.note.message r.rendering

-- and what standard error gets.
abbrev pub errors_text : List RenderedNote → List ℕ
errors_text [] = []
errors_text (r ∷ rs) = errors_text rs ++ rendered_error r.rendering

-- the number of lines of output.
abbrev pub lines_in : List RenderedNote → ℕ
lines_in [] = 0
lines_in (r ∷ rs) = lines_in rs + (if has_line r.rendering then 1 else 0)

-- the bytes written to standard output and to standard error, if they are known.
pub record Written : Type 0 where
  pub out : Option (List ℕ)
  pub err : Option (List ℕ)

-- what a command has written, by the contents of its console's streams.
abbrev pub written_to : {W E : Type 0} → (W → Option (List ℕ)) → (E → Option (List ℕ)) → Console W E → Written
written_to output report console = record { out = output console.out; err = report console.err }

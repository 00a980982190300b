-- The head words are the greatest that were raised. A head word that an ETag names results in a
-- `Valid`.
use Rattle.std.proofs.Common.{◌≡◌, ℕ, ◌+◌, ◌*◌, ◌<◌, ◌≤◌, List, [], ◌∷◌, ◌++◌, length, Bool, true, false, Option, Some, None, refl, sym, ap, ◌∙◌, subst, ⊎_elim, arith, max, length-set, if◌then◌else◌}
use Rattle.std.specs.Prelude.{◌/◌, ◌%◌, ◌==◌, ◌&&◌, ◌||◌}
use Rattle.std.specs.List.{list_any}
use Rattle.std.proofs.lemmas.Bool.{cases_eq, eq-eqb, ne_eqb}
use Rattle.std.proofs.lemmas.List.{get_or-set_same, get_or-set_other}
use Rattle.std.proofs.lemmas.List.FromFn.{get_or-map-range_with_len, length-map-range_with_len}
use Rattle.coap_msg.specs.declared.types.Emission.{Emission}
use Rattle.fc_ticket.specs.Runs.{initial_vars_of}
use Rattle.fc_ticket.specs.declared.job.InitialVars.{InitialVars}
use Rattle.fc_ticket.specs.declared.job.Job.{Job}
use Rattle.fc_registry.specs.Restored.{restored_slot}
use Rattle.fc_registry.specs.Slots.{Slot}
use Rattle.fc_verify.specs.Accepted.{Judgement, Accepts, Breaks, Untypable}
use Rattle.fc_verify.specs.Judged.{judged}
use Rattle.fc_core.specs.AnswerLaws.{HasSerial, greatest}
use Rattle.fc_front.specs.Contents.{Valid}
use Rattle.fc_core.specs.declared.event.Event.{Event}
use Rattle.fc_core.specs.declared.event.Event.TheVariants.{Peek, Raise}
use Rattle.fc_core.specs.Stage.{Stage}
use Rattle.fc_core.specs.Stage.{ToMatch, ToInstall, ToRaise, ToAnswer}
use Rattle.fc_laws.specs.HeadLaws.{raises_of, word_to_raise, words_raised}
use Rattle.fc_front.specs.Heads.{first_word, head_word, is_match, published, serial_in, word_at, word_raised}
use Rattle.fc_core.specs.History.{around, Entry, History, BeginsWith, Then, Seen, seen, and_then, did, job, inputs, slot_at, stage, words_seen}
use Rattle.fc_core.specs.Laws.{slot_of}
use Rattle.fc_core.specs.Stages.{image_of, matched_by, matched}
use Rattle.fc_core.specs.Transitions.{Around, Inputs, names, transition, call_if, install_call, install_if, effect_of}
use Rattle.fc_core.specs.Steps.{Matches, word_of_call}
use Rattle.fc_core.proofs.ByStep.{Step, IsUnanswered, Rests, by_step, event_by, effect_by, stage_by}
use Rattle.fc_core.proofs.ByStep as steps
use Rattle.fc_laws.proofs.jobs.Others.{is_here, named_stage}

abbrev at : Job → Slot → Around → Stage → Inputs
at job slot ws stage = record { job = job; slot = slot; around = ws; stage = stage }

-- ---- the head word that a transition raises

installed_raises : (v : InitialVars) (j : Judgement) (slot : Slot) → word_of_call (install_call v j slot) ≡ None
installed_raises v (Accepts p) slot = refl
installed_raises v (Breaks rule k) slot = refl
installed_raises v Untypable slot = refl

verified_raises : (memory : Bool) (x : Inputs) → word_of_call (install_if memory (initial_vars_of x.job.ask) (judged (image_of x.job.ask)) x.slot) ≡ None
verified_raises true x = installed_raises (initial_vars_of x.job.ask) (judged (image_of x.job.ask)) x.slot
verified_raises false x = refl

abbrev raise_by : Event → Stage → Option ℕ
raise_by (Raise k) (ToRaise word content) = Some word
raise_by e other = None

unanswered_raises : (e : Event) (s : Stage) → IsUnanswered s → raise_by e s ≡ None
unanswered_raises (Raise k) (ToRaise word content) none = absurd none
unanswered_raises (Raise k) other none = refl
unanswered_raises other s none = refl

step_raises : (k : ℕ) (c : Step) (job : Job) (slot : Slot) (ws : Around) → (effect_by c job slot ws).raises ≡ raise_by (event_by k c) (stage_by c)
step_raises k (steps.Installs memory) job slot ws = verified_raises memory (at job slot ws ToInstall)
step_raises k (steps.Refuses refusal) job slot ws = sym (unanswered_raises (refusal.event k) refusal.stage refusal.unanswered)
step_raises k other job slot ws = refl

rest_raises : (e : Event) (job : Job) (s : Stage) → Rests e job s → None ≡ raise_by e s
rest_raises (Raise k) job (ToRaise word content) rest = absurd (cc (rest.noop k refl))
rest_raises (Raise k) job other rest = refl
rest_raises other job s rest = refl

transition_raises : (e : Event) (job : Job) (slot : Slot) (ws : Around) (st : Stage) → (transition e (at job slot ws st)).raises ≡ raise_by e st
transition_raises e job slot ws st =
    by_step (λ d s m. m.raises ≡ raise_by d s) job slot ws
    (λ k c asked. step_raises k c job slot ws) (λ d s rest. rest_raises d job s rest) e st

-- ---- the words

published_length : (o : Option ℕ) (n : ℕ) (ws : List ℕ) → length (published o n ws) ≡ length ws
published_length None n ws = refl
published_length (Some w) n ws = length-set ws n (max (word_at ws n) w)

words_length : (o : Option ℕ) (e : Event) (s : Seen) → length (words_seen o e s) ≡ length s.words
words_length None e s = refl
words_length (Some k) e s = published_length (transition e (inputs s k)).raises (slot_of s k) s.words

sixty_four : (h : History) → length (seen h).words ≡ 64
unfolding seen
sixty_four (BeginsWith stored id policy) = length-map-range_with_len {X = ℕ} (λ n. first_word (restored_slot (stored n))) 0 64
sixty_four (Then h r) = words_length (names r.event) r.event (seen h) ∙ sixty_four h

-- the head words that are raised, from an option of one.
abbrev words_in : Bool → Option ℕ → List ℕ
words_in true (Some w) = w ∷ []
words_in b o = []

above_zero : (n : ℕ) → n ≡ max n 0
above_zero n = omega arith

only : (word w : ℕ) → max word w ≡ max word (greatest (w ∷ []))
only word w = omega arith

none_in : (b : Bool) (word : ℕ) → word ≡ max word (greatest (words_in b None))
none_in true word = above_zero word
none_in false word = above_zero word

word_published : (o : Option ℕ) (m n : ℕ) (ws : List ℕ) → n < length ws → word_at (published o m ws) n ≡ max (word_at ws n) (greatest (words_in (m == n) o))
word_published None m n ws lt = none_in (m == n) (word_at ws n)
word_published (Some w) m n ws lt = ⊎_elim
    (λ (same : n ≡ m). subst (λ (i : ℕ). word_at (word_raised i w ws) n ≡ max (word_at ws n) (greatest (words_in (i == n) (Some w)))) same
    (get_or-set_same ws n (max (word_at ws n) w) 0 lt ∙ (only (word_at ws n) w ∙ ap (λ (b : Bool). max (word_at ws n) (greatest (words_in b (Some w)))) (sym (eq-eqb n n refl)))))
    (λ (ne : n ≡ m → ⊥). get_or-set_other ws m n (max (word_at ws m) w) 0 ne
    ∙ (above_zero (word_at ws n)
    ∙ ap (λ (b : Bool). max (word_at ws n) (greatest (words_in b (Some w)))) (sym (ne_eqb m n (λ q. ne (sym q))))))
    (cases_eq n m)

to_raise : (b : Bool) (k : ℕ) (st : Stage) → words_in b (raise_by (Raise k) st) ≡ (if b then word_to_raise st else [])
to_raise true k (ToRaise word content) = refl
to_raise false k (ToRaise word content) = refl
to_raise true k other = refl
to_raise false k other = refl

module _ (e : Event) (s : Seen) (k n : ℕ) (lt : n < length s.words) where
  by_raise : word_at (words_seen (Some k) e s) n ≡ max (word_at s.words n) (greatest (words_in (slot_of s k == n) (raise_by e (stage s k))))
  by_raise =
      word_published (transition e (inputs s k)).raises (slot_of s k) n s.words lt
      ∙ ap (λ (o : Option ℕ). max (word_at s.words n) (greatest (words_in (slot_of s k == n) o))) (transition_raises e (job s k) (slot_at s (slot_of s k)) (around s (slot_of s k)) (stage s k))

  by_none : raise_by e (stage s k) ≡ None → word_at (words_seen (Some k) e s) n ≡ max (word_at s.words n) 0
  by_none is = by_raise ∙ (ap (λ (o : Option ℕ). max (word_at s.words n) (greatest (words_in (slot_of s k == n) o))) is ∙ (sym (none_in (slot_of s k == n) (word_at s.words n)) ∙ above_zero (word_at s.words n)))

-- an event that raises no word leaves the words unchanged.
none_after : (e : Event) (s : Seen) (n : ℕ) → n < length s.words → ((st : Stage) → raise_by e st ≡ None) → (o : Option ℕ) → word_at (words_seen o e s) n ≡ max (word_at s.words n) 0
none_after e s n lt none None = above_zero (word_at s.words n)
none_after e s n lt none (Some k) = by_none e s k n lt (none (stage s k))

word_after : (e : Event) (s : Seen) (n : ℕ) → n < length s.words → word_at (words_seen (names e) e s) n ≡ max (word_at s.words n) (greatest (words_raised n e s))
word_after (Raise k) s n lt = by_raise (Raise k) s k n lt ∙ ap (λ (l : List ℕ). max (word_at s.words n) (greatest l)) (to_raise (slot_of s k == n) k (stage s k))
word_after other s n lt = none_after other s n lt (λ st. refl) (names other)

greatest_append : (xs ys : List ℕ) → greatest (xs ++ ys) ≡ max (greatest ys) (greatest xs)
greatest_append [] ys = above_zero (greatest ys)
greatest_append (x ∷ xs) ys = omega (arith, greatest_append xs ys)

raised_first : (w : ℕ) → w ≡ greatest (w ∷ [])
raised_first w = omega arith

pub word_is_greatest : (h : History) (n : ℕ) → n < 64 → word_at (seen h).words n ≡ greatest (raises_of n h)
unfolding seen
word_is_greatest (BeginsWith stored id policy) n lt =
    get_or-map-range_with_len (λ (i : ℕ). first_word (restored_slot (stored i))) 0 64 n n 0 lt (omega arith)
    ∙ raised_first (first_word (restored_slot (stored n)))
word_is_greatest (Then h r) n lt =
    word_after r.event (seen h) n (subst (λ (i : ℕ). n < i) (sym (sixty_four h)) lt)
    ∙ (ap (λ (w : ℕ). max w (greatest (words_raised n r.event (seen h)))) (word_is_greatest h n lt)
    ∙ sym (greatest_append (words_raised n r.event (seen h)) (raises_of n h)))

pub words_rise : (h : History) (r : Entry) (n : ℕ) → n < 64 → word_at (seen h).words n ≤ word_at (seen (Then h r)).words n
unfolding seen
words_rise h r n lt = omega (arith, word_after r.event (seen h) n (subst (λ (i : ℕ). n < i) (sym (sixty_four h)) lt))

-- ---- a read that finds an ETag

or_true : (b : Bool) → (b || true) ≡ true
or_true true = refl
or_true false = refl

found_first : (serial : ℕ) (after : List ℕ) → list_any (λ x. x == serial) (serial ∷ after) ≡ true
found_first serial after = ap (λ (b : Bool). b || list_any (λ x. x == serial) after) (eq-eqb serial serial refl)

found_in : (before : List ℕ) (serial : ℕ) (after : List ℕ) → list_any (λ x. x == serial) (before ++ serial ∷ after) ≡ true
found_in [] serial after = found_first serial after
found_in (x ∷ xs) serial after = ap (λ (b : Bool). (x == serial) || b) (found_in xs serial after) ∙ or_true (x == serial)

serial_of : (serial : ℕ) → (2 * serial + 1) / 2 ≡ serial
serial_of serial = omega arith

matches : (serials : List ℕ) (serial : ℕ) → HasSerial serials serial → is_match (head_word serial true) serials ≡ true
matches serials serial w =
    let odd : (2 * serial + 1) % 2 ≡ 1 = omega arith in
    ap (λ (b : Bool). b && list_any (λ x. x == serial_in (head_word serial true)) serials) (eq-eqb ((2 * serial + 1) % 2) 1 odd)
    ∙ (ap (λ (i : ℕ). list_any (λ x. x == i) serials) (serial_of serial)
    ∙ (ap (list_any (λ x. x == serial)) w.is ∙ found_in w.before serial w.after))

pub match_is_valid : (s : Seen) (k serial : ℕ) (o : Option Emission) → stage s k ≡ ToMatch → word_at s.words (slot_of s k) ≡ head_word serial true → HasSerial (job s k).etags.items serial → stage (and_then (did (Peek k (slot_of s k)) o) s) k ≡ ToAnswer (Valid serial)
match_is_valid s k serial o is word has =
    let own = slot_of s k in
    let etags = (job s k).etags.items in
    named_stage (did (Peek k own) o) s k (is_here s k ToMatch is (λ e. absurd (cc e))) refl
    ∙ (ap (λ (st : Stage). (transition (Peek k own) (at (job s k) (slot_at s own) (around s own) st)).stage) is
    ∙ (ap (λ (b : Bool). (effect_of (Peek k own) (at (job s k) (slot_at s own) (around s own) ToMatch) (call_if b (Matches etags (word_at s.words own)))).stage) (eq-eqb own own refl)
    ∙ (ap (λ (w : ℕ). matched w etags) word
    ∙ (ap (λ (b : Bool). matched_by b (head_word serial true)) (matches etags serial has)
    ∙ ap (λ (i : ℕ). ToAnswer (Valid i)) (serial_of serial)))))

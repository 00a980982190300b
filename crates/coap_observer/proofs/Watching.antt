-- The messages that an observer shows, from one message to the next.
use Rattle.std.proofs.Common.{◌≡◌, inl, inr, ◌⊎◌, ℕ, ◌+◌, ◌≤◌, ◌&&◌, Bool, true, false, nat_eq, nat_le, max, List, [], ◌∷◌, slice_index_or, Ok, refl, sym, ap, subst, ◌∙◌, arith, if◌then◌else◌}
use Rattle.std.specs.Prelude.{filter}
use Rattle.std.specs.List.{All}
use Rattle.std.proofs.lemmas.Bool.{and_cases, and_from, and_parts, cases_Bool, cond-true, cond_both, eq-eqb, eqb-true, leb-false, leb-true, ltb-false, both_ways, or_cases, or_left, or_parts, or_right}
use Rattle.std.proofs.lemmas.List.Elements.{All-cons, All-nil}
use Rattle.std.proofs.lemmas.List.Folds.{list_any-append}
use Rattle.coap_msg.specs.Reading.{reading_of}
use Rattle.coap_msg.specs.Windows.{window, within_window}
use Rattle.coap_msg.specs.Wire.{Message}
use Rattle.coap_observer.specs.declared.notice.NotificationClass.{NotificationClass}
use Rattle.coap_observer.specs.declared.notice.NotificationClass.TheVariants.{State, Older, Last, Malformed}
use Rattle.coap_observer.specs.declared.observing.Observer.{Observer}
use Rattle.coap_observer.specs.declared.watch.ShownMark.{ShownMark}
use Rattle.coap_observer.specs.declared.watch.Observation.{Observation}
use Rattle.coap_observer.specs.Notices.{IsOwnResponse, by_age, by_success, can_be_shown, first_marks, is_newer, is_shown_again, mark, marked, notice_after, notice_of}
use Rattle.coap_observer.specs.Notes.{AreNotes, IsRemembered, IsWatching, has_mark, is_mark_of, IsApart, IsHandledFrom, IsNewerThan, IsNext, IsNextNote, IsNoteOf, IsRegistered, IsResponseWith, Note}
use Rattle.coap_client.specs.Replies.{begins_exchange}

-- ---- marks

marked_apart : (k : ShownMark) (id at now : ℕ) → is_mark_of id at k ≡ true → (nat_eq k.id id && within_window now k.at) ≡ false → at + window ≤ now
marked_apart k id at now is none =
    let both = and_parts (nat_eq k.id id) (nat_eq k.at at) is in
    let same = eqb-true k.at at both.1 in
    elim (and_cases (nat_eq k.id id) (within_window now k.at) none) as (λ _. at + window ≤ now) [
      | inl other ↦ absurd (both_ways (nat_eq k.id id) other both.0)
      | inr late ↦ omega (arith, ltb-false now (k.at + window) late, same)
    ]

-- if a message has a mark with time `at`, and isn't a duplicate at `now`, 247 s have passed.
apart : (marks : List ShownMark) (id at now : ℕ) → has_mark marks id at ≡ true → is_shown_again marks id now ≡ false → at + window ≤ now
apart [] id at now has none = absurd (cc has)
apart (k ∷ marks) id at now has none =
    let parts = or_parts (nat_eq k.id id && within_window now k.at) (is_shown_again marks id now) none in
    elim (or_cases (is_mark_of id at k) (has_mark marks id at) has) as (λ _. at + window ≤ now) [
      | inl here ↦ marked_apart k id at now here parts.0
      | inr there ↦ apart marks id at now there parts.1
    ]

-- if a mark is less than 247 s old, it is retained.
filtered : (marks : List ShownMark) (id at now : ℕ) → has_mark marks id at ≡ true → within_window now at ≡ true → has_mark (filter (λ k. within_window now k.at) marks) id at ≡ true
filtered [] id at now has young = absurd (cc has)
filtered (k ∷ marks) id at now has young =
    let rest = filter (λ j. within_window now j.at) marks in
    elim (or_cases (is_mark_of id at k) (has_mark marks id at) has) as (λ _. has_mark (filter (λ j. within_window now j.at) (k ∷ marks)) id at ≡ true) [
      | inl here ↦
          let same = eqb-true k.at at (and_parts (nat_eq k.id id) (nat_eq k.at at) here).1 in
          let kept : within_window now k.at ≡ true = ap (within_window now) same ∙ young in
          subst (λ ks. has_mark ks id at ≡ true) (sym (cond-true (within_window now k.at) (k ∷ rest) rest kept)) (or_left (is_mark_of id at k) (has_mark rest id at) here)
      | inr there ↦
          let found = filtered marks id at now there young in
          cond_both (within_window now k.at) (k ∷ rest) rest (λ ks. has_mark ks id at ≡ true) (λ _. or_right (is_mark_of id at k) (has_mark rest id at) found) (λ _. found)
    ]

kept_mark : (marks : List ShownMark) (id at other now : ℕ) → has_mark marks id at ≡ true → within_window now at ≡ true → has_mark (marked marks other now) id at ≡ true
kept_mark marks id at other now has young =
    let rest = filter (λ k. within_window now k.at) marks in
    list_any-append (is_mark_of id at) rest (mark other now ∷ []) ∙ or_left (has_mark rest id at) (has_mark (mark other now ∷ []) id at) (filtered marks id at now has young)

own_mark : (id now : ℕ) → is_mark_of id now (mark id now) ≡ true
own_mark id now = and_from (nat_eq id id) (nat_eq now now) (eq-eqb id id refl) (eq-eqb now now refl)

new_mark : (marks : List ShownMark) (id now : ℕ) → has_mark (marked marks id now) id now ≡ true
new_mark marks id now =
    let rest = filter (λ k. within_window now k.at) marks in
    list_any-append (is_mark_of id now) rest (mark id now ∷ []) ∙ or_right (has_mark rest id now) (has_mark (mark id now ∷ []) id now) (or_left (is_mark_of id now (mark id now)) false (own_mark id now))

-- if a message was remembered, it is still remembered after one more mark.
remembered_on : (marks : List ShownMark) (was other now : ℕ) (n : Note) → was ≤ now → IsRemembered marks was n → IsRemembered (marked marks other now) now n
remembered_on marks was other now n later r own =
    elim (r own) as (λ _. (has_mark (marked marks other now) n.message.id n.at ≡ true) ⊎ (n.at + window ≤ now)) [
      | inl has ↦ elim (cases_Bool (within_window now n.at)) as (λ _. (has_mark (marked marks other now) n.message.id n.at ≡ true) ⊎ (n.at + window ≤ now)) [
        | inl young ↦ inl (kept_mark marks n.message.id n.at other now has young)
        | inr old ↦ inr (ltb-false now (n.at + window) old)
      ]
      | inr old ↦ inr (omega (arith, old, later))
    ]

remembered_apart : (marks : List ShownMark) (was now : ℕ) (n p : Note) → was ≤ now → n.at ≡ now → IsRemembered marks was p → is_shown_again marks n.message.id now ≡ false → IsApart n p
remembered_apart marks was now n p later at r none own same =
    elim (r own) as (λ _. p.at + window ≤ n.at) [
      | inl has ↦ omega (arith, apart marks n.message.id p.at now (subst (λ id. has_mark marks id p.at ≡ true) same has) none, at)
      | inr old ↦ omega (arith, old, later, at)
    ]

-- ---- classifications

not_older : (repeats : Bool) (y x : NotificationClass) → (if repeats then Older else y) ≡ x → (x ≡ Older → ⊥) → (repeats ≡ false) × (y ≡ x)
not_older true y x e other = absurd (other (sym e))
not_older false y x e other = (refl, e)

newer_state : (newer : Bool) (v : ℕ) (x : NotificationClass) → (if newer then State v else Older) ≡ x → (x ≡ Older → ⊥) → (State v ≡ x) × (newer ≡ true)
newer_state true v x e other = (e, refl)
newer_state false v x e other = absurd (other (sym e))

aged : (w : Observation) (at : ℕ) (y x : NotificationClass) → by_age w at y ≡ x → (x ≡ Older → ⊥) → (y ≡ x) × IsNewerThan w.sequence w.at y at
aged w at (State v) x e other = newer_state (is_newer w.sequence w.at v at) v x e other
aged w at Older x e other = (e, tt)
aged w at Last x e other = (e, tt)
aged w at Malformed x e other = (e, tt)

told_later : (told : ℕ → Type 0) (a b : ℕ) → told a → told b → told (max a b)
told_later told a b ta tb =
    elim (cases_Bool (nat_le a b)) as (λ _. told (max a b)) [
      | inl le ↦ let is : b ≡ max a b = omega (arith, leb-true a b le) in subst told is tb
      | inr gt ↦ let is : a ≡ max a b = omega (arith, leb-false a b gt) in subst told is ta
    ]

-- the next message shown follows those shown before. If it is a state, the observation `new` is the
-- one after it.
pub record HasNext (went came : List ℕ → Type 0) (told : ℕ → Type 0) (token : List ℕ) (id : ℕ) (latest : Note) (older : List Note) (bytes : List ℕ) (new : Observation) (last : Bool) : Type 0 where
  pub note : Note
  pub read : reading_of bytes ≡ Ok note.message
  pub are : AreNotes went came told token id (note ∷ latest ∷ older)
  pub goes_on : last ≡ false → IsWatching went came told token id note (latest ∷ older) new
  pub none : last ≡ true → notice_of note.message ≡ Last

-- if a notification isn't classified as `Older`, it can be shown next, after the messages shown.
follows : (went came : List ℕ → Type 0) (told : ℕ → Type 0) (token : List ℕ) (id : ℕ) (latest : Note) (older : List Note) (w : Observation) (n : Note) (x : NotificationClass) →
    IsWatching went came told token id latest older w → IsOwnResponse token n.message → w.at ≤ n.at → notice_after w n.at n.message ≡ x → (x ≡ Older → ⊥) → IsNext token latest older n
follows went came told token id latest older w n x watching own later is other =
    let fresh = not_older (is_shown_again w.marks.items n.message.id n.at) (by_age w n.at (notice_of n.message)) x is other in
    let age = aged w n.at (notice_of n.message) x fresh.1 other in
    record {
      own = own;
      after = record {
        sequence = w.sequence;
        state = watching.state;
        times = omega (arith, watching.time, later);
        newer = subst (λ at. IsNewerThan w.sequence at (notice_of n.message) n.at) watching.time age.1;
      };
      once = λ k d below. remembered_apart w.marks.items w.at n.at n (slice_index_or (latest ∷ older) k d) later refl (watching.remembered k d below) fresh.0;
    }

state_is : (w : Observation) (n : Note) (v : ℕ) → notice_after w n.at n.message ≡ State v → notice_of n.message ≡ State v
state_is w n v is =
    let other : State v ≡ Older → ⊥ = λ e. cc e in
    let fresh = not_older (is_shown_again w.marks.items n.message.id n.at) (by_age w n.at (notice_of n.message)) (State v) is other in
    (aged w n.at (notice_of n.message) (State v) fresh.1 other).0

last_is : (w : Observation) (n : Note) → notice_after w n.at n.message ≡ Last → notice_of n.message ≡ Last
last_is w n is =
    let other : Last ≡ Older → ⊥ = λ e. cc e in
    let fresh = not_older (is_shown_again w.marks.items n.message.id n.at) (by_age w n.at (notice_of n.message)) Last is other in
    (aged w n.at (notice_of n.message) Last fresh.1 other).0

-- if the class of a message isn't `Malformed`, the message can be shown.
unmisfit : (shown : Bool) (y x : NotificationClass) → (if shown then y else Malformed) ≡ x → (x ≡ Malformed → ⊥) → shown ≡ true
unmisfit true y x e other = refl
unmisfit false y x e other = absurd (other (sym e))

-- if a message on its own isn't classified as `Malformed`, it can be shown.
shown_as : (m : Message) (x : NotificationClass) → notice_of m ≡ x → (x ≡ Malformed → ⊥) → can_be_shown m ≡ true
shown_as m x e other = unmisfit (can_be_shown m) (by_success m) x e other

-- if the next message, classified with its age, is neither `Older` nor `Malformed`, it can be
-- shown.
next_shown_as : (w : Observation) (n : Note) (x : NotificationClass) → notice_after w n.at n.message ≡ x → (x ≡ Older → ⊥) → (x ≡ Malformed → ⊥) → can_be_shown n.message ≡ true
next_shown_as w n x is other fits =
    let fresh = not_older (is_shown_again w.marks.items n.message.id n.at) (by_age w n.at (notice_of n.message)) x is other in
    shown_as n.message x (aged w n.at (notice_of n.message) x fresh.1 other).0 fits

noted : (went came : List ℕ → Type 0) (told : ℕ → Type 0) (token : List ℕ) (id : ℕ) (latest : Note) (older : List Note) (bytes : List ℕ) (time : ℕ) (old new : Observation) (last : Bool) →
    IsWatching went came told token id latest older old → (x : IsNextNote went came told token bytes time old new last) →
    can_be_shown x.message ≡ true → IsNoteOf went came told token id (record { message = x.message; at = max old.at time })
noted went came told token id latest older bytes time old new last watching x fit = record {
  bytes = bytes;
  handled = x.handled;
  own = inr x.own;
  fit = fit;
  time = told_later told old.at time (subst told (sym watching.time) watching.are.1.time) x.told_is;
}

remembers : (marks : List ShownMark) (was : ℕ) (n : Note) (ns : List Note) → was ≤ n.at → All (IsRemembered marks was) ns → All (IsRemembered (marked marks n.message.id n.at) n.at) (n ∷ ns)
remembers marks was n ns later all =
    All-cons (IsRemembered (marked marks n.message.id n.at) n.at) n ns (λ _. inl (new_mark marks n.message.id n.at))
    (λ k d below. remembered_on marks was n.message.id n.at (slice_index_or ns k d) later (all k d below))

-- if an observation shows a next message, that message follows those shown before.
pub next_note : (went came : List ℕ → Type 0) (told : ℕ → Type 0) (token : List ℕ) (id : ℕ) (latest : Note) (older : List Note) (bytes : List ℕ) (time : ℕ) (old new : Observation) (last : Bool) →
    IsWatching went came told token id latest older old → IsNextNote went came told token bytes time old new last → HasNext went came told token id latest older bytes new last
next_note went came told token id latest older bytes time old new true watching x =
    let n : Note = record { message = x.message; at = max old.at time } in
    let after = follows went came told token id latest older old n Last watching x.own (omega arith) x.shown (λ e. cc e) in
    record {
      note = n;
      read = x.handled.read_is;
      are = (watching.are, noted went came told token id latest older bytes time old new true watching x (next_shown_as old n Last x.shown (λ e. cc e) (λ e. cc e)), after);
      goes_on = λ e. absurd (cc e);
      none = λ _. last_is old n x.shown;
    }
next_note went came told token id latest older bytes time old new false watching x =
    let n : Note = record { message = x.message; at = max old.at time } in
    let after = follows went came told token id latest older old n (State new.sequence) watching x.own (omega arith) x.shown.notice (λ e. cc e) in
    let are : AreNotes went came told token id (n ∷ latest ∷ older) = (watching.are, noted went came told token id latest older bytes time old new false watching x (next_shown_as old n (State new.sequence) x.shown.notice (λ e. cc e) (λ e. cc e)), after) in
    record {
      note = n;
      read = x.handled.read_is;
      are = are;
      goes_on = λ _. record {
        are = are;
        state = state_is old n new.sequence x.shown.notice;
        time = x.shown.time;
        remembered =
            subst (λ at. All (IsRemembered new.marks.items at) (n ∷ latest ∷ older)) (sym x.shown.time)
            (subst (λ marks. All (IsRemembered marks n.at) (n ∷ latest ∷ older)) (sym x.shown.marks)
            (remembers old.marks.items old.at n (latest ∷ older) (omega arith) watching.remembered));
      };
      none = λ e. absurd (cc e);
    }

first_has : (own : Bool) (id at : ℕ) → own ≡ true → has_mark (if own then mark id at ∷ [] else []) id at ≡ true
first_has true id at is = or_left (is_mark_of id at (mark id at)) false (own_mark id at)
first_has false id at is = absurd (cc is)

-- if the response to the registration is a state, the observation after it has shown that message.
pub first_note : (went came : List ℕ → Type 0) (told : ℕ → Type 0) (o : Observer) (bytes : List ℕ) (w : Observation) (m : Message) (at : ℕ) →
    IsRegistered went came o bytes → reading_of bytes ≡ Ok m → told at → notice_of m ≡ State w.sequence → w.at ≡ at → w.marks.items ≡ first_marks m at →
    IsWatching went came told o.token o.id (record { message = m; at = at }) [] w
first_note went came told o bytes w m at registered read time state same marks =
    let n : Note = record { message = m; at = at } in
    let spelled : registered.message ≡ m = cc (registered.handled.read_is, read) in
    record {
      are = (
        tt,
        record {
          bytes = bytes;
          handled = subst (IsHandledFrom went came bytes) spelled registered.handled;
          own = subst (IsResponseWith o.token o.id) spelled registered.own;
          fit = shown_as m (State w.sequence) state (λ e. cc e);
          time = time;
        },
        tt,
      );
      state = state;
      time = same;
      remembered =
          subst (λ t. All (IsRemembered w.marks.items t) (n ∷ [])) (sym same)
          (subst (λ ks. All (IsRemembered ks at) (n ∷ [])) (sym marks)
          (All-cons (IsRemembered (first_marks m at) at) n [] (λ own. inl (first_has (begins_exchange m.kind) m.id at own)) (All-nil (IsRemembered (first_marks m at) at))));
    }

-- if the response to the registration is the last response, it is the only message shown.
pub only_note : (went came : List ℕ → Type 0) (told : ℕ → Type 0) (o : Observer) (bytes : List ℕ) (m : Message) (at : ℕ) →
    IsRegistered went came o bytes → reading_of bytes ≡ Ok m → told at → notice_of m ≡ Last → AreNotes went came told o.token o.id (record { message = m; at = at } ∷ [])
only_note went came told o bytes m at registered read time last =
    let spelled : registered.message ≡ m = cc (registered.handled.read_is, read) in (
      tt,
      record {
        bytes = bytes;
        handled = subst (IsHandledFrom went came bytes) spelled registered.handled;
        own = subst (IsResponseWith o.token o.id) spelled registered.own;
        fit = shown_as m Last last (λ e. cc e);
        time = time;
      },
      tt,
    )

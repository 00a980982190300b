-- The message IDs that are drawn are in order, and none is drawn twice within a lifetime.
use Rattle.std.proofs.Common.{◌≡◌, ℕ, ◌+◌, ◌%◌, ◌<◌, ◌≤◌, ◌⊎◌, inl, inr, List, [], ◌∷◌, length, get_or, set, Bool, true, false, Option, Some, None, refl, sym, ap, ◌∙◌, subst, ⊎_elim, arith, max, if◌then◌else◌, length-set}
use Rattle.std.specs.Prelude.{◌==◌, ◌↔◌, is_some}
use borrow.Author.Tests.{ltb-false}
use Rattle.std.proofs.lemmas.Bool.{cases_eq, eq-eqb, le-ltb, ne_eqb}
use Rattle.std.proofs.lemmas.List.{get_or-replicate, get_or-set_same, get_or-set_other, length-replicate}
use Rattle.std.proofs.Math.Nat.{le-max_left}
use Rattle.fc_core.specs.declared.event.Event.{Event}
use Rattle.fc_core.specs.declared.event.Event.TheVariants.{Deliver, Answer, Fire, Fresh, Tick}
use Rattle.coap_msg.specs.declared.types.Emission.{Emission}
use Rattle.fc_observe.specs.declared.entry.Turn.{Turn}
use Rattle.fc_ticket.specs.Tickets.{Ticket}
use Rattle.fc_core.specs.Stage.{Stage}
use Rattle.fc_core.specs.Stage.{ToTell}
use Rattle.fc_core.specs.TurnStage as turns
use Rattle.fc_front.specs.Contents.{Content}
use Rattle.fc_front.specs.Exchanges.{opening_is_live}
use Rattle.fc_laws.specs.ExchangeLaws.{AllBefore, AreApart, AreInOrder, Draw, draws_by, draws_of, first_id}
use Rattle.fc_core.specs.History.{History, BeginsWith, Then, Seen, seen, and_then, did, ids_answered, job, received_at, stage, at_front, time_by, ids_by}
use Rattle.fc_front.specs.Ids.{Ids, drawn, drawn_for, free_id, is_recent, last_drawn, no_draws}
use Rattle.fc_front.specs.Receiving.{Received, Full, Refused, Immediate, is_confirmable}
use Rattle.fc_front.specs.Receiving as receiving
use Rattle.fc_core.specs.Stages.{content_at, needs_id}

-- the message IDs after an event at this time: unchanged, or after a draw of the next one. That
-- message ID wasn't drawn within the lifetime before.
data Draws (old : Ids) (at : ℕ) (new : Ids) : Type 0 where
  Same : (is : new ≡ old) → Draws old at new
  Next : (fresh : is_recent at (last_drawn old) ≡ false) (is : new ≡ record { next = (old.next + 1) % 65536; last = set old.last old.next (Some at) }) → Draws old at new

draw_if : (old : Ids) (at : ℕ) (b : Bool) → is_recent at (last_drawn old) ≡ b → Draws old at (if b then old else record { next = (old.next + 1) % 65536; last = set old.last old.next (Some at) })
draw_if old at true e = Same refl
draw_if old at false e = Next e refl

draw_for : (confirmable : Bool) (old : Ids) (at : ℕ) → Draws old at (drawn_for confirmable old at)
draw_for true old at = Same refl
draw_for false old at = draw_if old at (is_recent at (last_drawn old)) refl

draw_received : (x : Received) (old : Ids) (at : ℕ) → Draws old at (receiving.drawn_by x old at)
draw_received (Full m) old at = draw_for (is_confirmable m.kind) old at
draw_received (Refused m answer) old at = draw_for (is_confirmable m.kind) old at
draw_received (Immediate m asked response) old at = draw_for (is_confirmable m.kind) old at
draw_received other old at = Same refl

draw_answered : (c : Option Content) (live confirmable : Bool) (old : Ids) (m now : ℕ) → Draws old (if is_some c then max m now else m) (ids_answered c live confirmable old (max m now))
draw_answered (Some content) true confirmable old m now = draw_for confirmable old (max m now)
draw_answered (Some content) false confirmable old m now = Same refl
draw_answered None live confirmable old m now = Same refl

draw_needed : (b : Bool) (old : Ids) (m now : ℕ) → Draws old (if b then max m now else m) (if b then drawn old (max m now) else old)
draw_needed true old m now = draw_if old (max m now) (is_recent (max m now) (last_drawn old)) refl
draw_needed false old m now = Same refl

event_draws : (e : Event) (s : Seen) → Draws s.ids (time_by (at_front e) s) (ids_by (at_front e) s)
event_draws (Deliver now to bytes) s = draw_received (received_at s now to bytes.now) s.ids (max s.time now)
event_draws (Answer k now) s = draw_answered (content_at (stage s k)) (opening_is_live (max s.time now) (job s k).origin.opening) (job s k).confirmable s.ids s.time now
event_draws (Fresh k now) s = draw_needed (needs_id (stage s k)) s.ids s.time now
event_draws other s = Same refl

kept_by : (old new : Ids) (at : ℕ) → Draws old at new → free_id old at ≡ None → new ≡ old
kept_by old new at (Same is) none = is
kept_by old new at (Next fresh is) none = absurd (cc (sym none ∙ ap (λ (b : Bool). if b then None else Some old.next) fresh))

-- if no message ID is available at its time, an event draws none.
pub kept_where_none_free : (e : Event) (s : Seen) → free_id s.ids (time_by (at_front e) s) ≡ None → ids_by (at_front e) s ≡ s.ids
kept_where_none_free e s none = kept_by s.ids (ids_by (at_front e) s) (time_by (at_front e) s) (event_draws e s) none

-- for each draw, the message ID was last drawn at the time of that draw or later.
abbrev AllKept : List (Option ℕ) → List Draw → Type 0
AllKept last [] = Unit {0}
AllKept last (d ∷ ds) = ((at : ℕ) × (get_or last d.id None ≡ Some at) × (d.at ≤ at)) × AllKept last ds

-- each draw is at this time or earlier.
abbrev AllAtMost : ℕ → List Draw → Type 0
AllAtMost m [] = Unit {0}
AllAtMost m (d ∷ ds) = (d.at ≤ m) × AllAtMost m ds

at_most_later : (m n : ℕ) (ds : List Draw) → m ≤ n → AllAtMost m ds → AllAtMost n ds
at_most_later m n [] le w = tt
at_most_later m n (d ∷ ds) le w = (omega (arith, w.0, le), at_most_later m n ds le w.1)

kept_after : (last : List (Option ℕ)) (id at : ℕ) (ds : List Draw) → id < length last → AllAtMost at ds → AllKept last ds → AllKept (set last id (Some at)) ds
kept_after last id at [] lt m w = tt
kept_after last id at (d ∷ ds) lt m w = (
  ⊎_elim
      (λ (is : d.id ≡ id). (at, ap (λ (i : ℕ). get_or (set last id (Some at)) i None) is ∙ get_or-set_same last id (Some at) None lt, m.0))
      (λ (ne : d.id ≡ id → ⊥). (w.0.0, get_or-set_other last id d.id (Some at) None ne ∙ w.0.1, w.0.2))
      (cases_eq d.id id),
  kept_after last id at ds lt m.1 w.1,
)

fresh_since : (at a : ℕ) (o : Option ℕ) → is_recent at o ≡ false → o ≡ Some a → a + 247000 ≤ at
fresh_since at a None e is = absurd (cc is)
fresh_since at a (Some b) e is = let same : b ≡ a = cc is in let past : b + 247000 ≤ at = ltb-false at (b + 247000) e in omega arith

all_before : (last : List (Option ℕ)) (id at : ℕ) (ds : List Draw) → is_recent at (get_or last id None) ≡ false → AllKept last ds → AllBefore id at ds
all_before last id at [] e w = tt
all_before last id at (d ∷ ds) e w = ((λ is. let past : w.0.0 + 247000 ≤ at = fresh_since at w.0.0 (get_or last id None) e (ap (λ (i : ℕ). get_or last i None) (sym is) ∙ w.0.1) in omega (arith, w.0.2, past)), all_before last id at ds e w.1)

-- some draw had this message ID and this time.
abbrev HasDraw : ℕ → ℕ → List Draw → Type 0
HasDraw id a [] = ⊥
HasDraw id a (d ∷ ds) = ((d.id ≡ id) × (d.at ≡ a)) ⊎ HasDraw id a ds

-- if a message ID was last drawn at a time, the list has a draw of this message ID at this time.
abbrev AreDraws : List (Option ℕ) → List Draw → Type 0
AreDraws last ds = (id a : ℕ) → id < 65536 → get_or last id None ≡ Some a → HasDraw id a ds

draws_after : (last : List (Option ℕ)) (next at : ℕ) (ds : List Draw) → next < length last → AreDraws last ds → AreDraws (set last next (Some at)) (record { id = next; at = at } ∷ ds)
draws_after last next at ds here w id a lt e = ⊎_elim
    (λ (is : id ≡ next). inl (sym is, cc (sym (get_or-set_same last next (Some at) None here) ∙ ap (λ (i : ℕ). get_or (set last next (Some at)) i None) (sym is) ∙ e)))
    (λ (ne : id ≡ next → ⊥). inr (w id a lt (sym (get_or-set_other last next id (Some at) None ne) ∙ e)))
    (cases_eq id next)

before_draw : (id at a : ℕ) (ds : List Draw) → AllBefore id at ds → HasDraw id a ds → a + 247000 ≤ at
before_draw id at a [] w h = absurd h
before_draw id at a (d ∷ ds) w (inl is) = let past = w.0 is.0 in omega (arith, past, is.1)
before_draw id at a (d ∷ ds) w (inr h) = before_draw id at a ds w.1 h

recent_not : (at : ℕ) (o : Option ℕ) → ((a : ℕ) → o ≡ Some a → a + 247000 ≤ at) → is_recent at o ≡ false
recent_not at None past = refl
recent_not at (Some a) past = le-ltb at (a + 247000) (past a refl)

-- invariant of the draws of a history.
record AreKept (first : ℕ) (ids : Ids) (time : ℕ) (ds : List Draw) : Type 0 where
  next : ids.next ≡ (first + length ds) % 65536
  room : length ids.last ≡ 65536
  kept : AllKept ids.last ds
  drawn : AreDraws ids.last ds
  past : AllAtMost time ds
  order : AreInOrder first ds
  apart : AreApart ds

rises_if : (b : Bool) (m now : ℕ) → m ≤ (if b then max m now else m)
rises_if true m now = le-max_left m now
rises_if false m now = omega arith

time_rises : (e : Event) (s : Seen) → s.time ≤ time_by (at_front e) s
time_rises (Deliver now to bytes) s = le-max_left s.time now
time_rises (Fire slot now) s = le-max_left s.time now
time_rises (Tick now) s = le-max_left s.time now
time_rises (Answer k now) s = rises_if (is_some (content_at (stage s k))) s.time now
time_rises (Fresh k now) s = rises_if (needs_id (stage s k)) s.time now
time_rises other s = omega arith

step : (first : ℕ) (old new : Ids) (m at : ℕ) (ds : List Draw) → m ≤ at → AreKept first old m ds → Draws old at new → AreKept first new at (draws_by (new.next == old.next) (record { id = old.next; at = at }) ds)
step first old new m at ds le w (Same is) = subst (λ (b : Bool). AreKept first new at (draws_by b (record { id = old.next; at = at }) ds)) (sym (eq-eqb new.next old.next (ap (λ (x : Ids). x.next) is)))
    (subst (λ (x : Ids). AreKept first x at ds) (sym is) (record { next = w.next; room = w.room; kept = w.kept; drawn = w.drawn; past = at_most_later m at ds le w.past; order = w.order; apart = w.apart }))
step first old new m at ds le w (Next fresh is) =
    let lt : old.next < 65536 = omega (arith, w.next) in
    let other : new.next ≡ old.next → ⊥ = λ (same : new.next ≡ old.next). omega (arith, ap (λ (x : Ids). x.next) is, same, lt) in
    let here : old.next < length old.last = omega (arith, w.room, lt) in
    let past : AllAtMost at ds = at_most_later m at ds le w.past in
    subst (λ (b : Bool). AreKept first new at (draws_by b (record { id = old.next; at = at }) ds)) (sym (ne_eqb new.next old.next other))
    (subst (λ (x : Ids). AreKept first x at (record { id = old.next; at = at } ∷ ds)) (sym is) (record {
      next = omega (arith, w.next);
      room = length-set old.last old.next (Some at) ∙ w.room;
      kept = ((at, get_or-set_same old.last old.next (Some at) None here, omega arith), kept_after old.last old.next at ds here past w.kept);
      drawn = draws_after old.last old.next at ds here w.drawn;
      past = (omega arith, past);
      order = (w.next, w.order);
      apart = (all_before old.last old.next at ds fresh w.kept, w.apart);
    }))

none_room : length no_draws ≡ 65536
unfolding no_draws
none_room = length-replicate {A = Option ℕ} 65536 None

none_drawn : AreDraws no_draws []
unfolding no_draws
none_drawn id a lt e = absurd (cc (sym (get_or-replicate {A = Option ℕ} 65536 id None None lt) ∙ e))

all_kept : (h : History) → first_id h < 65536 → AreKept (first_id h) (seen h).ids (seen h).time (draws_of h)
unfolding seen
all_kept (BeginsWith stored id policy) lt = record { next = omega (arith, lt); room = none_room; kept = tt; drawn = none_drawn; past = tt; order = tt; apart = tt }
all_kept (Then h r) lt = step (first_id h) (seen h).ids (and_then r (seen h)).ids (seen h).time (time_by (at_front r.event) (seen h)) (draws_of h) (time_rises r.event (seen h)) (all_kept h lt) (event_draws r.event (seen h))

pub next_small : (h : History) → first_id h < 65536 → (seen h).ids.next < 65536
next_small h lt = let next = (all_kept h lt).next in omega (arith, next)

-- ---- a lease's draw

pub by_test : (ids : Ids) (at id : ℕ) (b : Bool) → ids.next < 65536 → (if b then None else Some ids.next) ≡ Some id
    → (((if b then ids else record { next = (ids.next + 1) % 65536; last = set ids.last ids.next (Some at) }).next == ids.next) ≡ false) × (ids.next ≡ id)
by_test ids at id true lt free = absurd (cc free)
by_test ids at id false lt free = (ne_eqb ((ids.next + 1) % 65536) ids.next (λ q. omega (arith, q, lt)), cc free)

module _ (h : History) (k now id : ℕ) (turn : Turn) (found : Option Ticket) (o : Option Emission) where
  pub turn_draws : first_id h < 65536 → stage (seen h) k ≡ ToTell turn (turns.ToDraw found) → free_id (seen h).ids (max (seen h).time now) ≡ Some id → draws_of (Then h (did (Fresh k now) o)) ≡ record { id = id; at = max (seen h).time now } ∷ draws_of h
  unfolding seen
  turn_draws lt is free =
      let s = seen h in
      let at = max s.time now in
      let kept = all_kept h lt in
      let test = by_test s.ids at id (is_recent at (last_drawn s.ids)) (let next = kept.next in omega (arith, next)) free in
      let drew : ((and_then (did (Fresh k now) o) s).ids.next == s.ids.next) ≡ false = ap (λ (st : Stage). (if needs_id st then drawn s.ids at else s.ids).next == s.ids.next) is ∙ test.0 in
      let time : (and_then (did (Fresh k now) o) s).time ≡ at = ap (λ (st : Stage). if needs_id st then at else s.time) is in
      λ i. draws_by (drew i) (record { id = test.1 i; at = time i }) (draws_of h)

pub ids_in_order : (h : History) → first_id h < 65536 → AreInOrder (first_id h) (draws_of h)
ids_in_order h lt = (all_kept h lt).order

pub ids_apart : (h : History) → first_id h < 65536 → AreApart (draws_of h)
ids_apart h lt = (all_kept h lt).apart

by_free : (ids : Ids) (id : ℕ) (b : Bool) → (if b then None else Some ids.next) ≡ Some id → (b ≡ false) × (ids.next ≡ id)
by_free ids id true free = absurd (cc free)
by_free ids id false free = (refl, cc free)

pub ids_free : (h : History) (at id : ℕ) → first_id h < 65536
    → ((free_id (seen h).ids at ≡ Some id) ↔ ((id ≡ (first_id h + length (draws_of h)) % 65536) × AllBefore id at (draws_of h)))
ids_free h at id lt = (to, from)
  where
    ids : Ids
    ids = (seen h).ids

    kept : AreKept (first_id h) ids (seen h).time (draws_of h)
    kept = all_kept h lt

    to : free_id ids at ≡ Some id → (id ≡ (first_id h + length (draws_of h)) % 65536) × AllBefore id at (draws_of h)
    to free =
        let by = by_free ids id (is_recent at (last_drawn ids)) free in
        (sym by.1 ∙ kept.next, subst (λ (i : ℕ). AllBefore i at (draws_of h)) by.1 (all_before ids.last ids.next at (draws_of h) by.0 kept.kept))

    from : (id ≡ (first_id h + length (draws_of h)) % 65536) × AllBefore id at (draws_of h) → free_id ids at ≡ Some id
    from w =
        let is : ids.next ≡ id = kept.next ∙ sym w.0 in
        let small : ids.next < 65536 = omega (arith, kept.next) in
        let past = subst (λ (i : ℕ). AllBefore i at (draws_of h)) (sym is) w.1 in
        let old = recent_not at (last_drawn ids) (λ a e. before_draw ids.next at a (draws_of h) past (kept.drawn ids.next a small e)) in
        ap (λ (b : Bool). if b then None else Some ids.next) old ∙ ap Some is

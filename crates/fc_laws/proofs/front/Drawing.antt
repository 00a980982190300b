-- An event draws a message ID exactly if it needs one, and one is available.
use Rattle.std.proofs.Common.{◌≡◌, ℕ, ◌+◌, ◌<◌, ◌∷◌, ◌⊎◌, inl, inr, List, length, Bool, true, false, Option, Some, None, Result, Ok, Err, refl, sym, ap, ◌∙◌, subst, max, if◌then◌else◌}
use Rattle.std.specs.Borrow.{Bor}
use Rattle.std.specs.Prelude.{◌==◌, ◌&&◌, is_some, nat_lt}
use borrow.Author.Tests.{ltb-false, ltb-true, lt-ltb}
use Rattle.std.proofs.lemmas.Bool.{and_from, and_parts, eq-eqb}
use Rattle.arrayvec.specs.ArrayVec.{ArrayVec}
use Rattle.coap_msg.specs.declared.types.Bad.{Bad}
use Rattle.coap_msg.specs.declared.types.Bad.TheVariants as bad
use Rattle.coap_msg.specs.declared.types.Endpoint.{Endpoint}
use Rattle.coap_msg.specs.Reading.{reading_of}
use Rattle.coap_msg.specs.Wire.{Message}
use Rattle.coap_opts.specs.Verdict.{Asked, Verdict, IsAsked, IsRefused, IsSilent, IsReset, IsSignal, IsIgnored, verdict}
use Rattle.coap_dedup.specs.Exchanges.{Exchange, Look, IsNew, IsBusy, IsAgain, IsSilent as IsAnsweredNon, IsFull as IsTableFull, IsOverShare, has_place, has_share, look_by, places_of, repeated_by, room_by}
use Rattle.coap_dedup.specs.declared.exchanges.Room.{Room}
use Rattle.coap_dedup.specs.declared.exchanges.Room.TheVariants.{Free, Full, OverShare}
use Rattle.coap_block.specs.Uploads.{Add, Continues, IsWhole, IsIncomplete, IsBadLength, IsTooLarge, IsFull}
use Rattle.coap_reply.specs.Responses.{Response}
use Rattle.fc_observe.specs.declared.entry.Turn.{Turn}
use Rattle.fc_ticket.specs.Tickets.{Ticket}
use Rattle.fc_core.specs.declared.event.Event.{Event}
use Rattle.fc_core.specs.declared.event.Event.TheVariants.{Answer, Deliver, Fresh}
use Rattle.fc_front.specs.Contents.{Content}
use Rattle.fc_front.specs.Exchanges.{has_exchange, opening_is_live}
use Rattle.fc_core.specs.History.{Entry, History, Then, Seen, seen, at_front, front_at, ids_answered, ids_by, job, time_by, stage}
use Rattle.fc_front.specs.Ids.{Ids, drawn, drawn_for, free_id, is_recent, last_drawn}
use Rattle.fc_front.specs.Policies.{is_allowed}
use Rattle.fc_front.specs.Receiving.{Received, Refused, Immediate, Silenced, add_in, drawn_by, is_confirmable, look_in, looked, received_added, received_as, received_read, request_received, received_if}
use Rattle.fc_core.specs.Stage.{Stage, ToAnswer, ToTell}
use Rattle.fc_core.specs.Stages.{content_at, needs_id}
use Rattle.fc_core.specs.TurnStage as turns
use Rattle.fc_laws.specs.DrawLaws.{AnswersAtOnce, AnswersInTime, FindsNoRoom, IsAnsweredAtOnce, IsRefused as IsRefusedAtOnce, IsImmediate, NeedsId, TellsTurn}
use Rattle.fc_laws.specs.ExchangeLaws.{Draw, HasNoPlace, IsCrowdedOut, IsOnRequest, draws_by, draws_of, first_id, held_at, repeated, shared_at}
use Rattle.fc_laws.specs.KeptLaws.{exchange_of_job, opened_at}
use Rattle.fc_laws.proofs.front.Bodies.{anew_is}
use Rattle.fc_laws.proofs.front.DrawnIds.{by_test, kept_where_none_free, next_small}
use Rattle.fc_laws.proofs.front.Refusing.{refused_is}
use Rattle.fc_laws.proofs.front.Repeats.{look_is, opening_of, received_of, room_in, table_at}
use Rattle.fc_laws.proofs.front.Room.{full_is, over_draws}

-- the message IDs after an event are those after a draw at its time.
abbrev DrawsOne : Seen → Event → Type 0
DrawsOne s e = ids_by (at_front e) s ≡ drawn s.ids (time_by (at_front e) s)

abbrev DrawsNone : Seen → Event → Type 0
DrawsNone s e = ids_by (at_front e) s ≡ s.ids

-- ---- if one is needed

drawn_other : (c : Bool) (ids : Ids) (at : ℕ) → c ≡ false → drawn_for c ids at ≡ drawn ids at
drawn_other c ids at is = ap (λ (b : Bool). drawn_for b ids at) is

at_once_draws : (s : Seen) (e : Event) (m : Message) → is_confirmable m.kind ≡ false → IsAnsweredAtOnce s e m → DrawsOne s e
at_once_draws s (Deliver now to bytes) m kind (FindsNoRoom w) =
    ap (λ (x : Received). drawn_by x s.ids (max s.time now)) (full_is s now to bytes.now m w) ∙ drawn_other (is_confirmable m.kind) s.ids (max s.time now) kind
at_once_draws s (Deliver now to bytes) m kind (IsRefusedAtOnce answer w) =
    ap (λ (x : Received). drawn_by x s.ids (max s.time now)) (refused_is s now to bytes.now m answer w) ∙ drawn_other (is_confirmable m.kind) s.ids (max s.time now) kind
at_once_draws s (Deliver now to bytes) m kind (IsImmediate asked response asks settles) =
    ap (λ (x : Received). drawn_by x s.ids (max s.time now)) (anew_is s now to bytes.now m asked asks ∙ settles)
    ∙ drawn_other (is_confirmable m.kind) s.ids (max s.time now) kind
at_once_draws s other m kind (FindsNoRoom w) = absurd w
at_once_draws s other m kind (IsRefusedAtOnce answer w) = absurd w
at_once_draws s other m kind (IsImmediate asked response asks settles) = absurd asks

answered_draws : (st : Stage) (content : Content) (live confirmable : Bool) (ids : Ids) (m now : ℕ) → st ≡ ToAnswer content → live ≡ true → confirmable ≡ false
    → ids_answered (content_at st) live confirmable ids (max m now) ≡ drawn ids (if is_some (content_at st) then max m now else m)
answered_draws st content live confirmable ids m now at is kind =
    let answers : ids_answered (content_at st) live confirmable ids (max m now) ≡ drawn ids (max m now) = λ i. ids_answered (content_at (at i)) (is i) (kind i) ids (max m now) in
    let time : drawn ids (if is_some (content_at st) then max m now else m) ≡ drawn ids (max m now) = λ i. drawn ids (if is_some (content_at (at i)) then max m now else m) in
    answers ∙ sym time

turn_draws_one : (st : Stage) (turn : Turn) (found : Option Ticket) (ids : Ids) (m now : ℕ) → st ≡ ToTell turn (turns.ToDraw found)
    → (if needs_id st then drawn ids (max m now) else ids) ≡ drawn ids (if needs_id st then max m now else m)
turn_draws_one st turn found ids m now at =
    let draws : (if needs_id st then drawn ids (max m now) else ids) ≡ drawn ids (max m now) = λ i. if needs_id (at i) then drawn ids (max m now) else ids in
    let time : drawn ids (if needs_id st then max m now else m) ≡ drawn ids (max m now) = λ i. drawn ids (if needs_id (at i) then max m now else m) in
    draws ∙ sym time

needed_draws : (s : Seen) (e : Event) → NeedsId s e → DrawsOne s e
needed_draws s e (AnswersAtOnce m kind answers) = at_once_draws s e m kind answers
needed_draws s e (AnswersInTime k now content event at kind opened in_time) = subst (DrawsOne s) (sym event)
    (answered_draws (stage s k) content (opening_is_live (max s.time now) (job s k).origin.opening) (job s k).confirmable s.ids s.time now at
    (and_from (has_exchange (job s k).origin.opening) (nat_lt (max s.time now) (opened_at s k + 247000)) (lt-ltb (exchange_of_job s k) 18446744073709551615 opened) (lt-ltb (max s.time now) (opened_at s k + 247000) in_time)) kind)
needed_draws s e (TellsTurn k now turn found event at) = subst (DrawsOne s) (sym event) (turn_draws_one (stage s k) turn found s.ids s.time now at)

-- ---- if none is needed

-- if a message is confirmable, no message ID is drawn for it.
kept_ids : (c : Bool) (ids : Ids) (at : ℕ) → (c ≡ false → ⊥) → drawn_for c ids at ≡ ids
kept_ids true ids at not = refl
kept_ids false ids at not = absurd (not refl)

-- if a new request isn't answered immediately, or is confirmable, it draws no message ID, whatever
-- the result of adding its payload.
added_keeps : (a : Add) (m : Message) (r : Asked) (ids : Ids) (at : ℕ) → ((response : Response) → received_added a m r ≡ Immediate m r response → is_confirmable m.kind ≡ false → ⊥)
    → drawn_by (received_added a m r) ids at ≡ ids
added_keeps (IsWhole body) m r ids at not = refl
added_keeps Continues m r ids at not = kept_ids (is_confirmable m.kind) ids at (not _ refl)
added_keeps IsIncomplete m r ids at not = kept_ids (is_confirmable m.kind) ids at (not _ refl)
added_keeps IsBadLength m r ids at not = kept_ids (is_confirmable m.kind) ids at (not _ refl)
added_keeps IsTooLarge m r ids at not = kept_ids (is_confirmable m.kind) ids at (not _ refl)
added_keeps IsFull m r ids at not = kept_ids (is_confirmable m.kind) ids at (not _ refl)

looked_keeps : (l : Look) (m : Message) (new : Received) (ids : Ids) (at : ℕ) → (l ≡ IsTableFull → is_confirmable m.kind ≡ false → ⊥) → (l ≡ IsNew → drawn_by new ids at ≡ ids)
    → drawn_by (looked l m new) ids at ≡ ids
looked_keeps IsNew m new ids at crowded keeps = keeps refl
looked_keeps IsBusy m new ids at crowded keeps = refl
looked_keeps IsAnsweredNon m new ids at crowded keeps = refl
looked_keeps (IsAgain bytes) m new ids at crowded keeps = refl
looked_keeps IsTableFull m new ids at crowded keeps = kept_ids (is_confirmable m.kind) ids at (crowded refl)
looked_keeps IsOverShare m new ids at crowded keeps = over_draws (is_confirmable m.kind) m ids at refl

-- the look-up of a duplicate never finds the table full.
repeated_full : (c : Bool) (a : Option (ArrayVec ℕ)) → repeated_by c a ≡ IsTableFull → ⊥
repeated_full c None e = absurd (cc e)
repeated_full true (Some bytes) e = absurd (cc e)
repeated_full false (Some bytes) e = absurd (cc e)

full_look : (o : Option Exchange) (room : Room) → look_by o room ≡ IsTableFull → (o ≡ None) × (room ≡ Full)
full_look None Free e = absurd (cc e)
full_look None Full e = (refl, refl)
full_look None OverShare e = absurd (cc e)
full_look (Some x) room e = absurd (repeated_full x.confirmable x.answer e)

one_false : (a b : Bool) → (a && b) ≡ false → (a ≡ false) ⊎ (b ≡ false)
one_false true b e = inr e
one_false false b e = inl refl

full_parts : (share place : Bool) → room_by share place ≡ Full → (share ≡ true) × (place ≡ false)
full_parts false place e = absurd (cc e)
full_parts true true e = absurd (cc e)
full_parts true false e = (refl, refl)

no_place : (s : Seen) (at : ℕ) → (nat_lt (length (held_at s at)) (places_of s.policy.limits) ≡ false) ⊎ (nat_lt (length s.exchanges) 18446744073709551615 ≡ false) → HasNoPlace s at
no_place s at (inl e) = inl (ltb-false (length (held_at s at)) (places_of s.policy.limits) e)
no_place s at (inr e) = inr (ltb-false (length s.exchanges) 18446744073709551615 e)

crowded_of : (s : Seen) (now : ℕ) (to : Endpoint) (bytes : List ℕ) (m : Message) → reading_of bytes ≡ Ok m → IsOnRequest (verdict m) → look_in (front_at s now) to m ≡ IsTableFull
    → IsCrowdedOut s now to bytes m
crowded_of s now to bytes m read asks is =
    let at = max s.time now in
    let look = full_look (repeated s at to m.id) (room_in s at to.ip) (sym (look_is s now to m) ∙ is) in
    let parts = full_parts (has_share (table_at s at) to.ip) (has_place (table_at s at)) look.1 in
    record {
      read = read;
      asks = asks;
      new = look.0;
      share = ltb-true (shared_at s at to.ip) s.policy.limits.share parts.0;
      full = no_place s at (one_false (nat_lt (length (held_at s at)) (places_of s.policy.limits)) (nat_lt (length s.exchanges) 18446744073709551615) parts.1);
    }

-- a message that needs no message ID draws none; one case for each verdict.
module _ (s : Seen) (now : ℕ) (to : Endpoint) (bytes : Bor (List ℕ)) (m : Message) (read : reading_of bytes.now ≡ Ok m) (not : NeedsId s (Deliver now to bytes) → ⊥) where
  crowded_not : IsOnRequest (verdict m) → look_in (front_at s now) to m ≡ IsTableFull → is_confirmable m.kind ≡ false → ⊥
  crowded_not asks is kind = not (AnswersAtOnce m kind (FindsNoRoom (crowded_of s now to bytes.now m read asks is)))

  message_keeps : (v : Verdict) → verdict m ≡ v → drawn_by (received_as (front_at s now) to m v) s.ids (max s.time now) ≡ s.ids
  message_keeps (IsAsked r) is =
      let asks : IsOnRequest (verdict m) = subst IsOnRequest (sym is) tt in
      looked_keeps (look_in (front_at s now) to m) m (request_received (front_at s now) to m r) s.ids (max s.time now) (crowded_not asks)
      (λ new. (elim (is_allowed s.policy.managers to r.action) as (λ b. is_allowed s.policy.managers to r.action ≡ b → drawn_by (received_if b (front_at s now) to m r) s.ids (max s.time now) ≡ s.ids) [
        | true ↦
            λ allowed. added_keeps (add_in (front_at s now) to r) m r s.ids (max s.time now)
            (λ response settles kind. not (AnswersAtOnce m kind
            (IsImmediate r response (record { opens = opening_of s now to bytes.now m read asks new; read = read; asks = is; allowed = allowed }) settles)))
        | false ↦
            λ allowed. kept_ids (is_confirmable m.kind) s.ids (max s.time now)
            (λ kind. not (AnswersAtOnce m kind
            (IsRefusedAtOnce 131 (record { opens = opening_of s now to bytes.now m read asks new; read = read; refuses = inr (record { asked = r; asks = is; allowed = allowed; answer_is = refl }) }))))
      ]) refl)
  message_keeps (IsRefused answer) is =
      let asks : IsOnRequest (verdict m) = subst IsOnRequest (sym is) tt in
      looked_keeps (look_in (front_at s now) to m) m (Refused m answer) s.ids (max s.time now) (crowded_not asks)
      (λ new. kept_ids (is_confirmable m.kind) s.ids (max s.time now)
      (λ kind. not (AnswersAtOnce m kind (IsRefusedAtOnce answer (record { opens = opening_of s now to bytes.now m read asks new; read = read; refuses = inl is })))))
  message_keeps IsSilent is =
      let asks : IsOnRequest (verdict m) = subst IsOnRequest (sym is) tt in
      looked_keeps (look_in (front_at s now) to m) m (Silenced m) s.ids (max s.time now) (crowded_not asks) (λ new. refl)
  message_keeps IsReset is = refl
  message_keeps (IsSignal reset) is = refl
  message_keeps IsIgnored is = refl

read_keeps : (s : Seen) (now : ℕ) (to : Endpoint) (bytes : Bor (List ℕ)) (x : Result Message Bad) → reading_of bytes.now ≡ x → (NeedsId s (Deliver now to bytes) → ⊥)
    → drawn_by (received_read (front_at s now) to x) s.ids (max s.time now) ≡ s.ids
read_keeps s now to bytes (Ok m) read not = message_keeps s now to bytes m read not (verdict m) refl
read_keeps s now to bytes (Err bad.Ignore) read not = refl
read_keeps s now to bytes (Err (bad.Reset id)) read not = refl

answered_keeps : (st : Stage) (live confirmable : Bool) (ids : Ids) (at : ℕ) → ((content : Content) → st ≡ ToAnswer content → live ≡ true → confirmable ≡ false → ⊥)
    → ids_answered (content_at st) live confirmable ids at ≡ ids
answered_keeps (ToAnswer content) true confirmable ids at not = kept_ids confirmable ids at (not content refl refl)
answered_keeps (ToAnswer content) false confirmable ids at not = refl
answered_keeps other live confirmable ids at not = refl

turn_keeps : (st : Stage) (new ids : Ids) → ((turn : Turn) (found : Option Ticket) → st ≡ ToTell turn (turns.ToDraw found) → ⊥) → (if needs_id st then new else ids) ≡ ids
turn_keeps (ToTell turn (turns.ToDraw found)) new ids not = absurd (not turn found refl)
turn_keeps (ToTell turn other) new ids not = refl
turn_keeps other new ids not = refl

others_keep : (s : Seen) (e : Event) → (NeedsId s e → ⊥) → DrawsNone s e
others_keep s (Deliver now to bytes) not =
    ap (λ (x : Received). drawn_by x s.ids (max s.time now)) (received_of (front_at s now) to bytes.now (reading_of bytes.now) refl)
    ∙ read_keeps s now to bytes (reading_of bytes.now) refl not
others_keep s (Answer k now) not =
    answered_keeps (stage s k) (opening_is_live (max s.time now) (job s k).origin.opening) (job s k).confirmable s.ids (max s.time now)
    (λ content at live kind.
    let both = and_parts (has_exchange (job s k).origin.opening) (nat_lt (max s.time now) (opened_at s k + 247000)) live in
    not (AnswersInTime k now content refl at kind (ltb-true (exchange_of_job s k) 18446744073709551615 both.0) (ltb-true (max s.time now) (opened_at s k + 247000) both.1)))
others_keep s (Fresh k now) not = turn_keeps (stage s k) (drawn s.ids (max s.time now)) s.ids (λ turn found at. not (TellsTurn k now turn found refl at))
others_keep s other not = refl

-- ---- drawn message IDs

-- if an event leaves the message IDs unchanged, it draws none.
same_draws : (new old : Ids) (d : Draw) (ds : List Draw) → new ≡ old → draws_by (new.next == old.next) d ds ≡ ds
same_draws new old d ds is = ap (λ (b : Bool). draws_by b d ds) (eq-eqb new.next old.next (ap (λ (x : Ids). x.next) is))

one_draw : (new old : Ids) (at id : ℕ) (ds : List Draw) → old.next < 65536 → free_id old at ≡ Some id → new ≡ drawn old at
    → draws_by (new.next == old.next) (record { id = old.next; at = at }) ds ≡ record { id = id; at = at } ∷ ds
one_draw new old at id ds lt free is =
    let test = by_test old at id (is_recent at (last_drawn old)) lt free in
    let drew : (new.next == old.next) ≡ false = ap (λ (x : Ids). x.next == old.next) is ∙ test.0 in
    λ i. draws_by (drew i) (record { id = test.1 i; at = at }) ds

module _ (h : History) (r : Entry) where
  pub needed_drawn : (id : ℕ) → first_id h < 65536 → NeedsId (seen h) r.event → free_id (seen h).ids (seen (Then h r)).time ≡ Some id
      → draws_of (Then h r) ≡ record { id = id; at = (seen (Then h r)).time } ∷ draws_of h
  unfolding seen
  needed_drawn id lt needs free =
      let s = seen h in
      one_draw (ids_by (at_front r.event) s) s.ids (time_by (at_front r.event) s) id (draws_of h) (next_small h lt) free (needed_draws s r.event needs)

  pub none_drawn_where_none_free : free_id (seen h).ids (seen (Then h r)).time ≡ None → draws_of (Then h r) ≡ draws_of h
  unfolding seen
  none_drawn_where_none_free none =
      let s = seen h in
      same_draws (ids_by (at_front r.event) s) s.ids _ (draws_of h) (kept_where_none_free r.event s none)

  pub others_drawn : (NeedsId (seen h) r.event → ⊥) → draws_of (Then h r) ≡ draws_of h
  unfolding seen
  others_drawn not =
      let s = seen h in
      same_draws (ids_by (at_front r.event) s) s.ids _ (draws_of h) (others_keep s r.event not)

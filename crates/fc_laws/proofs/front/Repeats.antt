-- The deliveries that open an exchange, and the duplicates.
use Rattle.std.proofs.Common.{◌≡◌, ℕ, List, [], ◌∷◌, ◌++◌, length, map, Bool, true, false, cond, Option, Some, None, Result, Ok, Err, refl, sym, ap, ◌∙◌, subst, max}
use Rattle.std.specs.Prelude.{nat_lt, ◌==◌, ◌&&◌, filter, find, is_some, if◌then◌else◌}
use borrow.Author.Tests.{ltb-true, lt-ltb}
use Rattle.std.proofs.lemmas.Bool.{and_parts, and_from}
use Rattle.std.proofs.lemmas.List.{append-nil, map-append}
use Rattle.arrayvec.specs.ArrayVec.{ArrayVec}
use Rattle.coap_msg.specs.declared.types.Bad.{Bad}
use Rattle.coap_msg.specs.declared.types.Bad.TheVariants as bad
use Rattle.coap_msg.specs.declared.types.Emission.{Emission}
use Rattle.coap_msg.specs.declared.types.Endpoint.{Endpoint}
use Rattle.coap_msg.specs.Reading.{reading_of}
use Rattle.coap_msg.specs.Wire.{Message}
use Rattle.coap_opts.specs.Verdict.{Asked, Verdict, IsAsked, IsRefused, IsSilent, IsReset, IsSignal, IsIgnored, verdict}
use Rattle.coap_dedup.specs.Exchanges.{Exchange}
use Rattle.coap_dedup.specs.Exchanges.{Look, IsNew, IsBusy, IsAgain, IsSilent as IsAnsweredNon, IsFull, IsOverShare, Table, answered_if, has_place, has_share, is_of, look_by, places_of, repeated_by, room_at, room_by}
use Rattle.coap_dedup.specs.declared.exchanges.Room.{Room}
use Rattle.coap_dedup.specs.declared.exchanges.Room.TheVariants.{Free, Full, OverShare}
use Rattle.fc_ticket.specs.declared.job.Job.{Job}
use Rattle.fc_ticket.specs.declared.job.Opening.{Opening}
use Rattle.fc_core.specs.declared.event.Event.{Event}
use Rattle.fc_core.specs.declared.event.Event.TheVariants.{Deliver, Answer}
use Rattle.fc_front.specs.Exchanges.{FrontState}
use Rattle.fc_laws.specs.ExchangeLaws.{Arrival, ArrivesBy, IsOnRequest, IsOpening, IsRepeat, Opens, OpensOne, Repeats, again, arrival_of, arrivals, held_at, is_within, repeat_emits, repeated, shared_at}
use Rattle.fc_core.specs.History.{Entry, Seen, and_then, answered_in, exchanges_received, front_at, job, received_at, stage, tasks_brought, tasks_moved, at_front, exchanges_by, additions_by, ids_by}
use Rattle.fc_front.specs.Ids.{Ids}
use Rattle.fc_core.specs.Legal.{Emits}
use Rattle.coap_block.specs.Transfers.{Addition}
use Rattle.coap_block.specs.Uploads.{Add, Continues, IsWhole, IsIncomplete, IsBadLength, IsTooLarge, IsFull}
use Rattle.fc_front.specs.Policies.{is_allowed}
use Rattle.fc_front.specs.Receiving.{Received, add_in, added_by, is_confirmable, received_added, request_received, Unanswered, Again, Silenced, Refused, brought, drawn_by, kept_of, look_in, looked, next_opening, opened_by, over_share, received, received_as, received_read, sent, received_if}
use Rattle.fc_core.specs.Stages.{content_at, new_task}
use Rattle.fc_core.specs.Transitions.{names}

-- ---- a request and the exchanges

found_if : {X : Type 0} (p q : X → Bool) (x : X) (fs : List X) (o : Option X) (b : Bool) → find p fs ≡ o → find p (cond b (x ∷ fs) fs) ≡ cond (b && p x) (Some x) o
found_if p q x fs o true is = ap (λ y. cond (p x) (Some x) y) is
found_if p q x fs o false is = is

find-filter : {X : Type 0} (p q : X → Bool) (xs : List X) → find p (filter q xs) ≡ find (λ x. q x && p x) xs
find-filter p q [] = refl
find-filter p q (x ∷ xs) = found_if p q x (filter q xs) (find (λ y. q y && p y) xs) (q x) (find-filter p q xs)

-- the classification of a new request, by its verdict.
abbrev pub new_as : FrontState → Endpoint → Verdict → Message → Received
new_as f to (IsAsked asked) m = request_received f to m asked
new_as f to (IsRefused answer) m = Refused m answer
new_as f to other m = Silenced m

asking_looked : (f : FrontState) (to : Endpoint) (m : Message) (v : Verdict) → IsOnRequest v → received_as f to m v ≡ looked (look_in f to m) m (new_as f to v m)
asking_looked f to m (IsAsked asked) a = refl
asking_looked f to m (IsRefused answer) a = refl
asking_looked f to m IsSilent a = refl
asking_looked f to m IsReset a = absurd a
asking_looked f to m (IsSignal reset) a = absurd a
asking_looked f to m IsIgnored a = absurd a

pub received_of : (f : FrontState) (to : Endpoint) (bytes : List ℕ) (r : Result Message Bad) → reading_of bytes ≡ r → received f to bytes ≡ received_read f to r
unfolding received
received_of f to bytes r is = ap (received_read f to) is

abbrev pub table_at : Seen → ℕ → Table
table_at s at = record { limits = s.policy.limits; now = at; opened = length s.exchanges; held = held_at s at }

abbrev pub room_in : Seen → ℕ → List ℕ → Room
room_in s at ip = room_at (table_at s at) ip

pub look_is : (s : Seen) (now : ℕ) (to : Endpoint) (m : Message) → look_in (front_at s now) to m ≡ look_by (repeated s (max s.time now) to m.id) (room_in s (max s.time now) to.ip)
look_is s now to m = ap (λ o. look_by o (room_in s (max s.time now) to.ip)) (find-filter (is_of to m.id) (is_within (max s.time now)) s.exchanges)

pub request_is : (s : Seen) (now : ℕ) (to : Endpoint) (bytes : List ℕ) (m : Message) (o : Option Exchange) → reading_of bytes ≡ Ok m → IsOnRequest (verdict m) → repeated s (max s.time now) to m.id ≡ o → received_at s now to bytes ≡ looked (look_by o (room_in s (max s.time now) to.ip)) m (new_as (front_at s now) to (verdict m) m)
request_is s now to bytes m o read asks is =
    received_of (front_at s now) to bytes (Ok m) read
    ∙ (asking_looked (front_at s now) to m (verdict m) asks
    ∙ ap (λ l. looked l m (new_as (front_at s now) to (verdict m) m)) (look_is s now to m ∙ ap (λ x. look_by x (room_in s (max s.time now) to.ip)) is))

-- ---- duplicates

-- the classification of a duplicate, by the exchange's type and stored answer.
abbrev repeat_as : Bool → Option (ArrayVec ℕ) → Received
repeat_as true (Some bytes) = Again bytes.items
repeat_as confirmable answer = Unanswered

repeat_looked : (c : Bool) (a : Option (ArrayVec ℕ)) (m : Message) (new : Received) → looked (repeated_by c a) m new ≡ repeat_as c a
repeat_looked true None m new = refl
repeat_looked false None m new = refl
repeat_looked true (Some bytes) m new = refl
repeat_looked false (Some bytes) m new = refl

-- a classified datagram that opens, stores, draws, makes and adds nothing.
record IsIdle (x : Received) : Type 0 where
  opens : (o : Opening) (to : Endpoint) → opened_by x o to ≡ []
  keeps : (emitted : Option Emission) → kept_of x emitted ≡ None
  draws : (ids : Ids) (at : ℕ) → drawn_by x ids at ≡ ids
  brings : (o : Opening) (to : Endpoint) → brought x o to ≡ []
  adds : (at : ℕ) (to : Endpoint) → added_by x at to ≡ []

repeat_idle : (c : Bool) (a : Option (ArrayVec ℕ)) → IsIdle (repeat_as c a)
repeat_idle true (Some bytes) = record { opens = λ o to. refl; keeps = λ emitted. refl; draws = λ ids at. refl; brings = λ o to. refl; adds = λ at to. refl }
repeat_idle true None = record { opens = λ o to. refl; keeps = λ emitted. refl; draws = λ ids at. refl; brings = λ o to. refl; adds = λ at to. refl }
repeat_idle false a = record { opens = λ o to. refl; keeps = λ emitted. refl; draws = λ ids at. refl; brings = λ o to. refl; adds = λ at to. refl }

repeat_sent : (c : Bool) (a : Option (ArrayVec ℕ)) (f : FrontState) (to : Endpoint) → sent (repeat_as c a) f to ≡ again to c a
repeat_sent true (Some bytes) f to = refl
repeat_sent true None f to = refl
repeat_sent false (Some bytes) f to = refl
repeat_sent false None f to = refl

repeat_is : (s : Seen) (now : ℕ) (to : Endpoint) (bytes : List ℕ) (e : Exchange) → IsRepeat s now to bytes e → received_at s now to bytes ≡ repeat_as e.confirmable e.answer
repeat_is s now to bytes e w = request_is s now to bytes w.message (Some e) w.read w.asks w.is ∙ repeat_looked e.confirmable e.answer w.message (new_as (front_at s now) to (verdict w.message) w.message)

idle : (s : Seen) (now : ℕ) (to : Endpoint) (bytes : List ℕ) (e : Exchange) → IsRepeat s now to bytes e → IsIdle (received_at s now to bytes)
idle s now to bytes e w = subst IsIdle (sym (repeat_is s now to bytes e w)) (repeat_idle e.confirmable e.answer)

-- if nothing is emitted and no exchange is opened, the exchanges are unchanged.
kept_nothing : (o : Option Emission) (n : ℕ) (new old : List Exchange) → o ≡ None → new ≡ [] → answered_in n o (old ++ new) ≡ old
kept_nothing None n new old is none = ap (λ (l : List Exchange). old ++ l) none ∙ append-nil old
kept_nothing (Some emission) n new old is none = absurd (cc)

opens_nothing : (s : Seen) (e : Event) (x : Exchange) (o : Option Emission) → Repeats s e x → exchanges_by (at_front e) o s ≡ s.exchanges
opens_nothing s (Deliver now to bytes) x o w =
    let i = idle s now to bytes.now x w in
    kept_nothing (kept_of (received_at s now to bytes.now) o) (length s.exchanges) (opened_by (received_at s now to bytes.now) (next_opening (front_at s now)) to) s.exchanges (i.keeps o) (i.opens (next_opening (front_at s now)) to)
opens_nothing s other x o w = absurd w

brings_nothing : (s : Seen) (e : Event) (x : Exchange) → Repeats s e x → tasks_moved (names e) e s ++ tasks_brought e s ≡ s.tasks
brings_nothing s (Deliver now to bytes) x w = ap (λ (l : List Job). s.tasks ++ map new_task l) ((idle s now to bytes.now x w).brings (next_opening (front_at s now)) to) ∙ append-nil s.tasks
brings_nothing s other x w = absurd w

draws_nothing : (s : Seen) (e : Event) (x : Exchange) → Repeats s e x → ids_by (at_front e) s ≡ s.ids
draws_nothing s (Deliver now to bytes) x w = (idle s now to bytes.now x w).draws s.ids (max s.time now)
draws_nothing s other x w = absurd w

adds_nothing : (s : Seen) (e : Event) (x : Exchange) → Repeats s e x → additions_by (at_front e) s ++ s.additions ≡ s.additions
adds_nothing s (Deliver now to bytes) x w = ap (λ (l : List Addition). l ++ s.additions) ((idle s now to bytes.now x w).adds (max s.time now) to)
adds_nothing s other x w = absurd w

emits_again : (s : Seen) (e : Event) (x : Exchange) (o : Option Emission) → Repeats s e x → Emits s e o → o ≡ repeat_emits e x
emits_again s (Deliver now to bytes) x o w legal = legal ∙ (ap (λ (y : Received). sent y (front_at s now) to) (repeat_is s now to bytes.now x w) ∙ repeat_sent x.confirmable x.answer (front_at s now) to)
emits_again s other x o w legal = absurd w

pub repeats_open_nothing : (r : Entry) (s : Seen) (e : Exchange) → Repeats s r.event e → (and_then r s).exchanges ≡ s.exchanges
repeats_open_nothing r s e w = opens_nothing s r.event e r.emitted w

pub repeats_bring_nothing : (r : Entry) (s : Seen) (e : Exchange) → Repeats s r.event e → (and_then r s).tasks ≡ s.tasks
repeats_bring_nothing r s e w = brings_nothing s r.event e w

pub repeats_draw_nothing : (r : Entry) (s : Seen) (e : Exchange) → Repeats s r.event e → (and_then r s).ids ≡ s.ids
repeats_draw_nothing r s e w = draws_nothing s r.event e w

pub repeats_add_nothing : (r : Entry) (s : Seen) (e : Exchange) → Repeats s r.event e → (and_then r s).additions ≡ s.additions
repeats_add_nothing r s e w = adds_nothing s r.event e w

pub repeats_emit_again : (r : Entry) (s : Seen) (e : Exchange) → Repeats s r.event e → Emits s r.event r.emitted → r.emitted ≡ repeat_emits r.event e
repeats_emit_again r s e w legal = emits_again s r.event e r.emitted w legal

-- ---- openings

-- storing an answer doesn't change an exchange's arrival.
answered_arrival : (b : Bool) (bytes : ArrayVec ℕ) (e : Exchange) → arrival_of (answered_if b bytes e) ≡ arrival_of e
answered_arrival true bytes e = refl
answered_arrival false bytes e = refl

answered_arrivals : (n : ℕ) (bytes : ArrayVec ℕ) (es : List Exchange) → map arrival_of (map (λ e. answered_if (e.number == n) bytes e) es) ≡ map arrival_of es
answered_arrivals n bytes [] = refl
answered_arrivals n bytes (e ∷ es) = ap (λ a. a ∷ map arrival_of (map (λ x. answered_if (x.number == n) bytes x) es)) (answered_arrival (e.number == n) bytes e) ∙ ap (λ l. arrival_of e ∷ l) (answered_arrivals n bytes es)

kept_arrivals : (n : ℕ) (o : Option Emission) (es : List Exchange) → map arrival_of (answered_in n o es) ≡ map arrival_of es
kept_arrivals n None es = refl
kept_arrivals n (Some emission) es = answered_arrivals n emission.bytes es

pub received_arrivals : (s : Seen) (now : ℕ) (to : Endpoint) (x : Received) (o : Option Emission) → map arrival_of (exchanges_received x to o s now) ≡ arrivals s ++ map arrival_of (opened_by x (next_opening (front_at s now)) to)
received_arrivals s now to x o = kept_arrivals (length s.exchanges) (kept_of x o) (s.exchanges ++ opened_by x (next_opening (front_at s now)) to) ∙ map-append arrival_of s.exchanges (opened_by x (next_opening (front_at s now)) to)

-- the arrival of a message: its endpoint, message ID and type, and the time of its opening.
abbrev arrival_by : Message → Opening → Endpoint → Arrival
arrival_by m o to = record { endpoint = to; id = m.id; confirmable = is_confirmable m.kind; at = o.at }

-- whatever the result of adding its payload, a new request opens one exchange.
added_opens : (a : Add) (m : Message) (r : Asked) (o : Opening) (to : Endpoint) → map arrival_of (opened_by (received_added a m r) o to) ≡ arrival_by m o to ∷ []
added_opens Continues m r o to = refl
added_opens (IsWhole body) m r o to = refl
added_opens IsIncomplete m r o to = refl
added_opens IsBadLength m r o to = refl
added_opens IsTooLarge m r o to = refl
added_opens IsFull m r o to = refl

asked_opened : (b : Bool) (f : FrontState) (from : Endpoint) (m : Message) (r : Asked) (o : Opening) (to : Endpoint) → map arrival_of (opened_by (received_if b f from m r) o to) ≡ arrival_by m o to ∷ []
asked_opened true f from m r o to = added_opens (add_in f from r) m r o to
asked_opened false f from m r o to = refl

new_opens : (f : FrontState) (from : Endpoint) (v : Verdict) (m : Message) (o : Opening) (to : Endpoint) → map arrival_of (opened_by (new_as f from v m) o to) ≡ arrival_by m o to ∷ []
new_opens f from (IsAsked asked) m o to = asked_opened (is_allowed f.managers from asked.action) f from m asked o to
new_opens f from (IsRefused answer) m o to = refl
new_opens f from IsSilent m o to = refl
new_opens f from IsReset m o to = refl
new_opens f from (IsSignal reset) m o to = refl
new_opens f from IsIgnored m o to = refl

room_from : (share place : Bool) → share ≡ true → place ≡ true → room_by share place ≡ Free
room_from share place below here = λ i. room_by (below i) (here i)

pub opening_is : (s : Seen) (now : ℕ) (to : Endpoint) (bytes : List ℕ) (w : IsOpening s now to bytes) → received_at s now to bytes ≡ new_as (front_at s now) to (verdict w.message) w.message
opening_is s now to bytes w =
    let at = max s.time now in
    request_is s now to bytes w.message None w.read w.asks w.new
    ∙ ap (λ b. looked (look_by None b) w.message (new_as (front_at s now) to (verdict w.message) w.message)) (room_from (has_share (table_at s at) to.ip) (has_place (table_at s at))
    (lt-ltb (shared_at s at to.ip) s.policy.limits.share w.share)
    (and_from (nat_lt (length (held_at s at)) (places_of s.policy.limits)) (nat_lt (length s.exchanges) 18446744073709551615) (lt-ltb (length (held_at s at)) (places_of s.policy.limits) w.room) (lt-ltb (length s.exchanges) 18446744073709551615 w.numbers)))

opens_one : (s : Seen) (e : Event) (o : Option Emission) → Opens s e → (a : Arrival) × ArrivesBy s e a × (map arrival_of (exchanges_by (at_front e) o s) ≡ arrivals s ++ a ∷ [])
opens_one s (Deliver now to bytes) o w = (
  arrival_by w.message (next_opening (front_at s now)) to,
  record { message = w.message; read = w.read; arrival_is = refl },
  received_arrivals s now to (received_at s now to bytes.now) o
      ∙ (ap (λ x. arrivals s ++ map arrival_of (opened_by x (next_opening (front_at s now)) to)) (opening_is s now to bytes.now w)
      ∙ ap (λ l. arrivals s ++ l) (new_opens (front_at s now) to (verdict w.message) w.message (next_opening (front_at s now)) to)),
)
opens_one s other o w = absurd w

pub requests_open : (r : Entry) (s : Seen) → Opens s r.event → OpensOne r s
requests_open r s w =
    let one = opens_one s r.event r.emitted w in
    record { arrival = one.0; is = one.1; last = one.2 }

-- a look-up finds no duplicate, and space for a new request.
pub record IsNewLook (o : Option Exchange) (room : Room) : Type 0 where
  pub none : o ≡ None
  pub here : room ≡ Free

repeated_new : (c : Bool) (a : Option (ArrayVec ℕ)) → repeated_by c a ≡ IsNew → ⊥
repeated_new c None e = absurd (cc e)
repeated_new true (Some bytes) e = absurd (cc e)
repeated_new false (Some bytes) e = absurd (cc e)

pub new_look : (o : Option Exchange) (room : Room) → look_by o room ≡ IsNew → IsNewLook o room
new_look None Free e = record { none = refl; here = refl }
new_look None Full e = absurd (cc e)
new_look None OverShare e = absurd (cc e)
new_look (Some x) room e = absurd (repeated_new x.confirmable x.answer e)

room_parts : (share place : Bool) → room_by share place ≡ Free → (share ≡ true) × (place ≡ true)
room_parts false place e = absurd (cc e)
room_parts true false e = absurd (cc e)
room_parts true true e = (refl, refl)

over_opens : (c : Bool) (m : Message) (o : Opening) (to : Endpoint) → length (opened_by (over_share c m) o to) ≡ 0
over_opens true m o to = refl
over_opens false m o to = refl

looked_opens : (l : Look) (m : Message) (new : Received) (o : Opening) (to : Endpoint) → (l ≡ IsNew → ⊥) → length (opened_by (looked l m new) o to) ≡ 0
looked_opens IsNew m new o to ne = absurd (ne refl)
looked_opens IsBusy m new o to ne = refl
looked_opens IsAnsweredNon m new o to ne = refl
looked_opens (IsAgain bytes) m new o to ne = refl
looked_opens IsFull m new o to ne = refl
looked_opens IsOverShare m new o to ne = over_opens (is_confirmable m.kind) m o to

pub opening_of : (s : Seen) (now : ℕ) (to : Endpoint) (bytes : List ℕ) (m : Message) → reading_of bytes ≡ Ok m → IsOnRequest (verdict m) → look_in (front_at s now) to m ≡ IsNew → IsOpening s now to bytes
opening_of s now to bytes m read asks is =
    let at = max s.time now in
    let new = new_look (repeated s at to m.id) (room_in s at to.ip) (sym (look_is s now to m) ∙ is) in
    let both = room_parts (has_share (table_at s at) to.ip) (has_place (table_at s at)) new.here in
    let parts = and_parts (nat_lt (length (held_at s at)) (places_of s.policy.limits)) (nat_lt (length s.exchanges) 18446744073709551615) both.1 in
    record {
      message = m;
      read = read;
      asks = asks;
      new = new.none;
      room = ltb-true (length (held_at s at)) (places_of s.policy.limits) parts.0;
      share = ltb-true (shared_at s at to.ip) s.policy.limits.share both.0;
      numbers = ltb-true (length s.exchanges) 18446744073709551615 parts.1;
    }

asked_opens : (s : Seen) (now : ℕ) (to : Endpoint) (bytes : List ℕ) (m : Message) (v : Verdict) (o : Opening) → reading_of bytes ≡ Ok m → verdict m ≡ v → (IsOpening s now to bytes → ⊥) → length (opened_by (received_as (front_at s now) to m v) o to) ≡ 0
asked_opens s now to bytes m (IsAsked asked) o read is not = looked_opens (look_in (front_at s now) to m) m (request_received (front_at s now) to m asked) o to (λ new. not (opening_of s now to bytes m read (subst IsOnRequest (sym is) tt) new))
asked_opens s now to bytes m (IsRefused answer) o read is not = looked_opens (look_in (front_at s now) to m) m (Refused m answer) o to (λ new. not (opening_of s now to bytes m read (subst IsOnRequest (sym is) tt) new))
asked_opens s now to bytes m IsSilent o read is not = looked_opens (look_in (front_at s now) to m) m (Silenced m) o to (λ new. not (opening_of s now to bytes m read (subst IsOnRequest (sym is) tt) new))
asked_opens s now to bytes m IsReset o read is not = refl
asked_opens s now to bytes m (IsSignal reset) o read is not = refl
asked_opens s now to bytes m IsIgnored o read is not = refl

read_opens : (s : Seen) (now : ℕ) (to : Endpoint) (bytes : List ℕ) (r : Result Message Bad) (o : Opening) → reading_of bytes ≡ r → (IsOpening s now to bytes → ⊥) → length (opened_by (received_read (front_at s now) to r) o to) ≡ 0
read_opens s now to bytes (Ok m) o read not = asked_opens s now to bytes m (verdict m) o read refl not
read_opens s now to bytes (Err bad.Ignore) o read not = refl
read_opens s now to bytes (Err (bad.Reset id)) o read not = refl

pub same_arrivals : (o : Option Emission) (es : List Exchange) (b : Bool) (i : ℕ) → map arrival_of (if b then answered_in i o es else es) ≡ map arrival_of es
same_arrivals o es true i = kept_arrivals i o es
same_arrivals o es false i = refl

-- if no exchange was opened, the arrivals are unchanged.
no_arrival : (old : List Arrival) (es : List Exchange) → length es ≡ 0 → old ++ map arrival_of es ≡ old
no_arrival old [] none = append-nil old
no_arrival old (e ∷ es) none = absurd (cc none)

-- a request that isn't new opens nothing.
pub opened_none : (s : Seen) (now : ℕ) (to : Endpoint) (bytes : List ℕ) → (IsOpening s now to bytes → ⊥) → length (opened_by (received_at s now to bytes) (next_opening (front_at s now)) to) ≡ 0
opened_none s now to bytes not =
    ap (λ x. length (opened_by x (next_opening (front_at s now)) to)) (received_of (front_at s now) to bytes (reading_of bytes) refl)
    ∙ read_opens s now to bytes (reading_of bytes) (next_opening (front_at s now)) refl not

opens_none : (s : Seen) (e : Event) (o : Option Emission) → (Opens s e → ⊥) → map arrival_of (exchanges_by (at_front e) o s) ≡ arrivals s
opens_none s (Deliver now to bytes) o not = received_arrivals s now to (received_at s now to bytes.now) o ∙ no_arrival (arrivals s) (opened_by (received_at s now to bytes.now) (next_opening (front_at s now)) to) (opened_none s now to bytes.now not)
opens_none s (Answer k now) o not = same_arrivals o s.exchanges (is_some (content_at (stage s k))) (job s k).origin.opening.number
opens_none s other o not = refl

pub others_open_nothing : (r : Entry) (s : Seen) → (Opens s r.event → ⊥) → arrivals (and_then r s) ≡ arrivals s
others_open_nothing r s not = opens_none s r.event r.emitted not

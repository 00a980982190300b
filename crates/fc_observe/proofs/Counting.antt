-- The number of entries in a list, and of those with one endpoint and token.
use Rattle.std.proofs.Common.{◌≡◌, ℕ, ◌≤◌, List, [], ◌∷◌, ◌++◌, length, Bool, true, false, cond, Option, Some, None, refl, sym, ap, ◌∙◌, arith, length-append}
use Rattle.std.specs.Prelude.{count_by, max, nat_eq, nat_lt, not, sum_by, ◌==◌, ◌&&◌}
use Rattle.std.specs.Cmp.Lexicographic.{pointwise, bytes_decides}
use Rattle.std.specs.List.{list_any}
use Rattle.std.proofs.lemmas.Bool.{and_parts, eqb-true, ltb-true}
use Rattle.std.proofs.lemmas.List.Sums.{sum_by-cons, sum_by-append}
use Rattle.arrayvec.specs.ArrayVec.{ArrayVec}
use Rattle.coap_msg.specs.Endpoints.{same_endpoint}
use Rattle.coap_msg.specs.declared.types.Emission.{Emission}
use Rattle.coap_msg.specs.declared.types.Endpoint.{Endpoint}
use Rattle.fc_observe.specs.declared.entry.Entry.{Entry}
use Rattle.fc_observe.specs.declared.observers.Registered.{Registered}
use Rattle.fc_observe.specs.declared.observers.Registered.TheVariants.{Entered, Replaced, Full}
use Rattle.fc_observe.specs.Calls.{ObserverCall, Advance, Register, Cancel, NextDue, MarkMissing, Notify, End, GiveUp, Reset, Acknowledge, Tick, changed_by, observers, observers_after}
use Rattle.fc_observe.specs.Entries.{acknowledged, changed_if, given_up, has_last_id, is_due, is_entry_of, is_overdue, missed, must_confirm, new_entry, notified, notified_by, retransmission, retransmitted, timed_out, timed_out_by, with_turn}
use Rattle.fc_observe.specs.Observers.{ObserverList, at_each, at_first, list_at_time, entered_by, gives_turn, is_out, registration, registration_by, turn_given_by, without_those}
use Rattle.fc_observe.proofs.Lists.{fewer_without, no_more}

-- ---- sums over the entries

first_by : (m : Entry → ℕ) (p : Entry → Bool) (g : Entry → List Entry) (o : Entry) (os : List Entry) (b : Bool) → sum_by m (g o) ≤ m o → sum_by m (at_first p g os) ≤ sum_by m os → sum_by m (cond b (g o ++ os) (o ∷ at_first p g os)) ≤ sum_by m (o ∷ os)
first_by m p g o os true here rest = let joined = sum_by-append m (g o) os in let all = sum_by-cons m o os in omega (arith, joined, all, here)
first_by m p g o os false here rest = let joined = sum_by-cons m o (at_first p g os) in let all = sum_by-cons m o os in omega (arith, joined, all, rest)

pub sum_first : (m : Entry → ℕ) (p : Entry → Bool) (g : Entry → List Entry) → ((o : Entry) → sum_by m (g o) ≤ m o) → (os : List Entry) → sum_by m (at_first p g os) ≤ sum_by m os
sum_first m p g here [] = omega arith
sum_first m p g here (o ∷ os) = first_by m p g o os (p o) (here o) (sum_first m p g here os)

each_by : (m : Entry → ℕ) (f : Entry → Entry) (o : Entry) (b : Bool) → m (f o) ≤ m o → m (changed_if b f o) ≤ m o
each_by m f o true here = here
each_by m f o false here = omega arith

sum_each : (m : Entry → ℕ) (p : Entry → Bool) (f : Entry → Entry) → ((o : Entry) → m (f o) ≤ m o) → (os : List Entry) → sum_by m (at_each p f os) ≤ sum_by m os
sum_each m p f here [] = omega arith
sum_each m p f here (o ∷ os) =
    let joined = sum_by-cons m (changed_if (p o) f o) (at_each p f os) in
    let all = sum_by-cons m o os in
    let this = each_by m f o (p o) (here o) in
    let rest = sum_each m p f here os in
    omega (arith, joined, all, this, rest)

left_by : (m : Entry → ℕ) (o : Entry) (few os : List Entry) (b : Bool) → sum_by m few ≤ sum_by m os → sum_by m (cond (not b) (o ∷ few) few) ≤ sum_by m (o ∷ os)
left_by m o few os true rest = let all = sum_by-cons m o os in omega (arith, all, rest)
left_by m o few os false rest = let joined = sum_by-cons m o few in let all = sum_by-cons m o os in omega (arith, joined, all, rest)

pub sum_left : (m : Entry → ℕ) (p : Entry → Bool) (os : List Entry) → sum_by m (without_those p os) ≤ sum_by m os
sum_left m p [] = omega arith
sum_left m p (o ∷ os) = left_by m o (without_those p os) os (p o) (sum_left m p os)

given_sum : (m : Entry → ℕ) (t : ObserverList) (notify_serial : ℕ) (b : Bool) → ((o : Entry) → m (with_turn t.turns t.time o) ≤ m o) → sum_by m (turn_given_by b notify_serial t).held ≤ sum_by m t.held
given_sum m t notify_serial true here = sum_first m (is_due t.time notify_serial) (λ o. with_turn t.turns t.time o ∷ []) (λ o. let le = here o in omega (arith, le)) t.held
given_sum m t notify_serial false here = omega arith

timed_sum : (m : Entry → ℕ) (now : ℕ) (o : Entry) (e : Option Emission) → m (retransmitted now o) ≤ m o → sum_by m (timed_out_by e now o) ≤ m o
timed_sum m now o None le = omega arith
timed_sum m now o (Some emission) le = omega (arith, le)

-- ---- only a registration adds an entry

-- if the call is a registration, the sum of `m` over the entries after it is at most `n`
abbrev pub IfAdds : (Entry → ℕ) → ObserverCall → ObserverList → ℕ → Type 0
IfAdds m (Register now to token request szx serial) t n = sum_by m (observers_after (Register now to token request szx serial) t).held ≤ n
IfAdds m other t n = Unit {0}

pub sum_after : (m : Entry → ℕ) (c : ObserverCall) (t : ObserverList) (n : ℕ) → ((o : Entry) → m (changed_by c t o) ≤ m o) → IfAdds m c t n → sum_by m t.held ≤ n → sum_by m (observers_after c t).held ≤ n
sum_after m (Advance now) t n here new le = le
sum_after m (Register now to token request szx serial) t n here new le = new
sum_after m (Cancel to token) t n here new le = let less = sum_left m (is_entry_of to token) t.held in omega (arith, less, le)
sum_after m (NextDue now notify_serial) t n here new le = let less = given_sum m (list_at_time now t) notify_serial (gives_turn notify_serial (list_at_time now t)) here in omega (arith, less, le)
sum_after m (MarkMissing turn) t n here new le = let less = sum_first m (is_out turn t) (λ o. missed o ∷ []) (λ o. let l = here o in omega (arith, l)) t.held in omega (arith, less, le)
sum_after m (Notify now turn id serial random bytes) t n here new le = let less = sum_first m (is_out turn (list_at_time now t)) (λ o. notified t.confirm_after (max t.time now) id serial random bytes o ∷ []) (λ o. let l = here o in omega (arith, l)) t.held in omega (arith, less, le)
sum_after m (End turn) t n here new le = let less = sum_first m (is_out turn t) (λ o. []) (λ o. omega arith) t.held in omega (arith, less, le)
sum_after m (GiveUp turn now) t n here new le = let less = sum_first m (is_out turn (list_at_time now t)) (λ o. given_up (max t.time now) o ∷ []) (λ o. let l = here o in omega (arith, l)) t.held in omega (arith, less, le)
sum_after m (Reset to id) t n here new le = let less = sum_left m (has_last_id to id) t.held in omega (arith, less, le)
sum_after m (Acknowledge to id) t n here new le = let less = sum_each m (has_last_id to id) acknowledged here t.held in omega (arith, less, le)
sum_after m (Tick now) t n here new le = let less = sum_first m (is_overdue (max t.time now)) (timed_out (max t.time now)) (λ o. timed_sum m (max t.time now) o (retransmission o) (here o)) t.held in omega (arith, less, le)

-- ---- a list has at most 32 entries

length-sum : (os : List Entry) → length os ≡ sum_by (λ (o : Entry). 1) os
length-sum [] = refl
length-sum (o ∷ os) = let rest = length-sum os in let all = sum_by-cons (λ (o : Entry). 1) o os in omega (arith, rest, all)

room_by : (to : Endpoint) (token : List ℕ) (o : Entry) (os : List Entry) (b : Bool) → nat_lt (length os) 32 ≡ b → length os ≤ 32 → length (entered_by (cond b Entered Full) to token o os) ≤ 32
room_by to token o os true e le = let few = no_more (is_entry_of to token) os in let lt = ltb-true (length os) 32 e in let joined = length-append (without_those (is_entry_of to token) os) (o ∷ []) in omega (arith, few, lt, joined)
room_by to token o os false e le = le

entered_few : (to : Endpoint) (token : List ℕ) (o : Entry) (os : List Entry) (b : Bool) → list_any (is_entry_of to token) os ≡ b → length os ≤ 32 → length (entered_by (registration_by b (length os)) to token o os) ≤ 32
entered_few to token o os true e le = let few = fewer_without (is_entry_of to token) os e in let joined = length-append (without_those (is_entry_of to token) os) (o ∷ []) in omega (arith, few, joined, le)
entered_few to token o os false e le = room_by to token o os (nat_lt (length os) 32) refl le

few_added : (c : ObserverCall) (t : ObserverList) → length t.held ≤ 32 → IfAdds (λ (o : Entry). 1) c t 32
few_added (Register now to token request szx serial) t le =
    let o = new_entry (max t.time now) to token request szx serial in
    let few = entered_few to token.items o t.held (list_any (is_entry_of to token.items) t.held) refl le in
    let sum = length-sum (observers_after (Register now to token request szx serial) t).held in
    omega (arith, few, sum)
few_added other t le = tt

pub at_most_32 : (slot confirm_after : ℕ) (h : List ObserverCall) → length (observers slot confirm_after h).held ≤ 32
at_most_32 slot confirm_after [] = omega arith
at_most_32 slot confirm_after (c ∷ h) =
    let t = observers slot confirm_after h in
    let before = at_most_32 slot confirm_after h in
    let sum = length-sum t.held in
    let after = sum_after (λ (o : Entry). 1) c t 32 (λ o. omega arith) (few_added c t before) (omega (arith, before, sum)) in
    let all = length-sum (observers_after c t).held in
    omega (arith, after, all)

-- ---- a list has at most one entry of an endpoint and token

kept_key_by : (to own : Endpoint) (token : List ℕ) (now id serial random : ℕ) (bytes : ArrayVec ℕ) (o : Entry) (b : Bool) → is_entry_of to token (notified_by b now id serial random bytes o) ≡ is_entry_of to token o
kept_key_by to own token now id serial random bytes o true = refl
kept_key_by to own token now id serial random bytes o false = refl

-- an entry that a call changes keeps its endpoint and token
pub kept_key : (to : Endpoint) (token : List ℕ) (c : ObserverCall) (t : ObserverList) (o : Entry) → is_entry_of to token (changed_by c t o) ≡ is_entry_of to token o
kept_key to token (Notify now turn id serial random bytes) t o = kept_key_by to to token (max t.time now) id serial random bytes o (must_confirm t.confirm_after (max t.time now) o)
kept_key to token other t o = refl

-- if two keys are equal, an entry has the one exactly if it has the other
pub own_key : (to from : Endpoint) (token own : List ℕ) → (same_endpoint from to && pointwise nat_eq own token) ≡ true → (o : Entry) → is_entry_of to token o ≡ is_entry_of from own o
own_key to from token own e o =
    let w = and_parts (same_endpoint from to) (pointwise nat_eq own token) e in
    let v = and_parts (pointwise nat_eq from.ip to.ip) (from.port == to.port) w.0 in
    let ip = (bytes_decides from.ip to.ip).0 v.0 in
    let port = eqb-true from.port to.port v.1 in
    let tok = (bytes_decides own token).0 w.1 in
    sym (λ i. (pointwise nat_eq o.endpoint.ip (ip i) && (o.endpoint.port == port i)) && pointwise nat_eq o.token.items (tok i))

-- 1 for an entry that counts, and 0 for one that doesn't
abbrev pub unit : Bool → ℕ
unit b = cond b 1 0

gone_by : (p q : Entry → Bool) (o : Entry) (few : List Entry) (b : Bool) → q o ≡ b → p o ≡ q o → count_by p few ≡ 0 → count_by p (cond (not b) (o ∷ few) few) ≡ 0
gone_by p q o few true e same none = none
gone_by p q o few false e same none = let all = sum_by-cons (λ (x : Entry). cond (p x) 1 0) o few in let this = ap unit (same ∙ e) in omega (arith, all, this, none)

count_gone : (p q : Entry → Bool) → ((o : Entry) → p o ≡ q o) → (os : List Entry) → count_by p (without_those q os) ≡ 0
count_gone p q same [] = refl
count_gone p q same (o ∷ os) = gone_by p q o (without_those q os) (q o) refl (same o) (count_gone p q same os)

-- if the entries with a new entry's key are removed and the new entry is appended, each key still
-- has at most one entry
joined_one : (to from : Endpoint) (token own : List ℕ) (o : Entry) (os : List Entry) (b : Bool) → (same_endpoint from to && pointwise nat_eq own token) ≡ b → is_entry_of to token o ≡ b → count_by (is_entry_of to token) os ≤ 1 → count_by (is_entry_of to token) (without_those (is_entry_of from own) os ++ o ∷ []) ≤ 1
joined_one to from token own o os true e here le =
    let m = λ (x : Entry). cond (is_entry_of to token x) 1 0 in
    let gone = count_gone (is_entry_of to token) (is_entry_of from own) (own_key to from token own e) os in
    let joined = sum_by-append m (without_those (is_entry_of from own) os) (o ∷ []) in
    let this = ap unit here in
    omega (arith, gone, joined, this)
joined_one to from token own o os false e here le =
    let m = λ (x : Entry). cond (is_entry_of to token x) 1 0 in
    let few = sum_left m (is_entry_of from own) os in
    let joined = sum_by-append m (without_those (is_entry_of from own) os) (o ∷ []) in
    let this = ap unit here in
    omega (arith, few, joined, this, le)

entered_one : (to from : Endpoint) (token own : List ℕ) (e : Registered) (o : Entry) (os : List Entry) → is_entry_of to token o ≡ (same_endpoint from to && pointwise nat_eq own token) → count_by (is_entry_of to token) os ≤ 1 → count_by (is_entry_of to token) (entered_by e from own o os) ≤ 1
entered_one to from token own Full o os here le = le
entered_one to from token own Entered o os here le = joined_one to from token own o os (same_endpoint from to && pointwise nat_eq own token) refl here le
entered_one to from token own Replaced o os here le = joined_one to from token own o os (same_endpoint from to && pointwise nat_eq own token) refl here le

one_added : (to : Endpoint) (token : List ℕ) (c : ObserverCall) (t : ObserverList) → count_by (is_entry_of to token) t.held ≤ 1 → IfAdds (λ (o : Entry). cond (is_entry_of to token o) 1 0) c t 1
one_added to token (Register now from own request szx serial) t le = entered_one to from token own.items (registration from own.items (list_at_time now t)) (new_entry (max t.time now) from own request szx serial) t.held refl le
one_added to token other t le = tt

pub one_of_key : (slot confirm_after : ℕ) (h : List ObserverCall) (to : Endpoint) (token : List ℕ) → count_by (is_entry_of to token) (observers slot confirm_after h).held ≤ 1
one_of_key slot confirm_after [] to token = omega arith
one_of_key slot confirm_after (c ∷ h) to token =
    let t = observers slot confirm_after h in
    let before = one_of_key slot confirm_after h to token in
    sum_after (λ (o : Entry). cond (is_entry_of to token o) 1 0) c t 1 (λ o. let same = ap unit (kept_key to token c t o) in omega (arith, same)) (one_added to token c t before) before

-- Properties of each entry after a call, from properties of each entry before the call.
use Rattle.std.proofs.Common.{◌≡◌, ℕ, List, [], ◌∷◌, ◌++◌, Bool, true, false, cond, Option, Some, None, refl, inl, inr}
use Rattle.std.specs.Prelude.{max, not, ◌&&◌, ◌⊎◌}
use Rattle.std.specs.List.{All, Any, Contains}
use Rattle.std.proofs.lemmas.List.Elements.{All-nil, All-cons, All-head, All-tail, All-append, All-filter, All-map, All-weaker, All-contains_itself}
use Rattle.coap_msg.specs.declared.types.Emission.{Emission}
use Rattle.coap_msg.specs.declared.types.Endpoint.{Endpoint}
use Rattle.fc_observe.specs.declared.entry.Entry.{Entry}
use Rattle.fc_observe.specs.declared.observers.Registered.{Registered}
use Rattle.fc_observe.specs.declared.observers.Registered.TheVariants.{Entered, Replaced, Full}
use Rattle.fc_observe.specs.Calls.{ObserverCall, Advance, Register, Cancel, NextDue, MarkMissing, Notify, End, GiveUp, Reset, Acknowledge, Tick, ComesFrom, changed_by, may_change, observers_after}
use Rattle.fc_observe.specs.Entries.{acknowledged, changed_if, given_up, has_last_id, is_due, is_entry_of, is_overdue, missed, new_entry, notified, retransmission, retransmitted, timed_out, timed_out_by, with_turn}
use Rattle.fc_observe.specs.Observers.{ObserverList, at_each, at_first, list_at_time, entered_by, gives_turn, is_out, registration, turn_given_by, without_those}

-- ---- lists

one : (Q : Entry → Type 0) (o : Entry) → Q o → All Q (o ∷ [])
one Q o here = All-cons Q o [] here (All-nil Q)

first_by : (P Q : Entry → Type 0) (p : Entry → Bool) (g : Entry → List Entry) (o : Entry) (os : List Entry) (b : Bool) → p o ≡ b → (P o → Q o) → (P o → p o ≡ true → All Q (g o)) → P o → All Q os → All Q (at_first p g os) → All Q (cond b (g o ++ os) (o ∷ at_first p g os))
first_by P Q p g o os true e same made here rest after = All-append Q (g o) os (made here e) rest
first_by P Q p g o os false e same made here rest after = All-cons Q o (at_first p g os) (same here) after

all_first : (P Q : Entry → Type 0) (p : Entry → Bool) (g : Entry → List Entry) → ((o : Entry) → P o → Q o) → ((o : Entry) → P o → p o ≡ true → All Q (g o)) → (os : List Entry) → All P os → All Q (at_first p g os)
all_first P Q p g same made [] all = All-nil Q
all_first P Q p g same made (o ∷ os) all = first_by P Q p g o os (p o) refl (same o) (made o) (All-head P o os all) (All-weaker P Q same os (All-tail P o os all)) (all_first P Q p g same made os (All-tail P o os all))

each_by : (Q : Entry → Type 0) (p : Entry → Bool) (f : Entry → Entry) (o : Entry) (b : Bool) → p o ≡ b → Q o → (p o ≡ true → Q (f o)) → Q (changed_if b f o)
each_by Q p f o true e same made = made e
each_by Q p f o false e same made = same

all_each : (P Q : Entry → Type 0) (p : Entry → Bool) (f : Entry → Entry) → ((o : Entry) → P o → Q o) → ((o : Entry) → P o → p o ≡ true → Q (f o)) → (os : List Entry) → All P os → All Q (at_each p f os)
all_each P Q p f same made os all = All-map Q (λ o. changed_if (p o) f o) os (All-weaker P (λ o. Q (changed_if (p o) f o)) (λ o here. each_by Q p f o (p o) refl (same o here) (made o here)) os all)

pub all_without : (P Q : Entry → Type 0) (p : Entry → Bool) → ((o : Entry) → P o → Q o) → (os : List Entry) → All P os → All Q (without_those p os)
all_without P Q p same os all = All-filter (λ o. not (p o)) Q os (All-weaker P Q same os all)

-- ---- calls

-- if the call is a registration, the entry that it makes has the property `Q`
abbrev pub IfRegisters : (Entry → Type 0) → ObserverCall → ObserverList → Type 0
IfRegisters Q (Register now to token request szx serial) t = Q (new_entry (max t.time now) to token request szx serial)
IfRegisters Q other t = Unit {0}

entered_all : (P Q : Entry → Type 0) (e : Registered) (to : Endpoint) (token : List ℕ) (o : Entry) → ((o : Entry) → P o → Q o) → Q o → (os : List Entry) → All P os → All Q (entered_by e to token o os)
entered_all P Q Full to token o same new os all = All-weaker P Q same os all
entered_all P Q Entered to token o same new os all = All-append Q (without_those (is_entry_of to token) os) (o ∷ []) (all_without P Q (is_entry_of to token) same os all) (one Q o new)
entered_all P Q Replaced to token o same new os all = All-append Q (without_those (is_entry_of to token) os) (o ∷ []) (all_without P Q (is_entry_of to token) same os all) (one Q o new)

given_all : (P Q : Entry → Type 0) (t : ObserverList) (notify_serial : ℕ) (b : Bool) → gives_turn notify_serial t ≡ b → ((o : Entry) → P o → Q o) → ((o : Entry) → P o → (gives_turn notify_serial t && is_due t.time notify_serial o) ≡ true → Q (with_turn t.turns t.time o)) → All P t.held → All Q (turn_given_by b notify_serial t).held
given_all P Q t notify_serial true gives same made all = all_first P Q (is_due t.time notify_serial) (λ o. with_turn t.turns t.time o ∷ []) same (λ o here due. one Q (with_turn t.turns t.time o) (made o here (λ i. gives i && due i))) t.held all
given_all P Q t notify_serial false gives same made all = All-weaker P Q same t.held all

timed_all : (Q : Entry → Type 0) (now : ℕ) (o : Entry) (e : Option Emission) → Q (retransmitted now o) → All Q (timed_out_by e now o)
timed_all Q now o None made = All-nil Q
timed_all Q now o (Some emission) made = one Q (retransmitted now o) made

pub all_after : (P Q : Entry → Type 0) (c : ObserverCall) (t : ObserverList) → ((o : Entry) → P o → Q o) → ((o : Entry) → P o → may_change c t o ≡ true → Q (changed_by c t o)) → IfRegisters Q c t → All P t.held → All Q (observers_after c t).held
all_after P Q (Advance now) t same made new all = All-weaker P Q same t.held all
all_after P Q (Register now to token request szx serial) t same made new all = entered_all P Q (registration to token.items (list_at_time now t)) to token.items (new_entry (max t.time now) to token request szx serial) same new t.held all
all_after P Q (Cancel to token) t same made new all = all_without P Q (is_entry_of to token) same t.held all
all_after P Q (NextDue now notify_serial) t same made new all = given_all P Q (list_at_time now t) notify_serial (gives_turn notify_serial (list_at_time now t)) refl same made all
all_after P Q (MarkMissing turn) t same made new all = all_first P Q (is_out turn t) (λ o. missed o ∷ []) same (λ o here out. one Q (missed o) (made o here out)) t.held all
all_after P Q (Notify now turn id serial random bytes) t same made new all = all_first P Q (is_out turn (list_at_time now t)) (λ o. notified t.confirm_after (max t.time now) id serial random bytes o ∷ []) same (λ o here out. one Q (notified t.confirm_after (max t.time now) id serial random bytes o) (made o here out)) t.held all
all_after P Q (End turn) t same made new all = all_first P Q (is_out turn t) (λ o. []) same (λ o here out. All-nil Q) t.held all
all_after P Q (GiveUp turn now) t same made new all = all_first P Q (is_out turn (list_at_time now t)) (λ o. given_up (max t.time now) o ∷ []) same (λ o here out. one Q (given_up (max t.time now) o) (made o here out)) t.held all
all_after P Q (Reset to id) t same made new all = all_without P Q (has_last_id to id) same t.held all
all_after P Q (Acknowledge to id) t same made new all = all_each P Q (has_last_id to id) acknowledged same made t.held all
all_after P Q (Tick now) t same made new all = all_first P Q (is_overdue (max t.time now)) (timed_out (max t.time now)) same (λ o here overdue. timed_all Q (max t.time now) o (retransmission o) (made o here overdue)) t.held all

-- ---- the origin of entries

pub any_of : (P : Entry → Type 0) (os : List Entry) (o : Entry) → Contains os o → P o → Any P os
any_of P os o there here = (there.0, o, there.1, there.2, here)

new_comes : (c : ObserverCall) (t : ObserverList) → IfRegisters (ComesFrom c t) c t
new_comes (Register now to token request szx serial) t = inl refl
new_comes other t = tt

pub come_from : (c : ObserverCall) (t : ObserverList) → All (ComesFrom c t) (observers_after c t).held
come_from c t = all_after (Contains t.held) (ComesFrom c t) c t
    (λ o there. inr (any_of (λ before. (o ≡ before) ⊎ ((may_change c t before ≡ true) × (o ≡ changed_by c t before))) t.held o there (inl refl)))
    (λ o there may. inr (any_of (λ before. (changed_by c t o ≡ before) ⊎ ((may_change c t before ≡ true) × (changed_by c t o ≡ changed_by c t before))) t.held o there (inr (may, refl))))
    (new_comes c t) (All-contains_itself t.held)

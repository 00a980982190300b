-- The calls that remove an entry of an endpoint and token from the list.
use Rattle.std.proofs.Common.{◌≡◌, ℕ, List, [], ◌∷◌, ◌++◌, suc, Bool, true, false, cond, Option, Some, None, refl, sym, ap, ◌∙◌, ◌⊎◌, inl, inr, ⊎_elim, arith}
use Rattle.std.specs.Prelude.{find, max, nat_eq, not, ◌&&◌, ◌||◌}
use Rattle.std.specs.Cmp.Lexicographic.{pointwise, bytes_decides}
use Rattle.std.specs.List.{Contains, list_any}
use Rattle.std.proofs.lemmas.Bool.{and_parts}
use Rattle.std.proofs.lemmas.List.Folds.{list_any-append}
use Rattle.coap_msg.specs.declared.types.Emission.{Emission}
use Rattle.coap_msg.specs.declared.types.Endpoint.{Endpoint}
use Rattle.coap_msg.specs.Endpoints.{same_endpoint}
use Rattle.fc_observe.specs.declared.entry.Entry.{Entry}
use Rattle.fc_observe.specs.declared.observers.Registered.{Registered}
use Rattle.fc_observe.specs.declared.observers.Registered.TheVariants.{Entered, Replaced, Full}
use Rattle.fc_observe.specs.Calls.{ObserverCall, Advance, Register, Cancel, NextDue, MarkMissing, Notify, End, GiveUp, Reset, Acknowledge, Tick, observers_after}
use Rattle.fc_observe.specs.Entries.{acknowledged, changed_if, given_up, has_last_id, is_due, is_entry_of, is_overdue, missed, new_entry, notified, retransmission, timed_out, timed_out_by, with_turn}
use Rattle.fc_observe.specs.Observers.{ObserverList, at_each, at_first, list_at_time, entered_by, entry_out, gives_turn, is_out, overdue_entry, registration, turn_given_by, without_those}
use Rattle.fc_observe.proofs.Counting.{kept_key}
use Rattle.fc_observe.proofs.Hearing.{all_fail}
use Rattle.fc_observe.proofs.Resets.{endpoint_is}

-- ---- an entry that passes a test is still in the list, or it was replaced or removed

is_true_by : (b : Bool) → (b ≡ false → ⊥) → b ≡ true
is_true_by true not = refl
is_true_by false not = absurd (not refl)

-- if an entry in the list passes the test, some entry passes
pub held_passes : (p : Entry → Bool) (os : List Entry) (x : Entry) → Contains os x → p x ≡ true → list_any p os ≡ true
held_passes p os x there passes = is_true_by (list_any p os) (λ none.
    let not : p x ≡ false = ap p (sym there.2) ∙ all_fail p os none there.0 x there.1 in
    cc (not, passes))

or_right : (b : Bool) → (b || true) ≡ true
or_right true = refl
or_right false = refl

-- if the first entry that passes q is replaced, an entry still passes p, or the replaced one passed
-- p and its replacement doesn't
module _ (p q : Entry → Bool) (g : Entry → List Entry) where
  abbrev Stays : List Entry → Type 0
  Stays os = (list_any p (at_first q g os) ≡ true) ⊎ ((o : Entry) × (find q os ≡ Some o) × (p o ≡ true) × (list_any p (g o) ≡ false))

  first_by : (o : Entry) (os : List Entry) (here new rest : Bool) → p o ≡ here → list_any p (g o) ≡ new → list_any p os ≡ rest → (here || rest) ≡ true → (list_any p (g o ++ os) ≡ true) ⊎ ((x : Entry) × (Some o ≡ Some x) × (p x ≡ true) × (list_any p (g x) ≡ false))
  first_by o os here true rest is new others some = inl (list_any-append p (g o) os ∙ ap (λ (b : Bool). b || list_any p os) new)
  first_by o os here false true is new others some = inl (list_any-append p (g o) os ∙ (ap (λ (b : Bool). list_any p (g o) || b) others ∙ or_right (list_any p (g o))))
  first_by o os true false false is new others some = inr (o, refl, is, new)
  first_by o os false false false is new others some = absurd (cc some)

  later_by : (o : Entry) (os : List Entry) (here : Bool) → p o ≡ here → (here || list_any p os) ≡ true → (list_any p os ≡ true → Stays os) → (list_any p (o ∷ at_first q g os) ≡ true) ⊎ ((x : Entry) × (find q os ≡ Some x) × (p x ≡ true) × (list_any p (g x) ≡ false))
  later_by o os true is some next = inl (ap (λ (b : Bool). b || list_any p (at_first q g os)) is)
  later_by o os false is some next = ⊎_elim
      (λ (w : list_any p (at_first q g os) ≡ true). inl (ap (λ (b : Bool). b || list_any p (at_first q g os)) is ∙ w))
      (λ (w : (x : Entry) × (find q os ≡ Some x) × (p x ≡ true) × (list_any p (g x) ≡ false)). inr w)
      (next some)

  at_head : (o : Entry) (os : List Entry) (b : Bool) → (list_any p os ≡ true → Stays os) → (p o || list_any p os) ≡ true → (list_any p (cond b (g o ++ os) (o ∷ at_first q g os)) ≡ true) ⊎ ((x : Entry) × (cond b (Some o) (find q os) ≡ Some x) × (p x ≡ true) × (list_any p (g x) ≡ false))
  at_head o os true next some = first_by o os (p o) (list_any p (g o)) (list_any p os) refl refl refl some
  at_head o os false next some = later_by o os (p o) refl some next

  first_stays : (os : List Entry) → list_any p os ≡ true → Stays os
  first_stays [] some = absurd (cc some)
  first_stays (o ∷ os) some = at_head o os (q o) (first_stays os) some

-- if the first entry that passes q is changed so that p is unaffected, an entry still passes p
changed_stays : (p q : Entry → Bool) (f : Entry → Entry) → ((o : Entry) → p (f o) ≡ p o) → (os : List Entry) → list_any p os ≡ true → list_any p (at_first q (λ o. f o ∷ []) os) ≡ true
changed_stays p q f same os some = ⊎_elim
    (λ (w : list_any p (at_first q (λ o. f o ∷ []) os) ≡ true). w)
    (λ (w : (o : Entry) × (find q os ≡ Some o) × (p o ≡ true) × ((p (f o) || false) ≡ false)).
    let new : (p (f w.0) || false) ≡ true = ap (λ (b : Bool). b || false) (same w.0 ∙ w.2) in
    absurd (cc (new, w.3)))
    (first_stays p q (λ o. f o ∷ []) os some)

each_by : (p : Entry → Bool) (f : Entry → Entry) (o : Entry) (b : Bool) → p (f o) ≡ p o → p (changed_if b f o) ≡ p o
each_by p f o true same = same
each_by p f o false same = refl

each_stays : (p q : Entry → Bool) (f : Entry → Entry) → ((o : Entry) → p (f o) ≡ p o) → (os : List Entry) → list_any p (at_each q f os) ≡ list_any p os
each_stays p q f same [] = refl
each_stays p q f same (o ∷ os) = λ i. each_by p f o (q o) (same o) i || each_stays p q f same os i

-- if the entries that pass q are removed, an entry still passes p, or a removed one passed p
module _ (p q : Entry → Bool) where
  abbrev Remains : List Entry → Type 0
  Remains os = (list_any p (without_those q os) ≡ true) ⊎ ((o : Entry) × Contains os o × (p o ≡ true) × (q o ≡ true))

  further : (o : Entry) (os : List Entry) → ((x : Entry) × Contains os x × (p x ≡ true) × (q x ≡ true)) → (x : Entry) × Contains (o ∷ os) x × (p x ≡ true) × (q x ≡ true)
  further o os w = let lt = w.1.1 in (w.0, (suc w.1.0, omega (arith, lt), w.1.2), w.2, w.3)

  kept_by : (o : Entry) (os : List Entry) (here gone : Bool) → p o ≡ here → q o ≡ gone → (here || list_any p os) ≡ true → (list_any p os ≡ true → Remains os) → (list_any p (cond gone (without_those q os) (o ∷ without_those q os)) ≡ true) ⊎ ((x : Entry) × Contains (o ∷ os) x × (p x ≡ true) × (q x ≡ true))
  kept_by o os true true is goes some next = inr (o, (0, omega arith, refl), is, goes)
  kept_by o os true false is goes some next = inl (ap (λ (b : Bool). b || list_any p (without_those q os)) is)
  kept_by o os false true is goes some next = ⊎_elim
      (λ (w : list_any p (without_those q os) ≡ true). inl w)
      (λ (w : (x : Entry) × Contains os x × (p x ≡ true) × (q x ≡ true)). inr (further o os w))
      (next some)
  kept_by o os false false is goes some next = ⊎_elim
      (λ (w : list_any p (without_those q os) ≡ true). inl (ap (λ (b : Bool). b || list_any p (without_those q os)) is ∙ w))
      (λ (w : (x : Entry) × Contains os x × (p x ≡ true) × (q x ≡ true)). inr (further o os w))
      (next some)

  filtered : (o : Entry) (os : List Entry) (b : Bool) → (list_any p (cond b (without_those q os) (o ∷ without_those q os)) ≡ true) ⊎ ((x : Entry) × Contains (o ∷ os) x × (p x ≡ true) × (q x ≡ true)) → (list_any p (cond (not b) (o ∷ without_those q os) (without_those q os)) ≡ true) ⊎ ((x : Entry) × Contains (o ∷ os) x × (p x ≡ true) × (q x ≡ true))
  filtered o os true w = w
  filtered o os false w = w

  without_stays : (os : List Entry) → list_any p os ≡ true → Remains os
  without_stays [] some = absurd (cc some)
  without_stays (o ∷ os) some = filtered o os (q o) (kept_by o os (p o) (q o) refl refl some (without_stays os))

-- ---- keys of entries

-- if an entry has two keys, the keys are equal
two_keys : (to from : Endpoint) (token own : List ℕ) (o : Entry) → is_entry_of to token o ≡ true → is_entry_of from own o ≡ true → (same_endpoint from to && pointwise nat_eq own token) ≡ true
two_keys to from token own o of_to of_from =
    let w = and_parts (same_endpoint o.endpoint from) (pointwise nat_eq o.token.items own) of_from in
    let endpoint = endpoint_is o.endpoint from w.0 in
    let bytes = (bytes_decides o.token.items own).0 w.1 in
    (λ i. same_endpoint (sym endpoint i) to && pointwise nat_eq (sym bytes i) token) ∙ of_to

-- ---- calls

-- the call removes an entry of this endpoint and token
abbrev pub TakesAway : Endpoint → List ℕ → ObserverCall → ObserverList → Type 0
TakesAway to token (Cancel from own) t = (same_endpoint from to && pointwise nat_eq own token) ≡ true
TakesAway to token (End turn) t = (o : Entry) × (entry_out turn t ≡ Some o) × (is_entry_of to token o ≡ true)
TakesAway to token (Reset from id) t = (o : Entry) × Contains t.held o × (is_entry_of to token o ≡ true) × (has_last_id from id o ≡ true)
TakesAway to token (Tick now) t = (o : Entry) × (overdue_entry (list_at_time now t) ≡ Some o) × (is_entry_of to token o ≡ true) × (retransmission o ≡ None)
TakesAway to token other t = ⊥

module _ (to : Endpoint) (token : List ℕ) where
  abbrev p : Entry → Bool
  p = is_entry_of to token

  joined : (os : List Entry) (new : Entry) → (list_any p os ≡ true) ⊎ (p new ≡ true) → list_any p (os ++ new ∷ []) ≡ true
  joined os new (inl w) = list_any-append p os (new ∷ []) ∙ ap (λ (b : Bool). b || list_any p (new ∷ [])) w
  joined os new (inr w) = list_any-append p os (new ∷ []) ∙ (ap (λ (b : Bool). list_any p os || (b || false)) w ∙ or_right (list_any p os))

  replaced : (from : Endpoint) (own : List ℕ) (new : Entry) (os : List Entry) → p new ≡ (same_endpoint from to && pointwise nat_eq own token) → list_any p os ≡ true → list_any p (without_those (is_entry_of from own) os ++ new ∷ []) ≡ true
  replaced from own new os key some = joined (without_those (is_entry_of from own) os) new (⊎_elim
      (λ (w : list_any p (without_those (is_entry_of from own) os) ≡ true). inl w)
      (λ (w : (o : Entry) × Contains os o × (p o ≡ true) × (is_entry_of from own o ≡ true)). inr (key ∙ two_keys to from token own w.0 w.2 w.3))
      (without_stays p (is_entry_of from own) os some))

  entered_stays : (e : Registered) (from : Endpoint) (own : List ℕ) (new : Entry) (os : List Entry) → p new ≡ (same_endpoint from to && pointwise nat_eq own token) → list_any p os ≡ true → list_any p (entered_by e from own new os) ≡ true
  entered_stays Full from own new os key some = some
  entered_stays Entered from own new os key some = replaced from own new os key some
  entered_stays Replaced from own new os key some = replaced from own new os key some

  given_stays : (t : ObserverList) (notify_serial : ℕ) (b : Bool) → list_any p t.held ≡ true → list_any p (turn_given_by b notify_serial t).held ≡ true
  given_stays t notify_serial true some = changed_stays p (is_due t.time notify_serial) (with_turn t.turns t.time) (λ o. refl) t.held some
  given_stays t notify_serial false some = some

  timed_by : (now : ℕ) (o : Entry) (e : Option Emission) → retransmission o ≡ e → p o ≡ true → list_any p (timed_out_by e now o) ≡ false → retransmission o ≡ None
  timed_by now o None is own none = is
  timed_by now o (Some e) is own none = let new : (p o || false) ≡ true = ap (λ (b : Bool). b || false) own in absurd (cc (new, none))

  pub stays_or_goes : (c : ObserverCall) (t : ObserverList) → list_any p t.held ≡ true → (list_any p (observers_after c t).held ≡ true) ⊎ TakesAway to token c t
  stays_or_goes (Advance now) t some = inl some
  stays_or_goes (Register now from own request szx serial) t some = inl (entered_stays (registration from own.items (list_at_time now t)) from own.items (new_entry (max t.time now) from own request szx serial) t.held refl some)
  stays_or_goes (Cancel from own) t some = ⊎_elim
      (λ (w : list_any p (without_those (is_entry_of from own) t.held) ≡ true). inl w)
      (λ (w : (o : Entry) × Contains t.held o × (p o ≡ true) × (is_entry_of from own o ≡ true)). inr (two_keys to from token own w.0 w.2 w.3))
      (without_stays p (is_entry_of from own) t.held some)
  stays_or_goes (NextDue now notify_serial) t some = inl (given_stays (list_at_time now t) notify_serial (gives_turn notify_serial (list_at_time now t)) some)
  stays_or_goes (MarkMissing turn) t some = inl (changed_stays p (is_out turn t) missed (λ o. refl) t.held some)
  stays_or_goes (Notify now turn id serial random bytes) t some = inl (changed_stays p (is_out turn (list_at_time now t)) (notified t.confirm_after (max t.time now) id serial random bytes) (kept_key to token (Notify now turn id serial random bytes) t) t.held some)
  stays_or_goes (End turn) t some = ⊎_elim
      (λ (w : list_any p (at_first (is_out turn t) (λ o. []) t.held) ≡ true). inl w)
      (λ (w : (o : Entry) × (entry_out turn t ≡ Some o) × (p o ≡ true) × (false ≡ false)). inr (w.0, w.1, w.2))
      (first_stays p (is_out turn t) (λ o. []) t.held some)
  stays_or_goes (GiveUp turn now) t some = inl (changed_stays p (is_out turn (list_at_time now t)) (given_up (max t.time now)) (λ o. refl) t.held some)
  stays_or_goes (Reset from id) t some = without_stays p (has_last_id from id) t.held some
  stays_or_goes (Acknowledge from id) t some = inl (each_stays p (has_last_id from id) acknowledged (λ o. refl) t.held ∙ some)
  stays_or_goes (Tick now) t some = ⊎_elim
      (λ (w : list_any p (at_first (is_overdue (max t.time now)) (timed_out (max t.time now)) t.held) ≡ true). inl w)
      (λ (w : (o : Entry) × (overdue_entry (list_at_time now t) ≡ Some o) × (p o ≡ true) × (list_any p (timed_out (max t.time now) o) ≡ false)). inr (w.0, w.1, w.2, timed_by (max t.time now) w.0 (retransmission w.0) refl w.2 w.3))
      (first_stays p (is_overdue (max t.time now)) (timed_out (max t.time now)) t.held some)

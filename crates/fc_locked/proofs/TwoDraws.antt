-- Two calls of two threads have one of two orders; two draws of message IDs have two IDs.
use Rattle.std.proofs.Common.{◌≡◌, ◌≢◌, ◌⊎◌, ℕ, zero, suc, max, ◌+◌, ◌%◌, ◌<◌, Bool, true, false, List, [], ◌∷◌, Some, None, Option, refl, sym, ap, ◌∙◌, subst, ⊎_elim, inl, inr, arith}
use Rattle.std.specs.Prelude.{◌==◌, if◌then◌else◌, slice_index_or, slice_set}
use Rattle.std.specs.List.{AllByRecursion, Any, filter}
use Rattle.std.proofs.lemmas.Bool.Decides.{nat_tests}
use Rattle.std.proofs.lemmas.List.{get_or-replicate, get_or-set_other}
use Rattle.std.proofs.lemmas.List.Elements.{recursion_from_All}
use Rattle.fc_front.specs.Exchanges.{FrontState, first_front}
use Rattle.fc_front.specs.Ids.{no_draws}
use Rattle.fc_front.specs.declared.policy.Policy.{Policy}
use Rattle.fc_calls.specs.Doings.{DrawsAt}
use Rattle.fc_calls.specs.Logged.{DrawsId}
use Rattle.fc_server.specs.States.{ServerState, first_server}
use Rattle.fc_linear.specs.Operations.{FrontDoes, Logged, is_front, part_of}
use Rattle.fc_filed.specs.declared.entry.FiledEntry.{FiledEntry}
use Rattle.fc_filed.specs.Entries.{OperationsLead, entries_by, front_entries}
use Rattle.fc_locked.specs.declared.closed.ClosedServer.{ClosedServer}
use Rattle.fc_backend.specs.Logs.{TrackedLog}
use Rattle.fc_backend.specs.RightTracks.{filed_in}
use Rattle.fc_locked.specs.OneOrder.{HaveOneOrder}

-- ---- a list of which each item passes one of two tests

module _ {X : Type 0} where
  abbrev PassesOne : (X → Bool) → (X → Bool) → X → Type 0
  PassesOne p q x = ((p x ≡ true) × (q x ≡ false)) ⊎ ((p x ≡ false) × (q x ≡ true))

  none_left : (p q : X → Bool) (xs : List X) → AllByRecursion (PassesOne p q) xs → filter p xs ≡ [] → filter q xs ≡ [] → xs ≡ []
  none_left p q [] s a b = refl
  none_left p q (x ∷ xs) s a b = ⊎_elim
      (λ (h : (p x ≡ true) × (q x ≡ false)). absurd (cc (rw h.0 at a)))
      (λ (h : (p x ≡ false) × (q x ≡ true)). absurd (cc (rw h.1 at b)))
      s.0

  one_left : (p q : X → Bool) (y : X) (xs : List X) → AllByRecursion (PassesOne p q) xs → filter p xs ≡ y ∷ [] → filter q xs ≡ [] → xs ≡ y ∷ []
  one_left p q y [] s a b = absurd (cc a)
  one_left p q y (x ∷ xs) s a b = ⊎_elim
      (λ (h : (p x ≡ true) × (q x ≡ false)).
      let here : x ∷ filter p xs ≡ y ∷ [] = rw h.0 at a in
      let rest : filter q xs ≡ [] = rw h.1 at b in
      let nothing : filter p xs ≡ [] = cc here in
      let same : x ≡ y = cc here in
      let end : xs ≡ [] = none_left p q xs s.1 nothing rest in
      (λ i. same i ∷ end i))
      (λ (h : (p x ≡ false) × (q x ≡ true)). absurd (cc (rw h.1 at b)))
      s.0

  swapped : (p q : X → Bool) (xs : List X) → AllByRecursion (PassesOne p q) xs → AllByRecursion (PassesOne q p) xs
  swapped p q [] s = s
  swapped p q (x ∷ xs) s = (⊎_elim (λ (h : (p x ≡ true) × (q x ≡ false)). inr (h.1, h.0)) (λ (h : (p x ≡ false) × (q x ≡ true)). inl (h.1, h.0)) s.0, swapped p q xs s.1)

  two_left : (p q : X → Bool) (y z : X) (xs : List X) → AllByRecursion (PassesOne p q) xs → filter p xs ≡ y ∷ [] → filter q xs ≡ z ∷ [] → (xs ≡ y ∷ z ∷ []) ⊎ (xs ≡ z ∷ y ∷ [])
  two_left p q y z [] s a b = absurd (cc a)
  two_left p q y z (x ∷ xs) s a b = ⊎_elim
      (λ (h : (p x ≡ true) × (q x ≡ false)).
      let here : x ∷ filter p xs ≡ y ∷ [] = rw h.0 at a in
      let rest : filter q xs ≡ z ∷ [] = rw h.1 at b in
      let nothing : filter p xs ≡ [] = cc here in
      let same : x ≡ y = cc here in
      let end : xs ≡ z ∷ [] = one_left q p z xs (swapped p q xs s.1) rest nothing in
      inl (λ i. same i ∷ end i))
      (λ (h : (p x ≡ false) × (q x ≡ true)).
      let here : x ∷ filter q xs ≡ z ∷ [] = rw h.1 at b in
      let rest : filter p xs ≡ y ∷ [] = rw h.0 at a in
      let nothing : filter q xs ≡ [] = cc here in
      let same : x ≡ z = cc here in
      let end : xs ≡ y ∷ [] = one_left p q y xs s.1 rest nothing in
      inr (λ i. same i ∷ end i))
      s.0

-- ---- two threads

by_one : (one other : TrackedLog) (n : ℕ) → Any (λ (log : TrackedLog). log.who ≡ n) (one ∷ other ∷ []) → (one.who ≡ n) ⊎ (other.who ≡ n)
by_one one other n (zero, x, lt, at, is) = inl (ap (λ (l : TrackedLog). l.who) at ∙ is)
by_one one other n (suc zero, x, lt, at, is) = inr (ap (λ (l : TrackedLog). l.who) at ∙ is)
by_one one other n (suc (suc k), x, lt, at, is) = absurd (omega (arith, lt))

same : (m n : ℕ) → m ≡ n → (n == m) ≡ true
same m n is = grind (is, arith, nat_tests)

differ : (m n : ℕ) → m ≢ n → (n == m) ≡ false
differ m n not = grind (not, arith, nat_tests)

tests : (w v : ℕ) (e : FiledEntry) → w ≢ v → (w ≡ e.who) ⊎ (v ≡ e.who) → PassesOne (λ (x : FiledEntry). x.who == w) (λ (x : FiledEntry). x.who == v) e
tests w v e not who = ⊎_elim
    (λ (is : w ≡ e.who). inl (same w e.who is, differ v e.who (λ h. not (is ∙ sym h))))
    (λ (is : v ≡ e.who). inr (differ w e.who (λ h. not (h ∙ sym is)), same v e.who is))
    who

-- ---- the calls that pass a test

module _ (p : FiledEntry → Bool) where
  filter_if : (b : Bool) (e : FiledEntry) (es : List FiledEntry) → filter p (if b then e ∷ es else es) ≡ (if b then (if p e then e ∷ filter p es else filter p es) else filter p es)
  filter_if true e es = refl
  filter_if false e es = refl

  swapped_if : (a b : Bool) (e : FiledEntry) (xs ys : List FiledEntry) → xs ≡ ys → (if b then (if a then e ∷ xs else xs) else xs) ≡ (if a then (if b then e ∷ ys else ys) else ys)
  swapped_if true true e xs ys is = λ i. e ∷ is i
  swapped_if true false e xs ys is = is
  swapped_if false true e xs ys is = is
  swapped_if false false e xs ys is = is

-- two tests, in either order.
either_order : (p q : FiledEntry → Bool) (es : List FiledEntry) → filter p (filter q es) ≡ filter q (filter p es)
either_order p q [] = refl
either_order p q (e ∷ es) = filter_if p (q e) e (filter q es) ∙ (swapped_if p (p e) (q e) e (filter p (filter q es)) (filter q (filter p es)) (either_order p q es) ∙ sym (filter_if q (p e) e (filter p es)))

module _ (p : FiledEntry → Bool) where
  also_kept : (P : FiledEntry → Type 0) (e : FiledEntry) (es : List FiledEntry) (b : Bool) → P e → AllByRecursion P es → AllByRecursion P (if b then e ∷ es else es)
  also_kept P e es true h rest = (h, rest)
  also_kept P e es false h rest = rest

  all_kept : (P : FiledEntry → Type 0) (es : List FiledEntry) → AllByRecursion P es → AllByRecursion P (filter p es)
  all_kept P [] h = tt
  all_kept P (e ∷ es) h = also_kept P e (filter p es) (p e) h.0 (all_kept P es h.1)

  -- each thread has filed one call that passes the test: these are in one of two orders.
  pub two_orders : (begin : ServerState) (one other : TrackedLog) (closed : ClosedServer) (x y : FiledEntry) (h : HaveOneOrder begin (one ∷ other ∷ []) closed) → filter p (filed_in one) ≡ x ∷ [] → filter p (filed_in other) ≡ y ∷ []
      → (filter p h.calls ≡ x ∷ y ∷ []) ⊎ (filter p h.calls ≡ y ∷ x ∷ [])
  two_orders begin one other closed x y h is also =
      let not : one.who ≢ other.who = h.apart 0 1 one (omega arith) (omega arith) in
      let mine : filed_in one ≡ entries_by one.who h.calls = h.own 0 one (omega arith) in
      let theirs : filed_in other ≡ entries_by other.who h.calls = h.own 1 one (omega arith) in
      let by : ℕ → FiledEntry → Bool = λ who e. e.who == who in
      two_left (by one.who) (by other.who) x y (filter p h.calls)
      (all_kept (PassesOne (by one.who) (by other.who)) h.calls (recursion_from_All (PassesOne (by one.who) (by other.who)) h.calls
      (λ k d lt. tests one.who other.who (slice_index_or h.calls k d) not (by_one one other (slice_index_or h.calls k d).who (h.callers k d lt)))))
      (sym (either_order p (by one.who) h.calls) ∙ (ap (λ (es : List FiledEntry). filter p es) (sym mine) ∙ is))
      (sym (either_order p (by other.who) h.calls) ∙ (ap (λ (es : List FiledEntry). filter p es) (sym theirs) ∙ also))

-- ---- two draws

not_drawn : (n : ℕ) → n < 65536 → slice_index_or no_draws n None ≡ None
unfolding no_draws
not_drawn n lt = get_or-replicate 65536 n None None lt

draws : (f g : FrontState) (n id : ℕ) (last : List (Option ℕ)) → f.ids ≡ record { next = n; last = last } → slice_index_or last n None ≡ None → DrawsAt 0 (Some id) f g
    → (id ≡ n) × (g.ids ≡ record { next = (n + 1) % 65536; last = slice_set last n (Some (max f.now 0)) })
draws f g n id last is none d = (cc found, after)
  where
    found : Some id ≡ Some n
    found = let d0 = d.0 in rw (is, none) at d0

    after : g.ids ≡ record { next = (n + 1) % 65536; last = slice_set last n (Some (max f.now 0)) }
    after = let d1 = ap (λ (x : FrontState). x.ids) d.1 in rw (is, none) at d1

seven_and_eight : (policy : Policy) (a b : ℕ) (front : FrontState) (x y : FiledEntry) → x.operation ≡ Logged (DrawsId 0 (Some a)) → y.operation ≡ Logged (DrawsId 0 (Some b))
    → OperationsLead FrontDoes (x ∷ y ∷ []) (first_front policy 7) front → (a ≡ 7) × (b ≡ 8)
seven_and_eight policy a b front x y is also leads =
    let one : DrawsAt 0 (Some a) (first_front policy 7) leads.0 = subst (λ o. FrontDoes o (first_front policy 7) leads.0) is leads.1 in
    let rest = leads.2 in
    let two : DrawsAt 0 (Some b) leads.0 rest.0 = subst (λ o. FrontDoes o leads.0 rest.0) also rest.1 in
    let first = draws (first_front policy 7) leads.0 7 a no_draws refl (not_drawn 7 (omega arith)) one in
    let second = draws leads.0 rest.0 8 b (slice_set no_draws 7 (Some 0)) first.1
    (get_or-set_other no_draws 7 8 (Some 0) None (λ e. absurd (omega (arith, e))) ∙ not_drawn 8 (omega arith)) two in
    (first.0, second.0)

pub two_ids : (policy : Policy) (serial : ℕ) (one other : TrackedLog) (j k a b : ℕ) (closed : ClosedServer)
    → HaveOneOrder (first_server (record { serial = serial; id = 7; policy = policy })) (one ∷ other ∷ []) closed
    → front_entries (filed_in one) ≡ record { who = one.who; job = j; operation = Logged (DrawsId 0 (Some a)); save = None } ∷ []
    → front_entries (filed_in other) ≡ record { who = other.who; job = k; operation = Logged (DrawsId 0 (Some b)); save = None } ∷ []
    → ((a ≡ 7) × (b ≡ 8)) ⊎ ((a ≡ 8) × (b ≡ 7))
two_ids policy serial one other j k a b closed h is also =
    let x : FiledEntry = record { who = one.who; job = j; operation = Logged (DrawsId 0 (Some a)); save = None } in
    let y : FiledEntry = record { who = other.who; job = k; operation = Logged (DrawsId 0 (Some b)); save = None } in
    ⊎_elim
    (λ (e : front_entries h.calls ≡ x ∷ y ∷ []). inl (seven_and_eight policy a b closed.front x y refl refl (subst (λ (es : List FiledEntry). OperationsLead FrontDoes es (first_front policy 7) closed.front) e h.front_led)))
    (λ (e : front_entries h.calls ≡ y ∷ x ∷ []).
    let r = seven_and_eight policy b a closed.front y x refl refl (subst (λ (es : List FiledEntry). OperationsLead FrontDoes es (first_front policy 7) closed.front) e h.front_led) in
    inr (r.1, r.0))
    (two_orders (λ (e : FiledEntry). is_front (part_of e.operation)) (first_server (record { serial = serial; id = 7; policy = policy })) one other closed x y h is also)

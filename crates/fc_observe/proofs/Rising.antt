-- The last revision sent to an observer doesn't decrease until the observer registers again.
use Rattle.std.proofs.Common.{◌≡◌, ℕ, ◌<◌, ◌≤◌, List, [], ◌∷◌, ◌++◌, Bool, true, false, cond, Option, Some, max, sym, ap, ◌∙◌, subst, arith}
use Rattle.std.specs.Prelude.{count_by, find}
use Rattle.std.specs.List.{All}
use Rattle.std.proofs.lemmas.List.Elements.{All-append, All-cons, All-nil}
use Rattle.std.proofs.lemmas.List.Sums.{sum_by-cons}
use Rattle.arrayvec.specs.ArrayVec.{ArrayVec}
use Rattle.coap_msg.specs.declared.types.Endpoint.{Endpoint}
use Rattle.fc_observe.specs.declared.entry.Entry.{Entry}
use Rattle.fc_observe.specs.declared.entry.Turn.{Turn}
use Rattle.fc_observe.specs.Calls.{ObserverCall, End, Notify, Register, after_calls, changed_by, is_registration_of, may_change, observers}
use Rattle.fc_observe.specs.Entries.{is_entry_of, must_confirm, notified}
use Rattle.fc_observe.specs.Laws.{RegistersNone}
use Rattle.fc_observe.specs.Observers.{ObserverList, at_first, list_at_time, entry_out, is_out}
use Rattle.fc_observe.proofs.Counting.{kept_key, one_of_key, unit}
use Rattle.fc_observe.proofs.Keeping.{IfRegisters, all_after}
use Rattle.fc_observe.proofs.Serials.{notified_keeps}

-- if the entry has this endpoint and token, the last revision sent to its observer is at least `m`
abbrev pub SentFrom : ℕ → Endpoint → List ℕ → Entry → Type 0
SentFrom m to token o = is_entry_of to token o ≡ true → m ≤ o.serial

-- if the call is a notification for the entry's lease, its revision is above the last one sent
abbrev pub Above : ObserverCall → ObserverList → Entry → Type 0
Above (Notify now turn id serial random bytes) t o = is_out turn (list_at_time now t) o ≡ true → o.serial < serial
Above other t o = Unit {0}

-- each notification of these calls has a revision above the last one sent to its observer
abbrev pub AreAbove : List ObserverCall → ObserverList → Type 0
AreAbove [] t = Unit {0}
AreAbove (c ∷ h) t = All (Above c (after_calls h t)) (after_calls h t).held × AreAbove h t

-- ---- the calls keep the last revision, or send a later one

changed_from : (m : ℕ) (to : Endpoint) (token : List ℕ) (c : ObserverCall) (t : ObserverList) (o : Entry) → SentFrom m to token o → Above c t o → may_change c t o ≡ true → SentFrom m to token (changed_by c t o)
changed_from m to token (Notify now turn id serial random bytes) t o from above may = λ own.
    let before = from (sym (kept_key to token (Notify now turn id serial random bytes) t o) ∙ own) in
    let lt = above may in
    let is = (notified_keeps (max t.time now) id serial random bytes o (must_confirm t.confirm_after (max t.time now) o)).1 in
    omega (arith, before, lt, is)
changed_from m to token other t o from above may = from

new_from : (m : ℕ) (to : Endpoint) (token : List ℕ) (c : ObserverCall) (t : ObserverList) → is_registration_of to token c ≡ false → IfRegisters (SentFrom m to token) c t
new_from m to token (Register now from own request szx serial) t not = λ is. absurd (cc (is, not))
new_from m to token other t not = tt

pub calls_from : (m : ℕ) (to : Endpoint) (token : List ℕ) (h : List ObserverCall) (t : ObserverList) → RegistersNone to token h → AreAbove h t → All (SentFrom m to token) t.held → All (SentFrom m to token) (after_calls h t).held
calls_from m to token [] t none above from = from
calls_from m to token (c ∷ h) t none above from =
    let before = calls_from m to token h t none.1 above.1 from in
    let u = after_calls h t in
    all_after (λ (o : Entry). SentFrom m to token o × Above c u o) (SentFrom m to token) c u (λ o w. w.0) (λ o w may. changed_from m to token c u o w.0 w.1 may) (new_from m to token c u none.0) (λ k d lt. (before k d lt, above.0 k d lt))

-- ---- a notification, and the end of a lease

none_passes : (p : Entry → Bool) (Q : Entry → Type 0) (os : List Entry) → count_by p os ≡ 0 → All (λ o. p o ≡ true → Q o) os
none_passes p Q [] none = All-nil (λ o. p o ≡ true → Q o)
none_passes p Q (o ∷ os) none =
    let all = sum_by-cons (λ (x : Entry). unit (p x)) o os in
    All-cons (λ o. p o ≡ true → Q o) o os (λ e. let one = ap unit e in absurd (omega (arith, all, one, none))) (none_passes p Q os (omega (arith, all, none)))

one_passes_by : (p : Entry → Bool) (o x : Entry) (os : List Entry) (y : Option Entry) (b : Bool) → (y ≡ Some x → 1 ≤ count_by p os) → cond b (Some o) y ≡ Some x → p x ≡ true → 1 ≤ count_by p (o ∷ os)
one_passes_by p o x os y true rest found passes =
    let all = sum_by-cons (λ (x : Entry). unit (p x)) o os in
    let same : o ≡ x = cc found in
    let one = ap unit (ap p same ∙ passes) in
    omega (arith, all, one)
one_passes_by p o x os y false rest found passes = let all = sum_by-cons (λ (x : Entry). unit (p x)) o os in let one = rest found in omega (arith, all, one)

one_passes : (p q : Entry → Bool) (x : Entry) (os : List Entry) → find q os ≡ Some x → p x ≡ true → 1 ≤ count_by p os
one_passes p q x [] found passes = absurd (cc found)
one_passes p q x (o ∷ os) found passes = one_passes_by p o x os (find q os) (q o) (λ e. one_passes p q x os e passes) found passes

-- if at most one entry passes p, and it is replaced by entries with Q, each entry that then passes
-- p has Q
module _ (p q : Entry → Bool) (g : Entry → List Entry) (Q : Entry → Type 0) (x : Entry) (passes : p x ≡ true) (new : All (λ o. p o ≡ true → Q o) (g x)) where
  only_by : (o : Entry) (os : List Entry) (b : Bool) → count_by p (o ∷ os) ≤ 1 → (count_by p os ≤ 1 → find q os ≡ Some x → All (λ o. p o ≡ true → Q o) (at_first q g os)) → cond b (Some o) (find q os) ≡ Some x → All (λ o. p o ≡ true → Q o) (cond b (g o ++ os) (o ∷ at_first q g os))
  only_by o os true few rest found =
      let all = sum_by-cons (λ (x : Entry). unit (p x)) o os in
      let same : o ≡ x = cc found in
      let one = ap unit (ap p same ∙ passes) in
      All-append (λ o. p o ≡ true → Q o) (g o) os (subst (λ (y : Entry). All (λ o. p o ≡ true → Q o) (g y)) (sym same) new) (none_passes p Q os (omega (arith, all, one, few)))
  only_by o os false few rest found =
      let all = sum_by-cons (λ (x : Entry). unit (p x)) o os in
      let some = one_passes p q x os found passes in
      All-cons (λ o. p o ≡ true → Q o) o (at_first q g os) (λ e. let one = ap unit e in absurd (omega (arith, all, one, some, few))) (rest (omega (arith, all, few)) found)

  only : (os : List Entry) → count_by p os ≤ 1 → find q os ≡ Some x → All (λ o. p o ≡ true → Q o) (at_first q g os)
  only [] few found = absurd (cc found)
  only (o ∷ os) few found = only_by o os (q o) few (only os) found

module _ (slot confirm_after : ℕ) (turn : Turn) (h : List ObserverCall) (o : Entry) (to : Endpoint) (token : List ℕ) (own : is_entry_of to token o ≡ true) where
  pub notified_from : (now id serial random : ℕ) (bytes : ArrayVec ℕ) → entry_out turn (list_at_time now (observers slot confirm_after h)) ≡ Some o → All (SentFrom serial to token) (observers slot confirm_after (Notify now turn id serial random bytes ∷ h)).held
  notified_from now id serial random bytes out =
      let t = list_at_time now (observers slot confirm_after h) in
      let is = (notified_keeps t.time id serial random bytes o (must_confirm t.confirm_after t.time o)).1 in
      only (is_entry_of to token) (is_out turn t) (λ x. notified t.confirm_after t.time id serial random bytes x ∷ []) (λ (x : Entry). serial ≤ x.serial) o own
      (All-cons (SentFrom serial to token) (notified t.confirm_after t.time id serial random bytes o) [] (λ e. omega (arith, is)) (All-nil (SentFrom serial to token)))
      t.held (one_of_key slot confirm_after h to token) out

  pub ended_from : (m : ℕ) → entry_out turn (observers slot confirm_after h) ≡ Some o → All (SentFrom m to token) (observers slot confirm_after (End turn ∷ h)).held
  ended_from m out =
      let t = observers slot confirm_after h in
      only (is_entry_of to token) (is_out turn t) (λ x. []) (λ (x : Entry). m ≤ x.serial) o own (All-nil (SentFrom m to token)) t.held (one_of_key slot confirm_after h to token) out

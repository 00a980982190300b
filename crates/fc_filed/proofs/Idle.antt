-- Idle words: an entry of another part leaves them right, and an entry of a shard resets its own.
use Rattle.std.proofs.Common.{◌≡◌, ◌≢◌, ◌⊎◌, ℕ, zero, suc, ◌+◌, ◌<◌, ◌≤◌, Bool, true, false, List, [], ◌∷◌, ◌++◌, length, max, set, Option, Some, None, refl, sym, ap, ◌∙◌, subst, ⊎_elim, arith}
use Rattle.std.specs.Prelude.{if◌then◌else◌, is_none, is_some}
use Rattle.std.specs.List.{All}
use Rattle.std.proofs.lemmas.Bool.{and_parts, cases_lt}
use Rattle.std.proofs.lemmas.Bool.Decides.{nat_tests}
use Rattle.std.proofs.lemmas.List.{append-nil, get_or-set_other, get_or-set_same}
use Rattle.std.proofs.lemmas.List.Elements.{All-weaker, filter-append}
use Rattle.fc_observe.specs.declared.entry.Entry.{Entry}
use Rattle.fc_observe.specs.Observers.{next_turn, overdue_entry}
use Rattle.fc_observe.specs.Quiet.{IsIdle, IsIdleUntil}
use Rattle.fc_observe.proofs.Quiet.{none_due, none_overdue}
use Rattle.fc_registry.specs.Slots.{Shard}
use Rattle.fc_registry.specs.Watches.{StaysIdleUntil, at_time, due_place, has_due, has_overdue, is_idle, noticed_at, overdue_place, place_from, watch_at}
use Rattle.fc_registry.proofs.Places.{idle_places}
use Rattle.fc_registry.specs.Shards.{shard_at}
use Rattle.fc_server.specs.States.{ServerState}
use Rattle.fc_linear.specs.Operations.{ShardDoes, part_of, ServerPart, FrontPart, ShardPart, WordsPart, NoPart, is_shard}
use Rattle.fc_filed.specs.declared.entry.FiledEntry.{FiledEntry}
use Rattle.fc_filed.specs.Entries.{OperationsLead, part_key, shard_entries}
use Rattle.fc_filed.specs.Idle.{AreIdleWords, IsIdleBefore, LeadToIdle, idle_word}
use Rattle.fc_filed.specs.Parts.{AreCallsOf}
use Rattle.fc_filed.proofs.Shards.{shard_led}
use Rattle.fc_filed.proofs.Sent.{same_or_not}

-- ---- an entry is of no shard but its part

-- the entry's part isn't the shard of this index.
abbrev pub IsElsewhere : FiledEntry → ℕ → Type 0
IsElsewhere e index = part_key e.who (part_of e.operation) ≢ index + 1

off_shard : (p : ServerPart) (who index : ℕ) → part_key who p ≢ index + 1 → is_shard index p ≡ false
off_shard FrontPart who index other = refl
off_shard (ShardPart i) who index other = grind (other, arith, nat_tests)
off_shard WordsPart who index other = refl
off_shard NoPart who index other = refl

-- such an entry is not one of the shard's.
same_entries : (e : FiledEntry) (index : ℕ) (log : List FiledEntry) → IsElsewhere e index → shard_entries index log ≡ shard_entries index (log ++ e ∷ [])
same_entries e index log other =
    let none = ap (λ (b : Bool). if b then e ∷ [] else []) (off_shard (part_of e.operation) e.who index other) in
    sym (filter-append (λ (x : FiledEntry). is_shard index (part_of x.operation)) log (e ∷ []) ∙ (ap (λ (l : List FiledEntry). shard_entries index log ++ l) none ∙ append-nil (shard_entries index log)))

pub idle_still : (begin : ServerState) (e : FiledEntry) (index until : ℕ) (log : List FiledEntry) → IsElsewhere e index → IsIdleBefore begin log index until → IsIdleBefore begin (log ++ e ∷ []) index until
idle_still begin e index until log other idle = λ now before. subst (λ (es : List FiledEntry). LeadToIdle (shard_at begin.shards index) es now) (same_entries e index log other) (idle now before)

-- an entry of no shard leaves the idle words right.
pub idle_more : (begin : ServerState) (e : FiledEntry) (log : List FiledEntry) (words : List ℕ) → ((index : ℕ) → index < 8 → IsElsewhere e index) → AreIdleWords begin log words → AreIdleWords begin (log ++ e ∷ []) words
idle_more begin e log words other idle = λ index lt. idle_still begin e index (idle_word words index) log (other index lt) (idle index lt)

-- other words than these don't matter.
pub idle_same : (begin : ServerState) (log : List FiledEntry) (words vs : List ℕ) → ((index : ℕ) → index < 8 → idle_word vs index ≡ idle_word words index) → AreIdleWords begin log words → AreIdleWords begin log vs
idle_same begin log words vs same idle = λ index lt. subst (λ (n : ℕ). IsIdleBefore begin log index n) (sym (same index lt)) (idle index lt)

-- ---- an idle word is written

module _ (begin : ServerState) (log : List FiledEntry) (words : List ℕ) (index until : ℕ) (lt : 8 + index < length words) where
  pub idle_set : IsIdleBefore begin log index until → ((i : ℕ) → i < 8 → i ≢ index → IsIdleBefore begin log i (idle_word words i)) → AreIdleWords begin log (set words (8 + index) until)
  idle_set here others i low = ⊎_elim
      (λ (e : i ≡ index). subst (λ (k : ℕ). IsIdleBefore begin log k (idle_word (set words (8 + index) until) k)) (sym e)
      (subst (λ (n : ℕ). IsIdleBefore begin log index n) (sym (get_or-set_same words (8 + index) until 0 lt)) here))
      (λ (d : i ≢ index). subst (λ (n : ℕ). IsIdleBefore begin log i n) (sym (get_or-set_other words (8 + index) (8 + i) until 0 (λ p. d (omega (arith, p))))) (others i low d))
      (same_or_not i index)

-- ---- a shard that is idle now, and told a time before which it stays idle

module _ (p : ℕ → Bool) where
  nowhere : (n k : ℕ) → ((j : ℕ) → k ≤ j → j < k + n → p j ≡ false) → place_from p n k ≡ None
  nowhere zero k none = refl
  nowhere (suc n) k none =
      ap (λ (b : Bool). if b then Some k else place_from p n (k + 1)) (none k (omega arith) (omega arith))
      ∙ nowhere n (k + 1) (λ j le lt. none j (omega (arith, le)) (omega (arith, lt)))

  fails_on : (b : Bool) (n k j : ℕ) → p k ≡ b → (if b then Some k else place_from p n (k + 1)) ≡ None → (place_from p n (k + 1) ≡ None → k + 1 ≤ j → p j ≡ false) → k ≤ j → p j ≡ false
  fails_on true n k j is none rest le = absurd (cc none)
  fails_on false n k j is none rest le = ⊎_elim
      (λ (lt : k < j). rest none (omega (arith, lt)))
      (λ (ge : j ≤ k). let same : j ≡ k = omega (arith, ge, le) in ap p same ∙ is)
      (cases_lt k j)

  -- if no place of these passes the test, each of them fails it.
  fails : (n k j : ℕ) → place_from p n k ≡ None → k ≤ j → j < k + n → p j ≡ false
  fails zero k j none le lt = absurd (omega (arith, le, lt))
  fails (suc n) k j none le lt = fails_on (p k) n k j refl none (λ rest more. fails n (k + 1) j rest more (omega (arith, lt))) le

none_is : (o : Option ℕ) → is_none o ≡ true → o ≡ None
none_is None e = refl
none_is (Some k) e = absurd (cc e)

module _ (s : Shard) (until now : ℕ) (stays : StaysIdleUntil until s) (idle : is_idle s ≡ true) (before : now < until) (later : s.now < now) where
  -- the entries at a place are idle at `now`, unless the list has a later time.
  rests : (k : ℕ) → k < 8 → (watch_at s k).time ≤ now → All (IsIdle (max (watch_at s k).time (max s.now now)) (noticed_at s k)) (watch_at s k).held
  rests k lt le =
      let m = max (watch_at s k).time (max s.now now) in
      All-weaker (IsIdleUntil until (noticed_at s k)) (IsIdle m (noticed_at s k)) (λ o q. q m (omega (arith, le, later, before))) (watch_at s k).held (stays k lt)

  overdue_at : (k : ℕ) → k < 8 → has_overdue (at_time s now) k ≡ false
  overdue_at k lt = ⊎_elim
      (λ (more : now < (watch_at s k).time).
      let same : max (watch_at s k).time (max s.now now) ≡ max (watch_at s k).time s.now = omega (arith, more, later) in
      ap (λ (n : ℕ). is_some (overdue_entry (record (watch_at s k) { time = n }))) same ∙ fails (has_overdue s) 8 0 k (none_is (overdue_place s) (and_parts _ _ idle).0) (omega arith) lt)
      (λ (le : (watch_at s k).time ≤ now). ap (λ (o : Option Entry). is_some o) (none_overdue (max s.now now) (noticed_at s k) (watch_at s k) (rests k lt le)))
      (cases_lt now (watch_at s k).time)

  due_at : (k : ℕ) → k < 8 → has_due (at_time s now) k ≡ false
  due_at k lt = ⊎_elim
      (λ (more : now < (watch_at s k).time).
      let same : max (watch_at s k).time (max s.now now) ≡ max (watch_at s k).time s.now = omega (arith, more, later) in
      ap (λ (n : ℕ). is_some (next_turn (noticed_at s k) (record (watch_at s k) { time = n }))) same ∙ fails (has_due s) 8 0 k (none_is (due_place s) (and_parts _ _ idle).1) (omega arith) lt)
      (λ (le : (watch_at s k).time ≤ now). ap is_some (none_due (max s.now now) (noticed_at s k) (watch_at s k) (rests k lt le)))
      (cases_lt now (watch_at s k).time)

  idle_later : is_idle (at_time s now) ≡ true
  idle_later = sym (idle_places (overdue_place (at_time s now)) (due_place (at_time s now)) (nowhere (has_overdue (at_time s now)) 8 0 (λ j le lt. overdue_at j (omega (arith, lt)))) (nowhere (has_due (at_time s now)) 8 0 (λ j le lt. due_at j (omega (arith, lt)))))

-- a shard that is idle, and stays idle until a time, is idle at each time before.
pub idle_before : (s : Shard) (until now : ℕ) → StaysIdleUntil until s → is_idle s ≡ true → now < until → is_idle (at_time s now) ≡ true
idle_before s until now stays idle before = ⊎_elim
    (λ (later : s.now < now). idle_later s until now stays idle before later)
    (λ (le : now ≤ s.now). let same : max s.now now ≡ s.now = omega (arith, le) in ap (λ (n : ℕ). is_idle (record s { now = n })) same ∙ idle)
    (cases_lt s.now now)

-- the calls of such a shard lead to one that is idle before that time.
pub leads_idle : (begin : ServerState) (persistent : Bool) (key index until : ℕ) (calls : List FiledEntry) (s : Shard) → index + 1 ≡ key → AreCallsOf begin persistent key calls s → StaysIdleUntil until s → is_idle s ≡ true → (now : ℕ) → now < until → LeadToIdle (shard_at begin.shards index) calls now
leads_idle begin persistent key index until calls s key_is led stays idle now before =
    let same : s.index ≡ index = (let e = led.2 in omega (arith, e, key_is)) in record {
      shard = s;
      led = subst (λ (i : ℕ). OperationsLead ShardDoes calls (shard_at begin.shards i) s) same (shard_led persistent calls (shard_at begin.shards s.index) s led.3);
      idle = idle_before s until now stays idle before;
    }

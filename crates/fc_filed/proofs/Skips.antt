-- Skips: each shard that is skipped in a history is idle at that place of it.
use Rattle.std.proofs.Common.{◌≡◌, ◌⊎◌, Bool, true, false, List, [], ◌∷◌, ◌++◌, refl, sym, ap, subst, ⊎_elim, inl, inr}
use Rattle.std.specs.Prelude.{◌||◌}
use Rattle.fc_calls.specs.Logged.{SkipsIdle}
use Rattle.fc_linear.specs.Operations.{Operation, Logged, ServerPart, FrontPart, ShardPart, WordsPart, NoPart, is_for_job, is_locked, is_words, part_of}
use Rattle.fc_server.specs.States.{ServerState}
use Rattle.fc_filed.specs.declared.entry.FiledEntry.{FiledEntry}
use Rattle.fc_filed.specs.Idle.{AreSkipsIdle, IsIdleIfSkipped}

pub locked_no_words : (p : ServerPart) → is_locked p ≡ true → is_words p ≡ false
locked_no_words FrontPart is = refl
locked_no_words (ShardPart index) is = refl
locked_no_words WordsPart is = absurd (cc is)
locked_no_words NoPart is = refl

-- ---- an operation that is no skip

module _ (begin : ServerState) (log : List FiledEntry) where
  -- an operation of a part with a lock, or for a job, skips no shard.
  skips_none : (operation : Operation) → (is_locked (part_of operation) || is_for_job operation) ≡ true → IsIdleIfSkipped begin log operation
  skips_none (Logged (SkipsIdle shard now)) is = absurd (cc is)
  skips_none other is = tt

  or_right : (a b : Bool) → b ≡ true → (a || b) ≡ true
  or_right true b is = refl
  or_right false b is = is

  pub locked_skips_none : (operation : Operation) → is_locked (part_of operation) ≡ true → IsIdleIfSkipped begin log operation
  locked_skips_none operation is = skips_none operation (ap (λ (b : Bool). b || is_for_job operation) is)

  pub for_job_skips_none : (operation : Operation) → is_for_job operation ≡ true → IsIdleIfSkipped begin log operation
  for_job_skips_none operation is = skips_none operation (or_right (is_locked (part_of operation)) (is_for_job operation) is)

-- ---- one more entry

not_nil : (xs ys : List FiledEntry) (x : FiledEntry) → [] ≡ xs ++ x ∷ ys → ⊥
not_nil [] ys x is = absurd (cc is)
not_nil (y ∷ xs) ys x is = absurd (cc is)

-- a place in a list that ends with e is before e, or is that of e.
split_more : (log earlier later : List FiledEntry) (e x : FiledEntry) → log ++ e ∷ [] ≡ earlier ++ x ∷ later → ((earlier ≡ log) × (x ≡ e)) ⊎ ((rest : List FiledEntry) × (log ≡ earlier ++ x ∷ rest))
split_more [] [] later e x is = inl (refl, cc is)
split_more [] (y ∷ ys) later e x is = absurd (not_nil ys later x (cc is))
split_more (l ∷ ls) [] later e x is = let same : l ≡ x = cc is in inr (ls, ap (λ (y : FiledEntry). y ∷ ls) same)
split_more (l ∷ ls) (y ∷ ys) later e x is =
    let same : l ≡ y = cc is in
    let rest : ls ++ e ∷ [] ≡ ys ++ x ∷ later = cc is in
    ⊎_elim
    (λ (h : (ys ≡ ls) × (x ≡ e)). inl ((λ i. sym same i ∷ h.0 i), h.1))
    (λ (h : (zs : List FiledEntry) × (ls ≡ ys ++ x ∷ zs)). inr (h.0, (λ i. same i ∷ h.1 i)))
    (split_more ls ys later e x rest)

module _ (begin : ServerState) where
  pub none_skip : AreSkipsIdle begin []
  none_skip earlier later e is = absurd (not_nil earlier later e is)

  pub skips_more : (log : List FiledEntry) (e : FiledEntry) → AreSkipsIdle begin log → IsIdleIfSkipped begin log e.operation → AreSkipsIdle begin (log ++ e ∷ [])
  skips_more log e all last earlier later x is = ⊎_elim
      (λ (h : (earlier ≡ log) × (x ≡ e)). subst (λ (l : List FiledEntry). IsIdleIfSkipped begin l x.operation) (sym h.0) (subst (λ (y : FiledEntry). IsIdleIfSkipped begin log y.operation) (sym h.1) last))
      (λ (h : (rest : List FiledEntry) × (log ≡ earlier ++ x ∷ rest)). all earlier h.0 x h.1)
      (split_more log earlier later e x is)

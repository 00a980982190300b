use Rattle.std.proofs.Common.{◌≡◌, ◌∙◌, ℕ, ◌%◌, ◌+◌, List, [], ◌∷◌, Option, Some, None, refl, sym, ap, subst, arith}
use Rattle.fc_store.specs.Recovery.{Save}
use Rattle.fc_linear.specs.Operations.{ServerPart, ShardPart, WordsPart}
use Rattle.fc_filed.specs.declared.entry.FiledEntry.{FiledEntry}
use Rattle.fc_filed.specs.Recovered.{saves_onto, saves_of, with_save}
use Rattle.fc_filed.proofs.laws.saves_are_entries_of_two_parts.Goals as goal

index_of : ServerPart → ℕ
index_of (ShardPart i) = i
index_of other = 0

pub returns-clause-both : goal.returns-clause-both
returns-clause-both c = λ p. refl

pub returns-clause-words : goal.returns-clause-words
returns-clause-words c = λ u k. absurd (cc k.saved)

pub returns-clause-shard : goal.returns-clause-shard
unfolding index_of
returns-clause-shard c = λ job r at k.
    let same : job.origin.slot % 8 ≡ 13 % 8 = ap index_of k.saved in
    absurd (omega (arith, same, at))

pub returns-clause-newest : goal.returns-clause-newest
returns-clause-newest c = λ x y z s t a b e.
    ap (λ (o : Option Save). with_save z.save (with_save y.save (with_save o []))) a ∙ (ap (λ (o : Option Save). with_save z.save (with_save o (s ∷ []))) b ∙ ap (λ (o : Option Save). with_save o (s ∷ [])) e)

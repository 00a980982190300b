use Rattle.std.proofs.Common.{inl, inr, refl, sym, ap, lit<}
use Rattle.std.proofs.lemmas.Bool.{false≢true}
use Rattle.fc_store.specs.Stored.{StoredSlot}
use Rattle.fc_store.proofs.laws.refused_updates_may_be_found.Goals as goal

pub returns-clause-refused : goal.returns-clause-refused
returns-clause-refused c = λ a b slots found may. elim may [
  | inl stored ↦ inl (ap (λ (s : StoredSlot). s.serial) (stored 5 (lit< tt)))
  | inr refused ↦ elim refused.1 [
    | inl last ↦ inr (ap (λ (s : StoredSlot). s.serial) (last 5 (lit< tt)))
    | inr earlier ↦ absurd (false≢true (sym earlier.0))
  ]
]

pub returns-clause-may : goal.returns-clause-may
returns-clause-may c = λ a b slots. inr (refl, inl (λ n lt. refl))

pub returns-clause-alone : goal.returns-clause-alone
returns-clause-alone c = λ a b slots. inl (λ n lt. refl)

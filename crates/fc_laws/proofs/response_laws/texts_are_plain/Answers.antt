use Rattle.std.proofs.Common.{◌≡◌, ◌∷◌, [], arith}
use Rattle.std.specs.Fmt.{decimal}
use Rattle.std.proofs.lemmas.Fmt.{decimal_digit}
use Rattle.fc_laws.proofs.response_laws.texts_are_plain.Goals as goal

d0 : decimal 0 ≡ 48 ∷ []
d0 = decimal_digit 0 (omega arith)

d1 : decimal 1 ≡ 49 ∷ []
d1 = decimal_digit 1 (omega arith)

d2 : decimal 2 ≡ 50 ∷ []
d2 = decimal_digit 2 (omega arith)

d3 : decimal 3 ≡ 51 ∷ []
d3 = decimal_digit 3 (omega arith)

d5 : decimal 5 ≡ 53 ∷ []
d5 = decimal_digit 5 (omega arith)

d6 : decimal 6 ≡ 54 ∷ []
d6 = decimal_digit 6 (omega arith)

d7 : decimal 7 ≡ 55 ∷ []
d7 = decimal_digit 7 (omega arith)

d8 : decimal 8 ≡ 56 ∷ []
d8 = decimal_digit 8 (omega arith)

pub returns-clause-receipt : goal.returns-clause-receipt
returns-clause-receipt c = simp (d1, d2, d3, d8)

pub returns-clause-refusal : goal.returns-clause-refusal
returns-clause-refusal c = simp (d1, d6, d0)

pub returns-clause-early_refusal : goal.returns-clause-early_refusal
returns-clause-early_refusal c = simp (d0, d5, d7)

pub returns-clause-links : goal.returns-clause-links
returns-clause-links c = simp (d0, d3)

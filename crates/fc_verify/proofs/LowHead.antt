-- The rules of headers have numbers below 20.
use Rattle.std.proofs.Common.{◌≡◌, ℕ, ◌<◌, Bool, true, false, cond, List, Option, Some, None, subst, arith}
use Rattle.fc_isa.specs.declared.rule.Rule.{Rule}
use Rattle.fc_isa.specs.declared.rule.Rule.TheVariants.{Format, SlotCount, VarsSize, Budget, Reserved}
use Rattle.fc_isa.specs.Rules.{number_of}
use Rattle.fc_image.specs.Head.{head_fault, head_breaks}

abbrev LowRule : Option Rule → Type 0
LowRule None = Unit {0}
LowRule (Some r) = number_of r < 20

cond_low : (a : Bool) (x : Rule) (rest : Option Rule) → number_of x < 20 → LowRule rest → LowRule (cond a (Some x) rest)
cond_low true x rest lx lr = lx
cond_low false x rest lx lr = lr

head_low : (image : List ℕ) → LowRule (head_fault image)
head_low image =
    cond_low (head_breaks image Format) Format _ (omega arith) (cond_low (head_breaks image SlotCount) SlotCount _ (omega arith) (cond_low (head_breaks image VarsSize) VarsSize _ (omega arith)
    (cond_low (head_breaks image Budget) Budget _ (omega arith) (cond_low (head_breaks image Reserved) Reserved None (omega arith) tt))))

pub head_rule_low : (image : List ℕ) (rule : Rule) → head_fault image ≡ Some rule → number_of rule < 20
head_rule_low image rule e = subst LowRule e (head_low image)

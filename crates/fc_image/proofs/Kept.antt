-- The contents of a header that breaks no rule.
use Rattle.std.proofs.Common.{◌≡◌, ℕ, ◌+◌, ◌*◌, ◌%◌, ◌≤◌, ◌==◌, ◌&&◌, ◌||◌, not, Bool, true, false, cond, Some, None, List, length, refl, arith, nat_lt, nat_le}
use Rattle.std.proofs.lemmas.Bool.Decides.{nat_tests}
use Rattle.fc_isa.specs.declared.rule.Rule.{Rule}
use Rattle.fc_isa.specs.declared.rule.Rule.TheVariants.{Format, SlotCount, VarsSize, Budget, Reserved}
use Rattle.fc_image.specs.Head.{head_breaks, head_fault, stated, has_magic, slots_allowed}
use Rattle.fc_image.specs.Written.{KeepsHead}
use Rattle.fc_isa.proofs.Faultless.{none_of_five}

size_tells : (word : Bool) (n m : ℕ) → not ((nat_le 16 n && word) && (n == m)) ≡ false → n ≡ m
size_tells word n m h = grind (arith, nat_tests)

count_tells : (n most : ℕ) → ((n == 0) || nat_lt most n) ≡ false → (1 ≤ n) × (n ≤ most)
count_tells n most h = (grind (arith, nat_tests), grind (arith, nat_tests))

vars_tell : (n : ℕ) → (nat_lt 256 n || not (n % 8 == 0)) ≡ false → (n ≤ 256) × (n % 8 ≡ 0)
vars_tell n h = (grind (arith, nat_tests), grind (arith, nat_tests))

budget_tells : (n : ℕ) → ((n == 0) || nat_lt 65536 n) ≡ false → (1 ≤ n) × (n ≤ 65536)
budget_tells n h = (grind (arith, nat_tests), grind (arith, nat_tests))

pub head_kept : (image : List ℕ) → head_fault image ≡ None → KeepsHead image
unfolding head_breaks
head_kept image h =
    let p = none_of_five (head_breaks image Format) (head_breaks image SlotCount) (head_breaks image VarsSize) (head_breaks image Budget) (head_breaks image Reserved) Format SlotCount VarsSize Budget Reserved h in
    let count = count_tells (stated image).count (slots_allowed (stated image).version) p.1 in
    let vars = vars_tell (stated image).vars_size p.2 in
    let budget = budget_tells (stated image).budget p.3 in
    record {
      size = size_tells (has_magic image) (length image) (16 + 8 * (stated image).count) p.0;
      head = record { vars = vars.0; words = vars.1; some = count.0; count = count.1; steps = budget.0; budget = budget.1 };
    }

-- The encoding of a header is parsed as that header.
use Rattle.std.proofs.Common.{◌≡◌, ℕ, ◌+◌, ◌*◌, ◌%◌, ◌≤◌, ◌==◌, ◌&&◌, ◌||◌, not, Bool, true, false, cond, Some, None, List, ◌++◌, length, refl, ap, ◌∙◌, arith, nat_le}
use Rattle.std.specs.Int.{w16, w32, from_le_bytes, to_le_bytes}
use Rattle.std.proofs.lemmas.Bool.Decides.{nat_tests}
use Rattle.std.proofs.lemmas.Nat.{from_le_bytes-to_le_bytes_2, from_le_bytes-to_le_bytes_4}
use Rattle.fc_isa.specs.declared.rule.Rule.{Rule}
use Rattle.fc_isa.specs.declared.rule.Rule.TheVariants.{Format, SlotCount, VarsSize, Budget, Reserved}
use Rattle.fc_isa.specs.declared.version.ImageVersion.{ImageVersion}
use Rattle.fc_isa.specs.declared.version.ImageVersion.TheVariants.{One, Two}
use Rattle.fc_image.specs.Head.{Head, slots_allowed, version_of, head_breaks, head_fault, stated, has_magic, is_bad_count, is_bad_size, is_bad_budget}
use Rattle.fc_image.specs.Written.{IsHead, digit_of, head_bytes}

pub few_slots : (version : ImageVersion) (n : ℕ) → n ≤ slots_allowed version → n ≤ 1024
few_slots One n le = omega (arith, le)
few_slots Two n le = omega (arith, le)

version_back : (version : ImageVersion) → version_of (digit_of version) ≡ version
version_back One = refl
version_back Two = refl

magic_known : (version : ImageVersion) → ((digit_of version == 49) || (digit_of version == 50)) ≡ true
magic_known One = refl
magic_known Two = refl

pub stated_written : (h : Head) (slots : List ℕ) → IsHead h → stated (head_bytes h ++ slots) ≡ h
stated_written h slots k =
    let vars : from_le_bytes w16 (to_le_bytes w16 h.vars_size) ≡ h.vars_size = from_le_bytes-to_le_bytes_2 h.vars_size (omega (arith, k.vars)) in
    let count : from_le_bytes w16 (to_le_bytes w16 h.count) ≡ h.count = from_le_bytes-to_le_bytes_2 h.count (omega (arith, few_slots h.version h.count k.count)) in
    let budget : from_le_bytes w32 (to_le_bytes w32 h.budget) ≡ h.budget = from_le_bytes-to_le_bytes_4 h.budget (omega (arith, k.budget)) in
    rw (vars, count, budget) (ap (λ (v : ImageVersion). record h { version = v }) (version_back h.version))

has_size : (word : Bool) (n count : ℕ) → word ≡ true → n ≡ 16 + 8 * count → not ((nat_le 16 n && word) && (n == 16 + 8 * count)) ≡ false
has_size word n count e f = rw e (grind (arith, nat_tests))

good_count : (version : ImageVersion) (n : ℕ) → 1 ≤ n → n ≤ slots_allowed version → is_bad_count version n ≡ false
good_count version n l h = grind (arith, nat_tests)

good_size : (n : ℕ) → n ≤ 256 → n % 8 ≡ 0 → is_bad_size n ≡ false
good_size n l h = grind (arith, nat_tests)

good_budget : (n : ℕ) → 1 ≤ n → n ≤ 65536 → is_bad_budget n ≡ false
good_budget n l h = grind (arith, nat_tests)

none_by_five : (a b c d e : Bool) (x y z v w : Rule) → a ≡ false → b ≡ false → c ≡ false → d ≡ false → e ≡ false
    → cond a (Some x) (cond b (Some y) (cond c (Some z) (cond d (Some v) (cond e (Some w) None)))) ≡ None
none_by_five a b c d e x y z v w ea eb ec ed ee = rw (ea, eb, ec, ed, ee) refl

pub faultless_written : (h : Head) (slots : List ℕ) → IsHead h → length slots ≡ 8 * h.count → head_fault (head_bytes h ++ slots) ≡ None
unfolding head_breaks
faultless_written h slots k l =
    let image = head_bytes h ++ slots in
    let e = stated_written h slots k in
    none_by_five (head_breaks image Format) (head_breaks image SlotCount) (head_breaks image VarsSize) (head_breaks image Budget) (head_breaks image Reserved) Format SlotCount VarsSize Budget Reserved
    (ap (λ s. not ((nat_le 16 (length image) && has_magic image) && (length image == 16 + 8 * s.count))) e ∙ has_size (has_magic image) (length image) h.count (magic_known h.version) (omega (arith, l)))
    (ap (λ s. is_bad_count s.version s.count) e ∙ good_count h.version h.count k.some k.count)
    (ap (λ s. is_bad_size s.vars_size) e ∙ good_size h.vars_size k.vars k.words)
    (ap (λ s. is_bad_budget s.budget) e ∙ good_budget h.budget k.steps k.budget)
    refl

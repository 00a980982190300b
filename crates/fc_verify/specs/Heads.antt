-- The states at the heads of counted loops.
use Rattle.std.specs.Prelude.{◌≡◌, ◌≢◌, ℕ, ◌+◌, ◌-◌, ◌≤◌, ◌==◌, ◌||◌, ◌&&◌, ◌⊎◌, Bool, true, false, nat_lt, nat_le, max, if◌then◌else◌, List, [], ◌∷◌, Option, Some, None}
use Rattle.fc_isa.specs.declared.insn.Insn.{Insn}
use Rattle.fc_image.specs.declared.loops.Loop.{Loop}
use Rattle.fc_image.specs.Loops.{is_in, is_written, has_call}
use Rattle.fc_image.specs.LoopLaws.{IsLoop}
use Rattle.fc_kinds.specs.declared.kind.Kind.{Kind}
use Rattle.fc_kinds.specs.declared.kind.Kind.TheVariants.{Unset, Num}
use Rattle.fc_kinds.specs.Kinds.{kind_at}
use Rattle.fc_kinds.specs.Transfer.{is_number, where_met}

-- the loop, if there is one, is a loop of the program.
abbrev pub IsLoopOf : List Insn → Option Loop → Type 0
IsLoopOf code None = Unit {0}
IsLoopOf code (Some l) = IsLoop code l

-- ---- the state at a head

abbrev pub IsAnyNumber : Kind → Type 0
IsAnyNumber k = (k ≡ Num 0 18446744073709551615) ⊎ (k ≡ Unset)

-- a state that a head may have. The counter is below the bound, and each other register that the
-- body writes is unset or any number. If the body has a call, R1 to R5 are unset.
pub record IsHeadState (code : List Insn) (l : Loop) (kinds : List Kind) : Type 0 where
  pub counter : kind_at kinds l.counter ≡ Num 0 (l.bound - 1)
  pub written : (r : ℕ) → r ≢ l.counter → is_written code l r ≡ true → IsAnyNumber (kind_at kinds r)
  pub cleared : has_call code l ≡ true → (r : ℕ) → r ≢ l.counter → 1 ≤ r → r ≤ 5 → kind_at kinds r ≡ Unset

-- `formed` is the least such state that contains the state on entry.
abbrev pub any_number : Kind → Kind
any_number (Num lo hi) = Num 0 18446744073709551615
any_number k = Unset

abbrev pub formed_kind : List Insn → Loop → ℕ → Kind → Kind
formed_kind code l r k =
    if r == l.counter then Num 0 (l.bound - 1) else (
    if has_call code l && (nat_le 1 r && nat_le r 5) then Unset else (
    if is_written code l r then any_number k else k))

abbrev pub formed : List Insn → Loop → List Kind → List Kind
formed code l kinds =
    formed_kind code l 0 (kind_at kinds 0) ∷ formed_kind code l 1 (kind_at kinds 1) ∷ formed_kind code l 2 (kind_at kinds 2)
    ∷ formed_kind code l 3 (kind_at kinds 3) ∷ formed_kind code l 4 (kind_at kinds 4) ∷ formed_kind code l 5 (kind_at kinds 5)
    ∷ formed_kind code l 6 (kind_at kinds 6) ∷ formed_kind code l 7 (kind_at kinds 7) ∷ formed_kind code l 8 (kind_at kinds 8)
    ∷ formed_kind code l 9 (kind_at kinds 9) ∷ formed_kind code l 10 (kind_at kinds 10) ∷ []

-- the counter starts below the bound.
abbrev pub enters : Loop → Kind → Bool
enters l (Num lo hi) = nat_lt hi l.bound
enters l k = false

-- the state of a slot in the pass. At the head of a loop it is the loop invariant, or `None` if the
-- loop's counter doesn't start below the bound.
unfoldable pub settled : List Insn → Option Loop → List Kind → Option (List Kind)
settled code None kinds = Some kinds
settled code (Some l) kinds = where_met (enters l (kind_at kinds l.counter)) (formed code l kinds)

-- the register that an instruction computes, if any, is a number.
abbrev pub gives_number : Option ℕ → List Kind → Bool
gives_number None after = true
gives_number (Some dst) after = is_number (kind_at after dst)

abbrev pub is_inside : List Loop → ℕ → Bool
is_inside [] slot = false
is_inside (l ∷ loops) slot = is_in l slot || is_inside loops slot

-- the slot after the last of the bodies that begin so far, including the body of the loop that
-- begins at a slot.
abbrev pub reached : ℕ → Option Loop → ℕ
reached reach None = reach
reached reach (Some l) = max reach (l.last + 1)

-- Programs with and without a typing, by computation.
use Rattle.std.proofs.Common.{◌≡◌, ℕ, ℤ, pos, negsuc, Bool, true, false, List, [], ◌∷◌, refl}
use Rattle.fc_isa.specs.declared.insn.Width.TheVariants.{W32, W64}
use Rattle.fc_isa.specs.declared.insn.AluOp.TheVariants.{Add, Mov}
use Rattle.fc_isa.specs.declared.insn.Relation.TheVariants.{Eq, Gt}
use Rattle.fc_isa.specs.declared.insn.Operand.TheVariants.{Imm, Reg}
use Rattle.fc_isa.specs.declared.insn.Size.TheVariants.{Byte, DoubleWord}
use Rattle.fc_isa.specs.declared.insn.Insn.{Insn}
use Rattle.fc_isa.specs.declared.insn.Insn.TheVariants.{Alu, LoadWide, WideSecond, StoreImm, Store, JumpIf, CallHelper, CallLocal, Exit}
use Rattle.fc_isa.specs.declared.insn.Width.{Width}
use Rattle.fc_kinds.specs.Intervals.{interval_of, alu_interval, refined}
use Rattle.fc_kinds.specs.Transfer.{transfer, alu_kind}
use Rattle.fc_kinds.specs.Refinement.{when}
use Rattle.fc_isa.specs.declared.version.ImageVersion.TheVariants.{One}
use Rattle.fc_verify.specs.Heads.{settled}
use Rattle.fc_verify.specs.Pass.{pass_from, is_typable}
use Rattle.fc_image.specs.Loops.{loops_of}
use Rattle.fc_image.specs.Paths.{costs, cost_in, longest}

abbrev zero_and_exit : List Insn
zero_and_exit = Alu Mov W64 0 (Imm (pos 0)) ∷ Exit ∷ []

abbrev never : Width → List Insn
never width = LoadWide 5 18446744073709551615 ∷ WideSecond ∷ JumpIf (record { width = width; relation = Gt; left = 3; right = Reg 5; offset = pos 1 }) ∷ Alu Mov W64 0 (Imm (pos 0)) ∷ Exit ∷ []

first_row : (is_typable One 0 (never W64) ≡ true) × (is_typable One 0 (never W32) ≡ false) × (longest One (never W64) ≡ 4)
unfolding transfer when alu_kind interval_of alu_interval refined settled pass_from costs cost_in loops_of longest
first_row = (refl, refl, refl)

abbrev byte : ℤ → List Insn
byte offset = StoreImm Byte 10 offset (pos 0) ∷ Alu Mov W64 0 (Imm (pos 0)) ∷ Exit ∷ []

second_row : (is_typable One 0 (byte (negsuc 255)) ≡ true) × (is_typable One 0 (byte (negsuc 256)) ≡ false) × (is_typable One 0 (byte (pos 0)) ≡ false)
unfolding transfer when alu_kind interval_of alu_interval refined settled pass_from costs cost_in loops_of longest
second_row = (refl, refl, refl)

abbrev start : Insn → List Insn
start insn = insn ∷ Alu Mov W64 0 (Imm (pos 0)) ∷ Exit ∷ []

abbrev is_accepted : Insn → Bool
is_accepted insn = is_typable One 0 (start insn)

third_row : (is_accepted (StoreImm Byte 1 (pos 0) (pos 0)) ≡ false) × (is_accepted (Store DoubleWord 10 (negsuc 7) 1) ≡ false) × (is_accepted (Alu Add W64 1 (Imm (pos 65536))) ≡ true) × (is_accepted (Alu Add W64 1 (Imm (pos 65537))) ≡ false) × (is_accepted (Alu Mov W32 4 (Reg 1)) ≡ false)
unfolding transfer when alu_kind interval_of alu_interval refined settled pass_from costs cost_in loops_of longest
third_row = (refl, refl, refl, refl, refl)

abbrev joins : Insn → List Insn
joins last = Alu Mov W64 6 (Reg 1) ∷ JumpIf (record { width = W64; relation = Eq; left = 3; right = Imm (pos 0); offset = pos 1 }) ∷ Alu Mov W64 6 (Imm (pos 0)) ∷ last ∷ Exit ∷ []

-- R6 is unset after a join
thirteenth : (is_typable One 0 (joins (Alu Mov W64 0 (Imm (pos 0)))) ≡ true) × (is_typable One 0 (joins (Alu Mov W64 0 (Reg 6))) ≡ false) × (longest One (joins (Alu Mov W64 0 (Imm (pos 0)))) ≡ 5)
unfolding transfer when alu_kind interval_of alu_interval refined settled pass_from costs cost_in loops_of longest
thirteenth = (refl, refl, refl)

-- ---- calls

abbrev types : List Insn → Bool
types code = is_typable One 8 code

abbrev fixed : ℕ → ℤ → Insn
fixed r k = Alu Mov W64 r (Imm k)

abbrev moves : ℕ → ℕ → Insn
moves r q = Alu Mov W64 r (Reg q)

-- a program that counts the requests in the first word of the variables
abbrev counter : List Insn
counter = fixed 1 (pos 0) ∷ CallHelper (pos 3) ∷ Alu Add W64 0 (Imm (pos 1)) ∷ moves 2 0 ∷ fixed 1 (pos 0) ∷ CallHelper (pos 4) ∷ CallHelper (pos 7) ∷ fixed 0 (pos 0) ∷ Exit ∷ []

counter_row : (types counter ≡ true) × (longest One counter ≡ 9)
unfolding transfer when alu_kind interval_of alu_interval refined settled pass_from costs cost_in loops_of longest
counter_row = (refl, refl)

-- a program that sets R1 and R6, calls the function `body`, and returns R6
abbrev calling : List Insn → List Insn
calling body = fixed 1 (pos 1) ∷ fixed 6 (pos 6) ∷ CallLocal (pos 2) ∷ moves 0 6 ∷ Exit ∷ body

-- a function finds the caller's R1, but not R6 or R0; its exit requires a number in R0 too
functions_find : (types (calling (moves 0 1 ∷ Exit ∷ [])) ≡ true) × (types (calling (moves 0 6 ∷ Exit ∷ [])) ≡ false) × (types (calling (Exit ∷ [])) ≡ false) × (types (calling (moves 0 10 ∷ Exit ∷ [])) ≡ false)
unfolding transfer when alu_kind interval_of alu_interval refined settled pass_from costs cost_in loops_of longest
functions_find = (refl, refl, refl, refl)

-- a program that returns a register after a call: R1 is unset, and R6 is saved
abbrev after : ℕ → List Insn
after r = fixed 1 (pos 1) ∷ fixed 6 (pos 6) ∷ CallLocal (pos 2) ∷ moves 0 r ∷ Exit ∷ fixed 0 (pos 0) ∷ Exit ∷ []

calls_keep : (types (after 6) ≡ true) × (types (after 1) ≡ false) × (types (after 0) ≡ true)
unfolding transfer when alu_kind interval_of alu_interval refined settled pass_from costs cost_in loops_of longest
calls_keep = (refl, refl, refl)

-- a function called twice finds the join of both calls: two numbers, or a number and a pointer
abbrev twice : Insn → List Insn
twice second = fixed 1 (pos 1) ∷ CallLocal (pos 3) ∷ second ∷ CallLocal (pos 1) ∷ Exit ∷ moves 0 1 ∷ Exit ∷ []

callers_are_joined : (types (twice (fixed 1 (pos 2))) ≡ true) × (types (twice (moves 1 10)) ≡ false) × (longest One (twice (fixed 1 (pos 2))) ≡ 9)
unfolding transfer when alu_kind interval_of alu_interval refined settled pass_from costs cost_in loops_of longest
callers_are_joined = (refl, refl, refl)

-- a function may write to its caller's frame, which is one level above its own
abbrev frames_of : ℤ → List Insn
frames_of offset = moves 1 10 ∷ CallLocal (pos 1) ∷ Exit ∷ StoreImm Byte 1 offset (pos 0) ∷ StoreImm Byte 10 (negsuc 255) (pos 0) ∷ fixed 0 (pos 0) ∷ Exit ∷ []

frames_are_apart : (types (frames_of (negsuc 255)) ≡ true) × (types (frames_of (negsuc 256)) ≡ false) × (types (frames_of (pos 0)) ≡ false)
unfolding transfer when alu_kind interval_of alu_interval refined settled pass_from costs cost_in loops_of longest
frames_are_apart = (refl, refl, refl)

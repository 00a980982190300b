-- Worked examples of the effects of instructions and helpers, and of the meanings of programs.
use Rattle.std.proofs.Common.{◌≡◌, ℕ, Bool, true, false, List, [], ◌∷◌, ◌++◌, Option, None, Some, refl}
use Rattle.std.specs.Prelude.{ℤ, pos, negsuc, filter, take, drop, replicate, is_some}
use Rattle.fc_isa.specs.declared.insn.AluOp.{AluOp}
use Rattle.fc_isa.specs.declared.insn.AluOp.TheVariants.{Add, Sub, Mov}
use Rattle.fc_isa.specs.declared.insn.Width.{Width}
use Rattle.fc_isa.specs.declared.insn.Width.TheVariants.{W32, W64}
use Rattle.fc_isa.specs.declared.insn.Operand.{Operand}
use Rattle.fc_isa.specs.declared.insn.Operand.TheVariants.{Imm, Reg}
use Rattle.fc_isa.specs.declared.insn.SignExtension.TheVariants as extension
use Rattle.fc_isa.specs.declared.insn.ByteOrder.TheVariants.{Little, Swapped}
use Rattle.fc_isa.specs.declared.insn.SwapWidth.TheVariants.{S64}
use Rattle.fc_isa.specs.declared.insn.Size.TheVariants.{Byte, HalfWord, Word, DoubleWord}
use Rattle.fc_isa.specs.declared.insn.LoadType.{LoadType}
use Rattle.fc_isa.specs.declared.insn.LoadType.TheVariants.{Unsigned, SignedByte, SignedHalfWord, SignedWord}
use Rattle.fc_isa.specs.declared.insn.Relation.{Relation}
use Rattle.fc_isa.specs.declared.insn.Relation.TheVariants.{Eq, Gt, Ne, Sgt, Slt}
use Rattle.fc_isa.specs.declared.insn.UnaryOp.TheVariants.{Neg, End}
use Rattle.fc_isa.specs.declared.insn.Insn.{Insn}
use Rattle.fc_isa.specs.declared.insn.Insn.TheVariants.{Alu, Unary, SignExtend, LoadWide, WideSecond, Load, StoreImm, Store, JumpAlways, JumpAlwaysLong, JumpIf, CallHelper, CallLocal, Exit}
use Rattle.fc_alu.specs.Arithmetic.{computed, computed_at}
use Rattle.fc_alu.specs.Comparison.{compared, holds}
use Rattle.fc_help.specs.declared.request.Method.{Method}
use Rattle.fc_help.specs.declared.request.Method.TheVariants.{Get, Post}
use Rattle.fc_help.specs.declared.helper.Helper.{Helper}
use Rattle.fc_help.specs.declared.helper.Helper.TheVariants.{PayloadLen, PayloadByte, VarGet, VarPut, ReplyPut, ReplyByte, Notify}
use Rattle.fc_help.specs.Request.{Request}
use Rattle.fc_help.specs.Layout.{request_with}
use Rattle.fc_help.specs.Region.{region_of, no_readings, readings_region}
use Rattle.fc_kinds.specs.Values.{Value, Number, Pointer, Unset, Frame, Asked, Variables, Readings, value_at}
use Rattle.fc_kinds.specs.Operations.{result_of}
use Rattle.fc_kinds.specs.Execution.{Config, act, helped, loaded_number, step}
use Rattle.fc_isa.specs.declared.version.ImageVersion.TheVariants.{One, Two}
use Rattle.fc_kinds.specs.Meaning.{Meaning, input_with, meant, start}
use Rattle.fc_kinds.proofs.Rows.{operations}

abbrev says : List ℕ → Request
says payload = request_with Post 1 None [] payload

-- the meaning for a POST of this payload, with one word of variables
abbrev means : List Insn → List ℕ → List ℕ → Meaning
means code payload vars = meant (record { version = One; code = code; vars_size = 8; budget = 16; cost = 16 }) (input_with (says payload) vars no_readings)

abbrev set : ℕ → ℤ → Insn
set r k = Alu Mov W64 r (Imm k)

abbrev copy : ℕ → ℕ → Insn
copy r q = Alu Mov W64 r (Reg q)

abbrev result : ℕ → List ℕ → List ℕ → Meaning
result steps reply vars = record { code = 68; reply = reply; vars = vars; notice = false; steps = steps }

abbrev one : List ℕ
one = 1 ∷ 0 ∷ 0 ∷ 0 ∷ 0 ∷ 0 ∷ 0 ∷ 0 ∷ []

abbrev none : List ℕ
none = 0 ∷ 0 ∷ 0 ∷ 0 ∷ 0 ∷ 0 ∷ 0 ∷ 0 ∷ []

-- a program that counts the requests in the first word, and sets the notify flag
abbrev count : List Insn
count = set 1 (pos 0) ∷ CallHelper (pos 3) ∷ Alu Add W64 0 (Imm (pos 1)) ∷ copy 2 0 ∷ set 1 (pos 0) ∷ CallHelper (pos 4) ∷ CallHelper (pos 7) ∷ set 0 (pos 0) ∷ Exit ∷ []

counts : means count [] none ≡ record { code = 68; reply = []; vars = one; notice = true; steps = 9 }
unfolding meant step act helped result_of computed_at computed
counts = refl

-- a program whose code is byte i of the payload; past the payload's end the code is 5.00
abbrev byte_of : ℤ → List Insn
byte_of i = set 1 i ∷ CallHelper (pos 2) ∷ Exit ∷ []

bytes_are_read : (means (byte_of (pos 1)) (7 ∷ 128 ∷ []) none ≡ record { code = 128; reply = []; vars = none; notice = false; steps = 3 }) × (means (byte_of (pos 2)) (7 ∷ 128 ∷ []) none ≡ record { code = 160; reply = []; vars = none; notice = false; steps = 3 })
unfolding meant step act helped result_of computed_at computed
bytes_are_read = (refl, refl)

-- a program that replies with two bytes of the variables and one more byte
abbrev replies : List Insn
replies = copy 1 2 ∷ set 2 (pos 2) ∷ CallHelper (pos 5) ∷ set 1 (pos 321) ∷ CallHelper (pos 6) ∷ set 0 (pos 0) ∷ Exit ∷ []

bytes_are_added : means replies [] one ≡ result 7 (1 ∷ 0 ∷ 65 ∷ []) one
unfolding meant step act helped result_of computed_at computed
bytes_are_added = refl

-- a program that tries to write a word past the end of the variables
abbrev past : List Insn
past = set 1 (pos 1) ∷ set 2 (pos 9) ∷ CallHelper (pos 4) ∷ Exit ∷ []

past_the_end : means past [] one ≡ result 4 [] one
unfolding meant step act helped result_of computed_at computed
past_the_end = refl

-- a program with a local call: R6 and R10 are saved, and the callee's frame is fresh. The byte that
-- the caller stored in its own frame is zero in that of the callee
abbrev called : List Insn
called =
    StoreImm Byte 10 (negsuc 0) (pos 5) ∷ set 6 (pos 0) ∷ CallLocal (pos 4) ∷ Load (Unsigned Byte) 1 10 (negsuc 0) ∷ CallHelper (pos 6) ∷ copy 0 6 ∷ Exit
    ∷ Load (Unsigned Byte) 1 10 (negsuc 0) ∷ CallHelper (pos 6) ∷ set 6 (pos 9) ∷ StoreImm Byte 10 (negsuc 0) (pos 7) ∷ Exit ∷ []

frames_are_fresh : means called [] none ≡ result 12 (0 ∷ 5 ∷ []) none
unfolding meant step act helped result_of computed_at computed
frames_are_fresh = refl

-- ---- the code of the reply

-- 133 (4.05) isn't an allowed code
method_not_allowed_is_no_answer : (means (set 0 (pos 133) ∷ Exit ∷ []) [] none).code ≡ 160
unfolding meant step act helped result_of computed_at computed
method_not_allowed_is_no_answer = refl

-- ---- loads and stores

-- the meaning of programs that store -1 in eight bytes, load a part of it with its sign, and add
-- 129. The part is all ones, so the sum is 128
abbrev refused : Meaning
refused = record { code = 128; reply = []; vars = none; notice = false; steps = 4 }

abbrev signs : LoadType → List Insn
signs l = StoreImm DoubleWord 10 (negsuc 7) (negsuc 0) ∷ Load l 0 10 (negsuc 7) ∷ Alu Add W64 0 (Imm (pos 129)) ∷ Exit ∷ []

signs_are_extended : (means (signs (Unsigned DoubleWord)) [] none ≡ refused) × (means (signs SignedByte) [] none ≡ refused) × (means (signs SignedHalfWord) [] none ≡ refused) × (means (signs SignedWord) [] none ≡ refused)
unfolding meant step act helped result_of computed_at computed
signs_are_extended = (refl, refl, refl, refl)

-- the least significant byte comes first; the sign is the last byte's highest bit
ends_of_loaded_numbers : (loaded_number SignedByte (127 ∷ []) ≡ 127) × (loaded_number SignedByte (128 ∷ []) ≡ 18446744073709551488) × (loaded_number SignedHalfWord (255 ∷ 127 ∷ []) ≡ 32767)
    × (loaded_number SignedHalfWord (0 ∷ 128 ∷ []) ≡ 18446744073709518848) × (loaded_number SignedWord (255 ∷ 255 ∷ 255 ∷ 127 ∷ []) ≡ 2147483647) × (loaded_number SignedWord (0 ∷ 0 ∷ 0 ∷ 128 ∷ []) ≡ 18446744071562067968)
    × (loaded_number (Unsigned Byte) (128 ∷ []) ≡ 128) × (loaded_number (Unsigned HalfWord) (1 ∷ 128 ∷ []) ≡ 32769) × (loaded_number (Unsigned Word) (1 ∷ 1 ∷ 1 ∷ 128 ∷ []) ≡ 2147549441)
    × (loaded_number (Unsigned DoubleWord) (1 ∷ 1 ∷ 1 ∷ 1 ∷ 1 ∷ 1 ∷ 1 ∷ 128 ∷ []) ≡ 9223654615654924545)
ends_of_loaded_numbers = (refl, refl, refl, refl, refl, refl, refl, refl, refl, refl)

-- a program whose reply is ten zeros of the frame, with an instruction's store at the second of
-- them
abbrev storing : Insn → List Insn
storing store =
    LoadWide 6 1234605616436508552 ∷ WideSecond ∷ store ∷ copy 1 10 ∷ Alu Add W64 1 (Imm (negsuc 9)) ∷ set 2 (pos 10) ∷ CallHelper (pos 5) ∷ set 0 (pos 0) ∷ Exit ∷ []

abbrev frame_after : Insn → List ℕ
frame_after store = (means (storing store) [] none).reply

stores_write_their_bytes : (frame_after (Store Byte 10 (negsuc 8) 6) ≡ 0 ∷ 136 ∷ 0 ∷ 0 ∷ 0 ∷ 0 ∷ 0 ∷ 0 ∷ 0 ∷ 0 ∷ []) × (frame_after (Store HalfWord 10 (negsuc 8) 6) ≡ 0 ∷ 136 ∷ 119 ∷ 0 ∷ 0 ∷ 0 ∷ 0 ∷ 0 ∷ 0 ∷ 0 ∷ [])
    × (frame_after (Store Word 10 (negsuc 8) 6) ≡ 0 ∷ 136 ∷ 119 ∷ 102 ∷ 85 ∷ 0 ∷ 0 ∷ 0 ∷ 0 ∷ 0 ∷ []) × (frame_after (Store DoubleWord 10 (negsuc 8) 6) ≡ 0 ∷ 136 ∷ 119 ∷ 102 ∷ 85 ∷ 68 ∷ 51 ∷ 34 ∷ 17 ∷ 0 ∷ [])
    × (frame_after (StoreImm Byte 10 (negsuc 8) (negsuc 1)) ≡ 0 ∷ 254 ∷ 0 ∷ 0 ∷ 0 ∷ 0 ∷ 0 ∷ 0 ∷ 0 ∷ 0 ∷ []) × (frame_after (StoreImm HalfWord 10 (negsuc 8) (negsuc 1)) ≡ 0 ∷ 254 ∷ 255 ∷ 0 ∷ 0 ∷ 0 ∷ 0 ∷ 0 ∷ 0 ∷ 0 ∷ [])
    × (frame_after (StoreImm Word 10 (negsuc 8) (negsuc 1)) ≡ 0 ∷ 254 ∷ 255 ∷ 255 ∷ 255 ∷ 0 ∷ 0 ∷ 0 ∷ 0 ∷ 0 ∷ [])
    × (frame_after (StoreImm DoubleWord 10 (negsuc 8) (negsuc 1)) ≡ 0 ∷ 254 ∷ 255 ∷ 255 ∷ 255 ∷ 255 ∷ 255 ∷ 255 ∷ 255 ∷ 0 ∷ []) × (frame_after (StoreImm DoubleWord 10 (negsuc 8) (pos 258)) ≡ 0 ∷ 2 ∷ 1 ∷ 0 ∷ 0 ∷ 0 ∷ 0 ∷ 0 ∷ 0 ∷ 0 ∷ [])
unfolding meant step act helped result_of computed_at computed
stores_write_their_bytes = (refl, refl, refl, refl, refl, refl, refl, refl, refl)

-- a program that loads from the second of eight bytes and a zero in the frame, and stores the
-- result in the variables
abbrev loading : LoadType → List Insn
loading l = LoadWide 6 1234605616436508552 ∷ WideSecond ∷ Store DoubleWord 10 (negsuc 8) 6 ∷ Load l 7 10 (negsuc 7) ∷ Store DoubleWord 2 (pos 0) 7 ∷ set 0 (pos 0) ∷ Exit ∷ []

loads_read_their_bytes : ((means (loading (Unsigned Byte)) [] none).vars ≡ 119 ∷ 0 ∷ 0 ∷ 0 ∷ 0 ∷ 0 ∷ 0 ∷ 0 ∷ []) × ((means (loading (Unsigned HalfWord)) [] none).vars ≡ 119 ∷ 102 ∷ 0 ∷ 0 ∷ 0 ∷ 0 ∷ 0 ∷ 0 ∷ [])
    × ((means (loading (Unsigned Word)) [] none).vars ≡ 119 ∷ 102 ∷ 85 ∷ 68 ∷ 0 ∷ 0 ∷ 0 ∷ 0 ∷ []) × ((means (loading (Unsigned DoubleWord)) [] none).vars ≡ 119 ∷ 102 ∷ 85 ∷ 68 ∷ 51 ∷ 34 ∷ 17 ∷ 0 ∷ [])
    × ((means (loading SignedByte) [] none).vars ≡ 119 ∷ 0 ∷ 0 ∷ 0 ∷ 0 ∷ 0 ∷ 0 ∷ 0 ∷ []) × ((means (loading SignedHalfWord) [] none).vars ≡ 119 ∷ 102 ∷ 0 ∷ 0 ∷ 0 ∷ 0 ∷ 0 ∷ 0 ∷ [])
    × ((means (loading SignedWord) [] none).vars ≡ 119 ∷ 102 ∷ 85 ∷ 68 ∷ 0 ∷ 0 ∷ 0 ∷ 0 ∷ [])
unfolding meant step act helped result_of computed_at computed
loads_read_their_bytes = (refl, refl, refl, refl, refl, refl, refl)

-- ---- jumps: the reply shows which of two calls after a jump are run; R7 is all ones

abbrev says_byte : ℤ → List Insn
says_byte b = set 1 b ∷ CallHelper (pos 6) ∷ []

abbrev jumping : Insn → List Insn
jumping jump = LoadWide 7 18446744073709551615 ∷ WideSecond ∷ jump ∷ says_byte (pos 1) ++ (says_byte (pos 2) ++ (set 0 (pos 0) ∷ Exit ∷ []))

abbrev ways_on : Insn → List ℕ
ways_on jump = (means (jumping jump) [] none).reply

abbrev jumps_if : Relation → Width → Operand → Insn
jumps_if relation width right = JumpIf (record { width = width; relation = relation; left = 7; right = right; offset = pos 2 })

jumps_lead_on : (ways_on (JumpAlways (pos 0)) ≡ 1 ∷ 2 ∷ []) × (ways_on (JumpAlways (pos 2)) ≡ 2 ∷ []) × (ways_on (JumpAlways (pos 4)) ≡ []) × (ways_on (JumpAlwaysLong (pos 2)) ≡ 2 ∷ []) × (ways_on (jumps_if Eq W64 (Imm (negsuc 0))) ≡ 2 ∷ [])
    × (ways_on (jumps_if Eq W32 (Imm (negsuc 0))) ≡ 2 ∷ []) × (ways_on (jumps_if Ne W64 (Imm (negsuc 0))) ≡ 1 ∷ 2 ∷ []) × (ways_on (jumps_if Gt W64 (Imm (negsuc 1))) ≡ 2 ∷ []) × (ways_on (jumps_if Slt W64 (Imm (pos 0))) ≡ 2 ∷ [])
    × (ways_on (jumps_if Slt W32 (Imm (negsuc 0))) ≡ 1 ∷ 2 ∷ []) × (ways_on (jumps_if Gt W64 (Reg 3)) ≡ 2 ∷ []) × (ways_on (jumps_if Eq W64 (Reg 3)) ≡ 1 ∷ 2 ∷ [])
unfolding meant step act helped result_of computed_at computed compared holds
jumps_lead_on = (refl, refl, refl, refl, refl, refl, refl, refl, refl, refl, refl, refl)

-- ---- helpers, at two words of variables and a payload of two bytes

abbrev words : List ℕ
words = 1 ∷ 2 ∷ 3 ∷ 4 ∷ 5 ∷ 6 ∷ 7 ∷ 8 ∷ 255 ∷ 255 ∷ 255 ∷ 255 ∷ 255 ∷ 255 ∷ 255 ∷ 255 ∷ []

-- a run with this many bytes in its reply, and these values in R1 and R2, and in R6
abbrev before : Method → ℕ → Value → Value → Config
before method added a b =
    record (start One (input_with (request_with method 1 None [] (7 ∷ 128 ∷ [])) words no_readings)) {
      regs = Unset ∷ a ∷ b ∷ Number 3 ∷ Number 4 ∷ Number 5 ∷ Number 6 ∷ Pointer Asked (pos 0) ∷ Number 8 ∷ Number 9 ∷ Pointer (Frame 0) (pos 256) ∷ [];
      reply = replicate added 1;
    }

abbrev answer_in : Option Config → Option Value
answer_in None = None
answer_in (Some c) = Some (value_at c.regs 0)

abbrev answer : Helper → Value → Value → Option Value
answer helper a b = answer_in (helped (before Post 0 a b) helper)

helpers_answer : (answer PayloadLen Unset Unset ≡ Some (Number 2)) × (answer PayloadByte (Number 0) Unset ≡ Some (Number 7)) × (answer PayloadByte (Number 1) Unset ≡ Some (Number 128))
    × (answer PayloadByte (Number 2) Unset ≡ Some (Number 18446744073709551615)) × (answer PayloadByte (Number 18446744073709551615) Unset ≡ Some (Number 18446744073709551615))
    × (answer VarGet (Number 0) Unset ≡ Some (Number 578437695752307201)) × (answer VarGet (Number 1) Unset ≡ Some (Number 18446744073709551615)) × (answer VarGet (Number 2) Unset ≡ Some (Number 0))
    × (answer VarGet (Number 2305843009213693952) Unset ≡ Some (Number 0)) × (answer VarPut (Number 1) (Number 9) ≡ Some (Number 1)) × (answer VarPut (Number 2) (Number 9) ≡ Some (Number 0))
    × (answer VarPut (Number 2305843009213693952) (Number 9) ≡ Some (Number 0)) × (answer Notify Unset Unset ≡ Some (Number 0)) × (answer ReplyByte (Number 321) Unset ≡ Some (Number 1))
    × (answer ReplyPut (Pointer Variables (pos 0)) (Number 16) ≡ Some (Number 1)) × (answer ReplyPut (Pointer Variables (pos 0)) (Number 17) ≡ None) × (answer ReplyPut (Pointer Variables (pos 16)) (Number 0) ≡ Some (Number 1))
    × (answer ReplyPut (Pointer Variables (negsuc 0)) (Number 1) ≡ None) × (answer ReplyPut (Pointer Asked (pos 80)) (Number 1024) ≡ Some (Number 1)) × (answer ReplyPut (Pointer (Frame 0) (pos 0)) (Number 256) ≡ Some (Number 1))
unfolding helped region_of
helpers_answer = (refl, refl, refl, refl, refl, refl, refl, refl, refl, refl, refl, refl, refl, refl, refl, refl, refl, refl, refl, refl)

helpers_ask_for_arguments : (answer PayloadByte Unset Unset ≡ None) × (answer PayloadByte (Pointer Variables (pos 0)) Unset ≡ None) × (answer VarGet Unset Unset ≡ None) × (answer VarGet (Pointer Variables (pos 0)) Unset ≡ None)
    × (answer VarPut (Number 0) Unset ≡ None) × (answer VarPut (Number 0) (Pointer Variables (pos 0)) ≡ None) × (answer VarPut (Pointer Variables (pos 0)) (Number 0) ≡ None) × (answer VarPut Unset (Number 0) ≡ None)
    × (answer ReplyByte Unset Unset ≡ None) × (answer ReplyByte (Pointer Variables (pos 0)) Unset ≡ None) × (answer ReplyPut (Number 0) (Number 0) ≡ None) × (answer ReplyPut Unset (Number 0) ≡ None)
    × (answer ReplyPut (Pointer Variables (pos 0)) Unset ≡ None) × (answer ReplyPut (Pointer Variables (pos 0)) (Pointer Variables (pos 0)) ≡ None)
unfolding helped region_of
helpers_ask_for_arguments = (refl, refl, refl, refl, refl, refl, refl, refl, refl, refl, refl, refl, refl, refl)

-- the value of R0, and the bytes that were appended to the reply
abbrev added_in : ℕ → Option Config → Option (Value × List ℕ)
added_in added None = None
added_in added (Some c) = Some (value_at c.regs 0, drop added c.reply)

abbrev adds : Method → ℕ → Helper → Value → Value → Option (Value × List ℕ)
adds method added helper a b = added_in added (helped (before method added a b) helper)

replies_have_room : (adds Post 1023 ReplyByte (Number 321) Unset ≡ Some (Number 1, 65 ∷ [])) × (adds Post 1024 ReplyByte (Number 321) Unset ≡ Some (Number 0, []))
    × (adds Post 1022 ReplyPut (Pointer Variables (pos 1)) (Number 2) ≡ Some (Number 1, 2 ∷ 3 ∷ [])) × (adds Post 1023 ReplyPut (Pointer Variables (pos 1)) (Number 2) ≡ Some (Number 0, []))
    × (adds Get 4095 ReplyByte (Number 321) Unset ≡ Some (Number 1, 65 ∷ [])) × (adds Get 4096 ReplyByte (Number 321) Unset ≡ Some (Number 0, []))
    × (adds Get 4094 ReplyPut (Pointer Variables (pos 1)) (Number 2) ≡ Some (Number 1, 2 ∷ 3 ∷ [])) × (adds Get 4095 ReplyPut (Pointer Variables (pos 1)) (Number 2) ≡ Some (Number 0, []))
unfolding helped region_of
replies_have_room = (refl, refl, refl, refl, refl, refl, refl, refl)

abbrev vars_in : Option Config → List ℕ
vars_in None = []
vars_in (Some c) = c.vars

words_are_put : (vars_in (helped (before Post 0 (Number 1) (Number 515)) VarPut) ≡ 1 ∷ 2 ∷ 3 ∷ 4 ∷ 5 ∷ 6 ∷ 7 ∷ 8 ∷ 3 ∷ 2 ∷ 0 ∷ 0 ∷ 0 ∷ 0 ∷ 0 ∷ 0 ∷ []) × (vars_in (helped (before Post 0 (Number 2) (Number 515)) VarPut) ≡ words)
unfolding helped region_of
words_are_put = (refl, refl)

abbrev regs_in : Option Config → List Value
regs_in None = []
regs_in (Some c) = c.regs

calls_keep_registers : (regs_in (helped (before Post 0 (Number 0) (Number 1)) PayloadLen) ≡ Number 2 ∷ Unset ∷ Unset ∷ Unset ∷ Unset ∷ Unset ∷ Number 6 ∷ Pointer Asked (pos 0) ∷ Number 8 ∷ Number 9 ∷ Pointer (Frame 0) (pos 256) ∷ [])
    × (regs_in (act (CallLocal (pos 0)) (before Post 0 (Number 0) (Pointer Variables (pos 1)))) ≡ Unset ∷ Number 0 ∷ Pointer Variables (pos 1) ∷ Number 3 ∷ Number 4 ∷ Number 5 ∷ Unset ∷ Unset ∷ Unset ∷ Unset ∷ Pointer (Frame 1) (pos 256) ∷ [])
unfolding act helped
calls_keep_registers = (refl, refl)

-- ---- instructions without a step: R1 and R2 have these values

abbrev goes : Insn → Value → Value → Bool
goes insn a b = is_some (act insn (before Post 0 a b))

abbrev op : AluOp → Width → Insn
op o width = Alu o width 1 (Reg 2)

-- the operations that have a step
abbrev steps_of : Width → Value → Value → List AluOp
steps_of width a b = filter (λ o. goes (op o width) a b) operations

operations_on_pointers : (steps_of W64 (Number 3) (Number 3) ≡ operations) × (steps_of W32 (Number 3) (Number 3) ≡ operations) × (steps_of W64 (Pointer Variables (pos 0)) (Number 3) ≡ Add ∷ Sub ∷ Mov ∷ [])
    × (steps_of W32 (Pointer Variables (pos 0)) (Number 3) ≡ Mov ∷ []) × (steps_of W64 (Number 3) (Pointer Variables (pos 0)) ≡ Mov ∷ []) × (steps_of W32 (Number 3) (Pointer Variables (pos 0)) ≡ [])
    × (steps_of W64 (Pointer Variables (pos 0)) (Pointer Variables (pos 0)) ≡ Mov ∷ []) × (steps_of W32 (Pointer Variables (pos 0)) (Pointer Variables (pos 0)) ≡ []) × (steps_of W64 (Number 3) Unset ≡ [])
    × (steps_of W32 (Number 3) Unset ≡ []) × (steps_of W64 Unset (Number 3) ≡ Mov ∷ []) × (steps_of W32 Unset (Number 3) ≡ Mov ∷ [])
unfolding act result_of
operations_on_pointers = (refl, refl, refl, refl, refl, refl, refl, refl, refl, refl, refl, refl)

abbrev asks : Relation → Width → Operand → Insn
asks relation width right = JumpIf (record { width = width; relation = relation; left = 1; right = right; offset = pos 0 })

other_steps_on_pointers : (goes (Unary (Neg W64) 1) (Number 3) Unset ≡ true) × (goes (Unary (Neg W32) 1) (Number 3) Unset ≡ true) × (goes (SignExtend (extension.Byte W64) 6 1) (Number 3) Unset ≡ true) × (goes (SignExtend extension.Word 6 1) (Number 3) Unset ≡ true)
    × (goes (Unary (End Little S64) 1) (Number 3) Unset ≡ true) × (goes (Unary (End Swapped S64) 1) (Number 3) Unset ≡ true) × (goes (asks Eq W64 (Reg 2)) (Number 3) (Number 3) ≡ true) × (goes (asks Eq W32 (Reg 2)) (Number 3) (Number 3) ≡ true)
    × (goes (asks Sgt W64 (Reg 2)) (Number 3) (Number 3) ≡ true) × (goes (asks Sgt W32 (Reg 2)) (Number 3) (Number 3) ≡ true) × (goes (asks Ne W64 (Reg 2)) (Number 3) (Number 3) ≡ true)
    × (goes (asks Ne W64 (Imm (pos 0))) (Number 3) (Number 3) ≡ true) × (goes (Store DoubleWord 2 (pos 0) 1) (Number 3) (Pointer Variables (pos 0)) ≡ true) × (goes (Load (Unsigned Byte) 6 1 (pos 0)) (Number 3) (Number 3) ≡ false)
    × (goes (StoreImm Byte 1 (pos 0) (pos 0)) (Number 3) (Number 3) ≡ false) × (goes (Unary (Neg W64) 1) (Pointer Variables (pos 0)) Unset ≡ false) × (goes (Unary (Neg W32) 1) (Pointer Variables (pos 0)) Unset ≡ false)
    × (goes (SignExtend (extension.Byte W64) 6 1) (Pointer Variables (pos 0)) Unset ≡ false) × (goes (SignExtend extension.Word 6 1) (Pointer Variables (pos 0)) Unset ≡ false)
    × (goes (Unary (End Little S64) 1) (Pointer Variables (pos 0)) Unset ≡ false) × (goes (Unary (End Swapped S64) 1) (Pointer Variables (pos 0)) Unset ≡ false) × (goes (asks Eq W64 (Reg 2)) (Pointer Variables (pos 0)) (Number 3) ≡ false)
    × (goes (asks Eq W32 (Reg 2)) (Pointer Variables (pos 0)) (Number 3) ≡ false) × (goes (asks Sgt W64 (Reg 2)) (Pointer Variables (pos 0)) (Number 3) ≡ false)
    × (goes (asks Sgt W32 (Reg 2)) (Pointer Variables (pos 0)) (Number 3) ≡ false) × (goes (asks Ne W64 (Reg 2)) (Number 3) (Pointer Variables (pos 0)) ≡ false)
    × (goes (asks Ne W64 (Imm (pos 0))) (Pointer Variables (pos 0)) (Number 3) ≡ false) × (goes (Store DoubleWord 2 (pos 0) 1) (Pointer Variables (pos 0)) (Pointer Variables (pos 0)) ≡ false)
    × (goes (Load (Unsigned Byte) 6 1 (pos 0)) (Pointer Variables (pos 0)) (Number 3) ≡ true) × (goes (StoreImm Byte 1 (pos 0) (pos 0)) (Pointer Variables (pos 0)) (Number 3) ≡ true) × (goes (Unary (Neg W64) 1) Unset Unset ≡ false)
    × (goes (Unary (Neg W32) 1) Unset Unset ≡ false) × (goes (SignExtend (extension.Byte W64) 6 1) Unset Unset ≡ false) × (goes (SignExtend extension.Word 6 1) Unset Unset ≡ false) × (goes (Unary (End Little S64) 1) Unset Unset ≡ false)
    × (goes (Unary (End Swapped S64) 1) Unset Unset ≡ false) × (goes (asks Eq W64 (Reg 2)) Unset (Number 3) ≡ false) × (goes (asks Eq W32 (Reg 2)) Unset (Number 3) ≡ false) × (goes (asks Sgt W64 (Reg 2)) Unset (Number 3) ≡ false)
    × (goes (asks Sgt W32 (Reg 2)) Unset (Number 3) ≡ false) × (goes (asks Ne W64 (Reg 2)) (Number 3) Unset ≡ false) × (goes (asks Ne W64 (Imm (pos 0))) Unset (Number 3) ≡ false)
    × (goes (Store DoubleWord 2 (pos 0) 1) Unset (Pointer Variables (pos 0)) ≡ false) × (goes (Load (Unsigned Byte) 6 1 (pos 0)) Unset (Number 3) ≡ false) × (goes (StoreImm Byte 1 (pos 0) (pos 0)) Unset (Number 3) ≡ false)
unfolding act region_of
other_steps_on_pointers = (refl, refl, refl, refl, refl, refl, refl, refl, refl, refl, refl, refl, refl, refl, refl, refl, refl, refl, refl, refl, refl, refl, refl, refl, refl, refl, refl, refl, refl, refl, refl, refl, refl, refl, refl, refl, refl, refl, refl, refl, refl, refl, refl, refl, refl)

accesses_stay_in_their_regions : (goes (Load (Unsigned DoubleWord) 6 1 (pos 0)) (Pointer (Frame 0) (pos 0)) (Number 3) ≡ true) × (goes (Store DoubleWord 1 (pos 0) 2) (Pointer (Frame 0) (pos 0)) (Number 3) ≡ true)
    × (goes (StoreImm DoubleWord 1 (pos 0) (pos 0)) (Pointer (Frame 0) (pos 0)) (Number 3) ≡ true) × (goes (Load (Unsigned DoubleWord) 6 1 (pos 0)) (Pointer (Frame 0) (pos 248)) (Number 3) ≡ true)
    × (goes (Store DoubleWord 1 (pos 0) 2) (Pointer (Frame 0) (pos 248)) (Number 3) ≡ true) × (goes (StoreImm DoubleWord 1 (pos 0) (pos 0)) (Pointer (Frame 0) (pos 248)) (Number 3) ≡ true)
    × (goes (Load (Unsigned DoubleWord) 6 1 (pos 0)) (Pointer (Frame 0) (pos 249)) (Number 3) ≡ false) × (goes (Store DoubleWord 1 (pos 0) 2) (Pointer (Frame 0) (pos 249)) (Number 3) ≡ false)
    × (goes (StoreImm DoubleWord 1 (pos 0) (pos 0)) (Pointer (Frame 0) (pos 249)) (Number 3) ≡ false) × (goes (Load (Unsigned DoubleWord) 6 1 (pos 0)) (Pointer (Frame 0) (negsuc 0)) (Number 3) ≡ false)
    × (goes (Store DoubleWord 1 (pos 0) 2) (Pointer (Frame 0) (negsuc 0)) (Number 3) ≡ false) × (goes (StoreImm DoubleWord 1 (pos 0) (pos 0)) (Pointer (Frame 0) (negsuc 0)) (Number 3) ≡ false)
    × (goes (Load (Unsigned DoubleWord) 6 1 (pos 0)) (Pointer Asked (pos 0)) (Number 3) ≡ true) × (goes (Store DoubleWord 1 (pos 0) 2) (Pointer Asked (pos 0)) (Number 3) ≡ false)
    × (goes (StoreImm DoubleWord 1 (pos 0) (pos 0)) (Pointer Asked (pos 0)) (Number 3) ≡ false) × (goes (Load (Unsigned DoubleWord) 6 1 (pos 0)) (Pointer Asked (pos 1096)) (Number 3) ≡ true)
    × (goes (Store DoubleWord 1 (pos 0) 2) (Pointer Asked (pos 1096)) (Number 3) ≡ false) × (goes (StoreImm DoubleWord 1 (pos 0) (pos 0)) (Pointer Asked (pos 1096)) (Number 3) ≡ false)
    × (goes (Load (Unsigned DoubleWord) 6 1 (pos 0)) (Pointer Asked (pos 1097)) (Number 3) ≡ false) × (goes (Store DoubleWord 1 (pos 0) 2) (Pointer Asked (pos 1097)) (Number 3) ≡ false)
    × (goes (StoreImm DoubleWord 1 (pos 0) (pos 0)) (Pointer Asked (pos 1097)) (Number 3) ≡ false) × (goes (Load (Unsigned DoubleWord) 6 1 (pos 0)) (Pointer Asked (negsuc 0)) (Number 3) ≡ false)
    × (goes (Store DoubleWord 1 (pos 0) 2) (Pointer Asked (negsuc 0)) (Number 3) ≡ false) × (goes (StoreImm DoubleWord 1 (pos 0) (pos 0)) (Pointer Asked (negsuc 0)) (Number 3) ≡ false)
    × (goes (Load (Unsigned DoubleWord) 6 1 (pos 0)) (Pointer Variables (pos 0)) (Number 3) ≡ true) × (goes (Store DoubleWord 1 (pos 0) 2) (Pointer Variables (pos 0)) (Number 3) ≡ true)
    × (goes (StoreImm DoubleWord 1 (pos 0) (pos 0)) (Pointer Variables (pos 0)) (Number 3) ≡ true) × (goes (Load (Unsigned DoubleWord) 6 1 (pos 0)) (Pointer Variables (pos 8)) (Number 3) ≡ true)
    × (goes (Store DoubleWord 1 (pos 0) 2) (Pointer Variables (pos 8)) (Number 3) ≡ true) × (goes (StoreImm DoubleWord 1 (pos 0) (pos 0)) (Pointer Variables (pos 8)) (Number 3) ≡ true)
    × (goes (Load (Unsigned DoubleWord) 6 1 (pos 0)) (Pointer Variables (pos 9)) (Number 3) ≡ false) × (goes (Store DoubleWord 1 (pos 0) 2) (Pointer Variables (pos 9)) (Number 3) ≡ false)
    × (goes (StoreImm DoubleWord 1 (pos 0) (pos 0)) (Pointer Variables (pos 9)) (Number 3) ≡ false) × (goes (Load (Unsigned DoubleWord) 6 1 (pos 0)) (Pointer Variables (negsuc 0)) (Number 3) ≡ false)
    × (goes (Store DoubleWord 1 (pos 0) 2) (Pointer Variables (negsuc 0)) (Number 3) ≡ false) × (goes (StoreImm DoubleWord 1 (pos 0) (pos 0)) (Pointer Variables (negsuc 0)) (Number 3) ≡ false)
unfolding act region_of
accesses_stay_in_their_regions = (refl, refl, refl, refl, refl, refl, refl, refl, refl, refl, refl, refl, refl, refl, refl, refl, refl, refl, refl, refl, refl, refl, refl, refl, refl, refl, refl, refl, refl, refl, refl, refl, refl, refl, refl, refl)

-- an exit from a called function, with this value in R0
abbrev leaving : Value → Option Config
leaving a = act Exit (record (before Post 0 Unset Unset) { regs = a ∷ []; callers = record { place = 3; kept = [] } ∷ [] })

exits_answer_a_number : (is_some (leaving (Number 3)) ≡ true) × (is_some (leaving (Pointer Variables (pos 0))) ≡ false) × (is_some (leaving Unset) ≡ false)
unfolding act
exits_answer_a_number = (refl, refl, refl)

-- a local call with this number of callers: there are at most eight frames
abbrev calling_from : ℕ → Option Config
calling_from callers = act (CallLocal (pos 0)) (record (before Post 0 Unset Unset) { callers = replicate callers (record { place = 3; kept = [] }) })

frames_are_eight : (is_some (calling_from 6) ≡ true) × (is_some (calling_from 7) ≡ false)
unfolding act
frames_are_eight = (refl, refl)

-- the readings can be read, to their last byte, and not written
readings_are_read : (goes (Load (Unsigned DoubleWord) 6 1 (pos 0)) (Pointer Readings (pos 56)) (Number 3) ≡ true) × (goes (Load (Unsigned DoubleWord) 6 1 (pos 0)) (Pointer Readings (pos 57)) (Number 3) ≡ false)
    × (goes (Store DoubleWord 1 (pos 0) 2) (Pointer Readings (pos 0)) (Number 3) ≡ false) × (goes (StoreImm Byte 1 (pos 0) (pos 0)) (Pointer Readings (pos 0)) (Number 3) ≡ false)
    × (answer ReplyPut (Pointer Readings (pos 0)) (Number 64) ≡ Some (Number 1)) × (answer ReplyPut (Pointer Readings (pos 1)) (Number 64) ≡ None)
unfolding act helped readings_region
readings_are_read = (refl, refl, refl, refl, refl, refl)

-- the second version starts with the readings in R4
fourth_register : (value_at (start One (input_with (request_with Get 0 None [] []) [] [])).regs 4 ≡ Unset) × (value_at (start Two (input_with (request_with Get 0 None [] []) [] [])).regs 4 ≡ Pointer Readings (pos 0))
fourth_register = (refl, refl)

-- a program that replies with two bytes of the readings
abbrev reads : List Insn
reads = copy 1 4 ∷ set 2 (pos 2) ∷ CallHelper (pos 5) ∷ set 0 (pos 0) ∷ Exit ∷ []

readings_are_replied : meant (record { version = Two; code = reads; vars_size = 0; budget = 5; cost = 5 }) (input_with (says []) [] (170 ∷ 187 ∷ [])) ≡ result 5 (170 ∷ 187 ∷ []) []
unfolding meant step act helped result_of computed_at computed readings_region
readings_are_replied = refl

-- ---- the request's region

abbrev asked_with : Option ℕ → List ℕ
asked_with format = region_of (request_with Post 5 format (97 ∷ 61 ∷ 49 ∷ []) (replicate 258 9))

regions_are_laid_out :
    (take 20 (asked_with (Some 515)) ≡ 2 ∷ 5 ∷ 2 ∷ 1 ∷ 3 ∷ 2 ∷ 1 ∷ 3 ∷ 0 ∷ 0 ∷ 0 ∷ 0 ∷ 0 ∷ 0 ∷ 0 ∷ 0 ∷ 97 ∷ 61 ∷ 49 ∷ 0 ∷ []) × (take 8 (asked_with None) ≡ 2 ∷ 5 ∷ 2 ∷ 1 ∷ 0 ∷ 0 ∷ 0 ∷ 3 ∷ [])
    × (take 4 (region_of (request_with Get 15 None [] [])) ≡ 1 ∷ 15 ∷ 0 ∷ 0 ∷ []) × (drop 78 (asked_with None) ≡ 0 ∷ 0 ∷ (replicate 258 9 ++ replicate 766 0))
unfolding region_of
regions_are_laid_out = (refl, refl, refl, refl)

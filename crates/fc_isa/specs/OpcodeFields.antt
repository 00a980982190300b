-- The fields that an opcode uses, from its bits: class, code and source bit (RFC 9669, sections 3.1
-- and 3.3).
use Rattle.std.specs.Prelude.{ℕ, ◌/◌, ◌%◌, ◌==◌, ◌&&◌, ◌||◌, not, Bool}

-- the class of an opcode: LD 0, LDX 1, ST 2, STX 3, ALU 4, JMP 5, JMP32 6, ALU64 7.
abbrev pub class_of : ℕ → ℕ
class_of opcode = opcode % 8

-- the code of an arithmetic or jump opcode.
abbrev pub code_of : ℕ → ℕ
code_of opcode = opcode / 16

abbrev pub has_source_bit : ℕ → Bool
has_source_bit opcode = opcode / 8 % 2 == 1

abbrev pub is_arithmetic : ℕ → Bool
is_arithmetic opcode = (class_of opcode == 4) || (class_of opcode == 7)

abbrev pub is_jump : ℕ → Bool
is_jump opcode = (class_of opcode == 5) || (class_of opcode == 6)

-- the source bit selects the register; in a byte swap (13) it selects the order.
abbrev pub takes_register : ℕ → Bool
takes_register opcode = has_source_bit opcode && not (is_arithmetic opcode && (code_of opcode == 13))

-- every opcode uses the destination, except unconditional jumps (0), calls (8) and exit (9).
unfoldable pub opcode_uses_dst : ℕ → Bool
opcode_uses_dst opcode = not (is_jump opcode && (((code_of opcode == 0) || (code_of opcode == 8)) || (code_of opcode == 9)))

-- these opcodes use the source: loads, stores of a register, arithmetic and jumps with the source
-- bit, and calls.
unfoldable pub opcode_uses_src : ℕ → Bool
opcode_uses_src opcode =
    ((class_of opcode == 1) || (class_of opcode == 3))
    || (((is_arithmetic opcode || is_jump opcode) && takes_register opcode) || (opcode == 133))

-- these opcodes use the offset: loads and stores; division (3), modulo (9), and a move (11) of a
-- register. So do jumps of class JMP except calls and exit, and conditional jumps of class JMP32.
unfoldable pub opcode_uses_offset : ℕ → Bool
opcode_uses_offset opcode =
    (((class_of opcode == 1) || (class_of opcode == 2)) || (class_of opcode == 3))
    || (((class_of opcode == 5) && not ((code_of opcode == 8) || (code_of opcode == 9)))
    || (((class_of opcode == 6) && not (code_of opcode == 0))
    || (is_arithmetic opcode && (((code_of opcode == 3) || (code_of opcode == 9)) || ((code_of opcode == 11) && has_source_bit opcode)))))

-- these opcodes use the immediate: the wide load, and stores of an immediate. Without a source
-- register, so do arithmetic except negation (8), and jumps except `exit` and the `ja` of class
-- JMP.
unfoldable pub opcode_uses_imm : ℕ → Bool
opcode_uses_imm opcode =
    ((class_of opcode == 0) || (class_of opcode == 2))
    || (((is_arithmetic opcode && not (code_of opcode == 8)) && not (takes_register opcode))
    || ((is_jump opcode && not ((opcode == 5) || (opcode == 149))) && not (takes_register opcode)))

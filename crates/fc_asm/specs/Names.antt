-- The names of instructions.
use Rattle.std.specs.Prelude.{ℕ, List, [], ◌∷◌, ◌++◌, map, find, Option, codes}
use Rattle.std.specs.Str.{bytes_eq}
use Rattle.fc_isa.specs.declared.insn.AluOp.{AluOp}
use Rattle.fc_isa.specs.declared.insn.AluOp.TheVariants.{Add, Sub, Mul, Div, Or, And, Lsh, Rsh, Mod, Xor, Mov, Arsh, Sdiv, Smod}
use Rattle.fc_isa.specs.declared.insn.ByteOrder.{ByteOrder}
use Rattle.fc_isa.specs.declared.insn.ByteOrder.TheVariants.{Little, Big, Swapped}
use Rattle.fc_isa.specs.declared.insn.LoadType.{LoadType}
use Rattle.fc_isa.specs.declared.insn.LoadType.TheVariants.{Unsigned, SignedByte, SignedHalfWord, SignedWord}
use Rattle.fc_isa.specs.declared.insn.Relation.{Relation}
use Rattle.fc_isa.specs.declared.insn.Relation.TheVariants.{Eq, Gt, Ge, Set, Ne, Sgt, Sge, Lt, Le, Slt, Sle}
use Rattle.fc_isa.specs.declared.insn.Size.{Size}
use Rattle.fc_isa.specs.declared.insn.Size.TheVariants.{Byte, HalfWord, Word, DoubleWord}
use Rattle.fc_isa.specs.declared.insn.SwapWidth.{SwapWidth}
use Rattle.fc_isa.specs.declared.insn.SwapWidth.TheVariants.{S16, S32, S64}
use Rattle.fc_isa.specs.declared.insn.UnaryOp.{UnaryOp}
use Rattle.fc_isa.specs.declared.insn.UnaryOp.TheVariants.{Neg, End}
use Rattle.fc_isa.specs.declared.insn.Width.{Width}
use Rattle.fc_isa.specs.declared.insn.Width.TheVariants.{W32, W64}
use Rattle.fc_isa.specs.Shapes.{relations, sizes}
use Rattle.fc_asm.specs.declared.mnemonic.Mnemonic.{Mnemonic}
use Rattle.fc_asm.specs.declared.mnemonic.Mnemonic.TheVariants as mnemonic

abbrev pub Text : Type 0
Text = List ℕ

abbrev pub alu_name : AluOp → Text
alu_name Add = codes "add"
alu_name Sub = codes "sub"
alu_name Mul = codes "mul"
alu_name Div = codes "div"
alu_name Or = codes "or"
alu_name And = codes "and"
alu_name Lsh = codes "lsh"
alu_name Rsh = codes "rsh"
alu_name Mod = codes "mod"
alu_name Xor = codes "xor"
alu_name Mov = codes "mov"
alu_name Arsh = codes "arsh"
alu_name Sdiv = codes "sdiv"
alu_name Smod = codes "smod"

abbrev pub width_digits : Width → Text
width_digits W32 = codes "32"
width_digits W64 = codes "64"

abbrev pub order_name : ByteOrder → Text
order_name Little = codes "le"
order_name Big = codes "be"
order_name Swapped = codes "swap"

abbrev pub swap_digits : SwapWidth → Text
swap_digits S16 = codes "16"
swap_digits S32 = codes "32"
swap_digits S64 = codes "64"

abbrev pub size_name : Size → Text
size_name Byte = codes "b"
size_name HalfWord = codes "h"
size_name Word = codes "w"
size_name DoubleWord = codes "dw"

abbrev pub load_name : LoadType → Text
load_name (Unsigned size) = codes "ldx" ++ size_name size
load_name SignedByte = codes "ldsxb"
load_name SignedHalfWord = codes "ldsxh"
load_name SignedWord = codes "ldsxw"

abbrev pub relation_name : Relation → Text
relation_name Eq = codes "jeq"
relation_name Gt = codes "jgt"
relation_name Ge = codes "jge"
relation_name Set = codes "jset"
relation_name Ne = codes "jne"
relation_name Sgt = codes "jsgt"
relation_name Sge = codes "jsge"
relation_name Lt = codes "jlt"
relation_name Le = codes "jle"
relation_name Slt = codes "jslt"
relation_name Sle = codes "jsle"

abbrev pub unary_name : UnaryOp → Text
unary_name (Neg width) = codes "neg" ++ width_digits width
unary_name (End order width) = order_name order ++ swap_digits width

-- the first word of an instruction's line.
abbrev pub name_of : Mnemonic → Text
name_of (mnemonic.Alu op width) = alu_name op ++ width_digits width
name_of (mnemonic.Unary op) = unary_name op
name_of (mnemonic.SignExtend width) = codes "movsx" ++ width_digits width
name_of mnemonic.LoadWide = codes "lddw"
name_of (mnemonic.Load loaded) = load_name loaded
name_of (mnemonic.StoreImm size) = codes "st" ++ size_name size
name_of (mnemonic.Store size) = codes "stx" ++ size_name size
name_of mnemonic.JumpAlways = codes "ja"
name_of mnemonic.JumpAlwaysLong = codes "ja32"
name_of (mnemonic.JumpIf relation W64) = relation_name relation
name_of (mnemonic.JumpIf relation W32) = relation_name relation ++ codes "32"
name_of mnemonic.CallHelper = codes "call"
name_of mnemonic.CallLocal = codes "callf"
name_of mnemonic.Exit = codes "exit"

-- the operations of arithmetic instructions with two operands.
abbrev pub alu_ops : List AluOp
alu_ops = Add ∷ Sub ∷ Mul ∷ Div ∷ Or ∷ And ∷ Lsh ∷ Rsh ∷ Mod ∷ Xor ∷ Mov ∷ Arsh ∷ Sdiv ∷ Smod ∷ []

abbrev pub swaps : ByteOrder → List Mnemonic
swaps order = mnemonic.Unary (End order S16) ∷ mnemonic.Unary (End order S32) ∷ mnemonic.Unary (End order S64) ∷ []

-- all mnemonics.
abbrev pub mnemonics : List Mnemonic
mnemonics =
    map (λ op. mnemonic.Alu op W64) alu_ops ++ (map (λ op. mnemonic.Alu op W32) alu_ops
    ++ (mnemonic.Unary (Neg W64) ∷ mnemonic.Unary (Neg W32) ∷ mnemonic.SignExtend W64 ∷ mnemonic.SignExtend W32 ∷ [] ++ (swaps Little ++ (swaps Big ++ (swaps Swapped
    ++ (mnemonic.LoadWide ∷ [] ++ (map (λ size. mnemonic.Load (Unsigned size)) sizes ++ (mnemonic.Load SignedByte ∷ mnemonic.Load SignedHalfWord ∷ mnemonic.Load SignedWord ∷ []
    ++ (map mnemonic.StoreImm sizes ++ (map mnemonic.Store sizes ++ (mnemonic.JumpAlways ∷ mnemonic.JumpAlwaysLong ∷ [] ++ (map (λ relation. mnemonic.JumpIf relation W64) relations
    ++ (map (λ relation. mnemonic.JumpIf relation W32) relations ++ (mnemonic.CallHelper ∷ mnemonic.CallLocal ∷ mnemonic.Exit ∷ []))))))))))))))

-- the mnemonic with this name, or `None` if there is none.
unfoldable pub mnemonic_named : Text → Option Mnemonic
mnemonic_named word = find (λ mnemonic. bytes_eq (name_of mnemonic) word) mnemonics

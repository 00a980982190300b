-- The registers that an instruction reads decide, by their abstract values, whether its
-- preconditions hold.
use Rattle.std.proofs.Common.{◌≡◌, ℕ, ◌&&◌, Bool, true, false, List, Option, Some, None, refl, sym, ap, ◌∙◌}
use Rattle.std.specs.Prelude.{is_some, if◌then◌else◌}
use Rattle.fc_isa.specs.declared.insn.Insn.TheVariants.{Alu, Unary, SignExtend, LoadWide, WideSecond, Load, StoreImm, Store, JumpAlways, JumpAlwaysLong, JumpIf, CallHelper, CallLocal, Exit}
use Rattle.fc_isa.specs.declared.insn.AluOp.{AluOp}
use Rattle.fc_isa.specs.declared.insn.AluOp.TheVariants.{Mov}
use Rattle.fc_isa.specs.declared.insn.Operand.{Operand}
use Rattle.fc_isa.specs.declared.insn.Operand.TheVariants.{Imm, Reg}
use Rattle.fc_isa.specs.declared.insn.Width.{Width}
use Rattle.fc_help.specs.declared.helper.Helper.{Helper}
use Rattle.fc_help.specs.declared.helper.Arguments.{Arguments}
use Rattle.fc_help.specs.declared.helper.Arguments.TheVariants.{NoArgument, OneNumber, TwoNumbers, Bytes}
use Rattle.fc_help.specs.Helpers.{helper_of, signature_of}
use Rattle.fc_kinds.specs.declared.kind.Kind.{Kind}
use Rattle.fc_kinds.specs.declared.interval.Interval.{Interval}
use Rattle.fc_kinds.specs.Kinds.{kind_at}
use Rattle.fc_kinds.specs.Transfer.{alu_kind, are_arguments, are_bytes, bytes_loaded, helped_kinds, is_number, loaded_interval, may_read, may_write, moved, num, where_number, operand_kind, put_kind, size_of, transfer, where_met}
use Rattle.fc_kinds.specs.Values.{with_some}
use Rattle.fc_tools.specs.Reads.{AreSame, ReadsDecide, argument_list, arithmetic_reads, helper_reads, operand_read}

put_some : (ks : List Kind) (dst : ℕ) (k : Option Kind) → is_some (put_kind ks dst k) ≡ is_some k
put_some ks dst None = refl
put_some ks dst (Some k) = refl

met_some : (b : Bool) (ks : List Kind) → is_some (where_met b ks) ≡ b
met_some true ks = refl
met_some false ks = refl

number_same : (k other : Kind) (f : Interval → Option Kind) → k ≡ other → is_some (where_number k f) ≡ is_some (where_number other f)
number_same k other f e = ap (λ x. is_some (where_number x f)) e

operand_same : (width : Width) (operand : Operand) (ks other : List Kind) → AreSame (operand_read operand) ks other → operand_kind width operand ks ≡ operand_kind width operand other
operand_same width (Imm k) ks other h = refl
operand_same width (Reg r) ks other h = h.0

moved_same : (width : Width) (operand : Operand) (a b x y : Kind) → x ≡ y → alu_kind Mov width operand a x ≡ alu_kind Mov width operand b y
unfolding alu_kind
moved_same width operand a b x y e = ap (moved width) e

alu_same : (op : AluOp) (width : Width) (dst : ℕ) (operand : Operand) (ks other : List Kind) → AreSame (arithmetic_reads op dst operand) ks other
    → alu_kind op width operand (kind_at ks dst) (operand_kind width operand ks) ≡ alu_kind op width operand (kind_at other dst) (operand_kind width operand other)
alu_same Mov width dst operand ks other h = moved_same width operand (kind_at ks dst) (kind_at other dst) (operand_kind width operand ks) (operand_kind width operand other) (operand_same width operand ks other h)
alu_same op width dst operand ks other h =
    ap (λ a. alu_kind op width operand a (operand_kind width operand ks)) h.0 ∙ ap (alu_kind op width operand (kind_at other dst)) (operand_same width operand ks other h.1)

arguments_same : (vars : ℕ) (arguments : Arguments) (ks other : List Kind) → AreSame (argument_list arguments) ks other → are_arguments vars arguments ks ≡ are_arguments vars arguments other
arguments_same vars NoArgument ks other h = refl
arguments_same vars OneNumber ks other h = ap is_number h.0
arguments_same vars TwoNumbers ks other h = ap (λ k. is_number k && is_number (kind_at ks 2)) h.0 ∙ ap (λ k. is_number (kind_at other 1) && is_number k) h.1.0
arguments_same vars Bytes ks other h = ap (λ k. are_bytes vars k (kind_at ks 2)) h.0 ∙ ap (are_bytes vars (kind_at other 1)) h.1.0

helper_same : (vars : ℕ) (o : Option Helper) (ks other : List Kind) → AreSame (helper_reads o) ks other → is_some (with_some o (helped_kinds vars ks)) ≡ is_some (with_some o (helped_kinds vars other))
helper_same vars None ks other h = refl
helper_same vars (Some helper) ks other h = met_some _ _ ∙ arguments_same vars (signature_of helper).arguments ks other h ∙ sym (met_some _ _)

pub reads_decide : ReadsDecide
unfolding transfer
reads_decide vars (Alu op width dst operand) ks other h = put_some ks dst _ ∙ ap is_some (alu_same op width dst operand ks other h) ∙ sym (put_some other dst _)
reads_decide vars (Unary op dst) ks other h = put_some ks dst _ ∙ number_same (kind_at ks dst) (kind_at other dst) _ h.0 ∙ sym (put_some other dst _)
reads_decide vars (SignExtend extension dst src) ks other h = put_some ks dst _ ∙ number_same (kind_at ks src) (kind_at other src) _ h.0 ∙ sym (put_some other dst _)
reads_decide vars (LoadWide dst value) ks other h = refl
reads_decide vars WideSecond ks other h = refl
reads_decide vars (Load loaded dst base offset) ks other h =
    put_some ks dst _ ∙ ap (λ k. is_some {T = Kind} (if may_read vars (bytes_loaded loaded) offset k then Some (num (loaded_interval loaded)) else None)) h.0 ∙ sym (put_some other dst _)
reads_decide vars (StoreImm size base offset imm) ks other h = met_some _ ks ∙ ap (may_write vars (size_of size) offset) h.0 ∙ sym (met_some _ other)
reads_decide vars (Store size base offset src) ks other h =
    met_some _ ks ∙ ap (λ k. may_write vars (size_of size) offset k && is_number (kind_at ks src)) h.0
    ∙ ap (λ k. may_write vars (size_of size) offset (kind_at other base) && is_number k) h.1.0 ∙ sym (met_some _ other)
reads_decide vars (JumpAlways offset) ks other h = refl
reads_decide vars (JumpAlwaysLong offset) ks other h = refl
reads_decide vars (JumpIf j) ks other h =
    met_some _ ks ∙ ap (λ k. is_number k && is_number (operand_kind j.width j.right ks)) h.0
    ∙ ap (λ k. is_number (kind_at other j.left) && is_number k) (operand_same j.width j.right ks other h.1) ∙ sym (met_some _ other)
reads_decide vars (CallHelper number) ks other h = helper_same vars (helper_of number) ks other h
reads_decide vars (CallLocal offset) ks other h = refl
reads_decide vars Exit ks other h = met_some _ ks ∙ ap is_number h.0 ∙ sym (met_some _ other)

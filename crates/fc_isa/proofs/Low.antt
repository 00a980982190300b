-- The rules of slots have numbers below 20.
use Rattle.std.proofs.Common.{◌≡◌, ℕ, ◌<◌, ◌+◌, ◌*◌, Bool, true, false, cond, Option, Some, None, List, length, subst, lit<, nat_lt}
use Rattle.fc_isa.specs.declared.rule.Rule.{Rule}
use Rattle.fc_isa.specs.declared.rule.Rule.TheVariants.{Opcode, Register, FramePointer, Field, WideLoad}
use Rattle.fc_isa.specs.Rules.{number_of}
use Rattle.fc_isa.specs.Encoding.{Fields, fields_at, whole_fields_at, is_whole, is_second, breaks, slot_fault, fault_at}

low_of : (r rule : Rule) → number_of r < 20 → Some r ≡ Some rule → number_of rule < 20
low_of r rule l e = let q : r ≡ rule = cc e in subst (λ x. number_of x < 20) q l

low_of_five : (a b c d e : Bool) (rule : Rule) → cond a (Some Opcode) (cond b (Some Register) (cond c (Some FramePointer) (cond d (Some Field) (cond e (Some WideLoad) None)))) ≡ Some rule → number_of rule < 20
low_of_five true b c d e rule h = low_of Opcode rule (lit< tt) h
low_of_five false true c d e rule h = low_of Register rule (lit< tt) h
low_of_five false false true d e rule h = low_of FramePointer rule (lit< tt) h
low_of_five false false false true e rule h = low_of Field rule (lit< tt) h
low_of_five false false false false true rule h = low_of WideLoad rule (lit< tt) h
low_of_five false false false false false rule h = absurd (cc h)

low_fault : (f : Fields) (next : Option Fields) (rule : Rule) → slot_fault f next ≡ Some rule → number_of rule < 20
low_fault f next rule h = low_of_five (breaks f next Opcode) (breaks f next Register) (breaks f next FramePointer) (breaks f next Field) (breaks f next WideLoad) rule h

low_fault_if : (inside second rest : Bool) (f : Fields) (next : Option Fields) (rule : Rule) →
    cond {A = Option Rule} inside (cond {A = Option Rule} second None (slot_fault f next)) (cond {A = Option Rule} rest (Some WideLoad) None) ≡ Some rule → number_of rule < 20
low_fault_if true true rest f next rule h = absurd (cc h)
low_fault_if true false rest f next rule h = low_fault f next rule h
low_fault_if false second true f next rule h = low_of WideLoad rule (lit< tt) h
low_fault_if false second false f next rule h = absurd (cc h)

pub low_fault_at : (bytes : List ℕ) (slot : ℕ) (rule : Rule) → fault_at bytes slot ≡ Some rule → number_of rule < 20
unfolding fault_at
low_fault_at bytes slot rule h = low_fault_if (is_whole bytes slot) (is_second bytes slot) (nat_lt (8 * slot) (length bytes)) (fields_at bytes slot) (whole_fields_at bytes (slot + 1)) rule h

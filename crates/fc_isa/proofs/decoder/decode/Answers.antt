use Rattle.std.proofs.Common.{◌/◌, ◌∙◌, arith, length, sym}
use Rattle.fc_isa.specs.declared.rule.Rule.TheVariants.{WideLoad}
use Rattle.fc_isa.proofs.Slot.{are_bytes}
use Rattle.fc_isa.proofs.Slots.{spelled_once}
use Rattle.fc_isa.proofs.Steps.{broken, broken_rest, broken_not_spelled, faultless_more, insns_more, second_more, IsDecoded, decoded}
use Rattle.fc_isa.proofs.decoder.decode.Goals as goal

pub returns-in-Err-clause-fault : goal.returns-in-Err-clause-fault
returns-in-Err-clause-fault c = broken c.args.bytes.now c.loop-slot.slot c.in-Err.rule c.in-Err.ensures.fault c.loop-slot.invariant.faultless

pub returns-in-Err-clause-spelled : goal.returns-in-Err-clause-spelled
returns-in-Err-clause-spelled c = λ p s.
    absurd (broken_not_spelled c.args.bytes.now c.loop-slot.slot c.in-Err.rule p (returns-in-Err-clause-fault c) s)

pub loop-slot-preserved : goal.loop-slot-preserved
loop-slot-preserved c = record {
  faultless = faultless_more c.args.bytes.now c.loop-slot.slot c.in-Ok.ensures.insn.0 c.loop-slot.invariant.faultless;
  items = c.push_reserved.ensures.items ∙ insns_more c.args.bytes.now c.loop-slot.slot c.loop-slot.program.items c.in-Ok.insn c.loop-slot.invariant.items c.in-Ok.ensures.insn.1;
  second = c.is_wide_load-second.ensures ∙ second_more c.args.bytes.now c.loop-slot.slot c.in-Ok.insn c.in-Ok.ensures.insn.1;
  len = omega arith;
  room = omega arith;
}

pub returns-then-rest-ne0-clause-fault : goal.returns-then-rest-ne0-clause-fault
returns-then-rest-ne0-clause-fault c = broken_rest c.args.bytes.now c.loop-slot.slot (omega arith) (omega arith) c.loop-slot.invariant.faultless

pub returns-then-rest-ne0-clause-spelled : goal.returns-then-rest-ne0-clause-spelled
returns-then-rest-ne0-clause-spelled c = λ p s.
    absurd (broken_not_spelled c.args.bytes.now (length c.args.bytes.now / 8) WideLoad p (returns-then-rest-ne0-clause-fault c) s)

result : (c : goal.Else-rest-ne0) → IsDecoded c.args.bytes.now c.loop-slot.program.items
result c = decoded c.args.bytes.now c.loop-slot.slot c.loop-slot.program.items (are_bytes c.args.bytes.now c.type_inv.bytes) (omega arith) c.if-rest-ne0.false c.loop-slot.invariant.faultless c.loop-slot.invariant.items

pub returns-clause-program : goal.returns-clause-program
returns-clause-program c = (result c).spells

pub returns-clause-spelled : goal.returns-clause-spelled
returns-clause-spelled c = λ p s. (result c).program_is ∙ sym (spelled_once c.args.bytes.now p s)

pub returns-clause-function : goal.returns-clause-function
returns-clause-function c = ((result c).program_is, (result c).faultless)

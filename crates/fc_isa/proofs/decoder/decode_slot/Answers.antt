use Rattle.std.proofs.Common.{sym, ◌∙◌}
use Rattle.fc_isa.proofs.Slots.{fault_at_second, insn_at_second}
use Rattle.fc_isa.proofs.Steps.{fields_are, own_fault, own_insn_at}
use Rattle.fc_isa.proofs.decoder.decode_slot.Goals as goal

pub returns-then-second-clause-insn : goal.returns-then-second-clause-insn
returns-then-second-clause-insn c =
    let s = sym c.requires.second ∙ c.if-second.true in
    (fault_at_second c.args.bytes.now c.args.slot c.requires.whole s, sym (insn_at_second c.args.bytes.now c.args.slot s))

pub returns-in-Some-clause-fault : goal.returns-in-Some-clause-fault
returns-in-Some-clause-fault c =
    own_fault c.args.bytes.now c.args.slot c.read-fields.result c.fields_at-next.result _ c.requires.whole (sym c.requires.second ∙ c.if-second.false)
    (fields_are c.args.bytes.now c.args.slot c.read-fields.result c.read-fields.ensures) c.fields_at-next.ensures (sym c.in-Some.is ∙ c.fault.ensures)

pub returns-in-None-clause-insn : goal.returns-in-None-clause-insn
returns-in-None-clause-insn c =
    let s = sym c.requires.second ∙ c.if-second.false in
    let f = fields_are c.args.bytes.now c.args.slot c.read-fields.result c.read-fields.ensures in (
      own_fault c.args.bytes.now c.args.slot c.read-fields.result c.fields_at-next.result _ c.requires.whole s f c.fields_at-next.ensures (sym c.in-None.is ∙ c.fault.ensures),
      own_insn_at c.args.bytes.now c.args.slot c.read-fields.result c.fields_at-next.result c.insn.result s f c.fields_at-next.ensures c.insn.ensures,
    )

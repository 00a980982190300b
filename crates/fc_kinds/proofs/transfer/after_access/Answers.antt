use Rattle.std.proofs.Common.{◌≡◌, ℤ, None, Some, subst, rules, to_z, of_z, w16}
use Rattle.std.specs.Prelude.{IfErr, IfOk}
use Rattle.fc_isa.specs.declared.insn.Insn.TheVariants.{StoreImm}
use Rattle.fc_kinds.specs.Transfer.{transfer}
use Rattle.fc_kinds.proofs.transfer.after_access.Goals as goal

pub returns-in-StoreImm-clause-after : goal.returns-in-StoreImm-clause-after
returns-in-StoreImm-clause-after c =
    let arm = c.in-StoreImm in
    let back : to_z w16 (of_z w16 arm.offset) ≡ arm.offset = search rules in
    rw arm.is (subst (λ (k : ℤ). IfOk c.store_imm.result (λ u. transfer c.args.vars_size (StoreImm arm.size arm.base k arm.imm) c.args.regs.now
    ≡ Some c.store_imm.new.regs)) back (c.store_imm.ensures.after arm.imm))

pub returns-in-StoreImm-clause-refused : goal.returns-in-StoreImm-clause-refused
returns-in-StoreImm-clause-refused c =
    let arm = c.in-StoreImm in
    let back : to_z w16 (of_z w16 arm.offset) ≡ arm.offset = search rules in
    rw arm.is (subst (λ (k : ℤ). IfErr c.store_imm.result (λ rule. transfer c.args.vars_size (StoreImm arm.size arm.base k arm.imm) c.args.regs.now ≡ None))
    back (c.store_imm.ensures.refused arm.imm))

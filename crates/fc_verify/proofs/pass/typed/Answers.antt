use Rattle.std.proofs.Common.{rules, ◌≡◌, drop, length, sym, subst}
use Rattle.std.proofs.lemmas.List.{take_at}
use Rattle.fc_image.specs.Head.{loops_allowed}
use Rattle.fc_image.specs.Loops.{loops_in}
use Rattle.fc_image.specs.LoopLaws.{AreLoops}
use Rattle.fc_verify.specs.Runs.{IsTypedProgram}
use Rattle.fc_verify.specs.Typing.{States, IsTypingOf}
use Rattle.fc_verify.proofs.PassLaws.{exact, IsExact}
use Rattle.fc_verify.proofs.pass.typed.Goals as goal

pub returns-in_err-pass_slots-clause-untyped : goal.returns-in_err-pass_slots-clause-untyped
returns-in_err-pass_slots-clause-untyped c =
    let p = c.requires.program in
    let version = c.args.version in
    let code = c.args.code.now in
    let loops : AreLoops code (loops_in version code) = (c.shaped_loops_are_loops.ensures (loops_allowed version) code p.insns p.whole p.shaped).typing in
    let no : (t : States) → IsTypingOf version c.args.vars_size code t → ⊥ = subst (IsExact version c.args.vars_size code (loops_in version code)) c.in_err-pass_slots.ensures.refused (exact version c.args.vars_size code (loops_in version code) p.some p.insns loops) in
    search (rules, no)

pub returns-clause-typing : goal.returns-clause-typing
returns-clause-typing c =
    let p = c.requires.program in
    let version = c.args.version in
    let code = c.args.code.now in
    let len : length c.pass_slots.new.states ≡ c.first_states-states.result.len = search rules in
    let loops : AreLoops code (loops_in version code) = (c.shaped_loops_are_loops.ensures (loops_allowed version) code p.insns p.whole p.shaped).typing in
    let typing : IsTypingOf version c.args.vars_size code c.pass_slots.new.states = subst (IsExact version c.args.vars_size code (loops_in version code)) c.in_ok-pass_slots.ensures.passed (exact version c.args.vars_size code (loops_in version code) p.some p.insns loops) in
    subst (IsTypedProgram version c.args.vars_size code) (sym (take_at c.pass_slots.new.states (drop (length c.pass_slots.new.states) c.first_states-states.result.items) c.first_states-states.result.len len))
    (record { program = p; typing = typing })

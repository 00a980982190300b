use Rattle.std.proofs.Common.{◌≡◌, ◌+◌, None, List, length, ap, sym, subst, rules, ◌∙◌, lit<, arith}
use Rattle.std.specs.Prelude.{All}
use Rattle.std.specs.List.{flat_map}
use Rattle.std.proofs.lemmas.List.{length_push, take_all}
use Rattle.std.proofs.lemmas.Iterator.Splits.{YieldsList-from_str_split}
use Rattle.std.proofs.lemmas.Iterator.Consumers.{YieldsList-at, YieldsList-turn, YieldsList-end}
use Rattle.fc_isa.specs.Program.{is_program}
use Rattle.fc_asm.specs.Names.{Text}
use Rattle.fc_asm.specs.Syntax.{lines_of, line_meaning}
use Rattle.fc_asm.specs.Assembled.{line_slots, mistake_in}
use Rattle.fc_asm.proofs.Lines.{more_faultless, more_slots, first_error, no_error}
use Rattle.fc_asm.proofs.Slots.{lines_program}
use Rattle.fc_asm.proofs.Law.{listed_faultless, listed_slots}
use Rattle.fc_asm.proofs.assembler.assemble_lines.Goals as goal

pub loop-code-preserved : goal.loop-code-preserved
unfolding lines_of
loop-code-preserved c =
    let road = YieldsList-at c.into_iter-code-iterator.ensures.into_iter_gives (YieldsList-from_str_split 10 c.args.text.now (lit< tt) c.split-code-items.ensures.text c.split-code-items.ensures.has_more c.split-code-items.ensures.pattern) in
    let turn = YieldsList-turn road c.loop-code.yielded _ c.loop-code.yielded_by _ _ c.in-Some.code c.in-Some.is c.next.ensures.steps in
    let one_more = length_push c.loop-code.yielded c.in-Some.code in
    record {
      count = ap (λ n. n + 1) c.loop-code.invariant.count ∙ sym one_more;
      faultless = more_faultless (lines_of c.args.text.now) (length c.loop-code.yielded) _ c.in-Some.code.now turn one_more c.in_ok-assemble_line.ensures.faultless c.loop-code.invariant.faultless;
      slots = more_slots (lines_of c.args.text.now) (length c.loop-code.yielded) _ c.in-Some.code.now turn one_more c.loop-code.program.items _ c.loop-code.invariant.slots c.in_ok-assemble_line.ensures.slots;
    }

pub returns-in_err-assemble_line-clause-fault : goal.returns-in_err-assemble_line-clause-fault
unfolding lines_of
returns-in_err-assemble_line-clause-fault c =
    let road = YieldsList-at c.into_iter-code-iterator.ensures.into_iter_gives (YieldsList-from_str_split 10 c.args.text.now (lit< tt) c.split-code-items.ensures.text c.split-code-items.ensures.has_more c.split-code-items.ensures.pattern) in
    let turn = YieldsList-turn road c.loop-code.yielded _ c.loop-code.yielded_by _ _ c.in-Some.code c.in-Some.is c.next.ensures.steps in
    let fault = first_error (lines_of c.args.text.now) (length c.loop-code.yielded) (c.loop-code.line + 1) c.in-Some.code.now turn c.in_err-assemble_line.field-0.0 (ap (λ n. n + 1) c.loop-code.invariant.count) c.in_err-assemble_line.ensures.fault c.loop-code.invariant.faultless in
    search rules

pub returns-in_err-assemble_line-clause-listed : goal.returns-in_err-assemble_line-clause-listed
unfolding lines_of
returns-in_err-assemble_line-clause-listed c = λ p program insns text.
    let road = YieldsList-at c.into_iter-code-iterator.ensures.into_iter_gives (YieldsList-from_str_split 10 c.args.text.now (lit< tt) c.split-code-items.ensures.text c.split-code-items.ensures.has_more c.split-code-items.ensures.pattern) in
    let turn = YieldsList-turn road c.loop-code.yielded _ c.loop-code.yielded_by _ _ c.in-Some.code c.in-Some.is c.next.ensures.steps in
    let memory = no_error (lines_of c.args.text.now) (length c.loop-code.yielded) (c.loop-code.line + 1) c.in-Some.code.now turn c.in_err-assemble_line.field-0.0 c.in_err-assemble_line.ensures.fault (listed_faultless c.args.text.now p program insns text) in
    search rules

pub returns-clause-program : goal.returns-clause-program
unfolding lines_of
returns-clause-program c =
    let road = YieldsList-at c.into_iter-code-iterator.ensures.into_iter_gives (YieldsList-from_str_split 10 c.args.text.now (lit< tt) c.split-code-items.ensures.text c.split-code-items.ensures.has_more c.split-code-items.ensures.pattern) in
    let end = YieldsList-end road c.loop-code.yielded _ c.loop-code.yielded_by _ _ c.in-None.is c.next.ensures.steps in
    let whole = take_all (length c.loop-code.yielded) (lines_of c.args.text.now) (omega (arith, end.1)) in
    let P : List Text → Type 0 = λ t. All (λ l. mistake_in (line_meaning l) ≡ None) t in
    record {
      faultless = subst P whole c.loop-code.invariant.faultless;
      slots = c.loop-code.invariant.slots ∙ ap (flat_map line_slots) whole;
    }

pub returns-clause-slots : goal.returns-clause-slots
returns-clause-slots c = ap is_program (returns-clause-program c).slots ∙ lines_program _

pub returns-clause-listed : goal.returns-clause-listed
returns-clause-listed c = λ p program insns text. (returns-clause-program c).slots ∙ listed_slots c.args.text.now p program insns text

use Rattle.std.proofs.Common.{lit<, Some, None, Ok, sym, ap, ◌∙◌}
use Rattle.std.proofs.lemmas.Str.Pattern.{strip_prefix_char}
use Rattle.fc_asm.proofs.Numbers.{wide_no, wide_parsed, wide_unparsed, wide_minus_zero, wide_minus, wide_minus_unparsed}
use Rattle.fc_asm.proofs.operand.wide.Goals as goal

pub returns-then-not-writes_number : goal.returns-then-not-writes_number
returns-then-not-writes_number c = sym (wide_no c.args.word.now (sym c.if-not-writes_number.ensures))

pub returns-in-Ok : goal.returns-in-Ok
returns-in-Ok c =
    sym (wide_parsed c.args.word.now c.parse.result c.in-Ok.value (sym c.if-not-writes_number.ensures) (strip_prefix_char 45 c.args.word.now None c.in-None.ensures.cases (lit< tt)) c.parse.ensures.value.0 c.in-Ok.is)

pub returns-in-Err : goal.returns-in-Err
returns-in-Err c =
    sym (wide_unparsed c.args.word.now c.parse.result c.in-Err.field-0 (sym c.if-not-writes_number.ensures) (strip_prefix_char 45 c.args.word.now None c.in-None.ensures.cases (lit< tt)) c.parse.ensures.value.0 c.in-Err.is)

pub returns-then-size-eq0 : goal.returns-then-size-eq0
returns-then-size-eq0 c =
    let minus = strip_prefix_char 45 c.args.word.now (Some c.in-Some.digits) c.in-Some.ensures.cases (lit< tt) in
    sym (wide_minus_zero c.args.word.now c.in-Some.digits.now c.parse-in-Some.result minus (sym c.if-not-writes_number.ensures) c.parse-in-Some.ensures.value.0 (c.in-Ok-parse.is ∙ ap Ok c.if-size-eq0.true))

pub returns-else-size-eq0 : goal.returns-else-size-eq0
returns-else-size-eq0 c =
    let minus = strip_prefix_char 45 c.args.word.now (Some c.in-Some.digits) c.in-Some.ensures.cases (lit< tt) in
    sym (wide_minus c.args.word.now c.in-Some.digits.now c.parse-in-Some.result c.in-Ok-parse.size minus (sym c.if-not-writes_number.ensures) c.parse-in-Some.ensures.value.0 c.in-Ok-parse.is c.if-size-eq0.false)

pub returns-in-Err-parse : goal.returns-in-Err-parse
returns-in-Err-parse c =
    let minus = strip_prefix_char 45 c.args.word.now (Some c.in-Some.digits) c.in-Some.ensures.cases (lit< tt) in
    sym (wide_minus_unparsed c.args.word.now c.in-Some.digits.now c.parse-in-Some.result c.in-Err-parse.field-0 minus (sym c.if-not-writes_number.ensures) c.parse-in-Some.ensures.value.0 c.in-Err-parse.is)

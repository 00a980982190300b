use Rattle.std.proofs.Common.{Some, None, lit<}
use Rattle.std.proofs.lemmas.Str.Pattern.{split_once_first}
use Rattle.fc_asm.proofs.Words.{words_before, words_whole}
use Rattle.fc_asm.proofs.line.words.Goals as goal

pub returns-in-Some : goal.returns-in-Some
returns-in-Some c =
    let cut = split_once_first 59 c.args.line.now (Some (c.in-Some.code, c.in-Some.field-0-1)) c.in-Some.ensures.cases (lit< tt) in
    words_before c.args.line.now c.in-Some.code.now _ cut.1 c.parts.ensures

pub returns-in-None : goal.returns-in-None
returns-in-None c =
    words_whole c.args.line.now _ (split_once_first 59 c.args.line.now None c.in-None.ensures.cases (lit< tt)) c.parts-in-None.ensures

use Rattle.std.proofs.Common.{◌∙◌, sym, subst, true, ◌≡◌}
use Rattle.std.specs.List.{list_all}
use Rattle.std.specs.Str.{chars}
use Rattle.fc_fetch.specs.Printing.{is_shown_char}
use Rattle.fc_fetch.proofs.Texts.{no_text, text_is}
use Rattle.fc_fetch.proofs.printer.plain_text.Goals as goal

pub returns-in_default : goal.returns-in_default
returns-in_default c = no_text _ c.in_default.ensures.cases.0

pub returns-then-are_plain : goal.returns-then-are_plain
returns-then-are_plain c =
    let same = c.in-Ok.ensures.cases.0 in
    let plain = subst (λ x. list_all is_shown_char (chars x) ≡ true) same (sym c.are_plain.ensures ∙ c.if-are_plain.true) in
    (text_is _ c.in-Ok.ensures.cases.1 plain, same)

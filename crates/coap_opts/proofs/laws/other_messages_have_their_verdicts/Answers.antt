use Rattle.std.proofs.Common.{true, false}
use Rattle.std.proofs.lemmas.Bool.{eq-eqb, ne_eqb}
use Rattle.coap_opts.proofs.Checked.{acknowledged_by, is_ignored, is_rejected, reset_by}
use Rattle.coap_opts.proofs.laws.other_messages_have_their_verdicts.Goals as goal

pub returns : goal.returns
returns c = record {
  rejected = is_rejected;
  ignored = is_ignored;
  acknowledges = λ m kind empty. acknowledged_by m true (eq-eqb m.code 0 empty) kind;
  resets = λ m kind empty. reset_by m true (eq-eqb m.code 0 empty) kind;
  acknowledges_nothing = λ m kind other. acknowledged_by m false (ne_eqb m.code 0 other) kind;
  resets_nothing = λ m kind other. reset_by m false (ne_eqb m.code 0 other) kind;
}

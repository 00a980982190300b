use Rattle.std.proofs.Common.{◌∙◌, ap, sym}
use Rattle.coap_opts.specs.Served.{rows}
use Rattle.coap_opts.specs.Verdict.{has}
use Rattle.coap_opts.proofs.Recognised.{recognised_by_place, unplaced}
use Rattle.coap_opts.proofs.recognition.recognised_place.Goals as goal

pub returns-in_err-place-clause-recognised : goal.returns-in_err-place-clause-recognised
returns-in_err-place-clause-recognised c = ap has c.from_residual.ensures ∙ sym (unplaced _ _ _ _ (sym c.row_place.ensures.place ∙ c.in_err-place.was))

pub returns-then-fits-clause-recognised : goal.returns-then-fits-clause-recognised
unfolding rows
returns-then-fits-clause-recognised c =
    sym (recognised_by_place _ _ _ c.in_ok-place.place _ _ (sym c.row_place.ensures.place ∙ c.in_ok-place.was) ∙ (sym c.fits.ensures ∙ c.if-fits.true))

pub returns-else-fits-clause-recognised : goal.returns-else-fits-clause-recognised
unfolding rows
returns-else-fits-clause-recognised c =
    sym (recognised_by_place _ _ _ c.in_ok-place.place _ _ (sym c.row_place.ensures.place ∙ c.in_ok-place.was) ∙ (sym c.fits.ensures ∙ c.if-fits.false))

use Rattle.std.proofs.Common.{◌≡◌, ◌<◌, ◌==◌, ◌∙◌, None, ap, length, not, refl, sym, arith}
use Rattle.std.specs.List.{slice_index_or}
use Rattle.coap_opts.specs.declared.served.TheConstants.{ROWS}
use Rattle.coap_opts.specs.Firsts.{FirstValues, cons_if, first_at, first_with}
use Rattle.coap_opts.proofs.Kept.{is_none_by, kept}
use Rattle.coap_opts.proofs.firsts.Firsts.keep.Goals as goal

pub returns-then-is_none : goal.returns-then-is_none
returns-then-is_none c number wanted left placed =
    let values = c.self.inside.values in
    let long : length values ≡ ROWS = c.self.invariant in
    let within : c.args.place < length values = omega (arith, long, c.requires) in
    let none : slice_index_or values c.args.place None ≡ None = is_none_by _ (c.is_none.ensures ∙ ap not c.if-is_none.true) in
    ap (λ (v : FirstValues). first_with (first_at v wanted) (cons_if (number == wanted) c.args.value.now left)) (sym c.self.view_is) ∙
    kept values c.args.place number wanted c.args.value left _ refl within placed none

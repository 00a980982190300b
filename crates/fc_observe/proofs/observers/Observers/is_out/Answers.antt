use Rattle.std.proofs.Common.{◌≡◌, sym, ◌∙◌}
use Rattle.std.specs.List.{position}
use Rattle.std.specs.Prelude.{is_some}
use Rattle.fc_observe.specs.Observers.{is_out}
use Rattle.fc_observe.proofs.Places.{is_some-position, is_some-find}
use Rattle.fc_observe.proofs.observers.Observers.is_out.Goals as goal

pub returns : goal.returns
returns c =
    let w = c.args.self.now in
    let out = is_out c.args.turn w in
    let some : c.is_some.result ≡ is_some (position out w.held) = cc in
    some ∙ (is_some-position out w.held ∙ sym (is_some-find out w.held))

use Rattle.std.proofs.Common.{◌≡◌, ◌∙◌, ◌≤◌, length, ap, arith}
use Rattle.std.proofs.lemmas.List.{length-take-le}
use Rattle.fc_help.specs.Region.{padded}
use Rattle.fc_help.proofs.Laid.{padded_over}
use Rattle.fc_help.proofs.request.write_payload.Goals as goal

pub returns : goal.returns
returns c =
    let at = c.max-written.result in
    let most = c.max-written.ensures in
    let before : c.args.before ≤ at = omega (arith, most) in
    let fits : length c.args.payload.now ≤ at = omega (arith, most) in
    let few : at ≤ 1024 = omega (arith, most, c.requires.before, c.requires.payload) in
    let is : c.write_padded.new.room ≡ padded at c.args.payload.now = c.write_padded.ensures ∙ ap (λ n. padded n c.args.payload.now) (length-take-le at c.args.room.now (omega (arith, few, c.requires.room))) in
    padded_over c.args.room.now c.args.payload.now c.write_padded.new.room c.args.before at c.requires.room before fits few c.requires.zeros is

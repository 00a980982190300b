use Rattle.std.proofs.Common.{◌≡◌, ◌∙◌, ◌++◌, length, length-drop, ap, arith}
use Rattle.fc_help.specs.Region.{padded}
use Rattle.fc_help.proofs.Laid.{others_kept, written_over}
use Rattle.fc_help.proofs.request.write_start.Goals as goal

pub returns : goal.returns
returns c =
    let head : length c.copy_from_slice.new.self ≡ 16 = ap length c.copy_from_slice.ensures.after ∙ c.told-head in
    let long = length-drop 16 c.args.room.now in
    let query : c.write_padded.new.room ≡ padded 64 c.args.query.now = c.write_padded.ensures ∙ ap (λ n. padded n c.args.query.now) (ap length (others_kept c.args.room.now c.copy_from_slice.new.self 16 head) ∙ omega (arith, long, c.requires.room)) in
    written_over c.args.room.now c.copy_from_slice.new.self c.write_padded.new.room 16 head ∙ (λ i. c.copy_from_slice.ensures.after i ++ query i)

use Rattle.std.proofs.Common.{◌≡◌, ◌+◌, ◌-◌, sym, arith}
use Rattle.fc_image.proofs.FunctionTables.{within_counted}
use Rattle.fc_image.proofs.functions.crosses.Goals as goal

pub returns : goal.returns
returns c =
    let code = c.args.code.now in
    let slot = c.args.slot in
    let low = c.requires.counts.each slot (omega (arith, c.requires.later, c.requires.within)) in
    let high = c.requires.counts.each c.args.place c.requires.within in
    let place : slot + (c.args.place - slot) + 1 ≡ c.args.place + 1 = omega (arith, c.requires.later) in
    rw (low, high, ← place) (sym (within_counted code slot (c.args.place - slot)))

use Rattle.std.proofs.Common.{◌≡◌, ℕ, ◌+◌, ◌-◌, ◌*◌, ◌/◌, arith}
use Rattle.std.proofs.lemmas.Nat.{div-add-mod'}
use Rattle.std.proofs.Math.Nat.{suc-mul}
use Rattle.fc_host.proofs.laws.timers_keep_their_beat.Goals as goal

pub returns-clause-whole : goal.returns-clause-whole
returns-clause-whole c = λ now t due below.
    let beats = (now - t.due) / t.every in
    (beats + 1, omega (arith, due, below, div-add-mod' (now - t.due) t.every, suc-mul beats t.every))

use Rattle.std.proofs.Common.{◌<◌, Some, arith}
use Rattle.fc_server.specs.Ingresses.{never}
use Rattle.fc_receive.proofs.rounds.next_wait.Goals as goal

pub returns : goal.returns
returns g c =
    let due = c.first_due-due.result in
    let timed : due < never = omega (arith, c.if-due.false, c.first_due-due.type_inv) in
    (Some c.now-ended.result, (due, c.next_call-wait.result, c.first_due-due.ensures, c.next_call-wait.ensures, (timed, c.until_due.ensures)), c.now-ended.ensures)

use Rattle.std.proofs.Common.{arith}
use Rattle.sqlite.specs.State.{HasCleanDisk}
use Rattle.sqlite.specs.Files.{file_state}
use Rattle.fc_sql.proofs.file.open_from.Goals as goal

pub returns-in-Ok-clause-found : goal.returns-in-Ok-clause-found
returns-in-Ok-clause-found g c clean =
    let was = c.in_ok-connect.field-0 in
    let early : HasCleanDisk (file_state was) = omega (arith, c.in-Ok.ensures.crash.clean, clean) in
    let it = c.in_ok-connect.ensures.opened early in
    record { was = was; opened = it.0; found = it.1; stores = c.in-Ok.ensures.found clean }

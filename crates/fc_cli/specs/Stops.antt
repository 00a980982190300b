-- The status of a program that stops before the end of its lines.
use Rattle.fc_cli.specs.declared.status.Status.{Status}
use Rattle.fc_cli.specs.declared.status.Status.TheVariants.{Bad, Failed}
use Rattle.fc_cli.specs.declared.stop.Stop.{Stop}
use Rattle.fc_cli.specs.declared.stop.Stop.TheVariants.{BadLine, Input, Output, Memory}

-- the status of a stop: `Bad` for a bad line, and `Failed` for each other reason.
abbrev pub status_of : Stop → Status
status_of (BadLine line) = Bad
status_of (Input error) = Failed
status_of (Output error) = Failed
status_of (Memory error) = Failed

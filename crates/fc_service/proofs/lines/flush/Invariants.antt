use Rattle.std.specs.Io.KnownBytes.{Appends}
use Rattle.std.specs.Prelude.{flat_map}
use Rattle.fc_lines.specs.Emissions.{printed}
use Rattle.fc_server.proofs.FlushingSteps.{Steps}
use Rattle.fc_service.proofs.lines.flush.Given as goal

-- at least `taken` steps were taken, and exactly the datagrams sent by the steps were printed.
abbrev pub invariant-steps : goal.invariant-steps
invariant-steps g l = Steps g.N.Ingress.calls (λ es. Appends (g.W.Write.contents l.fn.out) (g.W.Write.contents l.out) (flat_map printed es)) l.taken l.now l.fn.ingress l.ingress l.flushing

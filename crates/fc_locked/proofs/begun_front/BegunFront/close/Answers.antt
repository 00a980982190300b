use Rattle.fc_locked.proofs.begun_front.BegunFront.close.Goals as goal

pub returns : goal.returns
returns g c = record { entries = c.args.self.filed.calls; led = c.close.ensures.led; closed = c.close.ensures.closed }

use Rattle.std.proofs.Common.{rules, refl}
use Rattle.coap_observer.proofs.Observes.{observe_fits}
use Rattle.coap_observer.proofs.observing.write_request.Goals as goal

pub write-requires : goal.write-requires
write-requires c = observe_fits c.args.client_request.now c.args.interest _ _ _ _ _ c.ranges.id.fits c.requires refl (search rules)

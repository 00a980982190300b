use Rattle.coap_msg.proofs.Walk.{walked_none, walked_more, walked_cut, walked_end}
use Rattle.coap_msg.proofs.options.after_options.Goals as goal

pub loop-rest-init : goal.loop-rest-init
loop-rest-init c = walked_none c.args.bytes.now

pub returns-in_err-option : goal.returns-in_err-option
returns-in_err-option c = rw c.from_residual.ensures (walked_cut c.args.bytes.now c.loop-rest.number c.loop-rest.rest.now c.loop-rest.invariant (cc) c.in_err-option.ensures.option)

pub loop-rest-preserved : goal.loop-rest-preserved
loop-rest-preserved c = walked_more c.args.bytes.now c.loop-rest.number c.loop-rest.rest.now _ c.loop-rest.invariant (cc) c.in_ok-option.ensures.option c.in_ok-option.ensures.shorter

pub returns : goal.returns
returns c = walked_end c.args.bytes.now c.loop-rest.number c.loop-rest.rest.now c.loop-rest.invariant (cc)

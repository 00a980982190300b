use Rattle.std.proofs.Common.{rules, ◌≤◌, List, length, filter, Some, sym, subst}
use Rattle.coap_block.specs.declared.transfer.Transfer.{Transfer}
use Rattle.coap_block.specs.Uploads.{is_transfer_of}
use Rattle.coap_block.proofs.Single.{one_added}
use Rattle.coap_block.proofs.uploads.Uploads.add.Goals as goal

pub invariant_of-self : goal.invariant_of-self
invariant_of-self c = (search rules, search rules, λ to n. subst (λ (l : List Transfer). length (filter (is_transfer_of to n) l) ≤ 1) (sym c.add_block.ensures.after) (one_added c.self.inside.held.items c.args.now c.args.endpoint to c.args.slot n (Some c.in-Some.block) c.args.payload.now (c.self.invariant.2 to n)))

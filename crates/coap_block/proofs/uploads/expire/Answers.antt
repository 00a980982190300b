use Rattle.std.proofs.Common.{rules}
use Rattle.std.proofs.lemmas.Fn.{filter_same}
use Rattle.coap_block.specs.Uploads.{is_under_way}
use Rattle.coap_block.proofs.uploads.expire.Goals as goal

pub returns-clause-held : goal.returns-clause-held
returns-clause-held c = filter_same _ (is_under_way c.args.now) _ (λ x b f' k. search rules) _ _ c.retain.ensures.filtered

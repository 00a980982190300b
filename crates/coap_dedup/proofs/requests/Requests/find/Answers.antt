use Rattle.std.proofs.Common.{◌∙◌, ap, sym}
use Rattle.std.specs.Prelude.{find}
use Rattle.coap_dedup.specs.declared.key.Key.{Key}
use Rattle.coap_dedup.specs.Requests.{has_key}
use Rattle.coap_dedup.proofs.Index.{key_within, none_found, same_key_at}
use Rattle.coap_dedup.proofs.requests.Requests.find.Goals as goal

pub at-requires-clause-index : goal.at-requires-clause-index
at-requires-clause-index c = key_within c.args.self.now.items c.in-Ok.index c.args.key.now (search c.in-Ok.ensures.found)

pub returns-in-Ok-clause-found : goal.returns-in-Ok-clause-found
returns-in-Ok-clause-found c =
    let same = same_key_at c.args.self.now.items c.in-Ok.index c.args.key.now c.at.result.now (search c.in-Ok.ensures.found) c.at.ensures.entry in
    sym (ap (λ (k : Key). find (has_key k) c.args.self.now.items) (sym same) ∙ c.at.ensures.found)

pub returns-in-Err-clause-found : goal.returns-in-Err-clause-found
returns-in-Err-clause-found c = sym (none_found c.args.self.now.items c.args.key.now c.in-Err.index (search c.in-Err.ensures.absent))

use Rattle.std.proofs.Common.{◌+◌, ◌*◌, [], ◌∷◌, Bool, ap, if◌then◌else◌}
use Rattle.std.proofs.lemmas.Bool.{le-ltb, lt-ltb}
use Rattle.coap_opts.specs.Values.{block_bytes}
use Rattle.coap_client.specs.declared.part.Part.TheVariants.{Whole, Body}
use Rattle.coap_client.proofs.laws.bodies_go_in_blocks.Goals as goal

pub returns-clause-large : goal.returns-clause-large
returns-clause-large c = λ count lt. ap (λ (b : Bool). if b then Body 0 6 else Whole) (lt-ltb 1024 count lt)

pub returns-clause-small : goal.returns-clause-small
returns-clause-small c = λ count le. ap (λ (b : Bool). if b then Body 0 6 else Whole) (le-ltb 1024 count le)

pub returns-clause-more : goal.returns-clause-more
returns-clause-more c = λ n count lt. ap (λ (b : Bool). (27, block_bytes (record { number = n; more = b; szx = 6 })) ∷ []) (lt-ltb (1024 * (n + 1)) count lt)

pub returns-clause-last : goal.returns-clause-last
returns-clause-last c = λ n count le. ap (λ (b : Bool). (27, block_bytes (record { number = n; more = b; szx = 6 })) ∷ []) (le-ltb (1024 * (n + 1)) count le)

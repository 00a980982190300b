use Rattle.std.proofs.Common.{◌∷◌, ◌++◌, [], codes, ap, ◌∙◌, List, ℕ}
use Rattle.coap_opts.specs.Values.{uint_bytes}
use Rattle.coap_client.specs.declared.part.Part.TheVariants.{Answer}
use Rattle.coap_client.specs.Parts.{part_options, request_options}
use Rattle.coap_client.specs.Paths.{slices_in}
use Rattle.coap_observer.proofs.laws.further_blocks_are_requested_without_observe.Goals as goal

pub returns-clause-options : goal.returns-clause-options
unfolding uint_bytes
returns-clause-options c = λ e id path query.
    ap (λ (segments : List (List ℕ)). request_options segments [] (slices_in e.target.query.items) ++ part_options (Answer 1 6) 0) path
    ∙ ap (λ (arguments : List (List ℕ)). request_options (codes "r" ∷ []) [] arguments ++ part_options (Answer 1 6) 0) query

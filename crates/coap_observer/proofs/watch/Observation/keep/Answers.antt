use Rattle.std.proofs.Common.{rules, ◌++◌, ◌∷◌, [], ◌∙◌, ap}
use Rattle.std.proofs.lemmas.Fn.{filter_same}
use Rattle.coap_msg.specs.Windows.{within_window}
use Rattle.coap_observer.specs.Notices.{mark}
use Rattle.coap_observer.proofs.watch.Observation.keep.Goals as goal

pub returns-clause-marks : goal.returns-clause-marks
returns-clause-marks c =
    c.in_ok-push.ensures.items
    ∙ ap (λ marks. marks ++ mark c.args.id c.args.at ∷ []) (filter_same _ (λ k. within_window c.args.at k.at) _ (λ x b f' k. search rules) _ _ c.retain.ensures.filtered)

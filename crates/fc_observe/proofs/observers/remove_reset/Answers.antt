use Rattle.std.proofs.Common.{rules}
use Rattle.std.specs.Prelude.{not}
use Rattle.std.proofs.lemmas.Fn.{filter_same}
use Rattle.fc_observe.specs.Entries.{has_last_id}
use Rattle.fc_observe.proofs.observers.remove_reset.Goals as goal

pub returns-clause-held : goal.returns-clause-held
returns-clause-held c = filter_same _ (λ o. not (has_last_id c.args.endpoint c.args.id o)) _ (λ x b f' k. search rules) _ _ c.retain.ensures.filtered

use Rattle.std.proofs.Common.{rules, subst, sym, List, length, ◌<◌}
use Rattle.std.specs.Prelude.{not}
use Rattle.std.proofs.lemmas.Fn.{filter_same}
use Rattle.fc_observe.specs.declared.entry.Entry.{Entry}
use Rattle.fc_observe.specs.Entries.{is_entry_of}
use Rattle.fc_observe.proofs.Lists.{fewer_without}
use Rattle.fc_observe.proofs.observers.remove_of.Goals as goal

pub returns-clause-held : goal.returns-clause-held
returns-clause-held c = filter_same _ (λ o. not (is_entry_of c.args.endpoint c.args.token.now.items o)) _ (λ x b f' k. search rules) _ _ c.retain.ensures.filtered

pub returns-clause-less : goal.returns-clause-less
returns-clause-less c found = subst (λ (l : List Entry). length l < length c.args.held.now.items) (sym (returns-clause-held c)) (fewer_without (is_entry_of c.args.endpoint c.args.token.now.items) c.args.held.now.items found)

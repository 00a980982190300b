use Rattle.std.proofs.Common.{◌≡◌, ◌||◌, None}
use Rattle.coap_opts.specs.Recognition.{has_unknown_critical}
use Rattle.coap_opts.specs.Collected.{IsUncollected}
use Rattle.coap_opts.proofs.collector.collect.Given as goal

abbrev pub invariant-loop-number : goal.invariant-loop-number
invariant-loop-number l = record {
  parts : IsUncollected l.message l.collected l.before l.number-iterator;
  unknown : l.collected.has_unknown || has_unknown_critical l.message.code l.before l.number-iterator ≡ has_unknown_critical l.message.code None l.message.options;
}

use Rattle.std.proofs.Common.{◌≡◌, ◌-◌, ◌≤◌, ◌++◌, length, replicate}
use Rattle.std.specs.Vec.{vec_capacity}
use Rattle.coap_dedup.specs.Views.{no_answer}
use Rattle.coap_dedup.proofs.answers.touch.Given as goal

abbrev pub invariant-loop-place : goal.invariant-loop-place
invariant-loop-place l = record {
  items : l.kept.items ≡ l.fn.kept.items ++ replicate (l._place - length l.fn.kept.items) no_answer;
  start : length l.fn.kept.items ≤ l._place;
  room : vec_capacity l.kept ≡ vec_capacity l.fn.kept;
}

use Rattle.std.proofs.Common.{rules}
use Rattle.fc_replay.proofs.Events.{replayed_nothing, replayed_text}
use Rattle.fc_replay.proofs.replay.replay_list.Goals as goal

pub returns-then-is_empty : goal.returns-then-is_empty
returns-then-is_empty g c = replayed_nothing _ _ c.in_ok-text.text.items c.deref.result.now c.in_ok-begin.rest.now c.in_ok-begin.begin c.in_ok-text.ensures c.deref.ensures.value c.in_ok-begin.ensures.begun (search rules)

pub returns : goal.returns
returns g c = replayed_text _ _ _ _ c.in_ok-text.text.items c.deref.result.now c.in_ok-begin.rest.now c.list_of.result.now c.in_ok-begin.begin c.in_ok-text.ensures c.deref.ensures.value c.in_ok-begin.ensures.begun c.list_of.ensures c.in_ok-replay_lines.ensures c.flush.ensures.bytes

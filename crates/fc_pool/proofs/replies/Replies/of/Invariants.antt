use Rattle.std.proofs.Common.{◌≡◌, take}
use Rattle.fc_pool.specs.Counting.{replies_of}
use Rattle.fc_pool.proofs.replies.Replies.of.Given as goal

abbrev pub invariant-loop-share : goal.invariant-loop-share
invariant-loop-share g l = l.replies ≡ replies_of (take l.share-index l.shares)

-- Counts of replies, and the text of the counts.
use Rattle.std.specs.Prelude.{ℕ, ◌+◌, ◌++◌, Bool, true, false, Option, Some, None, List, sum_by, codes}
use Rattle.std.specs.Fmt.{decimal}
use Rattle.fc_backend.specs.Answers.{saturated}
use Rattle.fc_backend.specs.declared.share.Share.{Share}
use Rattle.fc_pool.specs.declared.replies.Replies.{Replies}

abbrev pub no_replies : Replies
no_replies = record { sent = 0; failed = 0 }

-- the sums of two counts of replies; each count stops at its maximum.
abbrev pub both_replies : Replies → Replies → Replies
both_replies a b = record { sent = saturated (a.sent + b.sent); failed = saturated (a.failed + b.failed) }

-- the counts after a reply: `Some true` was sent, `Some false` failed, and `None` is no reply.
abbrev pub counted : Option Bool → Replies → Replies
counted None r = r
counted (Some true) r = record r { sent = saturated (r.sent + 1) }
counted (Some false) r = record r { failed = saturated (r.failed + 1) }

abbrev pub sent_by : {T L M : Type 0} → Share T L M → ℕ
sent_by share = share.sent

abbrev pub failed_by : {T L M : Type 0} → Share T L M → ℕ
failed_by share = share.failed

-- the number of replies that a share's worker sent, and the number that it failed to send.
abbrev pub replies_by : {T L M : Type 0} → Share T L M → Replies
replies_by share = record { sent = sent_by share; failed = failed_by share }

-- the sums of these counts for the workers of these shares; each sum stops at 2^64 - 1.
abbrev pub replies_of : {T L M : Type 0} → List (Share T L M) → Replies
replies_of shares = record { sent = saturated (sum_by sent_by shares); failed = saturated (sum_by failed_by shares) }

-- the text of counts of replies, such as `sent 2 failed 0`.
abbrev pub replies_text : Replies → List ℕ
replies_text r = codes "sent " ++ (decimal r.sent ++ (codes " failed " ++ decimal r.failed))

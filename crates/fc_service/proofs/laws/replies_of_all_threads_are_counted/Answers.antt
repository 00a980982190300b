use Rattle.std.proofs.Common.{◌≡◌, ◌∙◌, ℕ, ◌+◌, List, [], ◌∷◌, ap}
use Rattle.fc_backend.specs.Answers.{saturated}
use Rattle.fc_locked.specs.Counts.{Tallies}
use Rattle.fc_backend.specs.Statistics.{Share}
use Rattle.fc_pool.specs.Counting.{both_replies, replies_by, replies_of}
use Rattle.fc_pool.specs.declared.replies.Replies.{Replies}
use Rattle.fc_service.proofs.laws.replies_of_all_threads_are_counted.Goals as goal

-- counts with these numbers.
abbrev these : ℕ → ℕ → Replies
these sent failed = record { sent = sent; failed = failed }

pair : (a b c d : ℕ) → a ≡ c → b ≡ d → these a b ≡ these c d
pair a b c d is also = ap (λ (n : ℕ). these n b) is ∙ ap (λ (n : ℕ). these c n) also

pub returns : goal.returns
returns g c first timers every limit persistent start stored before after replies one w is once sent failed own_sent own_failed =
    w.all
    ∙ (ap (λ (r : Replies). both_replies r (both_replies (replies_of w.shares) (replies_by w.last.done.share))) once
    ∙ (ap (λ (shares : List (Share Tallies)). both_replies (these 1 0) (both_replies (replies_of shares) (replies_by w.last.done.share))) is
    ∙ (ap (λ (r : Replies). both_replies (these 1 0) (both_replies (replies_of (one ∷ [])) r)) (pair w.last.done.share.sent w.last.done.share.failed 4 16 own_sent own_failed)
    ∙ (ap (λ (n : ℕ). both_replies (these 1 0) (both_replies (record { sent = saturated (0 + n); failed = saturated (0 + one.failed) }) (these 4 16))) sent
    ∙ ap (λ (n : ℕ). both_replies (these 1 0) (both_replies (record { sent = saturated (0 + 2); failed = saturated (0 + n) }) (these 4 16))) failed))))

-- Emissions passed to a sink, and their counts.
use Rattle.std.specs.Prelude.{◌≡◌, Bool, not, List, [], ◌∷◌, count_by, map, Some}
use Rattle.coap_msg.specs.declared.types.Emission.{Emission}
use Rattle.fc_backend.specs.Answers.{saturated}
use Rattle.fc_backend.specs.declared.call_log.CallLog.{CallLog}
use Rattle.fc_pool.specs.Counting.{counted}
use Rattle.fc_pool.specs.declared.replies.SentReplies.{SentReplies}
use Rattle.fc_pool.specs.declared.replies.Replies.{Replies}

-- an emission that was passed to a sink, and whether it was sent.
pub record Sending : Type 0 where
  pub emission : Emission
  pub out : Bool

-- these emissions were passed to a sink one after the other, the oldest first. The caller's log has
-- no other calls from `before` to `after`.
abbrev pub AreHanded : (Emission → Bool → CallLog → CallLog → Type 0) → List Sending → CallLog → CallLog → Type 0
AreHanded Went [] before after = after ≡ before
AreHanded Went (s ∷ ss) before after = (next : CallLog) × Went s.emission s.out before next × AreHanded Went ss next after

-- the counts of replies after each of these sendings was counted.
abbrev pub counted_each : List Sending → Replies → Replies
counted_each [] r = r
counted_each (s ∷ ss) r = counted_each ss (counted (Some s.out) r)

-- exactly these emissions were passed to a sink, in order. Each is counted once as sent or failed,
-- according to the sink's result.
abbrev pub Sends : (Emission → Bool → CallLog → CallLog → Type 0) → List Emission → SentReplies → SentReplies → Type 0
Sends Went emissions before after =
    (sendings : List Sending) × AreHanded Went sendings before.log after.log × (map (λ s. s.emission) sendings ≡ emissions)
    × (after.replies ≡ counted_each sendings before.replies)

-- the number of these emissions that were sent, and the number that failed; each stops at 2^64 - 1.
abbrev pub replies_to : List Sending → Replies
replies_to sendings = record {
  sent = saturated (count_by (λ s. s.out) sendings);
  failed = saturated (count_by (λ s. not s.out) sendings);
}

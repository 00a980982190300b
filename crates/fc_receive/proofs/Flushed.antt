-- The steps taken so far, with the datagrams that were passed to a sink.
use Rattle.std.proofs.Common.{◌≡◌, ℕ, ◌+◌, Bool, List, [], Option, arith, sym, subst}
use Rattle.std.specs.Option.{option_to_list}
use Rattle.coap_msg.specs.declared.types.Emission.{Emission}
use Rattle.fc_server.proofs.FlushingSteps.{Steps, next_step}
use Rattle.fc_receive.proofs.Traffic.{more_sent, none_sent}
use Rattle.fc_server.specs.Ingresses.{IngressCalls}
use Rattle.fc_server.specs.Flushing.{AreStepsTo, IsStepBy, Moves, FlushingStep, sent_in_step, sent_in_steps}
use Rattle.fc_receive.specs.Traffic.{Sends}
use Rattle.fc_pool.specs.declared.replies.SentReplies.{SentReplies}
use Rattle.fc_server.specs.declared.flush.Flushing.{Flushing}
use Rattle.fc_backend.specs.declared.call_log.CallLog.{CallLog}

module _ {S : Type 0} (calls : IngressCalls S) where
  -- if the steps so far sent no datagram, no datagram was passed to the sink so far.
  pub none_flushed : (Went : Emission → Bool → CallLog → CallLog → Type 0) (now : ℕ) (old new : S) (place : Flushing) (r : SentReplies)
      → ((steps : List FlushingStep) × AreStepsTo calls now steps old new place × (sent_in_steps steps ≡ [])) → Steps calls (λ es. Sends Went es r r) 0 now old new place
  none_flushed Went now old new place r w = (w.0, w.1, omega arith, subst (λ (es : List Emission). Sends Went es r r) (sym w.2) (none_sent Went r))

  pub one_flushed : (Went : Emission → Bool → CallLog → CallLog → Type 0) (taken now : ℕ) (old mid new : S) (from to : Flushing) (a b c : SentReplies) (out : Option Emission) → Steps calls (λ es. Sends Went es a b) taken now old mid from
      → ((step : FlushingStep) × IsStepBy calls now step mid new × (sent_in_step step ≡ out) × Moves from step to)
      → Sends Went (option_to_list out) b c → Steps calls (λ es. Sends Went es a c) (taken + 1) now old new to
  one_flushed Went taken now old mid new from to a b c out w x sends =
      next_step calls (λ es. Sends Went es a b) (λ es. Sends Went es a c) taken now old mid new from to out w x (λ es v. more_sent Went a b c es (option_to_list out) v sends)

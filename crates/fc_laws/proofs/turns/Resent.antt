-- The retransmissions of a shard's tick.
use Rattle.std.proofs.Common.{◌≡◌, ℕ, ◌+◌, ◌*◌, ◌<◌, ◌≤◌, Bool, true, false, Option, Some, None, ap, ◌∙◌, max}
use Rattle.std.specs.Prelude.{nat_lt, if◌then◌else◌}
use Rattle.std.proofs.lemmas.Bool.{le-ltb, lt-ltb}
use Rattle.arrayvec.specs.ArrayVec.{ArrayVec}
use Rattle.coap_msg.specs.declared.types.Emission.{Emission}
use Rattle.fc_observe.specs.declared.entry.Entry.{Entry as ObserverEntry}
use Rattle.fc_observe.specs.declared.entry.Phase.{Phase}
use Rattle.fc_observe.specs.declared.entry.Phase.TheVariants.{Outstanding}
use Rattle.fc_observe.specs.Entries.{retransmission_in}
use Rattle.fc_observe.specs.Observers.{list_at_time, overdue_entry, ticked_at, ticked_by}
use Rattle.fc_core.specs.declared.event.Event.TheVariants.{ShardTick}
use Rattle.fc_core.specs.History.{Seen, overdue_in, watch}
use Rattle.fc_core.specs.Legal.{Emits, resent, resent_at}

-- if no notification has timed out, the tick sends nothing.
pub none_resent : (s : Seen) (i now : ℕ) (o : Option Emission) → overdue_in s i (max (s.shard_time i) now) ≡ None → Emits s (ShardTick i now) o → o ≡ None
none_resent s i now o none sent = sent ∙ ap (λ (p : Option ℕ). resent_at p s i (max (s.shard_time i) now)) none

module _ (s : Seen) (i k now sent_at timeout count : ℕ) (bytes : ArrayVec ℕ) (x : ObserverEntry) (o : Option Emission) (first : overdue_in s i (max (s.shard_time i) now) ≡ Some k) (overdue : overdue_entry (list_at_time (max (s.shard_time i) now) (watch s (8 * k + i))) ≡ Some x) (phase : x.phase ≡ Outstanding sent_at timeout count bytes) where
  -- the tick sends the notification again if it was retransmitted less than four times, and
  -- otherwise nothing.
  resent_by : (b : Bool) → nat_lt count 4 ≡ b → Emits s (ShardTick i now) o → o ≡ resent (ticked_by (if b then Some (record { to = x.endpoint; bytes = bytes }) else None))
  resent_by b few sent =
      sent
      ∙ (ap (λ (p : Option ℕ). resent_at p s i (max (s.shard_time i) now)) first
      ∙ (ap (λ (y : Option ObserverEntry). resent (ticked_at y)) overdue
      ∙ (ap (λ (p : Phase). resent (ticked_by (retransmission_in x.endpoint p))) phase
      ∙ ap (λ (c : Bool). resent (ticked_by (if c then Some (record { to = x.endpoint; bytes = bytes }) else None))) few)))

  pub sent_again : count < 4 → Emits s (ShardTick i now) o → o ≡ Some (record { to = x.endpoint; bytes = bytes })
  sent_again few sent = resent_by true (lt-ltb count 4 few) sent

  pub sent_no_more : 4 ≤ count → Emits s (ShardTick i now) o → o ≡ None
  sent_no_more all sent = resent_by false (le-ltb count 4 all) sent

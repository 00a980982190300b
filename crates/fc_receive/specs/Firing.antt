-- Timers of a server, which fires them when they are due.
use Rattle.std.specs.Prelude.{◌≡◌, ◌⊎◌, ℕ, Bool, false, true, List, [], ◌∷◌, min, nat_lt, MatchBool}
use Rattle.fc_server.specs.Ingresses.{IngressCalls}
use Rattle.fc_server.specs.declared.engine.FireOutcome.{FireOutcome}
use Rattle.fc_server.specs.declared.engine.FireOutcome.TheVariants.{Sent}
use Rattle.fc_host.specs.Timers.{first_due, put_off}
use Rattle.fc_host.specs.declared.timer.Timer.{Timer}

-- a server, and its timers in the order in which they fire.
pub record Firing (S : Type 0) : Type 0 where
  pub ingress : S
  pub timers : List Timer

abbrev pub firing_from : {S : Type 0} → List Timer → S → Firing S
firing_from timers s = record { ingress = s; timers = timers }

-- whether a timer's job was sent to a worker.
abbrev pub is_offloaded : FireOutcome → Bool
is_offloaded (Sent number) = true
is_offloaded other = false

module _ {S : Type 0} (calls : IngressCalls S) where
  -- the timer fired once, for its own slot, and is due at its next beat. It is stored whether its
  -- job was sent to a worker.
  pub record FiresOnce (now : ℕ) (old new : Timer) (before after : S) : Type 0 where
    pub outcome : FireOutcome
    pub fires : calls.fires old.slot now before after outcome
    pub next : new ≡ record (put_off now old) { offloaded = is_offloaded outcome }

  -- the timer skips this beat, and is due at its next one: its last job was sent to a worker.
  pub record SkipsBeat (now : ℕ) (old new : Timer) (before after : S) : Type 0 where
    pub offloaded : old.offloaded ≡ true
    pub unchanged : after ≡ before
    pub next : new ≡ put_off now old

  -- before its time nothing happens to a timer. From then on it fires, or skips the beat.
  abbrev pub FiresIfDue : ℕ → Timer → Timer → S → S → Type 0
  FiresIfDue now old new before after =
      MatchBool (nat_lt now old.due) ((new ≡ old) × (after ≡ before)) (FiresOnce now old new before after ⊎ SkipsBeat now old new before after)

  -- each timer fired if it was due, in order.
  abbrev pub AreFired : ℕ → List Timer → List Timer → S → S → Type 0
  AreFired now [] [] before after = after ≡ before
  AreFired now (t ∷ ts) (u ∷ us) before after = (mid : S) × FiresIfDue now t u before mid × AreFired now ts us mid after
  AreFired now others more before after = ⊥

  -- the calls of a server, which fires its timers that are due when a datagram comes, or when time
  -- passes, before that.
  abbrev pub fired_calls : IngressCalls (Firing S)
  fired_calls = record {
    handles = λ now from bytes old new handled reply. (mid : S) × AreFired now old.timers new.timers old.ingress mid × calls.handles now from bytes mid new.ingress handled reply;
    passes = λ now old new. (mid : S) × AreFired now old.timers new.timers old.ingress mid × calls.passes now mid new.ingress;
    fires = λ slot now old new outcome. calls.fires slot now old.ingress new.ingress outcome × (new.timers ≡ old.timers);
    is_first_due = λ now due. (own : ℕ) × calls.is_first_due now.ingress own × (due ≡ min own (first_due now.timers));
    resends = λ shard now old new ticked. calls.resends shard now old.ingress new.ingress ticked × (new.timers ≡ old.timers);
    passes_over = λ shard now old new. calls.passes_over shard now old.ingress new.ingress × (new.timers ≡ old.timers);
    notifies = λ shard now old new told. calls.notifies shard now old.ingress new.ingress told × (new.timers ≡ old.timers);
    tells_gauges = λ now state gauges. calls.tells_gauges now state.ingress gauges;
    stays_idle = λ shard now until. calls.stays_idle shard now.ingress until;
  }

-- a server was prepared for a round, and its timers are as before.
abbrev pub readies_firing : {S : Type 0} → (ℕ → S → S → Type 0) → ℕ → Firing S → Firing S → Type 0
readies_firing Readies now old new = Readies now old.ingress new.ingress × (new.timers ≡ old.timers)

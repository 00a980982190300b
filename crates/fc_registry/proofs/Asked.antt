-- The job of a lease has the request of its observer's registration.
use Rattle.std.proofs.Common.{◌≡◌, ℕ, ◌+◌, ◌*◌, ◌<◌, ◌%◌, false, Option, Some, None, refl, ap, ◌∙◌, subst, arith, inl, inr}
use Rattle.std.specs.Prelude.{◌⊎◌}
use Rattle.std.specs.List.{Any, Contains}
use Rattle.std.specs.Option.{option_map}
use Rattle.std.proofs.lemmas.List.Elements.{All-contains}
use Rattle.coap_opts.specs.Values.{Place}
use Rattle.fc_observe.specs.declared.entry.Entry.{Entry}
use Rattle.fc_observe.specs.declared.entry.Turn.{Turn}
use Rattle.fc_observe.specs.Calls.{IsRegisteredBy, NextDue, observers_after}
use Rattle.fc_observe.specs.Laws.{KeepsSerial}
use Rattle.fc_observe.specs.Observers.{ObserverList, list_at_time, entry_out, is_out, next_turn}
use Rattle.fc_observe.specs.Views.{Interest, interest_of}
use Rattle.fc_observe.proofs.Hearing.{found_held}
use Rattle.fc_observe.proofs.Serials.{serials_kept}
use Rattle.fc_ticket.specs.declared.job.Job.{Job}
use Rattle.fc_registry.specs.Laws.{IsTurnFor}
use Rattle.fc_registry.specs.Slots.{Shard}
use Rattle.fc_registry.specs.Turns.{due_job, first_block, job_of_turn, turn_job}
use Rattle.fc_registry.specs.Watches.{noticed_at, watch_at}

three_bits : (szx : ℕ) → szx < 8 → szx % 8 ≡ szx
three_bits szx lt = omega (arith, lt)

-- the job of a lease has the endpoint, the token, the request and the block of the observer that it
-- is made for.
turn_for : (n number : ℕ) (o : Interest) → IsTurnFor (turn_job n number o) o
turn_for n number o = record {
  endpoint = refl;
  token = refl;
  ask = refl;
  whole = λ none. ap first_block none;
  size = λ szx lt is.
      ap first_block is ∙ ap (λ (m : ℕ). let b : Place = record { number = 0; more = false; szx = m } in Some b) (three_bits szx lt);
}

made_by : (n : ℕ) (number : ℕ) (e : Option Entry) (j : Job) → option_map (turn_job n number) (option_map interest_of e) ≡ Some j →
    (o : Entry) × (e ≡ Some o) × IsTurnFor j (interest_of o)
made_by n number None j is = absurd (cc is)
made_by n number (Some o) j is =
    let same : turn_job n number (interest_of o) ≡ j = cc is in
    (o, refl, subst (λ (x : Job). IsTurnFor x (interest_of o)) same (turn_for n number (interest_of o)))

-- the observer that the job of a granted lease is for is in the list after the grant.
given_by : (n : ℕ) (turn : Option Turn) (w : ObserverList) (j : Job) → job_of_turn n turn w ≡ Some j →
    (o : Entry) × Contains w.held o × IsTurnFor j (interest_of o)
given_by n None w j is = absurd (cc is)
given_by n (Some turn) w j is =
    let m = made_by n turn.number (entry_out turn w) j is in
    (m.0, found_held (is_out turn w) w.held m.0 m.1, m.2)

-- the observer that the job of a granted lease is for was in the list before the grant.
before_by : (now notify_serial : ℕ) (w : ObserverList) (j : Job) (o : Entry) → IsTurnFor j (interest_of o) →
    IsRegisteredBy (NextDue now notify_serial) w o ⊎ Any (KeepsSerial (NextDue now notify_serial) w o) w.held → Any (λ (x : Entry). IsTurnFor j (interest_of x)) w.held
before_by now notify_serial w j o for (inl new) = absurd new
before_by now notify_serial w j o for (inr kept) = (kept.0, kept.1, kept.2, kept.3, subst (IsTurnFor j) kept.4.0 for)

pub turn_asks : (shard : Shard) (k : ℕ) (j : Job) → due_job (Some k) shard ≡ Some j → Any (λ (o : Entry). IsTurnFor j (interest_of o)) (watch_at shard k).held
turn_asks shard k j is =
    let w = watch_at shard k in
    let c = NextDue shard.now (noticed_at shard k) in
    let g = given_by (8 * k + shard.index) (next_turn (noticed_at shard k) (list_at_time shard.now w)) (observers_after c w) j is in
    let P = λ (o : Entry). IsRegisteredBy c w o ⊎ Any (KeepsSerial c w o) w.held in
    before_by shard.now (noticed_at shard k) w j g.0 g.2 (All-contains P (observers_after c w).held g.0 (serials_kept c w) g.1)

-- Calls of a shard that are for no job that arrived before.
use Rattle.std.proofs.Common.{◌≡◌, ℕ, ◌%◌, Bool, true, List, [], ◌∷◌, ◌++◌, set, Option, Some, None, refl, ap, ◌∙◌, subst}
use Rattle.std.proofs.lemmas.List.{append-nil, set-get_or}
use Rattle.coap_msg.specs.declared.types.Endpoint.{Endpoint}
use Rattle.fc_observe.specs.declared.observers.Ticked.{Ticked}
use Rattle.fc_ticket.specs.declared.job.Job.{Job}
use Rattle.fc_registry.specs.Shards.{no_shard, shard_at}
use Rattle.fc_registry.specs.Slots.{Shard}
use Rattle.fc_registry.specs.Watches.{signal_call, signalled}
use Rattle.fc_core.specs.declared.stage.Task.{Task}
use Rattle.fc_core.specs.declared.event.Event.TheVariants.{Due}
use Rattle.fc_core.specs.History.{History}
use Rattle.fc_core.specs.Legal.{resent}
use Rattle.fc_core.specs.Stages.{new_task}
use Rattle.fc_calls.specs.Logged.{AdvancesIdle, AdvancesShard, GivesTurn, HandsSignal, ReadsCost, SkipsIdle}
use Rattle.fc_calls.specs.Doings.{HandsOn}
use Rattle.fc_server.specs.Serving.{Serves, next}
use Rattle.fc_server.specs.States.{ServerState}
use Rattle.fc_server.proofs.Served.{asked_on, resent_on, signalled_on}
use Rattle.fc_server.proofs.Quiet.{passed_quietly}
use Rattle.fc_linear.specs.Operations.{Operation, Logged, LogEntry, ShardDoes}
use Rattle.fc_linear.specs.Parts.{LeadInOrder, RightByParts, of_shard}
use Rattle.fc_linear.proofs.Afters.{After, eight}
use Rattle.fc_linear.proofs.ForJobs.{below_eight}
use Rattle.fc_linear.proofs.Firsts.{brought, entry_for, on_shard, spared}

handed_on : (reset : Bool) (from : Endpoint) (id : ℕ) (x y : Shard) → HandsOn reset from id x y → y ≡ signalled (signal_call reset from id) x
unfolding HandsOn
handed_on reset from id x y is = is

module _ (k : ℕ) (es : List LogEntry) (h : History) (end s : ServerState) (tasks : List Task) (v : Serves h s tasks) where
  pub after_signal : (shard : ℕ) (from : Endpoint) (id : ℕ) (reset : Bool) → RightByParts end s tasks (entry_for k (Logged (HandsSignal shard from id reset)) ∷ es) → After k (Logged (HandsSignal shard from id reset)) es h end
  after_signal shard from id reset st =
      let low = st.of_server.0 in
      let o = on_shard k (Logged (HandsSignal shard from id reset)) end s tasks es st shard refl low (eight h s tasks v) in
      let t : ServerState = record s { shards = set s.shards shard o.after } in
      record {
        server = t;
        tasks = tasks;
        serves = signalled_on shard low s t refl refl h tasks v from id reset (ap (λ (x : Shard). set s.shards shard x) (handed_on reset from id (shard_at s.shards shard) o.after o.does));
        rest = record { front = st.front; shards = o.shards; words = st.words; jobs = st.jobs; to_come = st.to_come; numbered = st.numbered; of_server = st.of_server.1 };
      }

  pub after_idle : (shard now : ℕ) → RightByParts end s tasks (entry_for k (Logged (AdvancesIdle shard now)) ∷ es) → After k (Logged (AdvancesIdle shard now)) es h end
  after_idle shard now st =
      let low = st.of_server.0 in
      let o = on_shard k (Logged (AdvancesIdle shard now)) end s tasks es st shard refl low (eight h s tasks v) in
      let t : ServerState = record s { shards = set s.shards shard o.after } in
      record {
        server = t;
        tasks = tasks;
        serves = passed_quietly true shard now low s t o.does.0 refl (ap (λ (x : Shard). set s.shards shard x) o.does.1) refl h tasks v;
        rest = record { front = st.front; shards = o.shards; words = st.words; jobs = st.jobs; to_come = st.to_come; numbered = st.numbered; of_server = st.of_server.1 };
      }

  pub after_shard_tick : (shard now : ℕ) (ticked : Ticked) → RightByParts end s tasks (entry_for k (Logged (AdvancesShard shard now ticked)) ∷ es) → After k (Logged (AdvancesShard shard now ticked)) es h end
  after_shard_tick shard now ticked st =
      let low = st.of_server.0 in
      let o = on_shard k (Logged (AdvancesShard shard now ticked)) end s tasks es st shard refl low (eight h s tasks v) in
      let t : ServerState = record s { shards = set s.shards shard o.after } in
      record {
        server = t;
        tasks = tasks;
        serves = resent_on shard low s t refl refl h tasks v now (resent ticked) (ap (λ (x : Shard). set s.shards shard x) o.does.1) (ap (λ (x : Ticked). resent x) o.does.0);
        rest = record { front = st.front; shards = o.shards; words = st.words; jobs = st.jobs; to_come = st.to_come; numbered = st.numbered; of_server = st.of_server.1 };
      }

  pub after_due : (shard now : ℕ) (turn : Option Job) → RightByParts end s tasks (entry_for k (Logged (GivesTurn shard now turn)) ∷ es) → After k (Logged (GivesTurn shard now turn)) es h end
  after_due shard now None st =
      let op : Operation = Logged (GivesTurn shard now None) in
      let low = st.of_server.0 in
      let o = on_shard k op end s tasks es st shard refl low (eight h s tasks v) in
      let t : ServerState = record s { shards = set s.shards shard o.after } in
      let still = spared k op end s tasks es st refl refl in
      record {
        server = t;
        tasks = tasks;
        serves = subst (λ (ts : List Task). Serves (next h (Due shard now) None) t ts) (append-nil tasks)
            (asked_on shard low s t refl refl h tasks v now None (ap (λ (x : Shard). set s.shards shard x) o.does.1) o.does.0);
        rest = record { front = st.front; shards = o.shards; words = st.words; jobs = st.jobs; to_come = st.to_come; numbered = st.numbered; of_server = st.of_server.1 };
      }
  after_due shard now (Some job) st =
      let op : Operation = Logged (GivesTurn shard now (Some job)) in
      let low = st.of_server.0 in
      let o = on_shard k op end s tasks es st shard refl low (eight h s tasks v) in
      let t : ServerState = record s { shards = set s.shards shard o.after } in
      let b = brought k op job end s tasks es refl refl st in
      record {
        server = t;
        tasks = tasks ++ new_task job ∷ [];
        serves = asked_on shard low s t refl refl h tasks v now (Some job) (ap (λ (x : Shard). set s.shards shard x) o.does.1) o.does.0;
        rest = record { front = st.front; shards = o.shards; words = st.words; jobs = b.jobs; to_come = b.to_come; numbered = b.numbered; of_server = st.of_server.1 };
      }

  -- ---- calls that are no events

  pub after_cost : (slot : ℕ) (cost : Option ℕ) → RightByParts end s tasks (entry_for k (Logged (ReadsCost slot cost)) ∷ es) → After k (Logged (ReadsCost slot cost)) es h end
  after_cost slot cost st =
      let i = slot % 8 in
      let o = on_shard k (Logged (ReadsCost slot cost)) end s tasks es st i refl (below_eight slot) (eight h s tasks v) in
      let same : set s.shards i o.after ≡ s.shards = ap (λ (x : Shard). set s.shards i x) o.does.1 ∙ set-get_or s.shards i no_shard in
      record {
        server = s;
        tasks = tasks;
        serves = v;
        rest = record {
          front = st.front;
          shards = λ j low. subst (λ (xs : List Shard). LeadInOrder ShardDoes (of_shard j es) (shard_at xs j) (shard_at end.shards j)) same (o.shards j low);
          words = st.words;
          jobs = st.jobs;
          to_come = st.to_come;
          numbered = st.numbered;
          of_server = st.of_server.1;
        };
      }

  pub after_skip : (shard now : ℕ) → RightByParts end s tasks (entry_for k (Logged (SkipsIdle shard now)) ∷ es) → After k (Logged (SkipsIdle shard now)) es h end
  after_skip shard now st = record {
    server = s;
    tasks = tasks;
    serves = v;
    rest = record { front = st.front; shards = st.shards; words = st.words; jobs = st.jobs; to_come = st.to_come; numbered = st.numbered; of_server = st.of_server.1 };
  }

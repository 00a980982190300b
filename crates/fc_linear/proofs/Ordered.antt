-- Calls that are right by parts and by jobs are one history.
use Rattle.std.proofs.Common.{◌≡◌, ℕ, ◌%◌, ◌<◌, List, [], ◌∷◌, length, refl, sym, ap, ◌∙◌}
use Rattle.fc_core.specs.declared.stage.Task.{Task}
use Rattle.fc_core.specs.History.{BeginsWith, History}
use Rattle.fc_front.specs.declared.policy.Policy.{Policy}
use Rattle.fc_core.proofs.Restoring.{restored_fit}
use Rattle.fc_calls.specs.Logged.{HandlesDatagram, AdvancesFront, FiresTimer, DrawsId, AnswersRequest, TellsReceipt, GivesReadings, LooksAt, TakesForJob, CommitsRun, InstallsProgram, RemovesProgram, HandsSignal, AdvancesIdle, AdvancesShard, GivesTurn, NotesTurn, GivesUpTurn, RaisesWord, ReadsCost, SkipsIdle}
use Rattle.fc_registry.specs.Slots.{Shard, slot_in}
use Rattle.fc_registry.specs.Starts.{CanRestore}
use Rattle.fc_store.specs.Stored.{StoredSlot, stored_in}
use Rattle.fc_registry.specs.Watches.{watch_at}
use Rattle.fc_server.specs.declared.server.Begin.{Begin}
use Rattle.fc_server.specs.Serving.{Serves}
use Rattle.fc_server.specs.States.{ServerState, begin_of, first_server, server_over}
use Rattle.fc_server.proofs.Beginning.{begins, begins_with}
use Rattle.fc_linear.specs.Operations.{Operation, Logged, LogEntry, RefusesInstall, FailsToSave, RejectsImage, emitted_of, event_of}
use Rattle.fc_linear.specs.Parts.{IsHistoryOf, LeavesServer, RightByParts, history_on, next_if}
use Rattle.fc_linear.proofs.Afters.{After}
use Rattle.fc_linear.proofs.Firsts.{entry_for}
use Rattle.fc_linear.proofs.AtFront.{after_answer, after_draw, after_fire, after_handle, after_tick}
use Rattle.fc_linear.proofs.AtShards.{after_cost, after_due, after_idle, after_shard_tick, after_signal, after_skip}
use Rattle.fc_linear.proofs.ForJobs.{after_look, after_raise, after_take, below_eight}
use Rattle.fc_linear.proofs.ForSlots.{after_give_up, after_install, after_refused_install, after_note, after_receipt, after_refuse, after_reject, after_remove, after_run}

module _ (k : ℕ) (es : List LogEntry) (h : History) (end s : ServerState) (tasks : List Task) (v : Serves h s tasks) where
  after_first : (op : Operation) → RightByParts end s tasks (entry_for k op ∷ es) → After k op es h end
  after_first (Logged (HandlesDatagram now from bytes brings)) st = after_handle k es h end s tasks v now from bytes brings st
  after_first (Logged (AdvancesFront now)) st = after_tick k es h end s tasks v now st
  after_first (Logged (FiresTimer slot now)) st = after_fire k es h end s tasks v slot now st
  after_first (Logged (DrawsId now id)) st = after_draw k es h end s tasks v now id st
  after_first (Logged (AnswersRequest now job content sent)) st = after_answer k es h end s tasks v now job content sent st
  after_first (Logged (GivesReadings readings)) st = absurd st.of_server.0
  after_first (Logged (ReadsCost slot cost)) st = after_cost k es h end s tasks v slot cost st
  after_first (Logged (LooksAt slot word)) st = after_look k es h end s tasks v slot word st
  after_first (Logged (TakesForJob job readings taken)) st = after_take k es h end s tasks v job readings taken st
  after_first (Logged (CommitsRun now ran ticket committed)) st = after_run k es h end s tasks v now ran ticket committed st
  after_first (Logged (InstallsProgram job program made)) st = after_install k es h end s tasks v job program made st
  after_first (Logged (RemovesProgram job removal)) st = after_remove k es h end s tasks v job removal st
  after_first (Logged (HandsSignal shard from id reset)) st = after_signal k es h end s tasks v shard from id reset st
  after_first (Logged (AdvancesIdle shard now)) st = after_idle k es h end s tasks v shard now st
  after_first (Logged (SkipsIdle shard now)) st = after_skip k es h end s tasks v shard now st
  after_first (Logged (AdvancesShard shard now ticked)) st = after_shard_tick k es h end s tasks v shard now ticked st
  after_first (Logged (GivesTurn shard now turn)) st = after_due k es h end s tasks v shard now turn st
  after_first (Logged (NotesTurn turn id now random told noted)) st = after_note k es h end s tasks v turn id now random told noted st
  after_first (Logged (GivesUpTurn turn now)) st = after_give_up k es h end s tasks v turn now st
  after_first (Logged (RaisesWord slot word)) st = after_raise k es h end s tasks v slot word st
  after_first (Logged (TellsReceipt job receipt)) st = after_receipt k es h end s tasks v job receipt st
  after_first (RejectsImage job content) st = after_reject k es h end s tasks v job content st
  after_first (RefusesInstall job) st = after_refused_install k es h end s tasks v job st
  after_first (FailsToSave update) st = after_refuse k es h end s tasks v update st

-- if a log is right from a server that a history leaves, the history continued by the log leaves
-- the server `end`.
pub ends : (log : List LogEntry) (h : History) (end s : ServerState) (tasks : List Task) → Serves h s tasks → RightByParts end s tasks log → LeavesServer (history_on h log) end
ends [] h end s tasks v st = record { server = s; tasks = tasks; serves = v; front = sym st.front; shards = λ i low. sym (st.shards i low); words = sym st.words }
ends (e ∷ es) h end s tasks v st =
    let a : After e.job e.operation es h end = after_first e.job es h end s tasks v e.operation st in
    ends es (next_if h (event_of e) (emitted_of e.operation)) end a.server a.tasks a.serves a.rest

-- a history that leaves a server without jobs is continued legally by a log that is right from this
-- server on.
pub whole : (log : List LogEntry) (h : History) (first end : ServerState) → Serves h first [] → RightByParts end first [] log → IsHistoryOf (history_on h log) end
whole log h first end serves right =
    let l : LeavesServer (history_on h log) end = ends log h end first [] serves right in
    let a = l.serves.agrees in
    record {
      legal = l.serves.legal;
      means = l.serves.means;
      front = sym l.front ∙ a.front;
      slots = λ n lt. ap (λ (x : Shard). slot_in x n) (sym (l.shards (n % 8) (below_eight n))) ∙ a.shards.slot n lt;
      times = λ i low. ap (λ (x : Shard). x.now) (sym (l.shards i low)) ∙ a.shards.now i low;
      observers = λ i k low lt. ap (λ (x : Shard). watch_at x k) (sym (l.shards i low)) ∙ a.shards.watch i k low lt;
      words = sym l.words ∙ a.words;
    }

-- ---- servers without jobs

pub empty_begins : (b : Begin) → Serves (begin_of b) (first_server b) []
empty_begins b = begins b.serial b.id b.policy (first_server b) refl refl refl

pub restored_begins : (items : List StoredSlot) (id : ℕ) (policy : Policy) → length items ≡ 64 → ((n : ℕ) → n < 64 → CanRestore (stored_in items n))
    → Serves (BeginsWith (stored_in items) id policy) (server_over (stored_in items) id policy) []
restored_begins items id policy count can = begins_with (stored_in items) id policy (server_over (stored_in items) id policy) refl refl refl (restored_fit items count can)

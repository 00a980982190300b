-- The tracks of a pool's workers and of its dispatcher are right, so their one order is a legal
-- history, with the saves of its store.
use Rattle.std.proofs.Common.{◌≡◌, ◌∙◌, ℕ, ◌+◌, ◌<◌, List, [], ◌∷◌, ◌++◌, length, map, refl, sym, subst, arith, length-append}
use Rattle.std.specs.Prelude.{slice_index_or}
use Rattle.std.specs.List.{All}
use Rattle.std.proofs.lemmas.List.Elements.{All-map, All-push, All-weaker}
use Rattle.fc_server.specs.States.{ServerState}
use Rattle.fc_store.specs.Stored.{StoredSlots}
use Rattle.fc_store.specs.declared.store.Store.{Ghosts}
use Rattle.fc_linear.specs.Operations.{LogEntry}
use Rattle.fc_linear.specs.Parts.{HaveNextNumbers}
use Rattle.fc_locked.specs.declared.closed.ClosedServer.{ClosedServer}
use Rattle.fc_workers.specs.Views.{WorkerView, FilesCalls}
use Rattle.fc_backend.specs.RightTracks.{HasRightJobs, BringsInOrder, FilesFrom, HaveRightTracks, brought_in}
use Rattle.fc_locked.specs.LegalOrder.{HaveLegalOrder, HaveSavedLegalOrder}
use Rattle.fc_backend.specs.Logs.{TrackedLog, IsNewLog}
use Rattle.fc_backend.specs.Messages.{first_brought}
use Rattle.fc_locked.specs.OneOrder.{HaveOneOrder, HaveSavedOneOrder, logs_of}
use Rattle.fc_workers.specs.Producing.{HasRightOrder, IsRightWorker}
use Rattle.fc_backend.specs.Statistics.{new_share, Share}
use Rattle.fc_workers.specs.Shares.{AreSharesOf, IsShareOf}
use Rattle.fc_workers.specs.Workers.{WorkerSeed}
use Rattle.fc_locked.proofs.LegalOrder.{order_is_legal, order_is_right}
use Rattle.fc_workers.proofs.Producing.{new_from, new_none, new_right}
use Rattle.fc_workers.proofs.Received.{received_kept}

-- ---- the workers

module _ {T : Type 0} (first_job : ℕ) (w : WorkerView T) (files : FilesCalls w) where
  share_right : (seat : WorkerSeed T) (share : Share T) → IsNewLog seat.log → IsShareOf first_job w seat share → IsRightWorker first_job share.log
  share_right seat share new is =
      let kept = received_kept first_job w files is.ended.jobs (new_share seat.got seat.tallies seat.log) share is.ended.turns is.own (new_right first_job seat.log new) in
      let none : brought_in (first_brought first_job) share.log ≡ [] = kept.none (first_brought first_job) ∙ new_none (first_brought first_job) seat.log new in
      record {
        order = record {
          own = kept.own;
          right = kept.right;
          numbered = subst (λ (es : List LogEntry). HaveNextNumbers 0 es) (sym none) tt;
          from = kept.from (new_from (first_brought first_job) seat.log new);
        };
        none = none;
      }

  some_of : (seats : List (WorkerSeed T)) → 0 < length seats → WorkerSeed T
  some_of [] some = absurd (omega (arith, some))
  some_of (s ∷ ss) some = s

  -- what holds of the statistics of each worker with a new log holds of all.
  pub each_share : (P : Share T → Type 0) → ((seat : WorkerSeed T) (share : Share T) → IsNewLog seat.log → IsShareOf first_job w seat share → P share)
      → (seats : List (WorkerSeed T)) (shares : List (Share T)) → All (λ (seat : WorkerSeed T). IsNewLog seat.log) seats → AreSharesOf first_job w seats shares → All P shares
  each_share P of seats shares new are k d lt =
      let count = are.count in
      let within : k < length seats = omega (arith, lt, count) in
      let seat = some_of seats (omega (arith, within)) in
      of (slice_index_or seats k seat) (slice_index_or shares k d) (new k seat within) (are.each k seat d within)

  pub shares_right : (seats : List (WorkerSeed T)) (shares : List (Share T)) → All (λ (seat : WorkerSeed T). IsNewLog seat.log) seats → AreSharesOf first_job w seats shares → All (λ (share : Share T). IsRightWorker first_job share.log) shares
  shares_right seats shares new are = each_share (λ (share : Share T). IsRightWorker first_job share.log) share_right seats shares new are

-- ---- all threads

at_end : (logs : List TrackedLog) (log : TrackedLog) → slice_index_or (logs ++ log ∷ []) (length logs) log ≡ log
at_end [] log = refl
at_end (l ∷ ls) log = at_end ls log

module _ {T : Type 0} (shares : List (Share T)) (own : Share T) where
  abbrev logs : List TrackedLog
  logs = logs_of shares own

  abbrev first_job : ℕ
  first_job = 10 + length logs

  -- what holds of the workers' logs and of the dispatcher's holds of all.
  pub of_all : (P : TrackedLog → Type 0) → All (λ (s : Share T). P s.log) shares → P own.log → All P logs
  of_all P workers mine = All-push P (map (λ (s : Share T). s.log) shares) own.log (All-map P (λ (s : Share T). s.log) shares workers) mine

  module _ (right : All (λ (s : Share T). IsRightWorker first_job s.log) shares) (order : HasRightOrder first_job own.log) where
    of_workers : (P : TrackedLog → Type 0) → ((log : TrackedLog) → IsRightWorker first_job log → P log) → All (λ (s : Share T). P s.log) shares
    of_workers P each = All-weaker (λ (s : Share T). IsRightWorker first_job s.log) (λ (s : Share T). P s.log) (λ s is. each s.log is) shares right

    pub have_right : HaveRightTracks (first_brought first_job) logs
    have_right = record {
      above = omega arith;
      jobs = of_all (λ (log : TrackedLog). HasRightJobs first_job log.tracks) (of_workers (λ (log : TrackedLog). HasRightJobs first_job log.tracks) (λ log is. is.order.right)) order.right;
      from = of_all (FilesFrom (first_brought first_job)) (of_workers (FilesFrom (first_brought first_job)) (λ log is. is.order.from)) order.from;
      dispatcher = own.log.who;
      has_log = (
        length (map (λ (s : Share T). s.log) shares),
        own.log,
        (let n = length-append (map (λ (s : Share T). s.log) shares) (own.log ∷ []) in omega (arith, n)),
        at_end (map (λ (s : Share T). s.log) shares) own.log,
        refl,
      );
      brought = of_all (BringsInOrder (first_brought first_job) own.log.who)
          (of_workers (BringsInOrder (first_brought first_job) own.log.who) (λ log is. record { own = λ same. subst (λ (es : List LogEntry). HaveNextNumbers 0 es) (sym is.none) tt; none = λ other. is.none }))
          (record { own = λ same. order.numbered; none = λ other. absurd (other refl) });
    }

-- the one order of a pool's calls is a legal history.
pub pool_is_legal : {T : Type 0} (begin : ServerState) (closed : ClosedServer) (shares : List (Share T)) (own : Share T) (first_job : ℕ) → 10 + length (logs_of shares own) ≡ first_job
    → All (λ (s : Share T). IsRightWorker first_job s.log) shares → HasRightOrder first_job own.log → HaveOneOrder begin (logs_of shares own) closed
    → HaveLegalOrder begin (logs_of shares own) closed
pool_is_legal {T} begin closed shares own first_job count right order one =
    let tracks = have_right shares own (subst (λ (n : ℕ). All (λ (s : Share T). IsRightWorker n s.log) shares) (sym count) right) (subst (λ (n : ℕ). HasRightOrder n own.log) (sym count) order) in
    record {
      order = one;
      right = order_is_right begin (logs_of shares own) closed (first_brought (10 + length (logs_of shares own))) one tracks;
      history = order_is_legal begin (logs_of shares own) closed (first_brought (10 + length (logs_of shares own))) one tracks;
    }

-- the saves of the server's store have their place in the pool's legal order.
pub pool_is_saved : {T S : Type 0} (g : Ghosts S) (begin : ServerState) (stored : StoredSlots) (closed : ClosedServer) (shares : List (Share T)) (own : Share T) (first_job : ℕ) → 10 + length (logs_of shares own) ≡ first_job
    → All (λ (s : Share T). IsRightWorker first_job s.log) shares → HasRightOrder first_job own.log → HaveSavedOneOrder g begin stored (logs_of shares own) closed
    → HaveSavedLegalOrder g begin stored (logs_of shares own) closed
unfolding pool_is_legal
pool_is_saved g begin stored closed shares own first_job count right order one =
    record {
      legal = pool_is_legal begin closed shares own first_job count right order one.order;
      saved = one.saved;
    }

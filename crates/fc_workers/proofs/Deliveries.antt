-- The deliveries of a thread are those of the datagrams that it handles: its other calls add none.
use Rattle.std.proofs.Common.{◌≡◌, ◌∙◌, ℕ, zero, suc, ◌+◌, ◌<◌, ◌≤◌, Bool, true, false, if◌then◌else◌, List, [], ◌∷◌, ◌++◌, append-nil, append_assoc, Option, Some, None, refl, sym, ap, subst, ⊎_elim, inl, inr, arith}
use Rattle.std.specs.Prelude.{◌==◌}
use Rattle.std.proofs.lemmas.Bool.Decides.{nat_tests}
use Rattle.std.proofs.lemmas.Grind.{flat_map-append}
use Rattle.coap_msg.specs.declared.types.Emission.{Emission}
use Rattle.coap_msg.specs.declared.types.Endpoint.{Endpoint}
use Rattle.fc_book.specs.declared.view.BookView.{BookView}
use Rattle.fc_book.specs.declared.view.Track.{Track}
use Rattle.fc_book.specs.Tracks.{HasKey, entries_at, is_on, track, with_entry}
use Rattle.fc_book.proofs.Keys.{keeps-key}
use Rattle.fc_calls.specs.Logged.{FiresTimer, GivesReadings, GivesTurn, HandlesDatagram, HandsSignal, LoggedCall, ReadsCost}
use Rattle.fc_front.specs.Receiving.{handled}
use Rattle.fc_core.specs.Stage.{Gone, Stage}
use Rattle.fc_core.specs.Stages.{first_stage}
use Rattle.fc_front.specs.Timers.{timer_job}
use Rattle.fc_front.specs.declared.by_value.Delivered.{Delivered}
use Rattle.fc_front.specs.declared.by_value.Delivered.TheVariants.{Job as Brings, Signal}
use Rattle.fc_front.specs.declared.front.Handled.{Handled}
use Rattle.fc_filed.specs.Entries.{entry_keys, part_key}
use Rattle.fc_filed.specs.JobTracks.{LeadJob}
use Rattle.fc_filed.specs.Threads.{entry_by, key_of_first}
use Rattle.fc_filed.specs.declared.entry.FiledEntry.{FiledEntry}
use Rattle.fc_filed.proofs.JobTracks.{at_with, first_stays, of_old_job, on_second}
use Rattle.fc_jobs.specs.Ends.{with_got}
use Rattle.fc_jobs.specs.declared.protocol.Numbered.{Numbered}
use Rattle.fc_linear.specs.Operations.{Logged, Operation, is_for_job, part_of}
use Rattle.fc_ticket.specs.declared.job.Job.{Job}
use Rattle.fc_backend.specs.Filed.{shard_called, HasFiled, HasSameTracks}
use Rattle.fc_workers.specs.Views.{FilesCalls, WorkerView}
use Rattle.fc_workers.specs.Deliveries.{Delivery, deliveries_in, delivery_by}
use Rattle.fc_workers.specs.Dispatch.{AreSignalled, HasBegunNext, HasLeastCost, HasReadCost, IsDispatched, IsDispatchedUnder, IsDone, IsHandedOver, IsTakenIn, IsTimerFired, IsTurnAsked, IsTurnDone, IsWorkedHere, MayGo, MayHaveReadCost, MayHaveReadings, least_cost, logged_at, unsent}
use Rattle.fc_backend.specs.Logs.{TrackedLog}
use Rattle.fc_backend.specs.Messages.{TrackedJob, with_tracks, with_new_track, without_job}
use Rattle.fc_workers.specs.Shares.{AreTurns, IsTurn}
use Rattle.fc_workers.specs.Work.{IsReplied}
use Rattle.fc_backend.specs.Statistics.{Share}
use Rattle.fc_workers.specs.Workers.{Dispatched}
use Rattle.fc_workers.specs.declared.dispatcher.Offload.{Offload}
use Rattle.fc_workers.specs.declared.dispatcher.Offload.TheVariants.{ChangesAndExpensive, Never}
use Rattle.fc_workers.proofs.Filed.{MayWork, replied_filed}
use Rattle.fc_workers.proofs.Producing.{at_rest, has_rest}

-- ---- entries

pub delivered_more : (xs ys : List FiledEntry)
    → deliveries_in (xs ++ ys) ≡ deliveries_in xs ++ deliveries_in ys
delivered_more xs ys = flat_map-append (λ (e : FiledEntry). delivery_by e.operation) xs ys

-- an operation for a job that came before delivers nothing.
none_by : (operation : Operation) → is_for_job operation ≡ true → delivery_by operation ≡ []
none_by (Logged (HandlesDatagram now from bytes brings)) is = absurd (cc is)
none_by other is = refl

none_led : (job : Job) (es : List FiledEntry) (s t : Stage) → LeadJob job es s t
    → deliveries_in es ≡ []
none_led job [] s t l = refl
none_led job (e ∷ es) s t l =
    let none = none_by e.operation (of_old_job e.operation job s l.0 l.1).for in
    ap (λ (ds : List Delivery). ds ++ deliveries_in es) none ∙ none_led job es l.0 t l.2

-- ---- a thread

-- this log is of thread `who`, which has its own track.
pub record HasThread (who : ℕ) (log : TrackedLog) : Type 0 where
  pub is : log.who ≡ who
  pub low : 10 ≤ who
  pub own : HasKey who log.tracks.own

-- the thread's own track has a lower key than the first track, so it isn't the first.
pub record MayDeliver (who : ℕ) (log : TrackedLog) : Type 0 where
  pub thread : HasThread who log
  pub first : who < key_of_first log.tracks.own

-- the thread has made these deliveries since, and no others.
pub record HasDelivered (who : ℕ) (ds : List Delivery) (before after : TrackedLog) : Type 0 where
  pub may : MayDeliver who after
  pub are : deliveries_in (entries_at who after.tracks.own)
      ≡ deliveries_in (entries_at who before.tracks.own) ++ ds

abbrev pub Delivers : ℕ → List Delivery → TrackedLog → TrackedLog → Type 0
Delivers who ds before after = MayDeliver who before → HasDelivered who ds before after

abbrev View : Type 0
View = BookView FiledEntry

module _ (who : ℕ) where
  abbrev deliveries_at : TrackedLog → List Delivery
  deliveries_at log = deliveries_in (entries_at who log.tracks.own)

  none_since : (u v : TrackedLog) → MayDeliver who v
      → entries_at who v.tracks.own ≡ entries_at who u.tracks.own → HasDelivered who [] u v
  none_since u v may same =
      record { may = may; are = ap deliveries_in same ∙ sym (append-nil (deliveries_at u)) }

  pub unchanged : (u v : TrackedLog) → v ≡ u → Delivers who [] u v
  unchanged u v is may =
      subst (λ (log : TrackedLog). HasDelivered who [] u log) (sym is) (none_since u u may refl)

  pub both : (ds es : List Delivery) (u v w : TrackedLog) → Delivers who ds u v
      → Delivers who es v w → Delivers who (ds ++ es) u w
  both ds es u v w a b may =
      let one = a may in
      let two = b one.may in
      record {
        may = two.may;
        are = two.are
            ∙ (ap (λ (l : List Delivery). l ++ es) one.are ∙ append_assoc (deliveries_at u) ds es);
      }

  pub same_delivers : (u v : TrackedLog) → HasSameTracks u v → Delivers who [] u v
  same_delivers u v same may =
      none_since u v (record {
        thread = record {
          is = same.who ∙ may.thread.is;
          low = may.thread.low;
          own = subst (λ (b : View). HasKey who b.own) (sym same.tracks) may.thread.own;
        };
        first = subst (λ (b : View). who < key_of_first b.own) (sym same.tracks) may.first;
      }) (ap (λ (b : View). entries_at who b.own) same.tracks)

  -- ---- an operation

  module _ (operation : Operation) (u v : TrackedLog) (filed : HasFiled operation u v) where
    abbrev entry : FiledEntry
    entry = entry_by u.who u.tracks operation

    tracks_are : v.tracks.own ≡ with_entry entry_keys entry u.tracks.own
    tracks_are = ap (λ (b : BookView FiledEntry). b.own) filed.tracks

    on_own : u.who ≡ who → is_on entry_keys who entry ≡ true
    on_own is = on_second (part_key u.who (part_of operation)) (part_key u.who (part_of operation)) u.who entry.job who is

    entries_more : HasThread who u
        → entries_at who v.tracks.own ≡ entries_at who u.tracks.own ++ entry ∷ []
    entries_more has = ap (λ (ts : List (Track FiledEntry)). entries_at who ts) tracks_are
        ∙ at_with entry_keys who true entry u.tracks.own (on_own has.is) has.own

    pub filed_delivers : Delivers who (delivery_by operation) u v
    filed_delivers may =
        let kept = keeps-key entry_keys who entry u.tracks.own may.thread.own in
        let first = ap key_of_first tracks_are ∙ first_stays entry u.tracks.own in
        record {
          may = record {
            thread = record {
              is = filed.who ∙ may.thread.is;
              low = may.thread.low;
              own = subst (λ (ts : List (Track FiledEntry)). HasKey who ts) (sym tracks_are) kept;
            };
            first = subst (λ (n : ℕ). who < n) (sym first) may.first;
          };
          are = ap deliveries_in (entries_more may.thread)
              ∙ (delivered_more (entries_at who u.tracks.own) (entry ∷ [])
              ∙ ap (λ (l : List Delivery). deliveries_at u ++ l)
              (append-nil (delivery_by operation)));
        }

  -- ---- a track with a higher key is put before the others

  at_above : (b : Bool) (key : ℕ) (es : List FiledEntry) (ts : List (Track FiledEntry))
      → (key == who) ≡ b → who < key → (if b then es else entries_at who ts) ≡ entries_at who ts
  at_above true key es ts is above =
      let same : key ≡ who = grind (is, arith, nat_tests) in absurd (omega (arith, same, above))
  at_above false key es ts is above = refl

  put_first : (key : ℕ) (es : List FiledEntry) (u v : TrackedLog) → v.who ≡ u.who
      → v.tracks.own ≡ track key es ∷ u.tracks.own → who < key → HasThread who u
      → HasDelivered who [] u v
  put_first key es u v same tracks above has =
      none_since u v (record {
        thread = record {
          is = same ∙ has.is;
          low = has.low;
          own = subst (λ (ts : List (Track FiledEntry)). HasKey who ts) (sym tracks) (inr has.own);
        };
        first = subst (λ (ts : List (Track FiledEntry)). who < key_of_first ts) (sym tracks) above;
      }) (ap (λ (ts : List (Track FiledEntry)). entries_at who ts) tracks
      ∙ at_above (key == who) key es u.tracks.own refl above)

  begun : (key : ℕ) (log : TrackedLog) → log.who < key
      → Delivers who [] log (with_new_track key log)
  begun key log above may =
      put_first key [] log (with_new_track key log) refl refl
      (subst (λ (n : ℕ). n < key) may.thread.is above) may.thread

  -- ---- a job leaves with the first track, and the next track begins

  sent_begun : (key : ℕ) (log : TrackedLog) → log.who < key
      → Delivers who [] log (with_new_track key (without_job log))
  sent_begun key log above may =
      let other : key_of_first log.tracks.own ≡ who → ⊥ =
      λ is. (let first = may.first in absurd (omega (arith, is, first))) in
      let has : HasThread who (without_job log) = record {
        is = may.thread.is;
        low = may.thread.low;
        own = has_rest who log.tracks.own other may.thread.own;
      } in
      let left : TrackedLog = without_job log in
      let after = put_first key [] left (with_new_track key left) refl refl
      (subst (λ (n : ℕ). n < key) may.thread.is above) has in
      record {
        may = after.may;
        are = after.are
            ∙ ap (λ (es : List FiledEntry). deliveries_in es ++ [])
            (at_rest who log.tracks.own other);
      }

  module _ {T : Type 0} (s : WorkerView T) (files : FilesCalls s) where
    -- ---- a job that the thread runs

    module _ (number : ℕ) (job : Job) (before after : Share T)
        (replied : IsReplied s number job before after) where
      abbrev above_own : ℕ
      above_own = before.log.who + 1

      may_work : MayDeliver who before.log → MayWork above_own before.log
      may_work may =
          let is = may.thread.is in
          let low = may.thread.low in
          let first = may.first in
          record {
            own = record {
              key = (omega (arith, is, low), omega arith);
              own = subst (λ (n : ℕ). HasKey n before.log.tracks.own) (sym is) may.thread.own;
            };
            first = omega (arith, is, first);
          }

      pub replied_delivers : Delivers who [] before.log after.log
      replied_delivers may =
          let f = replied_filed above_own job s files number before after (may_work may) replied in
          let es : List FiledEntry = f.files.entries in
          let own = entries_at who before.log.tracks.own in
          let more : entries_at who after.log.tracks.own ≡ own ++ es = subst
          (λ (n : ℕ). entries_at n after.log.tracks.own ≡ entries_at n before.log.tracks.own ++ es)
          may.thread.is f.files.thread in
          let none : deliveries_in es ≡ [] = none_led job es (first_stage job) Gone f.files.led in
          record {
            may = record {
              thread = record {
                is = f.who ∙ may.thread.is;
                low = may.thread.low;
                own = f.files.kept who may.thread.own;
              };
              first = subst (λ (n : ℕ). who < n) (sym f.files.first) may.first;
            };
            are = ap deliveries_in more
                ∙ (delivered_more own es ∙ ap (λ (l : List Delivery). deliveries_in own ++ l) none);
          }

    -- ---- a dispatcher

    abbrev pub Dispatches : List Delivery → Dispatched T → Dispatched T → Type 0
    Dispatches ds before after = Delivers who ds before.share.log after.share.log

    abbrev log_in : Dispatched T → TrackedLog
    log_in done = done.share.log

    begun_next : (before after : Dispatched T) → HasBegunNext before after
        → Dispatches [] before after
    begun_next before after b =
        let log : TrackedLog = before.share.log in
        subst (λ (l : TrackedLog). Delivers who [] log l) (sym (ap log_in b.2)) (begun b.0 log b.1)

    -- the readings and the cost that decide whether a job goes to the workers.
    readings_given : (job : Job) (u v : TrackedLog) → MayHaveReadings s job u v
        → Delivers who [] u v
    readings_given job u v (inl is) = unchanged u v is
    readings_given job u v (inr (plain, (readings, given))) =
        same_delivers u v (files.logged (GivesReadings readings) u v given)

    cost_read : (job : Job) (cost : Option ℕ) (u v : TrackedLog) → HasReadCost s job cost u v
        → Delivers who [] u v
    cost_read job cost u v w =
        let call : LoggedCall = ReadsCost job.origin.slot cost in
        both [] [] u w.log v (readings_given job u w.log w.readings)
        (filed_delivers (Logged call) w.log v (files.logged call w.log v w.read))

    going_by_cost : (least : Option ℕ) (job : Job) (u v : TrackedLog) → HasLeastCost s least job u v
        → Delivers who [] u v
    going_by_cost None job u v is = unchanged u v is
    going_by_cost (Some least) job u v w = cost_read job (Some w.0) u v w.2

    going : (offload : Offload) (job : Job) (u v : TrackedLog) → MayGo s offload job u v
        → Delivers who [] u v
    going Never job u v w = absurd w
    going (ChangesAndExpensive least) job u v (inl w) = unchanged u v w.2
    going (ChangesAndExpensive least) job u v (inr w) =
        going_by_cost (least_cost (ChangesAndExpensive least) job) job u v w
    going offload job u v w = going_by_cost (least_cost offload job) job u v w

    staying : (least : Option ℕ) (job : Job) (u v : TrackedLog) → MayHaveReadCost s least job u v
        → Delivers who [] u v
    staying None job u v is = unchanged u v is
    staying (Some least) job u v (inl is) = unchanged u v is
    staying (Some least) job u v (inr w) = cost_read job w.0 u v w.1

    module _ (offload : Offload) (job : Job) (before mid after : Dispatched T)
        (next : HasBegunNext mid after) where
      handed_over : IsHandedOver s offload job before mid → Dispatches [] before after
      handed_over w =
          let key = next.0 in
          let left : mid.share.log ≡ without_job w.log = ap log_in w.sent in
          let at : after.share.log ≡ with_new_track key (without_job w.log) =
          ap log_in next.2 ∙ ap (λ (log : TrackedLog). with_new_track key log) left in
          let above : w.log.who < key = subst (λ (log : TrackedLog). log.who < key) left next.1 in
          both [] [] before.share.log w.log after.share.log
          (going offload job before.share.log w.log w.may_go)
          (subst (λ (log : TrackedLog). Delivers who [] w.log log) (sym at)
          (sent_begun key w.log above))

      worked_here : IsWorkedHere s offload job before mid → Dispatches [] before after
      worked_here w =
          both [] [] before.share.log w.log after.share.log
          (staying (least_cost offload job) job before.share.log w.log w.stays)
          (both [] [] w.log mid.share.log after.share.log
          (replied_delivers unsent job (record before.share { log = w.log }) mid.share w.worked)
          (begun_next mid after next))

    dispatched : (offload : Offload) (job : Job) (before after : Dispatched T)
        → IsDispatched s offload job before after → Dispatches [] before after
    dispatched offload job before after w = ⊎_elim
        (handed_over offload job before w.0 after w.2)
        (worked_here offload job before w.0 after w.2)
        w.1

    under : (offload : Offload) (job : Job) (number : Option ℕ) (before after : Dispatched T)
        → IsDispatchedUnder s offload job number before after → Dispatches [] before after
    under offload job (Some number) before after w =
        handed_over offload job before w.1.0 after w.1.2 w.1.1
    under offload job None before after w = worked_here offload job before w.0 after w.2 w.1

    signalled : (n : ℕ) (from : Endpoint) (id : ℕ) (reset : Bool) (u v : TrackedLog)
        → AreSignalled s n from id reset u v → Delivers who [] u v
    unfolding AreSignalled
    signalled zero from id reset u v is = unchanged u v is
    signalled (suc n) from id reset u v w =
        both [] [] u w.0 v (signalled n from id reset u w.0 w.1)
        (filed_delivers (Logged (HandsSignal (shard_called n) from id reset)) w.0 v
        (files.logged (HandsSignal n from id reset) w.0 v w.2))

    done : (offload : Offload) (from : Endpoint) (brings : Delivered) (before after : Dispatched T)
        → IsDone s offload from brings before after → Dispatches [] before after
    done offload from (Brings job) before after w = dispatched offload job before after w
    done offload from (Signal id reset) before after w =
        signalled 8 from id reset before.share.log after.share.log w.0
    done offload from other before after is =
        unchanged before.share.log after.share.log (ap log_in is)

    -- a datagram is one delivery.
    pub taken_in : (offload : Offload) (now : ℕ) (from : Endpoint) (bytes : List ℕ)
        (result : Handled) (reply : Emission) (before after : Dispatched T)
        → IsTakenIn s offload now from bytes result reply before after
        → Dispatches (record { now = now; from = from; bytes = bytes } ∷ []) before after
    taken_in offload now from bytes result reply before after w =
        let brings : Delivered = handled result w.job reply in
        let call : LoggedCall = HandlesDatagram now from bytes brings in
        both (delivery_by (Logged call)) [] before.share.log w.log after.share.log
        (filed_delivers (Logged call) before.share.log w.log
        (files.logged call before.share.log w.log w.handles))
        (done offload from brings (logged_at w.log before) after w.done)

    pub timer_fired : (offload : Offload) (slot now : ℕ) (number : Option ℕ)
        (before after : Dispatched T) → IsTimerFired s offload slot now number before after
        → Dispatches [] before after
    timer_fired offload slot now number before after w =
        let call : LoggedCall = FiresTimer slot now in
        both [] [] before.share.log w.log after.share.log
        (filed_delivers (Logged call) before.share.log w.log
        (files.logged call before.share.log w.log w.fires))
        (under offload (timer_job slot) number (logged_at w.log before) after w.done)

    turn_done : (offload : Offload) (turn : Option Job) (given : Bool) (before after : Dispatched T)
        → IsTurnDone s offload turn given before after → Dispatches [] before after
    turn_done offload (Some job) given before after w = dispatched offload job before after w.1
    turn_done offload None given before after w =
        unchanged before.share.log after.share.log (ap log_in w.1)

    pub turn_asked : (offload : Offload) (shard now : ℕ) (given : Bool)
        (before after : Dispatched T) → IsTurnAsked s offload shard now given before after
        → Dispatches [] before after
    turn_asked offload shard now given before after w =
        both [] [] before.share.log w.log after.share.log
        (filed_delivers (Logged (GivesTurn (shard_called shard) now w.turn)) before.share.log w.log
        (files.logged (GivesTurn shard now w.turn) before.share.log w.log w.asks))
        (turn_done offload w.turn given (logged_at w.log before) after w.done)

    -- ---- a worker

    module _ (first_job : ℕ) (below : who < first_job) where
      turn_worked : (n : Numbered TrackedJob) (before after : Share T)
          → IsTurn first_job s n before after → HasThread who before.log
          → HasDelivered who [] before.log after.log
      turn_worked n before after w has =
          let mid : Share T = record before {
            got = with_got before.got n.number n.message;
            log = with_tracks n.message.tracks before.log;
          } in
          let above : who < w.new.key = (let le = w.new.above in omega (arith, below, le)) in
          let more = λ (v : BookView FiledEntry). v.own ++ before.log.tracks.own in
          let moved = put_first w.new.key (w.new.entry ∷ []) before.log mid.log refl
          (ap more w.new.tracks) above has in
          let ran = replied_delivers n.number n.message.job mid after w.worked moved.may in
          record {
            may = ran.may;
            are = ran.are ∙ (ap (λ (l : List Delivery). l ++ []) moved.are
                ∙ append-nil (deliveries_at before.log ++ []));
          }

      -- a worker's jobs deliver nothing.
      pub turns_worked : (ns : List (Numbered TrackedJob)) (before after : Share T)
          → AreTurns first_job s ns before after → HasThread who before.log
          → HasThread who after.log × (deliveries_at after.log ≡ deliveries_at before.log)
      unfolding AreTurns
      turns_worked [] before after is has =
          subst (λ (p : Share T).
          HasThread who p.log × (deliveries_at p.log ≡ deliveries_at before.log))
          (sym is) (has, refl)
      turns_worked (n ∷ ns) before after w has =
          let earlier = turns_worked ns before w.0 w.1.0 has in
          let turn = turn_worked n w.0 after w.1.1 earlier.0 in
          (turn.may.thread, turn.are ∙ (append-nil (deliveries_at w.0.log) ∙ earlier.1))

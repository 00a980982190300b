-- All rounds, or all lines, of a server on one thread are one history.
use Rattle.std.proofs.Common.{◌≡◌, ℕ, zero, suc, Bool, true, false, List, [], ◌∷◌, ◌++◌, length, map, append-nil, Option, Some, None, refl, ap, sym, subst, ◌∙◌, Bor}
use Rattle.std.specs.Option.{option_to_list}
use Rattle.std.specs.Prelude.{◌%◌, flat_map}
use Rattle.std.proofs.lemmas.Grind.{flat_map-append}
use Rattle.std.proofs.lemmas.List.{map-append}
use Rattle.coap_msg.specs.declared.types.Emission.{Emission}
use Rattle.coap_msg.specs.declared.types.Endpoint.{Endpoint}
use Rattle.fc_core.specs.declared.event.Event.{Event}
use Rattle.fc_core.specs.declared.event.Event.TheVariants.{Answer, Commit, Deliver, Due, Fresh, GiveUp, Install, Note, Peek, Raise, Receipt, Remove, ShardTick, Signal, Take, Tick}
use Rattle.fc_front.specs.declared.by_value.Delivered.{Delivered}
use Rattle.fc_front.specs.declared.by_value.Delivered.TheVariants.{Job as Brings, Signal as Signals}
use Rattle.fc_core.specs.declared.stage.Task.{Task}
use Rattle.fc_front.specs.Exchanges.{advanced}
use Rattle.fc_core.specs.History.{Entry, History, Then, did}
use Rattle.fc_core.specs.Laws.{followed_by}
use Rattle.fc_front.specs.Receiving.{delivered, emission_if}
use Rattle.fc_core.specs.Stage.{Stage, ToDescribe, ToInstall, ToList, ToMatch, ToRemove, ToTake}
use Rattle.fc_core.specs.Stages.{first_stage}
use Rattle.fc_server.specs.Notified.{is_given, notification_in}
use Rattle.fc_server.specs.Serving.{Handled, Serves, TurnGiven, next, peeked_below, run_through, signalled_below, turned, worked}
use Rattle.fc_server.specs.States.{ServerState, begin_of, first_server}
use Rattle.fc_server.specs.declared.server.Begin.{Begin}
use Rattle.fc_server.proofs.Beginning.{begins}
use Rattle.fc_lines.specs.declared.line.Line.{Line}
use Rattle.fc_lines.specs.declared.line.Line.TheVariants as lines
use Rattle.fc_lines.specs.Emissions.{peer_endpoint, printed}
use Rattle.fc_host.specs.Sockets.{Incoming, Receive}
use Rattle.fc_service.proofs.Printed.{printed_of}
use Rattle.fc_service.specs.SingleThread.{HandsAlone, ReadiesAlone, ReadiesRecorded}
use Rattle.fc_record.specs.ProgramRequests.{Requested}
use Rattle.fc_record.specs.Recording.{Recording, recorded_calls}
use Rattle.fc_backend.specs.declared.call_log.CallLog.{CallLog}
use Rattle.fc_server.specs.SingleThread.{HandlesAlone, PassesAlone, alone_calls}
use Rattle.fc_service.specs.Histories.{Arrival, Datagram, IsOneHistory, Silence, arrival_at, arrivals_in, arrivals_in_lines, arrived_by, datagram_in, sent_in_lines}
use Rattle.fc_receive.specs.Handling.{IsHandledBy}
use Rattle.fc_server.specs.Ingresses.{IngressCalls, is_reply}
use Rattle.fc_service.specs.Playing.{ArePlayedBy, IsCarriedOutBy, IsHandedBy, IsPlayedBy, IsPlayedOut, PlayedLine, time_of, output_by, printed_lines, printed_steps}
use Rattle.fc_receive.specs.Rounds.{AreRoundsBy, IsReceivedBy, IsRoundBy, Round, RoundCalls, sendings_in}
use Rattle.fc_service.specs.Services.{HasServed}
use Rattle.fc_server.specs.Flushing.{AreStepsBy, Asked, IsStepBy, Passed, Resent, FlushingStep, sent_in_step, sent_in_steps}
use Rattle.fc_receive.specs.Traffic.{Sending}
use Rattle.fc_server.specs.declared.alone.SingleThread.{SingleThread}
use Rattle.fc_pool.specs.declared.replies.Replies.{Replies}

-- ---- continuations of a history

abbrev arrived_in : List Entry → List Arrival
arrived_in entries = flat_map (λ r. arrived_by r.event) entries

abbrev emitted_in : List Entry → List Emission
emitted_in entries = flat_map (λ r. option_to_list r.emitted) entries

-- a history is this one and some events after it, with these arrivals and emissions.
pub record Follows (h : History) (arrives : List Arrival) (emits : List Emission) (later : History) : Type 0 where
  pub entries : List Entry
  pub is : later ≡ followed_by h entries
  pub arrives_are : arrived_in entries ≡ arrives
  pub emits_are : emitted_in entries ≡ emits

followed_on : (h : History) (xs ys : List Entry) → followed_by (followed_by h xs) ys ≡ followed_by h (xs ++ ys)
followed_on h [] ys = refl
followed_on h (x ∷ xs) ys = followed_on (Then h x) xs ys

pub none_follows : (h : History) → Follows h [] [] h
none_follows h = record { entries = []; is = refl; arrives_are = refl; emits_are = refl }

pub one_follows : (h : History) (e : Event) (out : Option Emission) → Follows h (arrived_by e) (option_to_list out) (next h e out)
one_follows h e out = record { entries = did e out ∷ []; is = refl; arrives_are = append-nil (arrived_by e); emits_are = append-nil (option_to_list out) }

both_follow : (h mid later : History) (ds ds' : List Arrival) (es es' : List Emission) → Follows h ds es mid → Follows mid ds' es' later → Follows h (ds ++ ds') (es ++ es') later
both_follow h mid later ds ds' es es' v w = record {
  entries = v.entries ++ w.entries;
  is = w.is ∙ (ap (λ (x : History). followed_by x w.entries) v.is ∙ followed_on h v.entries w.entries);
  arrives_are = flat_map-append (λ (r : Entry). arrived_by r.event) v.entries w.entries ∙ (λ i. v.arrives_are i ++ w.arrives_are i);
  emits_are = flat_map-append (λ (r : Entry). option_to_list r.emitted) v.entries w.entries ∙ (λ i. v.emits_are i ++ w.emits_are i);
}

-- one more event without an arrival or an emission.
silent_next : (h mid : History) (ds : List Arrival) (es : List Emission) (e : Event) → arrived_by e ≡ [] → Follows h ds es mid → Follows h ds es (next mid e None)
silent_next h mid ds es e none v =
    let w = both_follow h mid (next mid e None) ds (arrived_by e) es [] v (one_follows mid e None) in
    record { entries = w.entries; is = w.is; arrives_are = w.arrives_are ∙ (ap (λ (l : List Arrival). ds ++ l) none ∙ append-nil ds); emits_are = w.emits_are ∙ append-nil es }

-- one more event without an arrival, after events without emissions.
last_next : (h mid : History) (ds : List Arrival) (e : Event) (out : Option Emission) → arrived_by e ≡ [] → Follows h ds [] mid → Follows h ds (option_to_list out) (next mid e out)
last_next h mid ds e out none v =
    let w = both_follow h mid (next mid e out) ds (arrived_by e) [] (option_to_list out) v (one_follows mid e out) in
    record { entries = w.entries; is = w.is; arrives_are = w.arrives_are ∙ (ap (λ (l : List Arrival). ds ++ l) none ∙ append-nil ds); emits_are = w.emits_are }

-- ---- the events of a job

module _ (h : History) (ds : List Arrival) where
  peeks_follow : (k n : ℕ) (mid : History) → Follows h ds [] mid → Follows h ds [] (peeked_below k n mid)
  peeks_follow k zero mid v = v
  peeks_follow k (suc n) mid v = silent_next h (peeked_below k n mid) ds [] (Peek k n) refl (peeks_follow k n mid v)

  signals_follow : (to : Endpoint) (id : ℕ) (reset : Bool) (n : ℕ) (mid : History) → Follows h ds [] mid → Follows h ds [] (signalled_below to id reset n mid)
  signals_follow to id reset zero mid v = v
  signals_follow to id reset (suc n) mid v = silent_next h (signalled_below to id reset n mid) ds [] (Signal n to id reset) refl (signals_follow to id reset n mid v)

  pub run_follows : (readings : List ℕ) (k : ℕ) (memory : Bool) (now : ℕ) (out : Option Emission) (mid : History) → Follows h ds [] mid
      → Follows h ds (option_to_list out) (run_through readings k memory now out mid)
  run_follows readings k memory now out mid v =
      let took = silent_next h mid ds [] (Take k memory readings) refl v in
      let committed = silent_next h (next mid (Take k memory readings) None) ds [] (Commit k now) refl took in
      let raised = silent_next h (next (next mid (Take k memory readings) None) (Commit k now) None) ds [] (Raise k) refl committed in
      last_next h _ ds (Answer k now) out refl raised

  changed_follows : (e : Event) (k now : ℕ) (out : Option Emission) (mid : History) → arrived_by e ≡ [] → Follows h ds [] mid
      → Follows h ds (option_to_list out) (next (next (next mid e None) (Raise k) None) (Answer k now) out)
  changed_follows e k now out mid none v =
      last_next h (next (next mid e None) (Raise k) None) ds (Answer k now) out refl
      (silent_next h (next mid e None) ds [] (Raise k) refl (silent_next h mid ds [] e none v))

  worked_follows : (readings : List ℕ) (first : Stage) (slot k : ℕ) (memory : Bool) (now : ℕ) (out : Option Emission) (mid : History) → Follows h ds [] mid
      → Follows h ds (option_to_list out) (worked readings first slot k memory now out mid)
  worked_follows readings ToMatch slot k memory now out mid v = run_follows readings k memory now out (next mid (Peek k slot) None) (silent_next h mid ds [] (Peek k slot) refl v)
  worked_follows readings (ToTake count) slot k memory now out mid v = run_follows readings k memory now out mid v
  worked_follows readings ToInstall slot k memory now out mid v = changed_follows (Install k memory) k now out mid refl v
  worked_follows readings ToRemove slot k memory now out mid v = changed_follows (Remove k) k now out mid refl v
  worked_follows readings ToDescribe slot k memory now out mid v = last_next h (next mid (Receipt k) None) ds (Answer k now) out refl (silent_next h mid ds [] (Receipt k) refl v)
  worked_follows readings (ToList seen) slot k memory now out mid v = last_next h (peeked_below k 64 mid) ds (Answer k now) out refl (peeks_follow k 64 mid v)
  worked_follows readings other slot k memory now out mid v = last_next h mid ds (Answer k now) out refl v

turned_follows : (h : History) (readings : List ℕ) (k : ℕ) (memory : Bool) (now random : ℕ) (out : Option Emission) (mid : History) → Follows h [] [] mid
    → Follows h [] (option_to_list out) (turned readings k memory now random out mid)
turned_follows h readings k memory now random out mid v =
    let drew = silent_next h (next mid (Take k memory readings) None) [] [] (Fresh k now) refl (silent_next h mid [] [] (Take k memory readings) refl v) in
    let noted = last_next h (next (next mid (Take k memory readings) None) (Fresh k now) None) [] (Note k now random) out refl drew in
    silent_next h _ [] (option_to_list out) (GiveUp k now) refl noted

-- ---- a server's calls

-- a server continued a history: some events with these arrivals and emissions left it.
pub record GoesOn (h : History) (ds : List Arrival) (es : List Emission) (new : ServerState) : Type 0 where
  pub later : History
  pub follows : Follows h ds es later
  pub tasks : List Task
  pub serves : Serves later new tasks

-- a datagram.
handled_goes_on : (readings : List ℕ) (h : History) (k now : ℕ) (to : Endpoint) (bytes : Bor (List ℕ)) (d : Delivered) (new : ServerState) (out : Option Emission)
    → Handled readings h k now to bytes d new out → GoesOn h (arrived_by (Deliver now to bytes)) (option_to_list out) new
handled_goes_on readings h k now to bytes (Brings job) new out w = record {
  later = worked readings (first_stage job) job.origin.slot k w.memory now out (next h (Deliver now to bytes) None);
  follows = worked_follows h (arrived_by (Deliver now to bytes)) readings (first_stage job) job.origin.slot k w.memory now out (next h (Deliver now to bytes) None)
      (one_follows h (Deliver now to bytes) None);
  tasks = w.tasks;
  serves = w.serves;
}
handled_goes_on readings h k now to bytes (Signals id reset) new out w = record {
  later = signalled_below to id reset 8 (next h (Deliver now to bytes) None);
  follows = subst (λ (o : Option Emission). Follows h (arrived_by (Deliver now to bytes)) (option_to_list o) (signalled_below to id reset 8 (next h (Deliver now to bytes) None)))
      (sym w.0) (signals_follow h (arrived_by (Deliver now to bytes)) to id reset 8 (next h (Deliver now to bytes) None) (one_follows h (Deliver now to bytes) None));
  tasks = w.1.tasks;
  serves = w.1.serves;
}
handled_goes_on readings h k now to bytes other new out w =
    record { later = next h (Deliver now to bytes) out; follows = one_follows h (Deliver now to bytes) out; tasks = w.tasks; serves = w.serves }

-- a lease that was requested.
turn_goes_on : (given : Bool) (readings : List ℕ) (h : History) (shard k now random : ℕ) (new : ServerState) (out : Option Emission)
    → TurnGiven given readings (next h (Due shard now) None) k now random new out → GoesOn h [] (option_to_list out) new
turn_goes_on false readings h shard k now random new out w = record {
  later = next h (Due shard now) None;
  follows = subst (λ (o : Option Emission). Follows h [] (option_to_list o) (next h (Due shard now) None)) (sym w.0) (one_follows h (Due shard now) None);
  tasks = w.1.tasks;
  serves = w.1.serves;
}
turn_goes_on true readings h shard k now random new out w = record {
  later = turned readings k w.memory now random out (next h (Due shard now) None);
  follows = turned_follows h readings k w.memory now random out (next h (Due shard now) None) (one_follows h (Due shard now) None);
  tasks = w.tasks;
  serves = w.serves;
}

-- a history leaves a server on one thread, with any input for its jobs.
abbrev pub Leaves : History → SingleThread → List Task → Type 0
Leaves h a tasks = Serves h a.engine tasks

-- one step.
step_goes_on : (now : ℕ) (step : FlushingStep) (old new : SingleThread) (h : History) (tasks : List Task) → IsStepBy alone_calls now step old new → Leaves h old tasks
    → GoesOn h [] (option_to_list (sent_in_step step)) new.engine
step_goes_on now (Resent shard ticked) old new h tasks w v = record {
  later = _;
  follows = one_follows h (ShardTick (shard % 8) now) (sent_in_step (Resent shard ticked));
  tasks = tasks;
  serves = w.1.1 h tasks v;
}
step_goes_on now (Passed shard) old new h tasks w v =
    record { later = _; follows = one_follows h (ShardTick (shard % 8) now) None; tasks = tasks; serves = w.1.1 h tasks v }
step_goes_on now (Asked shard told) old new h tasks w v =
    turn_goes_on (is_given told) old.handed.readings h (shard % 8) (length tasks) now old.handed.random new.engine (notification_in told) (w.1.0.asked h tasks v)

-- a continuation of a continuation.
pub both_go_on : (h : History) (ds ds' : List Arrival) (es es' : List Emission) (mid new : ServerState) (v : GoesOn h ds es mid) → GoesOn v.later ds' es' new → GoesOn h (ds ++ ds') (es ++ es') new
both_go_on h ds ds' es es' mid new v w =
    record { later = w.later; follows = both_follow h v.later w.later ds ds' es es' v.follows w.follows; tasks = w.tasks; serves = w.serves }

-- steps.
pub steps_go_on : (now : ℕ) (steps : List FlushingStep) (old new : SingleThread) (h : History) (tasks : List Task) → AreStepsBy alone_calls now steps old new
    → Leaves h old tasks → GoesOn h [] (sent_in_steps steps) new.engine
steps_go_on now [] old new h tasks is v =
    record { later = h; follows = none_follows h; tasks = tasks; serves = subst (λ (a : SingleThread). Leaves h a tasks) (sym is) v }
steps_go_on now (step ∷ steps) old new h tasks w v =
    let before = steps_go_on now steps old w.0 h tasks w.2 v in
    both_go_on h [] [] (sent_in_steps steps) (option_to_list (sent_in_step step)) w.0.engine new.engine before
    (step_goes_on now step w.0 new before.later before.tasks w.1 before.serves)

-- the same, of equal lists.
pub goes_on_as : {h : History} {new : ServerState} (ds ds' : List Arrival) (es es' : List Emission) → ds ≡ ds' → es ≡ es' → GoesOn h ds es new → GoesOn h ds' es' new
goes_on_as {h} {new} ds ds' es es' same equal w =
    subst (λ (l : List Arrival). GoesOn h l es' new) same (subst (λ (l : List Emission). GoesOn h ds l new) equal w)

-- a datagram that was received whole.
pub datagram_goes_on : (now : ℕ) (incoming : Incoming) (old new : SingleThread) (sent : Option Emission) (h : History) (tasks : List Task) → IsHandledBy HandlesAlone now incoming old sent new
    → Leaves h old tasks → GoesOn h (Datagram now incoming ∷ []) (option_to_list sent) new.engine
datagram_goes_on now incoming old new sent h tasks w v =
    let came : List ℕ → List Arrival = λ bytes. Datagram now (record { from = incoming.from; bytes = bytes }) ∷ [] in
    let out = emission_if (is_reply w.handled) w.reply in
    goes_on_as _ (came incoming.bytes) (option_to_list out) (option_to_list sent) (ap came w.bytes_are) (ap option_to_list (sym w.sent_is))
    (handled_goes_on old.handed.readings h (length tasks) now incoming.from w.borrow (delivered (advanced old.engine.front now) incoming.from w.borrow.now) new.engine out
    (w.handles.0 h tasks v))

pub passed_goes_on : (now : ℕ) (old new : SingleThread) (sent : Option Emission) (h : History) (tasks : List Task) → PassesAlone now old new → sent ≡ None → Leaves h old tasks
    → GoesOn h (Silence now ∷ []) (option_to_list sent) new.engine
passed_goes_on now old new sent h tasks passes none v =
    goes_on_as (Silence now ∷ []) (Silence now ∷ []) [] (option_to_list sent) refl (ap option_to_list (sym none))
    (record { later = next h (Tick now) None; follows = one_follows h (Tick now) None; tasks = tasks; serves = passes.0 h tasks v })

-- ---- rounds

-- rounds one after the other, the newest first, whatever they waited.
module _ {S : Type 0} (IsRound : Round → S → S → Type 0) where
  abbrev pub AreChained : List Round → S → S → Type 0
  AreChained [] old new = new ≡ old
  AreChained (r ∷ rs) old new = (mid : S) × AreChained rs old mid × IsRound r mid new

pub any_wait : {S : Type 0} (Readies : ℕ → S → S → Type 0) (calls : IngressCalls S) (rounds : List Round) (old new : S) → AreRoundsBy Readies calls rounds old new → AreChained (IsRoundBy Readies calls) rounds old new
any_wait Readies calls [] old new is = is
any_wait Readies calls (r ∷ rounds) old new w = (w.0, any_wait Readies calls rounds old w.0 w.1, w.3)

module _ (sensors : List ℕ → Type 0) where
  received_goes_on : (now : ℕ) (received : Option Incoming) (old new : SingleThread) (sent : Option Emission) (h : History) (tasks : List Task)
      → IsReceivedBy (ReadiesAlone sensors) alone_calls now received old sent new → Leaves h old tasks
      → GoesOn h (arrival_at now received ∷ []) (option_to_list sent) new.engine
  received_goes_on now (Some incoming) old new sent h tasks w v = datagram_goes_on now incoming old new sent h tasks w v
  received_goes_on now None old new sent h tasks w v = passed_goes_on now old new sent h tasks w.0 w.1 v

  round_goes_on : (r : Round) (old new : SingleThread) (h : History) (tasks : List Task)
      → IsRoundBy (ReadiesAlone sensors) alone_calls r old new → Leaves h old tasks
      → GoesOn h (arrival_at r.now r.received ∷ []) (map (λ s. s.emission) r.sendings) new.engine
  round_goes_on r old new h tasks w v =
      let made : Leaves h w.ready tasks = subst (λ (s : ServerState). Serves h s tasks) (sym w.readied.2) v in
      let handled = received_goes_on r.now r.received w.ready w.answered r.sent h tasks w.carried_out made in
      let came : List Arrival = arrival_at r.now r.received ∷ [] in
      let all = both_go_on h came [] (option_to_list r.sent) (sent_in_steps r.steps) w.answered.engine new.engine handled
      (steps_go_on r.now r.steps w.answered new handled.later handled.tasks w.steps handled.serves) in
      goes_on_as _ came _ (map (λ s. s.emission) r.sendings) refl (sym w.sent) all

  -- one more round.
  round_goes_after : (r : Round) (rounds : List Round) (old new : SingleThread) (h : History)
      → (before : GoesOn h (arrivals_in rounds) (map (λ s. s.emission) (sendings_in rounds)) old.engine)
      → IsRoundBy (ReadiesAlone sensors) alone_calls r old new
      → GoesOn h (arrivals_in (r ∷ rounds)) (map (λ s. s.emission) (sendings_in (r ∷ rounds))) new.engine
  round_goes_after r rounds old new h before w =
      let all = both_go_on h (arrivals_in rounds) (arrival_at r.now r.received ∷ []) (map (λ s. s.emission) (sendings_in rounds)) (map (λ s. s.emission) r.sendings) old.engine new.engine before
      (round_goes_on r old new before.later before.tasks w before.serves) in
      goes_on_as _ _ _ (map (λ s. s.emission) (sendings_in rounds ++ r.sendings)) refl (sym (map-append (λ (s : Sending). s.emission) (sendings_in rounds) r.sendings)) all

-- it is one history.
pub one_history : (h : History) (ds : List Arrival) (es : List Emission) (s : ServerState) → GoesOn h ds es s → IsOneHistory h ds es s
one_history h ds es s w = record {
  entries = w.follows.entries;
  tasks = w.tasks;
  serves = subst (λ (later : History). Serves later s w.tasks) w.follows.is w.serves;
  arrives = w.follows.arrives_are;
  emits = w.follows.emits_are;
}

-- rounds of a server whose changes are recorded are rounds of the server.
module _ (sensors : List ℕ → Type 0) (Recorded : Requested → CallLog → CallLog → Type 0) where
  unrecorded_steps : (now : ℕ) (steps : List FlushingStep) (old new : Recording) → AreStepsBy (recorded_calls Recorded) now steps old new
      → AreStepsBy alone_calls now steps old.alone new.alone
  unrecorded_steps now [] old new is = ap (λ (r : Recording). r.alone) is
  unrecorded_steps now (Resent shard ticked ∷ steps) old new w = (w.0.alone, (w.1.0, w.1.1.0), unrecorded_steps now steps old w.0 w.2)
  unrecorded_steps now (Passed shard ∷ steps) old new w = (w.0.alone, (w.1.0, w.1.1.0), unrecorded_steps now steps old w.0 w.2)
  unrecorded_steps now (Asked shard told ∷ steps) old new w = (w.0.alone, (w.1.0, w.1.1.0), unrecorded_steps now steps old w.0 w.2)

  unrecorded_received : (now : ℕ) (received : Option Incoming) (old new : Recording) (sent : Option Emission)
      → IsReceivedBy (ReadiesRecorded sensors) (recorded_calls Recorded) now received old sent new
      → IsReceivedBy (ReadiesAlone sensors) alone_calls now received old.alone sent new.alone
  unrecorded_received now (Some incoming) old new sent w =
      record { borrow = w.borrow; bytes_are = w.bytes_are; handled = w.handled; reply = w.reply; handles = w.handles.0; sent_is = w.sent_is }
  unrecorded_received now None old new sent w = (w.0.0, w.1)

  unrecorded_round : (r : Round) (old new : Recording) → IsRoundBy (ReadiesRecorded sensors) (recorded_calls Recorded) r old new
      → IsRoundBy (ReadiesAlone sensors) alone_calls r old.alone new.alone
  unrecorded_round r old new w = record {
    ready = w.ready.alone;
    readied = w.readied.0;
    answered = w.answered.alone;
    carried_out = unrecorded_received r.now r.received w.ready w.answered r.sent w.carried_out;
    steps = unrecorded_steps r.now r.steps w.answered new w.steps;
    flushed = w.flushed;
    sent = w.sent;
  }

  pub recorded_go_on : (rounds : List Round) (old new : Recording) (h : History) (tasks : List Task)
      → AreChained (IsRoundBy (ReadiesRecorded sensors) (recorded_calls Recorded)) rounds old new → Leaves h old.alone tasks
      → GoesOn h (arrivals_in rounds) (map (λ s. s.emission) (sendings_in rounds)) new.alone.engine
  recorded_go_on [] old new h tasks is v =
      record { later = h; follows = none_follows h; tasks = tasks; serves = subst (λ (r : Recording). Leaves h r.alone tasks) (sym is) v }
  recorded_go_on (r ∷ rounds) old new h tasks w v =
      let before = recorded_go_on rounds old w.0 h tasks w.1 v in
      round_goes_after sensors r rounds w.0.alone new.alone h before (unrecorded_round r w.0 new w.2)

-- the history that begins with empty slots leaves the first server without jobs.
pub begins_empty : (begin : Begin) → Serves (begin_of begin) (first_server begin) []
begins_empty begin = begins begin.serial begin.id begin.policy (first_server begin) refl refl refl

-- a history that leaves the state in which a server started leaves the server.
pub leaves_first : (h : History) (start : ServerState) (first : Recording) → first.alone.engine ≡ start → Serves h start [] → Leaves h first.alone []
leaves_first h start first is serves = subst (λ (s : ServerState). Serves h s []) (sym is) serves

pub rounds_are_one_history : (sensors : List ℕ → Type 0) (e : RoundCalls) (Recorded : Requested → CallLog → CallLog → Type 0) (limit : ℕ) (start : ServerState)
    (before after : Option (List Receive)) (replies : Replies)
    (w : HasServed sensors e Recorded limit start before after replies)
    → (h : History) → Serves h start []
    → IsOneHistory h (arrivals_in w.run.rounds) (map (λ s. s.emission) (sendings_in w.run.rounds)) w.last.alone.engine
rounds_are_one_history sensors e Recorded limit start before after replies w h serves =
    one_history h (arrivals_in w.run.rounds) (map (λ s. s.emission) (sendings_in w.run.rounds)) w.last.alone.engine
    (recorded_go_on sensors Recorded w.run.rounds w.first w.last h [] (any_wait _ _ w.run.rounds w.first w.last w.run.has.are_rounds) (leaves_first h start w.first w.begins serves))

-- ---- lines

handed_on : (line : Line) (old new : SingleThread) (h : History) (tasks : List Task)
    → IsHandedBy HandsAlone alone_calls line old new → Leaves h old tasks → Leaves h new tasks
handed_on (lines.Device now readings) old new h tasks w v = subst (λ (s : ServerState). Serves h s tasks) (sym w.0) v
handed_on (lines.Tick now) old new h tasks is v = subst (λ (a : SingleThread). Leaves h a tasks) (sym is) v
handed_on (lines.Deliver now peer bytes) old new h tasks is v = subst (λ (a : SingleThread). Leaves h a tasks) (sym is) v

told_goes_on : (line : Line) (old new : SingleThread) (sent : Option Emission) (h : History) (tasks : List Task)
    → IsCarriedOutBy HandsAlone alone_calls line old sent new → Leaves h old tasks
    → GoesOn h (arrival_at (time_of line) (datagram_in line) ∷ []) (option_to_list sent) new.engine
told_goes_on (lines.Deliver now peer bytes) old new sent h tasks w v = datagram_goes_on now (record { from = peer_endpoint peer; bytes = bytes.items }) old new sent h tasks w v
told_goes_on (lines.Tick now) old new sent h tasks w v = passed_goes_on now old new sent h tasks w.0 w.1 v
told_goes_on (lines.Device now readings) old new sent h tasks w v = passed_goes_on now old new sent h tasks w.0 w.1 v

line_goes_on : (p : PlayedLine) (old new : SingleThread) (h : History) (tasks : List Task)
    → IsPlayedBy HandsAlone alone_calls p old new → Leaves h old tasks
    → GoesOn h (arrival_at (time_of p.line) (datagram_in p.line) ∷ []) (option_to_list p.sent ++ sent_in_steps p.steps) new.engine
line_goes_on p old new h tasks w v =
    let told = told_goes_on p.line w.handed w.answered p.sent h tasks w.carried_out (handed_on p.line old w.handed h tasks w.hands v) in
    let came : List Arrival = arrival_at (time_of p.line) (datagram_in p.line) ∷ [] in
    goes_on_as _ came _ _ refl refl
    (both_go_on h came [] (option_to_list p.sent) (sent_in_steps p.steps) w.answered.engine new.engine told
    (steps_go_on (time_of p.line) p.steps w.answered new told.later told.tasks w.steps told.serves))

lines_go_on : (played : List PlayedLine) (old new : SingleThread) (h : History) (tasks : List Task)
    → ArePlayedBy HandsAlone alone_calls played old new → Leaves h old tasks
    → GoesOn h (arrivals_in_lines played) (sent_in_lines played) new.engine
lines_go_on [] old new h tasks is v =
    record { later = h; follows = none_follows h; tasks = tasks; serves = subst (λ (a : SingleThread). Leaves h a tasks) (sym is) v }
lines_go_on (p ∷ played) old new h tasks w v =
    let before = lines_go_on played old w.0 h tasks w.1 v in
    both_go_on h (arrivals_in_lines played) (arrival_at (time_of p.line) (datagram_in p.line) ∷ []) (sent_in_lines played) (option_to_list p.sent ++ sent_in_steps p.steps) w.0.engine new.engine before
    (line_goes_on p w.0 new before.later before.tasks w.2 before.serves)

pub lines_are_one_history : (begin : Begin) (had before after : Option (List ℕ)) (w : IsPlayedOut begin had before after)
    → IsOneHistory (begin_of begin) (arrivals_in_lines w.played.lines) (sent_in_lines w.played.lines) w.last.engine
lines_are_one_history begin had before after w =
    one_history (begin_of begin) (arrivals_in_lines w.played.lines) (sent_in_lines w.played.lines) w.last.engine
    (lines_go_on w.played.lines w.first w.last (begin_of begin) [] w.played.played w.begins)

-- the text printed for lines is that of the datagrams sent for them.
pub lines_print_what_is_sent : (played : List PlayedLine) → printed_lines played ≡ flat_map printed (sent_in_lines played)
lines_print_what_is_sent [] = refl
lines_print_what_is_sent (p ∷ played) =
    let line : flat_map printed (option_to_list p.sent ++ sent_in_steps p.steps) ≡ output_by p =
    flat_map-append printed (option_to_list p.sent) (sent_in_steps p.steps) ∙ ap (λ (l : List ℕ). l ++ printed_steps p.steps) (printed_of p.sent) in
    let back = sym line in
    (λ i. lines_print_what_is_sent played i ++ back i) ∙ sym (flat_map-append printed (sent_in_lines played) (option_to_list p.sent ++ sent_in_steps p.steps))

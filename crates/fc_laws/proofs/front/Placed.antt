-- The exchange of a request's job stays in its place.
use Rattle.std.proofs.Common.{◌≡◌, ℕ, ◌<◌, ◌≤◌, List, [], ◌∷◌, ◌++◌, length, map, Option, sym, ap, ◌∙◌, subst, ⊎_elim, arith, max}
use Rattle.std.specs.Prelude.{is_some}
use Rattle.std.proofs.lemmas.Bool.{cases_lt}
use Rattle.std.proofs.lemmas.List.{append-nil, append_assoc, length-map}
use Rattle.coap_msg.specs.declared.types.Emission.{Emission}
use Rattle.coap_msg.specs.declared.types.Endpoint.{Endpoint}
use Rattle.fc_ticket.specs.declared.job.Job.{Job}
use Rattle.fc_ticket.specs.declared.job.Opening.{Opening}
use Rattle.fc_core.specs.declared.event.Event.{Event}
use Rattle.fc_core.specs.declared.event.Event.TheVariants.{Answer, Deliver, Due, Fire}
use Rattle.fc_core.specs.History.{Entry, History, BeginsWith, Then, Seen, seen, and_then, at_front, due_in, exchanges_by, front_at, job, received_at, stage, tasks_brought}
use Rattle.fc_core.specs.Laws.{HasCome}
use Rattle.fc_front.specs.Receiving.{Received, Opened, brought, next_opening, opened_by}
use Rattle.fc_core.specs.Stages.{content_at}
use Rattle.fc_core.proofs.Lists.{Each}
use Rattle.fc_laws.specs.ExchangeLaws.{Arrival, IsInPlace, IsOfRequest, arrival_of, arrival_of_job, arrivals}
use Rattle.fc_laws.proofs.front.NewJobs.{due_has, each_weaker, new_has, tasks_each}
use Rattle.fc_laws.proofs.front.Repeats.{received_arrivals, same_arrivals}
use Rattle.fc_laws.proofs.jobs.Others.{job_stays}

-- ---- exchanges are added at the end

abbrev arrivals_by : Event → Option Emission → Seen → List Arrival
arrivals_by e o s = map arrival_of (exchanges_by (at_front e) o s)

grown : (e : Event) (o : Option Emission) (s : Seen) → (new : List Arrival) × (arrivals_by e o s ≡ arrivals s ++ new)
grown (Deliver now to bytes) o s =
    let x = received_at s now to bytes.now in
    (map arrival_of (opened_by x (next_opening (front_at s now)) to), received_arrivals s now to x o)
grown (Answer k now) o s = ([], same_arrivals o s.exchanges (is_some (content_at (stage s k))) (job s k).origin.opening.number ∙ sym (append-nil (arrivals s)))
grown other o s = ([], sym (append-nil (arrivals s)))

stays_in_place : (r : Entry) (s : Seen) (j : Job) → IsInPlace (arrivals s) j → IsInPlace (arrivals (and_then r s)) j
stays_in_place r s j w =
    let more = grown r.event r.emitted s in
    record {
      before = w.before;
      after = w.after ++ more.0;
      is = more.1 ∙ (ap (λ (l : List Arrival). l ++ more.0) w.is ∙ append_assoc w.before (arrival_of_job j ∷ w.after) more.0);
      number = w.number;
    }

-- ---- new jobs

placed : (all old : List Arrival) (x : Received) (o : Opening) (to : Endpoint) → length old ≡ o.number → all ≡ old ++ map arrival_of (opened_by x o to) → Each (IsInPlace all) (brought x o to)
placed all old (Opened m asked body) o to number is = (record { before = old; after = []; is = is; number = number }, tt)
placed all old other o to number is = tt

brought_placed : (e : Event) (o : Option Emission) (s : Seen) → Each (λ t. IsOfRequest t.job → IsInPlace (arrivals_by e o s) t.job) (tasks_brought e s)
brought_placed (Deliver now to bytes) o s =
    let all = arrivals_by (Deliver now to bytes) o s in
    let x = received_at s now to bytes.now in
    let opening = next_opening (front_at s now) in
    tasks_each (λ j. IsOfRequest j → IsInPlace all j) (brought x opening to)
    (each_weaker (IsInPlace all) (λ j. IsOfRequest j → IsInPlace all j) (brought x opening to) (λ j w is. w)
    (placed all (arrivals s) x opening to (length-map s.exchanges arrival_of) (received_arrivals s now to x o)))
brought_placed (Due shard now) o s =
    let all = arrivals_by (Due shard now) o s in
    let at = max (s.shard_time shard) now in
    due_has (λ t. IsOfRequest t.job → IsInPlace all t.job) (λ j lease is. absurd (cc (is.0, lease.1))) s shard at (due_in s shard at)
brought_placed (Fire slot now) o s = (λ is. absurd (omega (arith, is.1)), tt)
brought_placed other o s = tt

-- ---- each job of a request

placed_after : (r : Entry) (s : Seen) (k : ℕ) → HasCome (and_then r s) k → (HasCome s k → IsOfRequest (job s k) → IsInPlace (arrivals s) (job s k)) → IsOfRequest (job (and_then r s) k) → IsInPlace (arrivals (and_then r s)) (job (and_then r s) k)
placed_after r s k come before = ⊎_elim
    (λ (lt : k < length s.tasks). subst (λ (j : Job). IsOfRequest j → IsInPlace (arrivals (and_then r s)) j) (sym (job_stays r s k lt)) (λ asks. stays_in_place r s (job s k) (before lt asks)))
    (λ (le : length s.tasks ≤ k). new_has (λ t. IsOfRequest t.job → IsInPlace (arrivals (and_then r s)) t.job) r s k le come (brought_placed r.event r.emitted s))
    (cases_lt k (length s.tasks))

pub in_place : (h : History) (k : ℕ) → HasCome (seen h) k → IsOfRequest (job (seen h) k) → IsInPlace (arrivals (seen h)) (job (seen h) k)
unfolding seen
in_place (BeginsWith stored id policy) k come = absurd (omega arith)
in_place (Then h r) k come = placed_after r (seen h) k come (in_place h k)

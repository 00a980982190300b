use Rattle.std.proofs.Common.{◌≡◌, ◌∙◌, ◌<◌, ◌-◌, List, [], ◌∷◌, ◌++◌, ap, arith, refl, rules, sym}
use Rattle.std.specs.Prelude.{length, map, reverse, slice_index_or, vec_len}
use Rattle.std.proofs.lemmas.List.{append-nil, length-append, map-append, map-id}
use Rattle.std.proofs.lemmas.Iterator.Adapters.{YieldsList-from_vec}
use Rattle.std.proofs.lemmas.Iterator.Consumers.{YieldsList-end}
use Rattle.fc_jobs.specs.Ends.{Got, nothing_got}
use Rattle.fc_backend.specs.Logs.{TrackedLog}
use Rattle.fc_backend.specs.Messages.{TrackedJob}
use Rattle.fc_workers.specs.Workers.{WorkerSeed}
use Rattle.fc_backend.proofs.Popped.{last_popped}
use Rattle.fc_workers.proofs.Seats.{all_popped, all_pushed, moved_last}
use Rattle.fc_workers.proofs.pool.seats_at.Goals as goal

no_more : (logs : List TrackedLog) → length logs ≡ 0 → logs ≡ []
no_more [] none = refl
no_more (log ∷ logs) none = absurd (omega (arith, none))

pub loop-own-preserved : goal.loop-own-preserved
loop-own-preserved g c =
    let some : 0 < vec_len c.loop-own.gots = omega (arith, c.in-Some-pop.ensures.cases) in
    let last = c.pop.ensures.value c.in-Some-pop.got some in
    let is = c.loop-own.invariant.0 (vec_len c.loop-own.gots - 1) c.in-Some-pop.got (omega (arith, some)) in
    let log_some : 0 < vec_len c.loop-own.logs = omega (arith, c.in-Some-pop-2.ensures.cases) in
    let log_value = c.pop-in-loop-own.ensures.value c.in-Some-pop-2.log log_some in
    let log_is : c.in-Some-pop-2.log ≡ slice_index_or c.loop-own.logs.items (vec_len c.loop-own.logs - 1) c.in-Some-pop-2.log = cc in
    let log_last = last_popped c.loop-own.logs.items (vec_len c.loop-own.logs - 1) c.in-Some-pop-2.log c.pop-in-loop-own.ensures.rest (omega (arith, log_some)) log_is in
    let got : c.in-Some-pop.got ≡ nothing_got c.args.jobs.now = cc in (
      all_popped (λ (x : Got TrackedJob). x ≡ nothing_got c.args.jobs.now) (vec_len c.loop-own.gots - 1) c.loop-own.gots.items c.pop.ensures.rest c.loop-own.invariant.0,
      omega (arith, c.in-Some-pop.ensures.cases, c.loop-own.invariant.1, length-append c.loop-own.yielded (c.in-Some.own ∷ [])),
      omega (arith, c.in-Some-pop-2.ensures.cases, c.loop-own.invariant.2, length-append c.loop-own.yielded (c.in-Some.own ∷ [])),
      all_pushed (λ (s : WorkerSeed _). s.got ≡ nothing_got c.args.jobs.now) c.loop-own.seats.items c.in_ok-new.field-0 c.in_ok-push.ensures.items c.loop-own.invariant.3 (c.in_ok-new.ensures.got ∙ got),
      search (rules, map-append),
      (let all = ap (λ ls. ls ++ reverse c.pop-in-loop-own.new.self.items) (ap (map (λ (s : WorkerSeed _). s.log)) c.in_ok-push.ensures.items ∙ map-append (λ (s : WorkerSeed _). s.log) c.loop-own.seats.items (c.in_ok-new.field-0 ∷ [])) in
          let same = ap (λ (log : TrackedLog). (map (λ (s : WorkerSeed _). s.log) c.loop-own.seats.items ++ log ∷ []) ++ reverse c.pop-in-loop-own.new.self.items) c.in_ok-new.ensures.log in
          all ∙ (same ∙ moved_last (map (λ (s : WorkerSeed _). s.log) c.loop-own.seats.items) c.loop-own.logs.items c.pop-in-loop-own.new.self.items (reverse c.args.logs.items) c.in-Some-pop-2.log log_last c.loop-own.invariant.5)),
    )

pub returns : goal.returns
returns g c =
    let gives = c.into_iter-own-iterator.ensures.into_iter_gives in
    let road = YieldsList-from_vec c.args.tallies.items gives.0 (omega (arith, gives.1, c.args.tallies.ok)) in
    let end = YieldsList-end road c.loop-own.yielded c.loop-own.own-iterator c.loop-own.yielded_by c.next.result c.next.new.self c.in-None.is c.next.ensures.steps in
    record {
      got = c.loop-own.invariant.3;
      tallies_are = c.loop-own.invariant.4 ∙ (sym (map-id c.loop-own.yielded) ∙ end.0);
      logs_are = sym (append-nil (map (λ (s : WorkerSeed _). s.log) c.loop-own.seats.items))
          ∙ (ap (λ (ls : List TrackedLog). map (λ (s : WorkerSeed _). s.log) c.loop-own.seats.items ++ reverse ls) (sym (no_more c.loop-own.logs.items (omega (arith, c.loop-own.invariant.2, end.1, c.requires.logs, c.loop-own.logs.ok, c.args.tallies.ok)))) ∙ c.loop-own.invariant.5);
    }

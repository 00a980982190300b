use Rattle.std.proofs.Common.{◌≡◌, length, ◌++◌, ◌∷◌, [], ◌∙◌, Bool, true, false, None, refl, ap}
use Rattle.coap_msg.specs.declared.types.Emission.{Emission}
use Rattle.fc_front.specs.Exchanges.{has_exchange}
use Rattle.fc_front.specs.Receiving.{emission_if}
use Rattle.fc_core.proofs.Unsent.{unsent}
use Rattle.fc_ticket.specs.declared.job.Job.{Job}
use Rattle.fc_server.proofs.Served.{answered_on, at_work, committed_on, kept_by, kept_by_answer, raised_on, took_on}
use Rattle.fc_server.proofs.engine.run.Goals as goal

pub take-has_memory-requires : goal.take-has_memory-requires
take-has_memory-requires c = at_work c.requires.rest c.requires.serves

pub commit-requires : goal.commit-requires
commit-requires c =
    let rest = c.requires.rest in
    at_work rest (took_on rest c.requires.serves c.take-has_memory.result _ (c.take-has_memory.ensures (length rest)))

pub raise-requires : goal.raise-requires
raise-requires c =
    let rest = c.requires.rest in
    let took = took_on rest c.requires.serves c.take-has_memory.result _ (c.take-has_memory.ensures (length rest)) in
    at_work rest (committed_on rest took c.args.now (c.commit.ensures (length rest)))

pub respond-is_sent-requires : goal.respond-is_sent-requires
respond-is_sent-requires c =
    let rest = c.requires.rest in
    let took = took_on rest c.requires.serves c.take-has_memory.result _ (c.take-has_memory.ensures (length rest)) in
    let committed = committed_on rest took c.args.now (c.commit.ensures (length rest)) in
    at_work rest (raised_on rest committed (c.raise.ensures (length rest)))

pub returns-clause-runs : goal.returns-clause-runs
returns-clause-runs c = λ h rest v.
    let took = took_on rest v c.take-has_memory.result _ (c.take-has_memory.ensures (length rest)) in
    let committed = committed_on rest took c.args.now (c.commit.ensures (length rest)) in
    let raised = raised_on rest committed (c.raise.ensures (length rest)) in
    record { tasks = rest ++ c.respond-is_sent.new.task ∷ []; serves = answered_on rest raised c.args.now _ c.respond-is_sent.ensures }

pub returns-clause-works : goal.returns-clause-works
returns-clause-works c = λ count h rest v.
    let took = took_on rest v c.take-has_memory.result _ (c.take-has_memory.ensures (length rest)) in
    let committed = committed_on rest took c.args.now (c.commit.ensures (length rest)) in
    let raised = raised_on rest committed (c.raise.ensures (length rest)) in
    record { memory = c.take-has_memory.result; tasks = rest ++ c.respond-is_sent.new.task ∷ []; serves = answered_on rest raised c.args.now _ c.respond-is_sent.ensures }

-- if nothing is sent, no datagram was written.
none_sent : (b : Bool) (e : Emission) → emission_if b e ≡ None → b ≡ false
none_sent true e is = absurd (cc is)
none_sent false e is = refl

pub returns-clause-unsent : goal.returns-clause-unsent
returns-clause-unsent c = λ none.
    let same = kept_by (c.raise.ensures 0) ∙ (kept_by (c.commit.ensures 0) ∙ kept_by (c.take-has_memory.ensures 0)) in
    none_sent c.respond-is_sent.result c.respond-is_sent.new.reply (unsent _ _ _ _ (ap (λ (j : Job). has_exchange j.origin.opening) same ∙ none) c.respond-is_sent.ensures.emits)

pub returns-clause-job : goal.returns-clause-job
returns-clause-job c = kept_by_answer c.respond-is_sent.ensures ∙ (kept_by (c.raise.ensures 0) ∙ (kept_by (c.commit.ensures 0) ∙ kept_by (c.take-has_memory.ensures 0)))

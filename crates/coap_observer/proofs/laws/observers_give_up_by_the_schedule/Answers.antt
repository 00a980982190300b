use Rattle.coap_observer.specs.ObserverFaults.{leaving_id}
use Rattle.coap_observer.specs.Notes.{TellsObserver}
use Rattle.coap_observer.specs.Notices.{observe_request}
use Rattle.coap_observer.specs.declared.notice.ObserveOption.TheVariants.{Deregister, Register}
use Rattle.coap_client.proofs.Scheduled.{rejected, unanswered}
use Rattle.coap_observer.proofs.ObserverSchedules.{rejected_leaving, silent_leaving}
use Rattle.coap_observer.proofs.laws.observers_give_up_by_the_schedule.Goals as goal

pub returns-clause-unanswered : goal.returns-clause-unanswered
returns-clause-unanswered c = λ o calls t.
    unanswered (observe_request o.client_request.now Register o.token o.id) (λ e. absurd (cc e)) (TellsObserver o.token o.id) calls t

pub returns-clause-unacknowledged : goal.returns-clause-unacknowledged
returns-clause-unacknowledged c = λ o calls all.
    silent_leaving (observe_request o.client_request.now Deregister o.token (leaving_id o)) (λ e. absurd (cc e)) o.token (leaving_id o) calls all

pub returns-clause-rejected : goal.returns-clause-rejected
returns-clause-rejected c = λ o calls s.
    rejected (observe_request o.client_request.now Register o.token o.id) (λ e. absurd (cc e)) (TellsObserver o.token o.id) calls s

pub returns-clause-leaving : goal.returns-clause-leaving
returns-clause-leaving c = λ o calls s.
    rejected_leaving (observe_request o.client_request.now Deregister o.token (leaving_id o)) (λ e. absurd (cc e)) o.token (leaving_id o) calls s

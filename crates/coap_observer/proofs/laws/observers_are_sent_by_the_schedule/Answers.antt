use Rattle.std.proofs.Common.{◌+◌, ◌%◌}
use Rattle.coap_observer.specs.Notes.{TellsObserver}
use Rattle.coap_observer.specs.Notices.{observe_request}
use Rattle.coap_observer.specs.declared.notice.ObserveOption.TheVariants.{Deregister, Register}
use Rattle.coap_observer.proofs.ObserverSchedules.{acknowledged_at_last}
use Rattle.coap_client.proofs.Scheduled.{answered}
use Rattle.coap_observer.proofs.laws.observers_are_sent_by_the_schedule.Goals as goal

pub returns-clause-registration : goal.returns-clause-registration
returns-clause-registration c = λ o answer calls t.
    answered (observe_request o.client_request.now Register o.token o.id) (λ e. absurd (cc e)) (TellsObserver o.token o.id) answer calls t

pub returns-clause-deregistration : goal.returns-clause-deregistration
returns-clause-deregistration c = λ o calls s.
    acknowledged_at_last (observe_request o.client_request.now Deregister o.token ((o.id + 1) % 65536)) (λ e. absurd (cc e)) o.token ((o.id + 1) % 65536) calls s

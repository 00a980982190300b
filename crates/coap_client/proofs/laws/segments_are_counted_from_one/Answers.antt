use Rattle.std.proofs.Common.{[], ◌∙◌, ap, codes, length, refl, ◌+◌, ◌++◌}
use Rattle.coap_client.proofs.Splitting.{begins_empty, one_before}
use Rattle.coap_client.proofs.laws.segments_are_counted_from_one.Goals as goal

pub returns-clause-alone : goal.returns-clause-alone
returns-clause-alone c = λ number h. h.number_is ∙ ap (λ b. length b + 1) (begins_empty [] h.before h.after tt h.are h.text_is)

pub returns-clause-first : goal.returns-clause-first
returns-clause-first c = λ number h. h.number_is ∙ ap (λ b. length b + 1) (begins_empty (codes "/a") h.before h.after refl h.are h.text_is)

pub returns-clause-second : goal.returns-clause-second
returns-clause-second c = λ number h.
    h.number_is ∙ ap (λ b. b + 1) (one_before h.before h.after h.rest h.are h.text_is (h.cut.text_is ∙ ap (λ s. s ++ h.rest) h.unfit) h.cut.rest_is)

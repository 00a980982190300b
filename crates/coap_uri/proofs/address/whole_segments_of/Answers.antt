use Rattle.std.proofs.Common.{ap, sym, ℕ, ◌∙◌}
use Rattle.std.specs.Global.{Vec}
use Rattle.std.specs.List.{list_any}
use Rattle.coap_uri.specs.Addresses.{has_slash}
use Rattle.coap_uri.proofs.Segments.{none_has_slash}
use Rattle.coap_uri.proofs.address.whole_segments_of.Goals as goal

pub returns-clause-whole : goal.returns-clause-whole
returns-clause-whole c =
    ap (list_any has_slash) (sym c.in_ok-segments.ensures) ∙ none_has_slash c.in_ok-segments.segments.items ∙ ap (list_any (λ (segment : Vec ℕ). has_slash segment.items)) (sym c.deref.ensures.value)
    ∙ sym c.have_slash.ensures ∙ c.if-have_slash.false

pub returns-then-have_slash-clause-none : goal.returns-then-have_slash-clause-none
returns-then-have_slash-clause-none c =
    ap (list_any has_slash) (sym c.in_ok-segments.ensures) ∙ none_has_slash c.in_ok-segments.segments.items ∙ ap (list_any (λ (segment : Vec ℕ). has_slash segment.items)) (sym c.deref.ensures.value)
    ∙ sym c.have_slash.ensures ∙ c.if-have_slash.true

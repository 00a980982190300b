use Rattle.std.proofs.Common.{sym, ◌∙◌}
use Rattle.coap_block.specs.Uploads.{IsBadLength, IsFull, IsIncomplete, IsTooLarge}
use Rattle.fc_laws.specs.BodyLaws.{addition_at}
use Rattle.fc_core.specs.History.{seen}
use Rattle.fc_laws.proofs.front.BlockCauses.{at_once, by_added, is_bad_length, is_full, is_incomplete, is_too_large, responding_emits, responding_waits}
use Rattle.fc_laws.proofs.front.Bodies.{added_block, rises_at}
use Rattle.fc_laws.proofs.body_laws.refused_blocks_have_causes.Goals as goal

pub returns-clause-full : goal.returns-clause-full
returns-clause-full c h now to m r b is =
    let law = c.refusals_have_only_their_causes.ensures.full (seen h).additions (addition_at (seen h) now to r) b (rises_at h now) in
    let same = added_block (seen h) now to r b is in
    (λ e. law.0 (sym same ∙ is_full _ m r e), λ w. by_added _ IsFull m r (same ∙ law.1 w))

pub returns-clause-incomplete : goal.returns-clause-incomplete
returns-clause-incomplete c h now to m r b is =
    let law = c.refusals_have_only_their_causes.ensures.incomplete (seen h).additions (addition_at (seen h) now to r) b (rises_at h now) in
    let same = added_block (seen h) now to r b is in
    (λ e. law.0 (sym same ∙ is_incomplete _ m r e), λ w. by_added _ IsIncomplete m r (same ∙ law.1 w))

pub returns-clause-length : goal.returns-clause-length
returns-clause-length c h now to m r b is =
    let law = c.refusals_have_only_their_causes.ensures.length (seen h).additions (addition_at (seen h) now to r) b (rises_at h now) in
    let same = added_block (seen h) now to r b is in
    (λ e. law.0 (sym same ∙ is_bad_length _ m r e), λ w. by_added _ IsBadLength m r (same ∙ law.1 w))

pub returns-clause-sum : goal.returns-clause-sum
returns-clause-sum c h now to m r b is =
    let law = c.refusals_have_only_their_causes.ensures.sum (seen h).additions (addition_at (seen h) now to r) b (rises_at h now) in
    let same = added_block (seen h) now to r b is in
    (λ e. law.0 (sym same ∙ is_too_large _ m r e), λ w. by_added _ IsTooLarge m r (same ∙ law.1 w))

pub returns-clause-only : goal.returns-clause-only
returns-clause-only c h = at_once (seen h)

pub returns-clause-answered : goal.returns-clause-answered
returns-clause-answered c e s m r answer = responding_emits e.event s m r answer e.emitted

pub returns-clause-waits : goal.returns-clause-waits
returns-clause-waits c e s m r answer = responding_waits e.event e.emitted s m r answer

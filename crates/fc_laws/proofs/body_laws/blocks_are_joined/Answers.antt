use Rattle.std.proofs.Common.{sym, ◌∙◌, max}
use Rattle.coap_block.specs.Transfers.{transfers}
use Rattle.fc_laws.specs.BodyLaws.{addition_at}
use Rattle.fc_core.specs.History.{seen}
use Rattle.fc_front.specs.Receiving.{slot_asked}
use Rattle.fc_laws.proofs.front.Bodies.{added_block, goes_on, is_continued, is_opened, is_whole, rises, rises_at}
use Rattle.fc_laws.proofs.body_laws.blocks_are_joined.Goals as goal

pub returns-clause-whole : goal.returns-clause-whole
returns-clause-whole c h now to m r b body is =
    let law = c.blocks_that_fit_are_joined.ensures.whole (seen h).additions (addition_at (seen h) now to r) b body (rises_at h now) in
    let same = added_block (seen h) now to r b is in
    (λ e. law.0 (sym same ∙ is_whole _ m r body e), λ w. is_opened _ m r body (same ∙ law.1 w))

pub returns-clause-continues : goal.returns-clause-continues
returns-clause-continues c h now to m r b is =
    let law = c.blocks_that_fit_are_joined.ensures.continues (seen h).additions (addition_at (seen h) now to r) b (rises_at h now) in
    let same = added_block (seen h) now to r b is in
    (λ e. law.0 (sym same ∙ goes_on _ m r b e), λ w. is_continued _ m r b is (same ∙ law.1 w))

pub returns-clause-most : goal.returns-clause-most
returns-clause-most c h now to m r body e =
    c.bodies_are_bounded.ensures.most (transfers (seen h).additions) (max (seen h).time now) to (slot_asked r.action) r.block1 r.payload body (is_whole _ m r body e)

pub returns-clause-few : goal.returns-clause-few
returns-clause-few c h = c.transfers_are_payloads_joined.ensures.few (seen h).additions

pub returns-clause-rises : goal.returns-clause-rises
returns-clause-rises c h = rises h

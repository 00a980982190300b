use Rattle.std.proofs.Common.{◌∙◌}
use Rattle.fc_laws.specs.BodyLaws.{addition_at}
use Rattle.fc_core.specs.History.{seen}
use Rattle.fc_laws.proofs.front.Bodies.{added_block, is_continued, is_opened, put_brings, put_continues, put_waits, rises_at}
use Rattle.fc_laws.proofs.body_laws.blocks_that_fit_are_answered.Goals as goal

pub returns-clause-installs : goal.returns-clause-installs
returns-clause-installs c e h m r n b body asks puts last =
    let law = c.blocks_that_fit_are_joined.ensures.whole in
    put_brings e.event e.emitted (seen h) m r n b body (λ now to fits. is_opened _ m r body (added_block (seen h) now to r b puts.block ∙ (law (seen h).additions (addition_at (seen h) now to r) b body (rises_at h now)).1 (last, fits))) asks puts

pub returns-clause-continues : goal.returns-clause-continues
returns-clause-continues c e h m r n b body asks puts more fits =
    let law = c.blocks_that_fit_are_joined.ensures.continues in
    put_continues e.event (seen h) m r b body e.emitted (λ now to fit. is_continued _ m r b puts.block (added_block (seen h) now to r b puts.block ∙ (law (seen h).additions (addition_at (seen h) now to r) b (rises_at h now)).1 (more, (body, fit)))) asks fits

pub returns-clause-waits : goal.returns-clause-waits
returns-clause-waits c e h m r n b body asks puts more =
    let law = c.blocks_that_fit_are_joined.ensures.continues in
    put_waits e.event e.emitted (seen h) m r b body (λ now to fit. is_continued _ m r b puts.block (added_block (seen h) now to r b puts.block ∙ (law (seen h).additions (addition_at (seen h) now to r) b (rises_at h now)).1 (more, (body, fit)))) asks

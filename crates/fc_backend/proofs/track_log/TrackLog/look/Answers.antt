use Rattle.std.proofs.Common.{◌≡◌, ◌≤◌, ◌∙◌, ℕ, subst}
use Rattle.fc_calls.specs.Logged.{LooksAt}
use Rattle.fc_linear.specs.Operations.{Logged}
use Rattle.fc_filed.specs.Threads.{did_by, known_word}
use Rattle.fc_backend.proofs.KnownWords.{knows_look}
use Rattle.fc_backend.proofs.Logs.{keeps_tracks}
use Rattle.fc_backend.proofs.track_log.TrackLog.look.Goals as goal

pub invariant_of-self : goal.invariant_of-self
invariant_of-self g c = keeps_tracks g.J.ServerName.first_job c.self.inside.who (Logged (LooksAt c.from-slot.result c.look.result)) c.self.inside.tracks c.look.ensures.filed c.self.invariant

pub returns-clause-knows : goal.returns-clause-knows
returns-clause-knows g c =
    let v = c.self.inside.tracks in
    let who = c.self.inside.who in
    let at : c.from-slot.result ≡ c.args.slot = c.from-slot.ensures ∙ c.number.ensures.number in
    knows_look c.args.slot c.look.result who v c.look.new.self c.self.invariant.thread.own
    (subst (λ (n : ℕ). c.look.new.self ≡ did_by who (Logged (LooksAt n c.look.result)) v) at c.look.ensures.filed)
    (subst (λ (n : ℕ). known_word n v.own ≤ c.look.result) at c.look.ensures.rises)

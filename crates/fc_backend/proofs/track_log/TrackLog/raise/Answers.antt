use Rattle.std.proofs.Common.{◌≡◌, ◌∙◌, ℕ, ap, max, subst}
use Rattle.fc_calls.specs.Logged.{RaisesWord}
use Rattle.fc_linear.specs.Operations.{Logged}
use Rattle.fc_filed.specs.Threads.{did_by, known_word}
use Rattle.fc_backend.specs.Logs.{TrackedLog}
use Rattle.fc_backend.proofs.KnownWords.{knows_raise}
use Rattle.fc_backend.proofs.Logs.{keeps_tracks}
use Rattle.fc_backend.proofs.track_log.TrackLog.raise.Goals as goal

pub invariant_of-self : goal.invariant_of-self
invariant_of-self g c = keeps_tracks g.J.ServerName.first_job c.self.inside.who (Logged (RaisesWord c.from-slot.result c.args.word)) c.self.inside.tracks c.raise.ensures.filed c.self.invariant

pub returns-clause-knows : goal.returns-clause-knows
returns-clause-knows g c =
    let v = c.self.inside.tracks in
    let who = c.self.inside.who in
    let at : c.from-slot.result ≡ c.args.slot = c.from-slot.ensures ∙ c.number.ensures.number in
    knows_raise c.args.slot c.args.word who v c.raise.new.self c.self.invariant.thread.own
    (subst (λ (n : ℕ). c.raise.new.self ≡ did_by who (Logged (RaisesWord n c.args.word)) v) at c.raise.ensures.filed)
    ∙ ap (λ (l : TrackedLog). max (known_word c.args.slot l.tracks.own) c.args.word) c.self.view_is

use Rattle.std.proofs.Common.{◌≡◌, ◌∙◌, ap, subst, sym}
use Rattle.fc_book.specs.Tracks.{first_own}
use Rattle.fc_backend.specs.Logs.{TrackedLog}
use Rattle.fc_backend.specs.Messages.{TrackedJob, with_tracks}
use Rattle.fc_workers.specs.Producing.{HasDispatched, HasProduced}
use Rattle.fc_workers.proofs.Producing.{sent_away, taken_back}
use Rattle.fc_workers.proofs.dispatcher_state.DispatcherState.send.Goals as goal

pub returns-in-None-clause-right : goal.returns-in-None-clause-right
returns-in-None-clause-right g c =
    subst (λ (l : TrackedLog). HasDispatched g.B.Book.ServerName.first_job c.args.self.now.keys l) (sym c.move_to_message-message.ensures.sent)
    (sent_away g.B.Book.ServerName.first_job c.args.self.now.keys c.args.self.now.job c.args.self.now.done.share.log c.move_to_message-message.ensures.single c.requires.produced)

-- a message that comes back leaves the log as it was.
pub returns-in-Some-clause-sent : goal.returns-in-Some-clause-sent
returns-in-Some-clause-sent g c =
    let log = c.args.self.now.done.share.log in
    let back = c.in-Some.ensures.sent.0 ∙ c.move_to_message-message.ensures.message in
    let tracks : c.in-Some.back.tracks ≡ first_own log.tracks = ap (λ (m : TrackedJob). m.tracks) back in
    let moved = c.move_to_message-message.ensures.sent in
    let same : c.take_from_message-self.new.self ≡ log = c.take_from_message-self.ensures.received ∙ ((λ i. with_tracks (tracks i) (moved i)) ∙ taken_back g.B.Book.ServerName.first_job c.args.self.now.job log) in
    let sent = c.in-Some.ensures.sent.1 in (
      λ i. record c.args.self.now.done { sent = sent i; share = record c.args.self.now.done.share { log = same i } },
      c.take_from_message-self.ensures.job ∙ (ap (λ (m : TrackedJob). m.job) back ∙ c.replace-job.ensures.value),
    )

pub returns-in-Some-clause-right : goal.returns-in-Some-clause-right
returns-in-Some-clause-right g c =
    let log = c.args.self.now.done.share.log in
    let back = c.in-Some.ensures.sent.0 ∙ c.move_to_message-message.ensures.message in
    let tracks : c.in-Some.back.tracks ≡ first_own log.tracks = ap (λ (m : TrackedJob). m.tracks) back in
    let moved = c.move_to_message-message.ensures.sent in
    let same : c.take_from_message-self.new.self ≡ log = c.take_from_message-self.ensures.received ∙ ((λ i. with_tracks (tracks i) (moved i)) ∙ taken_back g.B.Book.ServerName.first_job c.args.self.now.job log) in
    subst (λ (l : TrackedLog). HasProduced g.B.Book.ServerName.first_job c.args.self.now.keys c.args.self.now.job l) (sym same) c.requires.produced

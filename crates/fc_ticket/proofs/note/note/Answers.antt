use Rattle.std.proofs.Common.{◌∙◌, None, ap, sym}
use Rattle.fc_observe.specs.Calls.{after_calls}
use Rattle.fc_ticket.specs.declared.note.Notification.{Notification}
use Rattle.fc_ticket.specs.Notes.{note_calls, noted_as, sent_of, ticket_told, told_calls}
use Rattle.fc_ticket.proofs.Telling.{after_advance}
use Rattle.fc_ticket.proofs.note.note.Goals as goal

pub returns-in-Gone-clause-watch : goal.returns-in-Gone-clause-watch
returns-in-Gone-clause-watch c =
    let turn = c.args.turn in
    let sent = sent_of (noted_as c.note_gone.result c.note_gone.new.emission) in
    c.note_gone.ensures.watch c.args.random c.args.now
    ∙ (ap (after_calls (told_calls turn c.args.id c.args.random c.args.now None sent)) c.advance.ensures
    ∙ (after_advance turn c.args.id c.args.random c.args.now None sent c.args.watch.now
    ∙ ap (λ (told : Notification). after_calls (note_calls turn c.args.id c.args.random c.args.now (ticket_told told) sent) c.args.watch.now) (sym c.in-Gone.is)))

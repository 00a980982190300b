use Rattle.fc_calls.proofs.Confirming.{calls_confirm}
use Rattle.fc_calls.proofs.calls.NoteShardCall.call.Goals as goal

pub returns-clause-confirms : goal.returns-clause-confirms
returns-clause-confirms c = calls_confirm _ _ _ _ c.write_note.ensures.notes.after

use Rattle.fc_laws.proofs.jobs.Meanings.{commit_meant, draw_meant, note_meant}
use Rattle.fc_laws.proofs.laws.held_tickets_have_a_meaning.Goals as goal

pub returns-clause-committed : goal.returns-clause-committed
returns-clause-committed c = λ h k n t m is. commit_meant h k t m n is

pub returns-clause-drawing : goal.returns-clause-drawing
returns-clause-drawing c = λ h k turn t m is. draw_meant h k t m turn is

pub returns-clause-told : goal.returns-clause-told
returns-clause-told c = λ h k id turn t m is. note_meant h k t m turn id is

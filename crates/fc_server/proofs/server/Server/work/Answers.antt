use Rattle.std.proofs.Common.{◌≡◌, ℕ, false, Option, None, refl, sym, subst}
use Rattle.std.specs.Prelude.{is_some}
use Rattle.fc_core.specs.declared.event.Event.{Event}
use Rattle.fc_server.specs.States.{Works}
use Rattle.fc_server.proofs.Others.{idles}
use Rattle.fc_server.proofs.server.Server.work.Goals as goal

pub returns-then-is_none : goal.returns-then-is_none
returns-then-is_none c = idles c.args.event.now c.args.self.now c.args.task.now (subst (λ (o : Option ℕ). is_some o ≡ false) c.job.ensures c.if-is_none.ensures)

pub returns-in-Peek : goal.returns-in-Peek
returns-in-Peek c = subst (λ (e : Event). Works e c.args.self.now c.args.task.now c.peek.new.self c.peek.new.task None) (sym c.in-Peek.is) (c.peek.ensures _)

pub returns-in-Commit : goal.returns-in-Commit
returns-in-Commit c = subst (λ (e : Event). Works e c.args.self.now c.args.task.now c.commit.new.self c.commit.new.task None) (sym c.in-Commit.is) (c.commit.ensures _)

pub returns-in-Remove : goal.returns-in-Remove
returns-in-Remove c = subst (λ (e : Event). Works e c.args.self.now c.args.task.now c.remove.new.self c.remove.new.task None) (sym c.in-Remove.is) (c.remove.ensures _)

pub returns-in-Refuse : goal.returns-in-Refuse
returns-in-Refuse c = subst (λ (e : Event). Works e c.args.self.now c.args.task.now c.refuse.new.self c.refuse.new.task None) (sym c.in-Refuse.is) (c.refuse.ensures _)

pub returns-in-Receipt : goal.returns-in-Receipt
returns-in-Receipt c = subst (λ (e : Event). Works e c.args.self.now c.args.task.now c.describe.new.self c.describe.new.task None) (sym c.in-Receipt.is) (c.describe.ensures _)

pub returns-in-Raise : goal.returns-in-Raise
returns-in-Raise c = subst (λ (e : Event). Works e c.args.self.now c.args.task.now c.raise.new.self c.raise.new.task None) (sym c.in-Raise.is) (c.raise.ensures _)

pub returns-in-GiveUp : goal.returns-in-GiveUp
returns-in-GiveUp c = subst (λ (e : Event). Works e c.args.self.now c.args.task.now c.give_up.new.self c.give_up.new.task None) (sym c.in-GiveUp.is) (c.give_up.ensures _)

pub returns-in_ok-take_if-in-Take : goal.returns-in_ok-take_if-in-Take
returns-in_ok-take_if-in-Take c = subst (λ (e : Event). Works e c.args.self.now c.args.task.now c.take_if.new.self c.take_if.new.task None) (sym c.in-Take.is) (c.in_ok-take_if-in-Take.ensures _)

pub returns-in_ok-install_if-in-Install : goal.returns-in_ok-install_if-in-Install
returns-in_ok-install_if-in-Install c = subst (λ (e : Event). Works e c.args.self.now c.args.task.now c.install_if.new.self c.install_if.new.task None) (sym c.in-Install.is) (c.in_ok-install_if-in-Install.ensures _)

pub returns-in-Note : goal.returns-in-Note
returns-in-Note c = subst (λ (e : Event). Works e c.args.self.now c.args.task.now c.tell.new.self c.tell.new.task c.tell.result) (sym c.in-Note.is) (c.tell.ensures _)

pub returns-in-Answer : goal.returns-in-Answer
returns-in-Answer c = subst (λ (e : Event). Works e c.args.self.now c.args.task.now c.answer.new.self c.answer.new.task c.answer.result) (sym c.in-Answer.is) c.answer.ensures

pub returns-in-Fresh : goal.returns-in-Fresh
returns-in-Fresh c = subst (λ (e : Event). Works e c.args.self.now c.args.task.now c.fresh.new.self c.fresh.new.task None) (sym c.in-Fresh.is) (c.fresh.ensures, refl)

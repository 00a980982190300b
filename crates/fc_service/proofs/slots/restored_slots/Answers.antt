use Rattle.std.proofs.Common.{◌≡◌, ◌∙◌, ◌<◌, ℕ, List, ap, subst}
use Rattle.std.proofs.lemmas.Result.{IfOk-weaker}
use Rattle.std.specs.Prelude.{IfErr}
use Rattle.fc_registry.specs.Starts.{CanRestore, IsStartError}
use Rattle.fc_server.specs.States.{server_over}
use Rattle.fc_store.specs.Stored.{StoredSlot, stored_in}
use Rattle.fc_service.specs.Serials.{raised_slots, serial_over}
use Rattle.fc_service.proofs.FirstSerials.{all_can, all_start_at, restored_from}
use Rattle.fc_service.proofs.slots.restored_slots.Goals as goal

pub returns-clause-serials : goal.returns-clause-serials
returns-clause-serials c =
    all_start_at c.args.started c.args.stored.now c.requires c.over.result
    (IfOk-weaker c.over.result (λ f. (n : ℕ) → n < 64 → CanRestore (stored_in c.deref.result.now n)) (λ f. (n : ℕ) → n < 64 → CanRestore (raised_slots (serial_over c.args.started c.args.stored.now) c.args.stored.now n))
    (λ f can. subst (λ (xs : List StoredSlot). (n : ℕ) → n < 64 → CanRestore (stored_in xs n)) (c.deref.ensures.value ∙ c.in_ok-slots.ensures) can)
    c.over.ensures.can)

pub returns-clause-can : goal.returns-clause-can
returns-clause-can c =
    all_can (raised_slots (serial_over c.args.started c.args.stored.now) c.args.stored.now) c.over.result
    (IfOk-weaker c.over.result (λ f. (n : ℕ) → n < 64 → CanRestore (stored_in c.deref.result.now n)) (λ f. (n : ℕ) → n < 64 → CanRestore (raised_slots (serial_over c.args.started c.args.stored.now) c.args.stored.now n))
    (λ f can. subst (λ (xs : List StoredSlot). (n : ℕ) → n < 64 → CanRestore (stored_in xs n)) (c.deref.ensures.value ∙ c.in_ok-slots.ensures) can)
    c.over.ensures.can)

pub returns-clause-restored : goal.returns-clause-restored
returns-clause-restored c =
    restored_from c.args.started c.args.first_id c.args.policy.now c.args.stored.now c.requires c.over.result
    (IfOk-weaker c.over.result (λ f. f ≡ server_over (stored_in c.deref.result.now) c.args.first_id c.args.policy.now) (λ f. f ≡ server_over (raised_slots (serial_over c.args.started c.args.stored.now) c.args.stored.now) c.args.first_id c.args.policy.now)
    (λ f is. is ∙ ap (λ (xs : List StoredSlot). server_over (stored_in xs) c.args.first_id c.args.policy.now) (c.deref.ensures.value ∙ c.in_ok-slots.ensures))
    c.over.ensures.first)
    (returns-clause-serials c)
    (returns-clause-can c)

pub returns-clause-cause : goal.returns-clause-cause
returns-clause-cause c =
    subst (λ (xs : List StoredSlot). IfErr c.over.result (IsStartError (stored_in xs))) (c.deref.ensures.value ∙ c.in_ok-slots.ensures) c.over.ensures.cause

-- A call of the shard with one index, as a call of the shard with an equal index.
use Rattle.std.proofs.Common.{◌≡◌, ℕ, ◌<◌, ◌∙◌}
use Rattle.fc_registry.specs.Slots.{Shard}
use Rattle.fc_server.specs.States.{ServerState}
use Rattle.fc_locked.specs.Asked.{IsAsked}

pub asked_at : {first : ServerState} {i j : ℕ} {Does : Shard → Shard → Type 0} → (j < 8 → i ≡ j) → i < 8 → IsAsked first i Does → IsAsked first j Does
asked_at at low asked = record {
  before = asked.before;
  after = asked.after;
  of = λ lt. asked.of low ∙ at lt;
  confirms = asked.confirms;
  does = asked.does;
}

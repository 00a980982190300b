-- Relations between the state at a loop's head and the states in the loop's body.
use Rattle.std.proofs.Common.{◌≡◌, ◌≢◌, ℕ, ◌<◌, ◌≤◌, Some, List}
use Rattle.fc_isa.specs.declared.insn.Insn.{Insn}
use Rattle.fc_image.specs.declared.loops.Loop.{Loop}
use Rattle.fc_kinds.specs.declared.kind.Kind.{Kind}
use Rattle.fc_kinds.specs.Kinds.{kind_at, KindWithin, Within}
use Rattle.fc_kinds.specs.Containing.{AreKinds}
use Rattle.fc_verify.specs.Heads.{IsHeadState, settled}

-- except for the loop's counter, the state is no wider than the state at the head
pub record IsUnder (l : Loop) (head ks : List Kind) : Type 0 where
  pub each : (r : ℕ) → r ≢ l.counter → KindWithin (kind_at ks r) (kind_at head r)

pub record Settles (code : List Insn) (l : Loop) (ks hs : List Kind) : Type 0 where
  pub kinds : AreKinds hs
  pub within : Within ks hs
  pub head : IsHeadState code l hs

pub record SettlesIn (code : List Insn) (l : Loop) (ks wider : List Kind) : Type 0 where
  pub kinds : List Kind
  pub is : settled code (Some l) ks ≡ Some kinds
  pub within : Within kinds wider

pub record IsSound (l : Loop) : Type 0 where
  pub counter : l.counter < 10
  pub some : 1 ≤ l.bound
  pub few : l.bound ≤ 1024

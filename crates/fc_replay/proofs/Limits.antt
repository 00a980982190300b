-- A policy that is made of networks, and of the limits and seconds that parts give, has all these.
use Rattle.std.proofs.Common.{◌≡◌, ℕ, ◌^◌, List, Option, Some, None, IfSome, MatchOption, refl, sym, subst}
use Rattle.std.specs.Prelude.{codes}
use Rattle.fc_front.specs.declared.policy.Policy.{Policy}
use Rattle.fc_lines.specs.Policies.{AreManagers, IsNoPolicy, IsPolicyOf}
use Rattle.fc_replay.specs.Listed.{Bytes, HasLimits, HasNumber, HasSeconds}

pub limits_of : (r : Option Policy) (parts networks list : List Bytes) (exchanges share seconds : ℕ) → HasNumber parts (codes "exchanges") (2 ^ 64) exchanges → HasNumber parts (codes "share") (2 ^ 64) share
    → networks ≡ list → HasSeconds parts seconds → MatchOption r (IsNoPolicy networks exchanges share seconds) (IsPolicyOf networks exchanges share seconds) → IfSome r (HasLimits parts list)
limits_of None parts networks list exchanges share seconds e s same t w = tt
limits_of (Some p) parts networks list exchanges share seconds e s same t w = record {
  seconds = seconds;
  confirm_after = t;
  exchanges = subst (HasNumber parts (codes "exchanges") (2 ^ 64)) (sym w.exchanges_are) e;
  share = subst (HasNumber parts (codes "share") (2 ^ 64)) (sym w.share_is) s;
  is = subst (λ (n : ℕ). IsPolicyOf list n p.limits.share seconds p) (sym w.exchanges_are) (subst (λ (n : ℕ). IsPolicyOf list exchanges n seconds p) (sym w.share_is) (subst (λ (l : List Bytes). IsPolicyOf l exchanges share seconds p) same w));
}

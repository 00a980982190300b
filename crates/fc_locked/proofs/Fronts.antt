-- A front that only calls have changed since its beginning.
use Rattle.std.proofs.Common.{[], ◌∷◌, refl}
use Rattle.fc_front.specs.Exchanges.{FrontState}
use Rattle.fc_locked.specs.Fronts.{BeganAt, FrontCall}

-- each front began as itself, without a call.
pub begins_at : (first : FrontState) → BeganAt first first
begins_at first = record { earlier = []; calls = refl }

-- if a front began as `first`, it still did so after one more call.
pub goes_on : {first before after : FrontState} → FrontCall before after → BeganAt first before → BeganAt first after
goes_on {first} {before} {after} call w = record { earlier = before ∷ w.earlier; calls = (w.calls, call) }

-- Calls that record nothing, and their effect on the recorded server.
use Rattle.std.proofs.Common.{◌≡◌, ◌∙◌, Bool, true, false, ap, subst}
use Rattle.std.specs.Prelude.{MatchBool}
use Rattle.fc_server.specs.declared.alone.SingleThread.{SingleThread}
use Rattle.fc_record.specs.Recording.{Recording}

-- if a call has this effect on the server inside a recording, the recording has it too, and its log
-- of records is unchanged.
pub unrecorded : (Did : SingleThread → SingleThread → Type 0) (inside old : Recording) (new : SingleThread) → inside ≡ old → Did inside.alone new
    → Did old.alone new × (inside.log ≡ old.log)
unrecorded Did inside old new is did = (subst (λ (r : Recording). Did r.alone new) is did, ap (λ (r : Recording). r.log) is)

-- if a call has this effect on the server inside, or leaves it unchanged, so it does for the
-- recording. The log of records is unchanged.
pub unrecorded_if : (Did : SingleThread → SingleThread → Type 0) (inside old : Recording) (new : SingleThread) (does : Bool) → inside ≡ old
    → MatchBool does (Did inside.alone new) (new ≡ inside.alone)
    → MatchBool does (Did old.alone new × (inside.log ≡ old.log)) (record inside { alone = new } ≡ old)
unrecorded_if Did inside old new true is did = unrecorded Did inside old new is did
unrecorded_if Did inside old new false is same = ap (λ (a : SingleThread). record inside { alone = a }) same ∙ is

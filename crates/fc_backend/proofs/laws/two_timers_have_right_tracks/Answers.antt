use Rattle.fc_backend.proofs.TwoTimers.{has_right_tracks, new_job, not_begun, not_low, not_shared, not_turned, not_two}
use Rattle.std.proofs.Common.{refl}
use Rattle.fc_backend.proofs.laws.two_timers_have_right_tracks.Goals as goal

pub returns-clause-right : goal.returns-clause-right
returns-clause-right c = has_right_tracks

pub returns-clause-new : goal.returns-clause-new
returns-clause-new c = new_job

pub returns-clause-low : goal.returns-clause-low
returns-clause-low c = not_low

pub returns-clause-begun : goal.returns-clause-begun
returns-clause-begun c = not_begun

pub returns-clause-two : goal.returns-clause-two
returns-clause-two c = not_two

pub returns-clause-keys : goal.returns-clause-keys
returns-clause-keys c = refl

pub returns-clause-shared : goal.returns-clause-shared
returns-clause-shared c = not_shared

pub returns-clause-turned : goal.returns-clause-turned
returns-clause-turned c = not_turned

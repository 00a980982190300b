use Rattle.fc_help.proofs.Laid.{readings_size}
use Rattle.fc_help.proofs.Places.{given_is, zeros_are}
use Rattle.fc_help.proofs.laws.readings_have_their_places.Goals as goal

pub returns : goal.returns
returns c = record { size = readings_size; given = given_is; zeros = zeros_are }

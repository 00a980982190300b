-- A list of 65,536 times `None` records no draws.
use Rattle.std.proofs.Common.{◌≡◌, None, replicate, refl}
use Rattle.fc_front.specs.Ids.{no_draws}

pub none_drawn : replicate 65536 None ≡ no_draws
unfolding no_draws
none_drawn = refl

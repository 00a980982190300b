use Rattle.std.proofs.Common.{arith, refl}
use Rattle.std.specs.Prelude.{decimal}
use Rattle.std.specs.Fmt.{digits}
use Rattle.std.proofs.lemmas.Fmt.{decimal_is_IsNumeral}
use Rattle.fc_config.proofs.laws.longest_period_is_a_day.Goals as goal

pub returns-clause-day : goal.returns-clause-day
unfolding digits
returns-clause-day c =
    let period = decimal_is_IsNumeral 86400000 (omega arith) in
    let slot = decimal_is_IsNumeral 7 (omega arith) in
    record {
      period = decimal 86400000;
      digits = decimal 7;
      text_is = refl;
      every = record { digits = period.0; value = period.1 };
      slot = record { digits = slot.0; value = slot.1 };
      is_new = refl;
      some = omega arith;
      most = omega arith;
      is_slot = omega arith;
    }

use Rattle.std.proofs.Common.{arith, refl}
use Rattle.std.specs.Prelude.{decimal}
use Rattle.std.specs.Fmt.{digits}
use Rattle.std.proofs.lemmas.Fmt.{decimal_is_IsNumeral}
use Rattle.fc_lines.specs.Fields.{IsNumber}
use Rattle.fc_config.proofs.ReadTimers.{digits_uncoloned, outside}
use Rattle.fc_config.proofs.laws.timers_have_periods_and_slots.Goals as goal

-- the digits of a number.
zero : IsNumber (decimal 0) 0
zero = let n = decimal_is_IsNumeral 0 (omega arith) in record { digits = n.0; value = n.1 }

one : IsNumber (decimal 1) 1
one = let n = decimal_is_IsNumeral 1 (omega arith) in record { digits = n.0; value = n.1 }

seven : IsNumber (decimal 7) 7
seven = let n = decimal_is_IsNumeral 7 (omega arith) in record { digits = n.0; value = n.1 }

sixty_three : IsNumber (decimal 63) 63
sixty_three = let n = decimal_is_IsNumeral 63 (omega arith) in record { digits = n.0; value = n.1 }

sixty_four : IsNumber (decimal 64) 64
sixty_four = let n = decimal_is_IsNumeral 64 (omega arith) in record { digits = n.0; value = n.1 }

second : IsNumber (decimal 1000) 1000
second = let n = decimal_is_IsNumeral 1000 (omega arith) in record { digits = n.0; value = n.1 }

beyond_a_day : IsNumber (decimal 86400001) 86400001
beyond_a_day = let n = decimal_is_IsNumeral 86400001 (omega arith) in record { digits = n.0; value = n.1 }

pub returns-clause-shortest : goal.returns-clause-shortest
unfolding digits
returns-clause-shortest c = record { period = decimal 1; digits = decimal 0; text_is = refl; every = one; slot = zero; is_new = refl; some = omega arith; most = omega arith; is_slot = omega arith }

pub returns-clause-last : goal.returns-clause-last
unfolding digits
returns-clause-last c = record { period = decimal 1000; digits = decimal 63; text_is = refl; every = second; slot = sixty_three; is_new = refl; some = omega arith; most = omega arith; is_slot = omega arith }

pub returns-clause-none : goal.returns-clause-none
unfolding digits
returns-clause-none c = outside _ (decimal 0) (decimal 7) 0 7 (record { text_is = refl; first = digits_uncoloned (decimal 0) zero.digits.1 }) zero seven
    (record { is = λ e s same own some most few. absurd (omega (arith, same, some)) })

pub returns-clause-longer : goal.returns-clause-longer
unfolding digits
returns-clause-longer c = outside _ (decimal 86400001) (decimal 7) 86400001 7 (record { text_is = refl; first = digits_uncoloned (decimal 86400001) beyond_a_day.digits.1 }) beyond_a_day seven
    (record { is = λ e s same own some most few. absurd (omega (arith, same, most)) })

pub returns-clause-beyond : goal.returns-clause-beyond
unfolding digits
returns-clause-beyond c = outside _ (decimal 1000) (decimal 64) 1000 64 (record { text_is = refl; first = digits_uncoloned (decimal 1000) second.digits.1 }) second sixty_four
    (record { is = λ e s same own some most few. absurd (omega (arith, own, few)) })

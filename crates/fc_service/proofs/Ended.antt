-- A server that has ended with a result.
use Rattle.std.proofs.Common.{◌≡◌, Bool, true, false, Option, Some, None}
use Rattle.std.specs.Prelude.{IfSome, is_some}

-- what follows from the result of a server that has one.
pub when_some : {A : Type 0} {P : A → Type 0} {Q : Type 0} (r : Option A) → is_some r ≡ true → IfSome r P → ((a : A) → P a → Q) → Q
when_some (Some a) is holds f = f a holds
when_some None is holds f = absurd (cc is)

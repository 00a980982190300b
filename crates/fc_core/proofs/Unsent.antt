-- The answer of a job without an exchange isn't sent.
use Rattle.std.proofs.Common.{◌≡◌, ℕ, ◌+◌, Bool, true, false, Option, Some, None, refl, ap, subst}
use Rattle.std.specs.Prelude.{nat_lt}
use Rattle.std.proofs.lemmas.Bool.{and_left}
use Rattle.coap_msg.specs.declared.types.Emission.{Emission}
use Rattle.fc_ticket.specs.declared.job.Job.{Job}
use Rattle.fc_ticket.specs.declared.job.Opening.{Opening}
use Rattle.fc_front.specs.Contents.{Content}
use Rattle.fc_front.specs.Exchanges.{FrontState, has_exchange, opening_is_live}
use Rattle.fc_core.specs.Legal.{AnswerEmits, IsAnswered}
use Rattle.fc_front.specs.Receiving.{id_in}

-- the opening of a job without an exchange is never live.
pub never_live : (o : Opening) (now : ℕ) → has_exchange o ≡ false → opening_is_live now o ≡ false
never_live o now none = and_left (has_exchange o) (nat_lt now (o.at + 247000)) none

pub unsent : (c : Option Content) (j : Job) (f : FrontState) (o : Option Emission) → has_exchange j.origin.opening ≡ false → AnswerEmits c j f o → o ≡ None
unsent None j f o none w = w
unsent (Some content) j f o none w = subst (λ (live : Bool). IsAnswered live (id_in f j.confirmable j.origin.id) j content o) (never_live j.origin.opening f.now none) w

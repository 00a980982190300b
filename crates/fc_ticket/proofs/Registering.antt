-- A registration stores the size of the requested block.
use Rattle.std.proofs.Common.{◌≡◌, ℕ, [], ◌∷◌, Bool, true, Option, Some, None, ap, ◌∙◌}
use Rattle.coap_opts.specs.Values.{Place}
use Rattle.fc_observe.specs.Calls.{Register}
use Rattle.fc_ticket.specs.Registrations.{is_cancellation, is_registration, observe_calls, observe_calls_by, szx_of}
use Rattle.fc_ticket.specs.Tickets.{Ticket}

-- the call of a registration has the block size that was requested.
registers : (now : ℕ) (t : Ticket) → is_registration t ≡ true →
    observe_calls now t ≡ Register now t.origin.endpoint t.token t.request (szx_of t.block) t.serial ∷ []
registers now t is = ap (λ (b : Bool). observe_calls_by b (is_cancellation t) now t) is

pub keeps_no_size : (now : ℕ) (t : Ticket) → is_registration t ≡ true → t.block ≡ None →
    observe_calls now t ≡ Register now t.origin.endpoint t.token t.request None t.serial ∷ []
keeps_no_size now t is none =
    registers now t is ∙ ap (λ (b : Option Place). Register now t.origin.endpoint t.token t.request (szx_of b) t.serial ∷ []) none

pub keeps_size : (now : ℕ) (t : Ticket) (block : Place) → is_registration t ≡ true → t.block ≡ Some block →
    observe_calls now t ≡ Register now t.origin.endpoint t.token t.request (Some block.szx) t.serial ∷ []
keeps_size now t block is some =
    registers now t is ∙ ap (λ (b : Option Place). Register now t.origin.endpoint t.token t.request (szx_of b) t.serial ∷ []) some

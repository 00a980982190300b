use Rattle.std.proofs.Common.{ℕ, List, Result, Some, ap, subst}
use Rattle.coap_msg.specs.declared.types.Bad.{Bad}
use Rattle.coap_msg.specs.Wire.{Message}
use Rattle.fc_record.specs.ProgramRequests.{Coded, IsNote, IsResponseIn}
use Rattle.fc_record.proofs.request.response_in.Goals as goal

pub returns-in-Ok : goal.returns-in-Ok
returns-in-Ok c =
    let note = c.note_of.result.now in
    let coded : ℕ → Coded = λ code. record { code = code; note = note } in
    subst (λ (read : Result Message Bad). IsResponseIn read (Some (coded c.code.result.byte))) c.in-Ok.ensures.function
    (note, subst (λ (payload : List ℕ). IsNote payload note) c.payload.ensures c.note_of.ensures, ap (λ (code : ℕ). Some (coded code)) c.code.ensures)

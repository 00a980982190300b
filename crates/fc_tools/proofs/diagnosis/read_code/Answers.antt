use Rattle.std.proofs.Common.{◌≡◌, ◌-◌, ◌*◌, ℕ, List, length, take, drop, None, subst, arith}
use Rattle.std.proofs.lemmas.List.{length-drop, take_all}
use Rattle.fc_isa.specs.Encoding.{Spells, IsFirstFault, decoded_program, first_fault}
use Rattle.fc_isa.specs.declared.decoder.DecodeError.TheVariants.{Fault}
use Rattle.fc_verify.specs.Accepted.{slots_of}
use Rattle.fc_verify.proofs.Judging.{code_found, refused_decode}
use Rattle.fc_tools.proofs.Diagnosing.{slot_rule, whole_slot}
use Rattle.fc_tools.proofs.diagnosis.read_code.Goals as goal

whole : (image : List ℕ) → take (length image - 16) (drop 16 image) ≡ drop 16 image
whole image = take_all (length image - 16) (drop 16 image) (omega (arith, length-drop 16 image))

pub slot_bytes-requires : goal.slot_bytes-requires
slot_bytes-requires c =
    let image = c.args.image.now in
    let f = c.in-Err-Fault.fault in
    let first : IsFirstFault (slots_of image) f.rule f.slot = subst (λ bytes. IsFirstFault bytes f.rule f.slot) (whole image) (rw c.in-Err-Fault.field-0-is at c.in-Err-Fault.ensures.fault) in
    let size : length (slots_of image) ≡ 8 * c.args.head.now.count = omega (arith, length-drop 16 image, c.requires.size) in
    let fits = whole_slot (slots_of image) f.slot c.args.head.now.count f.rule size first.broken in
    omega (arith, fits, length-drop 16 image, c.requires.size)

pub returns-in-Ok-clause-code : goal.returns-in-Ok-clause-code
returns-in-Ok-clause-code c =
    let image = c.args.image.now in
    let code = c.in-Ok.code.items in
    let f = c.in-Ok.ensures.function in
    code_found image c.args.head.now code c.requires
    (subst (λ bytes. code ≡ decoded_program bytes) (whole image) f.0) (subst (λ bytes. first_fault bytes ≡ None) (whole image) f.1)
    (subst (λ bytes. Spells bytes code) (whole image) c.in-Ok.ensures.program)

pub returns-in-Err-Fault-clause-rejected : goal.returns-in-Err-Fault-clause-rejected
returns-in-Err-Fault-clause-rejected c =
    let image = c.args.image.now in
    let f = c.in-Err-Fault.fault in
    let first : IsFirstFault (slots_of image) f.rule f.slot = subst (λ bytes. IsFirstFault bytes f.rule f.slot) (whole image) (rw c.in-Err-Fault.field-0-is at c.in-Err-Fault.ensures.fault) in
    record { fault = refused_decode image c.args.head.now (Fault f) c.requires first; cause = record { rule = slot_rule (slots_of image) f.slot f.rule first.broken; shown = c.slot_bytes.ensures } }

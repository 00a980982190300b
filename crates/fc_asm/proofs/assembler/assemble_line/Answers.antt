use Rattle.std.proofs.Common.{◌≡◌, Some, None, Ok, Err, refl, ap, ◌∙◌}
use Rattle.fc_asm.specs.Assembled.{mistake_in}
use Rattle.fc_asm.proofs.Lines.{line_means, no_slots, one_slot, two_slots}
use Rattle.fc_asm.proofs.assembler.assemble_line.Goals as goal
use Rattle.fc_asm.proofs.assembler.assemble_line.Goals.{in-Some+in_ok-push-in-Ok-Some-2, in_default}

pub returns-in-Ok-None-clause-slots : goal.returns-in-Ok-None-clause-slots
returns-in-Ok-None-clause-slots c =
    let means = line_means c.args.code.now c.in_ok-words.words.items c.deref.result.now c.read.result c.in_ok-words.ensures c.deref.ensures.value c.read.ensures in
    let blank : c.read.result ≡ Ok None = cc in
    no_slots c.args.code.now c.args.program.now.items _ (means ∙ blank) refl

pub returns-in-Ok-None-clause-faultless : goal.returns-in-Ok-None-clause-faultless
returns-in-Ok-None-clause-faultless c =
    let means = line_means c.args.code.now c.in_ok-words.words.items c.deref.result.now c.read.result c.in_ok-words.ensures c.deref.ensures.value c.read.ensures in
    let blank : c.read.result ≡ Ok None = cc in
    ap mistake_in (means ∙ blank)

pub returns-in-Ok-Some-clause-slots : goal.returns-in-Ok-Some-clause-slots
returns-in-Ok-Some-clause-slots c =
    let means = line_means c.args.code.now c.in_ok-words.words.items c.deref.result.now c.read.result c.in_ok-words.ensures c.deref.ensures.value c.read.ensures in
    let q = c.args.program.now.items in
    let found : c.read.result ≡ Ok (Some c.slots-first.result.0) = cc in
    elim c.match-second.branch [
      | in-Some+in_ok-push-in-Ok-Some-2 w ↦
          two_slots c.args.code.now c.slots-first.result.0 c.slots-first.result.0 w.in-Some.second q c.push.new.self.items c.match-second.program.items (means ∙ found) refl (cc) c.in_ok-push-in-Ok-Some.ensures.items (ap (λ v. v.items) w.program-is ∙ w.in_ok-push-in-Ok-Some-2.ensures.items)
      | in_default w ↦
          one_slot c.args.code.now c.slots-first.result.0 c.slots-first.result.0 q c.match-second.program.items (means ∙ found) refl (cc) (ap (λ v. v.items) w.program-is ∙ c.in_ok-push-in-Ok-Some.ensures.items)
    ]

pub returns-in-Ok-Some-clause-faultless : goal.returns-in-Ok-Some-clause-faultless
returns-in-Ok-Some-clause-faultless c =
    let means = line_means c.args.code.now c.in_ok-words.words.items c.deref.result.now c.read.result c.in_ok-words.ensures c.deref.ensures.value c.read.ensures in
    let found : c.read.result ≡ Ok (Some c.slots-first.result.0) = cc in
    ap mistake_in (means ∙ found)

pub returns-clause-fault : goal.returns-clause-fault
returns-clause-fault c =
    let means = line_means c.args.code.now c.in_ok-words.words.items c.deref.result.now c.read.result c.in_ok-words.ensures c.deref.ensures.value c.read.ensures in
    let bad : c.read.result ≡ Err c.in-Err.mistake = cc in
    (means ∙ bad, refl)

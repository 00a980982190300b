use Rattle.std.proofs.Common.{List, ℕ, ◌^◌, None, Some, arith, lit<, subst}
use Rattle.std.proofs.lemmas.Str.Pattern.{split_parts}
use Rattle.fc_lines.specs.Fields.{IsNoNumber, IsNumber}
use Rattle.fc_config.proofs.ReadTimers.{no_colon, no_period, no_slot, outside}
use Rattle.fc_config.proofs.every.timer_of.Goals as goal
use Rattle.fc_config.proofs.every.timer_of.Goals.{then-every-gt-LONGEST-via-then-every-gt-LONGEST, then-every-gt-LONGEST-via-else-every-gt-LONGEST+then-slot-ge-SLOTS}

pub returns-in_err-period : goal.returns-in_err-period
returns-in_err-period c = rw c.from_residual.ensures (no_colon _ (split_parts 58 c.args.text.now None c.in_err-period.ensures.cases (lit< tt)))

pub returns-in_err-every : goal.returns-in_err-every
returns-in_err-every c =
    let parts = split_parts 58 c.args.text.now (Some (c.in_ok-period.period, c.in_ok-period.slot)) c.in_ok-period.ensures.cases (lit< tt) in
    rw c.from_residual-in_err-every.ensures (no_period c.args.text.now c.in_ok-period.period.now c.in_ok-period.slot.now (record { text_is = parts.0; first = parts.1 })
    (subst (λ (l : List ℕ). IsNoNumber l (2 ^ 64)) c.as_bytes.ensures.value c.in_err-every.ensures))

pub returns-in_err-slot : goal.returns-in_err-slot
returns-in_err-slot c =
    let parts = split_parts 58 c.args.text.now (Some (c.in_ok-period.period, c.in_ok-period.slot)) c.in_ok-period.ensures.cases (lit< tt) in
    rw c.from_residual-in_err-slot.ensures (no_slot c.args.text.now c.in_ok-period.period.now c.in_ok-period.slot.now (record { text_is = parts.0; first = parts.1 })
    (subst (λ (l : List ℕ). IsNoNumber l 256) c.as_bytes-2.ensures.value c.in_err-slot.ensures))

pub returns-then-every-gt-LONGEST : goal.returns-then-every-gt-LONGEST
returns-then-every-gt-LONGEST c =
    let parts = split_parts 58 c.args.text.now (Some (c.in_ok-period.period, c.in_ok-period.slot)) c.in_ok-period.ensures.cases (lit< tt) in
    outside c.args.text.now c.in_ok-period.period.now c.in_ok-period.slot.now c.in_ok-every.every c.in_ok-slot.slot (record { text_is = parts.0; first = parts.1 })
    (subst (λ (l : List ℕ). IsNumber l c.in_ok-every.every) c.as_bytes.ensures.value c.in_ok-every.ensures)
    (subst (λ (l : List ℕ). IsNumber l c.in_ok-slot.slot) c.as_bytes-2.ensures.value c.in_ok-slot.ensures)
    (record {
      is = elim c.then-every-gt-LONGEST.branch [
        | then-every-gt-LONGEST-via-then-every-gt-LONGEST w ↦ let far = w.if-every-gt-LONGEST.true in λ e s same own some most few. absurd (omega (arith, far, same, most))
        | then-every-gt-LONGEST-via-else-every-gt-LONGEST+then-slot-ge-SLOTS w ↦ let far = w.if-slot-ge-SLOTS.true in λ e s same own some most few. absurd (omega (arith, far, own, few))
      ];
    })

pub returns-in_err-new : goal.returns-in_err-new
returns-in_err-new c =
    let parts = split_parts 58 c.args.text.now (Some (c.in_ok-period.period, c.in_ok-period.slot)) c.in_ok-period.ensures.cases (lit< tt) in
    let zero = c.in_err-new.ensures in
    rw c.from_residual-in_err-new.ensures
    (outside c.args.text.now c.in_ok-period.period.now c.in_ok-period.slot.now c.in_ok-every.every c.in_ok-slot.slot (record { text_is = parts.0; first = parts.1 })
    (subst (λ (l : List ℕ). IsNumber l c.in_ok-every.every) c.as_bytes.ensures.value c.in_ok-every.ensures)
    (subst (λ (l : List ℕ). IsNumber l c.in_ok-slot.slot) c.as_bytes-2.ensures.value c.in_ok-slot.ensures)
    (record { is = λ e s same own some most few. absurd (omega (arith, zero, same, some)) }))

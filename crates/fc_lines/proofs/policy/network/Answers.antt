use Rattle.std.proofs.Common.{List, ℕ, None, Some, lit<, subst}
use Rattle.std.proofs.lemmas.Str.Pattern.{split_parts}
use Rattle.fc_lines.specs.Fields.{IsNoNumber, IsNumber}
use Rattle.fc_lines.proofs.Networks.{is_network, no_address, no_bits, no_slash, too_many}
use Rattle.fc_lines.proofs.policy.network.Goals as goal

pub returns-in_err-address : goal.returns-in_err-address
returns-in_err-address c = rw c.from_residual.ensures (no_slash _ (split_parts 47 c.args.text.now None c.in_err-address.ensures.cases (lit< tt)))

pub returns-in_default : goal.returns-in_default
returns-in_default c =
    let parts = split_parts 47 c.args.text.now (Some (c.in_ok-address.address, c.in_ok-address.digits)) c.in_ok-address.ensures.cases (lit< tt) in
    no_address c.args.text.now c.in_ok-address.address.now c.in_ok-address.digits.now (record { text_is = parts.0; first = parts.1 }) c.in_default.ensures.value

pub returns-in_err-bits : goal.returns-in_err-bits
returns-in_err-bits c =
    let parts = split_parts 47 c.args.text.now (Some (c.in_ok-address.address, c.in_ok-address.digits)) c.in_ok-address.ensures.cases (lit< tt) in
    rw c.from_residual-in_err-bits.ensures (no_bits c.args.text.now c.in_ok-address.address.now c.in_ok-address.digits.now (record { text_is = parts.0; first = parts.1 })
    (subst (λ (l : List ℕ). IsNoNumber l 256) c.as_bytes.ensures.value c.in_err-bits.ensures))

pub returns-then-bits-gt32 : goal.returns-then-bits-gt32
returns-then-bits-gt32 c =
    let parts = split_parts 47 c.args.text.now (Some (c.in_ok-address.address, c.in_ok-address.digits)) c.in_ok-address.ensures.cases (lit< tt) in
    too_many c.args.text.now c.in_ok-address.address.now c.in_ok-address.digits.now c.in_ok-bits.bits (record { text_is = parts.0; first = parts.1 })
    (subst (λ (l : List ℕ). IsNumber l c.in_ok-bits.bits) c.as_bytes.ensures.value c.in_ok-bits.ensures) c.if-bits-gt32.true

pub returns : goal.returns
returns c =
    let parts = split_parts 47 c.args.text.now (Some (c.in_ok-address.address, c.in_ok-address.digits)) c.in_ok-address.ensures.cases (lit< tt) in
    is_network c.args.text.now c.in_ok-address.address.now c.in_ok-address.digits.now c.in-Ok.address c.octets.result c.in_ok-bits.bits (record { text_is = parts.0; first = parts.1 })
    c.in-Ok.ensures.value c.octets.ensures (subst (λ (l : List ℕ). IsNumber l c.in_ok-bits.bits) c.as_bytes.ensures.value c.in_ok-bits.ensures) c.if-bits-gt32.false

use Rattle.std.proofs.Common.{rules}
use Rattle.fc_lines.proofs.Reading.{no_fields, no_time, no_peer, no_bytes, no_readings}
use Rattle.fc_lines.proofs.line.parse.Goals as goal

pub returns-in_default-clause-bad : goal.returns-in_default-clause-bad
returns-in_default-clause-bad c = λ e. no_fields _ c.in_default.ensures

pub returns-in_default-number-clause-bad : goal.returns-in_default-number-clause-bad
returns-in_default-number-clause-bad c = λ e. no_time _ _ _ _ c.in-Some.ensures c.in_default-number.ensures

pub returns-in_default-byte-clause-bad : goal.returns-in_default-byte-clause-bad
returns-in_default-byte-clause-bad c = λ e. no_peer _ _ _ _ c.in-Some.ensures (λ both. cc (c.if-are_dashes.ensures.1 both)) (λ is. cc (c.if-is_device.ensures.1 is)) c.in_default-byte.ensures

pub returns-in_err-bytes-clause-bad : goal.returns-in_err-bytes-clause-bad
returns-in_err-bytes-clause-bad c = λ e. no_bytes _ _ _ _ c.in-Some.ensures (λ both. cc (c.if-are_dashes.ensures.1 both)) (λ is. cc (c.if-is_device.ensures.1 is)) (c.in_err-bytes.ensures.bad (search rules))

pub returns-in-None-clause-bad : goal.returns-in-None-clause-bad
returns-in-None-clause-bad c = λ e. no_readings _ _ _ _ c.in-Some.ensures (c.if-is_device.ensures.0 (search rules)) c.in-None.ensures

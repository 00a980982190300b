use Rattle.std.proofs.Common.{◌≡◌, length}
use Rattle.std.specs.Io.Iter.{split_byte, split_known_bytes}
use Rattle.fc_service.specs.Playing.{HasPlayed}
use Rattle.fc_backend.specs.Answers.{saturated}
use Rattle.fc_service.proofs.lines.play_lines.Given as goal

-- the lines read so far were played, and `number` is their number, at most 2^64 - 1.
abbrev pub invariant-loop-text : goal.invariant-loop-text
invariant-loop-text g l =
    (split_byte l.text-iterator ≡ 10)
    × (h : HasPlayed g.N.LineIngress.hands g.N.Ingress.calls l.fn.ingress l.ingress
    (g.R.Read.remaining l.fn.input) (split_known_bytes g.R.Read.remaining l.text-iterator) (g.W.Write.contents l.fn.out) (g.W.Write.contents l.out))
    × (l.number ≡ saturated (length h.lines))

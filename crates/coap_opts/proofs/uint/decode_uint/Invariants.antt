use Rattle.std.proofs.Common.{◌≡◌, ◌<◌, ◌^◌, take}
use Rattle.coap_opts.specs.Values.{uint_value}
use Rattle.coap_opts.proofs.uint.decode_uint.Given as goal

-- the number is that of the bytes so far, and fits into as many bytes
abbrev pub invariant-loop-byte : goal.invariant-loop-byte
invariant-loop-byte l = record { value : l.number ≡ uint_value (take l.byte-index l.bytes); below : l.number < 256 ^ l.byte-index }

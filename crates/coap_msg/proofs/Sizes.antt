-- Lengths of encoded messages, in bytes.
use Rattle.std.proofs.Common.{ℕ, ◌+◌, ◌<◌, ◌≤◌, Bool, true, false, if◌then◌else◌, List, [], ◌∷◌, ◌++◌, length, arith, length-append}
use Rattle.coap_msg.specs.Wire.{Message, IsMessage, AreOptions, extension, option_bytes, options_bytes, payload_bytes, message_bytes}

extension_by : (n : ℕ) (is_small is_middle : Bool) (a : ℕ) (b c : ℕ) → length (if is_small then [] else (if is_middle then a ∷ [] else b ∷ c ∷ [])) ≤ 2
extension_by n true middle a b c = omega arith
extension_by n false true a b c = omega arith
extension_by n false false a b c = omega arith

extension_short : (n : ℕ) → length (extension n) ≤ 2
extension_short n = extension_by n _ _ _ _ _

-- an option takes at most five bytes more than its value
pub option_size : (delta : ℕ) (value : List ℕ) → length (option_bytes delta value) ≤ length value + 5
option_size delta value =
    let d = extension_short delta in
    let l = extension_short (length value) in
    omega (arith, d, l, length-append (extension delta) (extension (length value) ++ value), length-append (extension (length value)) value)

payload_size : (payload : List ℕ) → length (payload_bytes payload) ≤ length payload + 1
payload_size [] = omega arith
payload_size (b ∷ payload) = omega arith

-- a message takes at most five bytes more than its token, its encoded options and its payload
pub message_size : (m : Message) → length (message_bytes m) ≤ length m.token + length (options_bytes 0 m.options) + length m.payload + 5
message_size m =
    let rest = options_bytes 0 m.options ++ payload_bytes m.payload in
    omega (arith, length-append m.token rest, length-append (options_bytes 0 m.options) (payload_bytes m.payload), payload_size m.payload)

-- parts within their limits are a message if the code isn't 0.00, and the token, the encoded
-- options and the payload have at most 1,275 bytes together
pub message_fits : (m : Message) → 0 < m.code → m.code < 256 → m.id < 65536 → length m.token ≤ 8 → AreOptions 0 m.options → length m.token + length (options_bytes 0 m.options) + length m.payload + 5 ≤ 1280 → IsMessage m
message_fits m c d i t o s = record {
  code = d;
  id = i;
  token = t;
  options = o;
  size = omega (arith, message_size m, s);
  empty = λ z. absurd (omega (arith, z, c));
}

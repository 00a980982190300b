-- The message that `message_of` returns is the one that the bytes encode.
use Rattle.std.proofs.Common.{◌≡◌, ℕ, ◌+◌, ◌*◌, ◌/◌, ◌%◌, ◌<◌, ◌≤◌, ◌==◌, ◌&&◌, Bool, true, false, nat_le, if◌then◌else◌, List, [], ◌∷◌, ◌++◌, length, Option, Some, None, Ok, Err, refl, ◌∙◌, ap, subst, arith}
use Rattle.std.specs.Prelude.{slice_index}
use Rattle.std.proofs.lemmas.Bool.{leb-true, eqb-true, eqb-false, le-leb, eq-eqb, and_from, and_parts}
use Rattle.coap_msg.specs.declared.types.MessageType.{MessageType}
use Rattle.coap_msg.specs.declared.types.MessageType.TheVariants.{Confirmable, NonConfirmable, Acknowledgement, Reset}
use Rattle.coap_msg.specs.declared.types.Bad.{Bad}
use Rattle.coap_msg.specs.declared.types.Bad.TheVariants as bad
use Rattle.coap_msg.specs.Wire.{Message, type_number, first_byte, options_bytes, payload_bytes, message_bytes, AreOptions, IsMessage, SpellsMessage}
use Rattle.coap_msg.specs.Reading.{SpellsNone, id_of, IsBad, type_of, token_length, split, options_at, payload_at, message_by, is_sized, message_of, bad_of, reading_of}
use Rattle.coap_msg.specs.Parsing.{is_end}
use Rattle.coap_msg.proofs.Steps.{came, passed, passes, split-append, joins, AreBytes, back_bytes}
use Rattle.coap_msg.proofs.Spelling.{options_at-of, options_from}

-- ---- the first byte

type_of-kind : (first : ℕ) (kind : MessageType) → first / 16 ≡ 4 + type_number kind → type_of first ≡ Some kind
type_of-kind first Confirmable e = rw e refl
type_of-kind first NonConfirmable e = rw e refl
type_of-kind first Acknowledgement e = rw e refl
type_of-kind first Reset e = rw e refl

type_by : (quotient : ℕ) (kind : MessageType) (four five six seven : Bool) → (quotient == 4) ≡ four → (quotient == 5) ≡ five → (quotient == 6) ≡ six → (quotient == 7) ≡ seven →
    (if four then Some Confirmable else (if five then Some NonConfirmable else (if six then Some Acknowledgement else (if seven then Some Reset else None)))) ≡ Some kind →
    quotient ≡ 4 + type_number kind
type_by quotient kind true five six seven a b c d e =
    let same : Confirmable ≡ kind = cc e in
    subst (λ k. quotient ≡ 4 + type_number k) same (eqb-true quotient 4 a)
type_by quotient kind false true six seven a b c d e =
    let same : NonConfirmable ≡ kind = cc e in
    subst (λ k. quotient ≡ 4 + type_number k) same (eqb-true quotient 5 b)
type_by quotient kind false false true seven a b c d e =
    let same : Acknowledgement ≡ kind = cc e in
    subst (λ k. quotient ≡ 4 + type_number k) same (eqb-true quotient 6 c)
type_by quotient kind false false false true a b c d e =
    let same : Reset ≡ kind = cc e in
    subst (λ k. quotient ≡ 4 + type_number k) same (eqb-true quotient 7 d)
type_by quotient kind false false false false a b c d e = absurd (cc e)

type_from : (first : ℕ) (kind : MessageType) → type_of first ≡ Some kind → first / 16 ≡ 4 + type_number kind
type_from first kind e = type_by (first / 16) kind _ _ _ _ refl refl refl refl e

-- ---- the payload

payload_at-of : (payload : List ℕ) → payload_at (payload_bytes payload) ≡ Some payload
payload_at-of [] = refl
payload_at-of (b ∷ payload) = refl

payload_end : (payload : List ℕ) → is_end (payload_bytes payload) ≡ true
payload_end [] = refl
payload_end (b ∷ payload) = refl

payload_from : (bytes payload : List ℕ) → payload_at bytes ≡ Some payload → bytes ≡ payload_bytes payload
payload_from [] payload e = ap payload_bytes (let same : [] ≡ payload = cc e in same)
payload_from (b ∷ []) payload e = absurd (cc e)
payload_from (b ∷ c ∷ rest) payload e =
    let p = passed (b == 255) (c ∷ rest) payload e in
    ap (λ x. x ∷ c ∷ rest) (eqb-true b 255 p.test) ∙ ap payload_bytes p.same

-- ---- how many bytes follow the message ID

sized_by : (code : ℕ) (rest : List ℕ) (is_empty : Bool) → (code == 0) ≡ is_empty → length rest ≤ 1276 → (code ≡ 0 → length rest ≡ 0) → nat_le (length rest) (if is_empty then 0 else 1276) ≡ true
sized_by code rest true e h f = le-leb (length rest) 0 (omega (arith, f (eqb-true code 0 e)))
sized_by code rest false e h f = le-leb (length rest) 1276 h

sized_to : (code : ℕ) (rest : List ℕ) (is_empty : Bool) → (code == 0) ≡ is_empty → nat_le (length rest) (if is_empty then 0 else 1276) ≡ true → (length rest ≤ 1276) × (code ≡ 0 → length rest ≡ 0)
sized_to code rest true e h = let none : length rest ≤ 0 = leb-true _ _ h in (omega arith, λ z. omega arith)
sized_to code rest false e h = (leb-true _ _ h, λ z. absurd (eqb-false code 0 e z))

-- ---- an encoded message is parsed

message_by-of : (m : Message) → IsMessage m →
    message_by (first_byte m.kind m.token) m.code m.id (m.token ++ (options_bytes 0 m.options ++ payload_bytes m.payload)) ≡ Some m
message_by-of m h =
    let after = options_bytes 0 m.options ++ payload_bytes m.payload in
    let n = length m.token in
    let short : n ≤ 8 = h.token in
    let upper : first_byte m.kind m.token / 16 ≡ 4 + type_number m.kind = omega arith in
    let lower : first_byte m.kind m.token % 16 ≡ n = omega arith in
    let token : token_length (first_byte m.kind m.token) ≡ Some n = rw lower (passes (nat_le n 8) n (le-leb n 8 short)) in
    let listed = options_at-of (length after) 0 m.options (payload_bytes m.payload) h.options (payload_end m.payload) (omega arith) in
    rw (type_of-kind (first_byte m.kind m.token) m.kind upper, token, split-append m.token after, listed, payload_at-of m.payload) refl

message_of-of : (m : Message) → IsMessage m → message_of (message_bytes m) ≡ Some m
unfolding message_of
message_of-of m h =
    let rest = m.token ++ (options_bytes 0 m.options ++ payload_bytes m.payload) in
    let size : length (message_bytes m) ≤ 1280 = h.size in
    let id : 256 * (m.id / 256) + m.id % 256 ≡ m.id = omega arith in
    let sized = sized_by m.code rest _ refl (omega arith) (λ z. let four : length (message_bytes m) ≡ 4 = h.empty z in omega arith) in
    rw (sized, id) (message_by-of m h)

pub spelled_is_found : (bytes : List ℕ) (m : Message) → SpellsMessage bytes m → message_of bytes ≡ Some m
spelled_is_found bytes m s = ap message_of s.bytes_are ∙ message_of-of m s.limits

-- ---- a parsed message is the encoded one

chosen : {A : Type 0} (b : Bool) (x : Option A) (y : A) → (if b then x else None) ≡ Some y → (b ≡ true) × (x ≡ Some y)
chosen true x y e = (refl, e)
chosen false x y e = absurd (cc e)

record IsBehind (first code id : ℕ) (rest : List ℕ) (m : Message) : Type 0 where
  first_is : first ≡ first_byte m.kind m.token
  code_is : code ≡ m.code
  id_is : id ≡ m.id
  rest_is : rest ≡ m.token ++ (options_bytes 0 m.options ++ payload_bytes m.payload)
  token : length m.token ≤ 8
  options : AreOptions 0 m.options

behind_from : (first code id : ℕ) (rest : List ℕ) (m : Message) → AreBytes rest → message_by first code id rest ≡ Some m → IsBehind first code id rest m
behind_from first code id rest m b e =
    let kind = came (type_of first) _ m e in
    let count = came (token_length first) _ m kind.second in
    let token = came (split count.value rest) _ m count.second in
    let j = joins count.value rest token.value token.first in
    let after = back_bytes token.value.0 token.value.1 (subst (λ xs. AreBytes xs) j.bytes_are b) in
    let options = came (options_at (length token.value.1) 0 token.value.1) _ m token.second in
    let l = options_from (length token.value.1) 0 token.value.1 options.value after options.first in
    let payload = came (payload_at options.value.1) _ m options.second in
    let upper = type_from first kind.value kind.first in
    let t = passed (nat_le (first % 16) 8) (first % 16) count.value count.first in
    let low : first % 16 ≤ 8 = leb-true _ _ t.test in
    let same : record { kind = kind.value; code = code; id = id; token = token.value.0; options = options.value.0; payload = payload.value } ≡ m = cc payload.second in
    subst (λ q. IsBehind first code id rest q) same (record {
      first_is = omega (arith, upper, t.same, j.count_is);
      code_is = refl;
      id_is = refl;
      rest_is = j.bytes_are ∙ ap (λ xs. token.value.0 ++ xs) (l.bytes_are ∙ ap (λ xs. options_bytes 0 options.value.0 ++ xs) (payload_from options.value.1 payload.value payload.first));
      token = omega (arith, t.same, j.count_is);
      options = l.options;
    })

whole_from : (first code high low : ℕ) (rest : List ℕ) (m : Message) → AreBytes (first ∷ code ∷ high ∷ low ∷ rest) → message_of (first ∷ code ∷ high ∷ low ∷ rest) ≡ Some m →
    SpellsMessage (first ∷ code ∷ high ∷ low ∷ rest) m
unfolding message_of
whole_from first code high low rest m b e =
    let small_code : code < 256 = b.each 1 in
    let small_high : high < 256 = b.each 2 in
    let small_low : low < 256 = b.each 3 in
    let after = back_bytes (first ∷ code ∷ high ∷ low ∷ []) rest b in
    let t = chosen (is_sized code rest) (message_by first code (256 * high + low) rest) m e in
    let sized = sized_to code rest _ refl t.0 in
    let p = behind_from first code (256 * high + low) rest m after t.1 in
    let high_is : high ≡ m.id / 256 = omega (arith, p.id_is) in
    let low_is : low ≡ m.id % 256 = omega (arith, p.id_is) in
    let bytes_are : first ∷ code ∷ high ∷ low ∷ rest ≡ message_bytes m = rw (p.first_is, p.code_is, high_is, low_is, p.rest_is) refl in
    let size : 4 + length rest ≡ length (message_bytes m) = omega (arith, ap length bytes_are) in
    record {
      bytes_are = bytes_are;
      limits = record {
        code = omega (arith, p.code_is);
        id = omega (arith, p.id_is);
        token = p.token;
        options = p.options;
        size = omega (arith, size, sized.0);
        empty = λ z. omega (arith, size, sized.1 (p.code_is ∙ z));
      };
    }

pub found_is_spelled : (bytes : List ℕ) (m : Message) → AreBytes bytes → message_of bytes ≡ Some m → SpellsMessage bytes m
unfolding message_of
found_is_spelled [] m b e = absurd (cc e)
found_is_spelled (x ∷ []) m b e = absurd (cc e)
found_is_spelled (x ∷ y ∷ []) m b e = absurd (cc e)
found_is_spelled (x ∷ y ∷ z ∷ []) m b e = absurd (cc e)
found_is_spelled (x ∷ y ∷ z ∷ w ∷ rest) m b e = whole_from x y z w rest m b e

-- ---- bytes that encode no message

pub none_is_spelled : (bytes : List ℕ) → message_of bytes ≡ None → SpellsNone bytes
none_is_spelled bytes e m s = absurd (cc (e, spelled_is_found bytes m s))

bad_by : (bytes : List ℕ) (test : Bool) → ((nat_le 4 (length bytes) && nat_le (length bytes) 1280) && (slice_index bytes 0 / 16 == 4)) ≡ test → SpellsNone bytes →
    IsBad bytes (if test then bad.Reset (id_of bytes) else bad.Ignore)
bad_by bytes true e n =
    let t = and_parts _ _ e in
    let u = and_parts _ _ t.0 in
    (n, record { long = leb-true _ _ u.0; short = leb-true _ _ u.1; first = eqb-true _ _ t.1 }, refl)
bad_by bytes false e n =
    (n, λ h. absurd (cc (e, and_from _ _ (and_from _ _ (le-leb 4 (length bytes) h.long) (le-leb (length bytes) 1280 h.short)) (eq-eqb (slice_index bytes 0 / 16) 4 h.first))))

pub bad_is_bad : (bytes : List ℕ) → message_of bytes ≡ None → IsBad bytes (bad_of bytes)
unfolding bad_of
bad_is_bad bytes e = bad_by bytes _ refl (none_is_spelled bytes e)

-- ---- the result for a reader

pub read_some : (bytes : List ℕ) (m : Message) → message_of bytes ≡ Some m → reading_of bytes ≡ Ok m
unfolding reading_of
read_some bytes m e = rw e refl

pub read_none : (bytes : List ℕ) → message_of bytes ≡ None → reading_of bytes ≡ Err (bad_of bytes)
unfolding reading_of
read_none bytes e = rw e refl

pub written_again : (m : Message) → IsMessage m → reading_of (message_bytes m) ≡ Ok m
written_again m h = read_some (message_bytes m) m (message_of-of m h)

-- ---- the parser returns the encoded message, and nothing else

message_read : (bytes : List ℕ) (m : Message) (o : Option Message) → AreBytes bytes → message_of bytes ≡ o → reading_of bytes ≡ Ok m → SpellsMessage bytes m
message_read bytes m None b found is = absurd (cc (read_none bytes found, is))
message_read bytes m (Some own) b found is = let same : own ≡ m = cc (read_some bytes own found, is) in found_is_spelled bytes m b (found ∙ ap Some same)

pub read_is_spelled : (bytes : List ℕ) (m : Message) → AreBytes bytes → reading_of bytes ≡ Ok m → SpellsMessage bytes m
read_is_spelled bytes m b is = message_read bytes m (message_of bytes) b refl is

pub spelled_is_read : (bytes : List ℕ) (m : Message) → SpellsMessage bytes m → reading_of bytes ≡ Ok m
spelled_is_read bytes m s = read_some bytes m (spelled_is_found bytes m s)

none_read : (bytes : List ℕ) (e : Bad) (o : Option Message) → message_of bytes ≡ o → reading_of bytes ≡ Err e → IsBad bytes e
none_read bytes e None found is = let same : bad_of bytes ≡ e = cc (read_none bytes found, is) in subst (IsBad bytes) same (bad_is_bad bytes found)
none_read bytes e (Some own) found is = absurd (cc (read_some bytes own found, is))

pub read_is_bad : (bytes : List ℕ) (e : Bad) → reading_of bytes ≡ Err e → IsBad bytes e
read_is_bad bytes e is = none_read bytes e (message_of bytes) refl is

one_bad : (bytes : List ℕ) (x y : Bad) → IsBad bytes x → IsBad bytes y → x ≡ y
one_bad bytes bad.Ignore bad.Ignore p q = refl
one_bad bytes bad.Ignore (bad.Reset id) p q = absurd (p.1 q.1)
one_bad bytes (bad.Reset id) bad.Ignore p q = absurd (q.1 p.1)
one_bad bytes (bad.Reset id) (bad.Reset other) p q = ap bad.Reset (cc (p.2, q.2))

spells_none : (bytes : List ℕ) (e : Bad) → IsBad bytes e → SpellsNone bytes
spells_none bytes bad.Ignore is = is.0
spells_none bytes (bad.Reset id) is = is.0

not_found : (bytes : List ℕ) (o : Option Message) → AreBytes bytes → SpellsNone bytes → message_of bytes ≡ o → message_of bytes ≡ None
not_found bytes None b none found = found
not_found bytes (Some m) b none found = absurd (none m (found_is_spelled bytes m b found))

pub bad_is_read : (bytes : List ℕ) (e : Bad) → AreBytes bytes → IsBad bytes e → reading_of bytes ≡ Err e
bad_is_read bytes e b is =
    let none = not_found bytes (message_of bytes) b (spells_none bytes e is) refl in
    read_none bytes none ∙ ap Err (one_bad bytes (bad_of bytes) e (bad_is_bad bytes none) is)

-- Options: an encoded option is decoded to itself, and decoded bytes are the encoding of the
-- result.
use Rattle.std.proofs.Common.{◌≡◌, ℕ, zero, suc, ◌+◌, ◌-◌, ◌*◌, ◌/◌, ◌%◌, ◌<◌, ◌≤◌, ◌==◌, ◌≢◌, Bool, true, false, nat_lt, if◌then◌else◌, List, [], ◌∷◌, ◌++◌, length, Option, Some, None, refl, sym, ◌∙◌, ap, subst, arith, length-append, append_assoc, inl, inr}
use Rattle.std.proofs.lemmas.Bool.{ltb-true, eqb-true, lt-ltb, le-ltb, ne_eqb, cases_lt}
use Rattle.std.proofs.lemmas.List.{append-nil}
use Rattle.coap_msg.specs.Wire.{nibble, extension, option_bytes, options_bytes, IsOption, AreOptions}
use Rattle.coap_msg.specs.Reading.{◌>>=◌, guard, split, ext8, ext16, number_at, RawOption, option_at, Listed, with_first, options_at}
use Rattle.coap_msg.specs.Parsing.{is_end, all_of, options_of, HasOptions}
use Rattle.coap_msg.proofs.Steps.{came, passed, passes, split-append, joins, AreBytes, tail_bytes, back_bytes}

-- ---- numbers

-- the three forms of a number's encoding
small : (n : ℕ) → n < 13 → (nibble n ≡ n) × (extension n ≡ [])
small n h = (rw (lt-ltb n 13 h) refl, rw (lt-ltb n 13 h) refl)

middle : (n : ℕ) → 13 ≤ n → n < 269 → (nibble n ≡ 13) × (extension n ≡ (n - 13) ∷ [])
middle n l h = (rw (le-ltb n 13 l, lt-ltb n 269 h) refl, rw (le-ltb n 13 l, lt-ltb n 269 h) refl)

large : (n : ℕ) → 269 ≤ n → (nibble n ≡ 14) × (extension n ≡ ((n - 269) / 256) ∷ ((n - 269) % 256) ∷ [])
large n l =
    let far : 13 ≤ n = omega arith in
    (rw (le-ltb n 13 far, le-ltb n 269 l) refl, rw (le-ltb n 13 far, le-ltb n 269 l) refl)

number_small : (n : ℕ) (rest : List ℕ) → n < 13 → number_at (nibble n) (extension n ++ rest) ≡ Some (n, rest)
number_small n rest h = rw ((small n h).0, (small n h).1, lt-ltb n 13 h) refl

number_middle : (n : ℕ) (rest : List ℕ) → 13 ≤ n → n < 269 → number_at (nibble n) (extension n ++ rest) ≡ Some (n, rest)
number_middle n rest l h =
    let whole : n - 13 + 13 ≡ n = omega arith in
    rw ((middle n l h).0, (middle n l h).1) (ap (λ m. Some (m, rest)) whole)

number_large : (n : ℕ) (rest : List ℕ) → 269 ≤ n → number_at (nibble n) (extension n ++ rest) ≡ Some (n, rest)
number_large n rest l =
    let whole : 256 * ((n - 269) / 256) + (n - 269) % 256 + 269 ≡ n = omega arith in
    rw ((large n l).0, (large n l).1) (ap (λ m. Some (m, rest)) whole)

-- decoding the encoding of a number gives the number and the bytes after it
number_at-of : (n : ℕ) (rest : List ℕ) → number_at (nibble n) (extension n ++ rest) ≡ Some (n, rest)
number_at-of n rest =
    elim (cases_lt n 13) [
      | inl h ↦ number_small n rest h
      | inr l ↦ elim (cases_lt n 269) [ inl h ↦ number_middle n rest l h | inr m ↦ number_large n rest m ]
    ]

-- the nibble and the start of the bytes encode the number, and the other bytes follow it
record IsNumber (first : ℕ) (bytes : List ℕ) (found : ℕ × List ℕ) : Type 0 where
  nibble_is : first ≡ nibble found.0
  bytes_are : bytes ≡ extension found.0 ++ found.1
  below : found.0 < 65805

one_from : (bytes : List ℕ) (found : ℕ × List ℕ) → AreBytes bytes → ext8 bytes ≡ Some found → IsNumber 13 bytes found
one_from [] found b e = absurd (cc e)
one_from (x ∷ rest) found b e =
    let same : (x + 13, rest) ≡ found = cc e in
    let byte : x < 256 = b.each 0 in
    let m = middle (x + 13) (omega arith) (omega arith) in
    let first : x ≡ x + 13 - 13 = omega arith in
    subst (λ f. IsNumber 13 (x ∷ rest) f) same (record {
      nibble_is = sym m.0;
      bytes_are = rw m.1 (ap (λ y. y ∷ rest) first);
      below = omega arith;
    })

two_from : (bytes : List ℕ) (found : ℕ × List ℕ) → AreBytes bytes → ext16 bytes ≡ Some found → IsNumber 14 bytes found
two_from [] found b e = absurd (cc e)
two_from (x ∷ []) found b e = absurd (cc e)
two_from (x ∷ y ∷ rest) found b e =
    let same : (256 * x + y + 269, rest) ≡ found = cc e in
    let high : x < 256 = b.each 0 in
    let low : y < 256 = b.each 1 in
    let m = large (256 * x + y + 269) (omega arith) in
    let first : x ≡ (256 * x + y + 269 - 269) / 256 = omega arith in
    let second : y ≡ (256 * x + y + 269 - 269) % 256 = omega arith in
    subst (λ f. IsNumber 14 (x ∷ y ∷ rest) f) same (record {
      nibble_is = sym m.0;
      bytes_are = rw m.1 (ap (λ z. z ∷ y ∷ rest) first ∙ ap (λ z. ((256 * x + y + 269 - 269) / 256) ∷ z ∷ rest) second);
      below = omega arith;
    })

number_by : (first : ℕ) (bytes : List ℕ) (found : ℕ × List ℕ) (is_small is_one is_two : Bool) → AreBytes bytes →
    nat_lt first 13 ≡ is_small → (first == 13) ≡ is_one → (first == 14) ≡ is_two →
    (if is_small then Some (first, bytes) else (if is_one then ext8 bytes else (if is_two then ext16 bytes else None))) ≡ Some found → IsNumber first bytes found
number_by first bytes found true one two b s p q e =
    let same : (first, bytes) ≡ found = cc e in
    let h : first < 13 = ltb-true _ _ s in
    let m = small first h in
    subst (λ f. IsNumber first bytes f) same (record { nibble_is = sym m.0; bytes_are = rw m.1 refl; below = omega arith })
number_by first bytes found false true two b s p q e =
    subst (λ n. IsNumber n bytes found) (sym (eqb-true first 13 p)) (one_from bytes found b e)
number_by first bytes found false false true b s p q e =
    subst (λ n. IsNumber n bytes found) (sym (eqb-true first 14 q)) (two_from bytes found b e)
number_by first bytes found false false false b s p q e = absurd (cc e)

number_from : (first : ℕ) (bytes : List ℕ) (found : ℕ × List ℕ) → AreBytes bytes → number_at first bytes ≡ Some found → IsNumber first bytes found
number_from first bytes found b e = number_by first bytes found _ _ _ b refl refl refl e

pub nibble_below : (n : ℕ) → nibble n < 15
nibble_below n =
    elim (cases_lt n 13) [
      | inl h ↦ omega (arith, (small n h).0)
      | inr l ↦ elim (cases_lt n 269) [ inl h ↦ omega (arith, (middle n l h).0) | inr m ↦ omega (arith, (large n m).0) ]
    ]

-- ---- one option

option_by : (before number : ℕ) (value rest : List ℕ) (upper lower : ℕ) → IsOption before number value →
    upper ≡ nibble (number - before) → lower ≡ nibble (length value) →
    (16 * upper + lower) / 16 ≡ upper → (16 * upper + lower) % 16 ≡ lower →
    option_at before ((16 * upper + lower) ∷ (extension (number - before) ++ (extension (length value) ++ (value ++ rest)))) ≡ Some (record { number = number; value = value; after = rest })
unfolding option_at
option_by before number value rest upper lower o u l du ml =
    let delta = number - before in
    let rises : before ≤ number = o.rises in
    let small : number < 65536 = o.is_number in
    let whole : before + delta ≡ number = omega arith in
    let below : before + delta < 65536 = omega arith in
    rw (du, ml, u, l, number_at-of delta (extension (length value) ++ (value ++ rest)), number_at-of (length value) (value ++ rest)) (
    rw (passes (nat_lt (before + delta) 65536) (before + delta) (lt-ltb _ _ below), split-append value rest) (
    ap (λ n. Some (record { number = n; value = value; after = rest })) whole
    ))

-- decoding the encoding of an option gives the option and the bytes after it
pub option_at-of : (before number : ℕ) (value rest : List ℕ) → IsOption before number value →
    option_at before (option_bytes (number - before) value ++ rest) ≡ Some (record { number = number; value = value; after = rest })
option_at-of before number value rest o =
    let upper = nibble (number - before) in
    let lower = nibble (length value) in
    let u : upper < 15 = nibble_below (number - before) in
    let l : lower < 15 = nibble_below (length value) in
    let same : option_bytes (number - before) value ++ rest ≡ (16 * upper + lower) ∷ (extension (number - before) ++ (extension (length value) ++ (value ++ rest))) =
    ap (λ xs. (16 * upper + lower) ∷ xs) (append_assoc (extension (number - before)) (extension (length value) ++ value) rest ∙ ap (λ xs. extension (number - before) ++ xs) (append_assoc (extension (length value)) value rest)) in
    ap (option_at before) same ∙ option_by before number value rest upper lower o refl refl (omega arith) (omega arith)

-- the bytes are the encoding of an option, and then the bytes after it
pub record IsRawOption (before : ℕ) (bytes : List ℕ) (o : RawOption) : Type 0 where
  pub bytes_are : bytes ≡ option_bytes (o.number - before) o.value ++ o.after
  pub option : IsOption before o.number o.value
  pub after : AreBytes o.after

parted_from : (before first : ℕ) (rest : List ℕ) (delta count number : ℕ) (after_delta after_count value after : List ℕ) → AreBytes rest →
    IsNumber (first / 16) rest (delta, after_delta) → IsNumber (first % 16) after_delta (count, after_count) → before + delta ≡ number → number < 65536 →
    after_count ≡ value ++ after → length value ≡ count →
    IsRawOption before (first ∷ rest) (record { number = number; value = value; after = after })
parted_from before first rest delta count number after_delta after_count value after b d c sum below cut len =
    let step : number - before ≡ delta = omega arith in
    let rest_is : rest ≡ extension delta ++ ((extension count ++ value) ++ after) =
    d.bytes_are ∙ ap (λ xs. extension delta ++ xs) (c.bytes_are ∙ ap (λ xs. extension count ++ xs) cut ∙ sym (append_assoc (extension count) value after)) in
    let first_is : first ≡ 16 * nibble delta + nibble count = omega (arith, d.nibble_is, c.nibble_is) in
    let whole : first ∷ rest ≡ option_bytes delta value ++ after =
    rw (len, first_is) (ap (λ xs. (16 * nibble delta + nibble count) ∷ xs) (rest_is ∙ sym (append_assoc (extension delta) (extension count ++ value) after))) in
    record {
      bytes_are = rw step whole;
      option = record { rises = omega arith; is_number = below; is_short = omega (arith, c.below) };
      after = back_bytes (extension delta ++ (extension count ++ value)) after (subst (λ xs. AreBytes xs) (rest_is ∙ sym (append_assoc (extension delta) (extension count ++ value) after)) b);
    }

pub option_from : (before : ℕ) (bytes : List ℕ) (o : RawOption) → AreBytes bytes → option_at before bytes ≡ Some o → IsRawOption before bytes o
unfolding option_at
option_from before [] o b e = absurd (cc e)
option_from before (first ∷ rest) o b e =
    let bytes = tail_bytes first rest b in
    let d = came (number_at (first / 16) rest) _ o e in
    let delta = number_from (first / 16) rest d.value bytes d.first in
    let c = came (number_at (first % 16) d.value.1) _ o d.second in
    let after = back_bytes (extension d.value.0) d.value.1 (subst (λ xs. AreBytes xs) delta.bytes_are bytes) in
    let count = number_from (first % 16) d.value.1 c.value after c.first in
    let n = came (guard (nat_lt (before + d.value.0) 65536) (before + d.value.0)) _ o c.second in
    let t = passed (nat_lt (before + d.value.0) 65536) (before + d.value.0) n.value n.first in
    let p = came (split c.value.0 c.value.1) _ o n.second in
    let j = joins c.value.0 c.value.1 p.value p.first in
    let below : before + d.value.0 < 65536 = ltb-true _ _ t.test in
    let same : record { number = n.value; value = p.value.0; after = p.value.1 } ≡ o = cc p.second in
    subst (λ x. IsRawOption before (first ∷ rest) x) same
    (parted_from before first rest d.value.0 c.value.0 n.value d.value.1 c.value.1 p.value.0 p.value.1 bytes delta count t.same (omega (arith, t.same)) j.bytes_are j.count_is)

-- ---- options one after another

options_at-end : (n before : ℕ) (after : List ℕ) → is_end after ≡ true → length after ≤ n → options_at n before after ≡ Some ([], after)
unfolding options_at
options_at-end n before [] e h = refl
options_at-end zero before (b ∷ bytes) e h = absurd (omega arith)
options_at-end (suc n) before (b ∷ bytes) e h = rw e refl

unmarked : (delta : ℕ) (value : List ℕ) → 16 * nibble delta + nibble (length value) ≢ 255
unmarked delta value e =
    let u : nibble delta < 15 = nibble_below delta in
    let l : nibble (length value) < 15 = nibble_below (length value) in
    omega arith

-- decoding an encoded option and further bytes gives the option, and then the options decoded from
-- the further bytes
options_at-first : (n before number : ℕ) (value rest : List ℕ) → IsOption before number value →
    options_at (suc n) before (option_bytes (number - before) value ++ rest) ≡ with_first (record { number = number; value = value; after = rest }) (options_at n number rest)
unfolding options_at
options_at-first n before number value rest o =
    rw (ne_eqb (16 * nibble (number - before) + nibble (length value)) 255 (unmarked (number - before) value), option_at-of before number value rest o) refl

length-first : (delta : ℕ) (value rest : List ℕ) → length rest < length (option_bytes delta value ++ rest)
length-first delta value rest = omega (arith, length-append (extension delta ++ (extension (length value) ++ value)) rest)

-- decoding the encoding of options gives the options and the bytes after them
pub options_at-of : (n before : ℕ) (options : List (ℕ × List ℕ)) (after : List ℕ) → AreOptions before options → is_end after ≡ true →
    length (options_bytes before options ++ after) ≤ n → options_at n before (options_bytes before options ++ after) ≡ Some (options, after)
options_at-of n before [] after o e h = options_at-end n before after e h
options_at-of zero before ((number, value) ∷ options) after o e h = absurd (omega arith)
options_at-of (suc n) before ((number, value) ∷ options) after o e h =
    let rest = options_bytes number options ++ after in
    let same : (option_bytes (number - before) value ++ options_bytes number options) ++ after ≡ option_bytes (number - before) value ++ rest = append_assoc (option_bytes (number - before) value) (options_bytes number options) after in
    let shorter : length rest ≤ n = omega (arith, h, ap length same, length-first (number - before) value rest) in
    ap (options_at (suc n) before) same ∙ (options_at-first n before number value rest o.0 ∙ rw (options_at-of n number options after o.1 e shorter) refl)

-- the bytes are the encoding of options, and then the bytes after them
pub record AreListed (before : ℕ) (bytes : List ℕ) (found : Listed) : Type 0 where
  pub bytes_are : bytes ≡ options_bytes before found.0 ++ found.1
  pub options : AreOptions before found.0
  pub after : AreBytes found.1
  pub end : is_end found.1 ≡ true

listed_first : (before : ℕ) (bytes : List ℕ) (o : RawOption) (more : Option Listed) (found : Listed) → IsRawOption before bytes o →
    ((rest : Listed) → more ≡ Some rest → AreListed o.number o.after rest) → with_first o more ≡ Some found → AreListed before bytes found
listed_first before bytes o None found p h e = absurd (cc e)
listed_first before bytes o (Some rest) found p h e =
    let r = h rest refl in
    let same : (((o.number, o.value) ∷ rest.0), rest.1) ≡ found = cc e in
    subst (λ f. AreListed before bytes f) same (record {
      bytes_are = p.bytes_are ∙ (ap (λ xs. option_bytes (o.number - before) o.value ++ xs) r.bytes_are ∙ sym (append_assoc (option_bytes (o.number - before) o.value) (options_bytes o.number rest.0) rest.1));
      options = (p.option, r.options);
      after = r.after;
      end = r.end;
    })

listed_by : (n before b : ℕ) (bytes : List ℕ) (found : Listed) (marked : Bool) → AreBytes (b ∷ bytes) → (b == 255) ≡ marked →
    ((o : RawOption) (rest : Listed) → AreBytes o.after → options_at n o.number o.after ≡ Some rest → AreListed o.number o.after rest) →
    (if marked then Some ([], b ∷ bytes) else (option_at before (b ∷ bytes) >>= λ o. with_first o (options_at n o.number o.after))) ≡ Some found →
    AreListed before (b ∷ bytes) found
listed_by n before b bytes found true h m ih e =
    let same : ([], b ∷ bytes) ≡ found = cc e in
    subst (λ f. AreListed before (b ∷ bytes) f) same (record { bytes_are = refl; options = tt; after = h; end = m })
listed_by n before b bytes found false h m ih e =
    let o = came (option_at before (b ∷ bytes)) _ found e in
    let p = option_from before (b ∷ bytes) o.value h o.first in
    listed_first before (b ∷ bytes) o.value _ found p (λ rest r. ih o.value rest p.after r) o.second

pub options_from : (n before : ℕ) (bytes : List ℕ) (found : Listed) → AreBytes bytes → options_at n before bytes ≡ Some found → AreListed before bytes found
unfolding options_at
options_from n before [] found b e =
    let same : ([], []) ≡ found = cc e in
    subst (λ f. AreListed before [] f) same (record { bytes_are = refl; options = tt; after = b; end = refl })
options_from zero before (x ∷ bytes) found b e = absurd (cc e)
options_from (suc n) before (x ∷ bytes) found b e = listed_by n before x bytes found _ b refl (λ o rest h r. options_from n o.number o.after rest h r) e

-- ---- options alone

pub options_of-of : (before : ℕ) (options : List (ℕ × List ℕ)) → AreOptions before options → options_of before (options_bytes before options) ≡ options
unfolding options_of
options_of-of before options o =
    let bytes = options_bytes before options in
    let whole : bytes ++ [] ≡ bytes = append-nil bytes in
    let found = options_at-of (length bytes) before options [] o refl (omega (arith, ap length whole)) in
    ap all_of (ap (options_at (length bytes) before) (sym whole) ∙ found)

pub HasOptions-of : (before : ℕ) (options : List (ℕ × List ℕ)) (bytes : List ℕ) → AreOptions before options → bytes ≡ options_bytes before options → (HasOptions before bytes) × (options_of before bytes ≡ options)
HasOptions-of before options bytes o e =
    let same : options_of before bytes ≡ options = ap (options_of before) e ∙ options_of-of before options o in
    (record { bytes_are = rw same e; options = rw same o }, same)

-- if no option can be decoded from the encoding of options, there are no options
none_by : (before : ℕ) (bytes : List ℕ) (options : List (ℕ × List ℕ)) → bytes ≡ options_bytes before options → AreOptions before options → option_at before bytes ≡ None → options ≡ []
none_by before bytes [] b o e = refl
none_by before bytes ((number, value) ∷ options) b o e = absurd (cc (e, ap (option_at before) b ∙ option_at-of before number value (options_bytes number options) o.0))

pub none_left : (before : ℕ) (bytes : List ℕ) → HasOptions before bytes → option_at before bytes ≡ None → options_of before bytes ≡ []
none_left before bytes h e = none_by before bytes (options_of before bytes) h.bytes_are h.options e

pub record Next (before : ℕ) (bytes : List ℕ) (o : RawOption) : Type 0 where
  pub first : options_of before bytes ≡ (o.number, o.value) ∷ options_of o.number o.after
  pub left : HasOptions o.number o.after

some_by : (before : ℕ) (bytes : List ℕ) (options : List (ℕ × List ℕ)) (o : RawOption) → bytes ≡ options_bytes before options → AreOptions before options → options_of before bytes ≡ options →
    option_at before bytes ≡ Some o → Next before bytes o
unfolding option_at
some_by before bytes [] o b a s e = absurd (cc e)
some_by before bytes ((number, value) ∷ options) o b a s e =
    let same : record { number = number; value = value; after = options_bytes number options } ≡ o = cc (e, ap (option_at before) b ∙ option_at-of before number value (options_bytes number options) a.0) in
    let rest = HasOptions-of number options (options_bytes number options) a.1 refl in
    subst (λ x. Next before bytes x) same (record { first = s ∙ ap (λ xs. (number, value) ∷ xs) (sym rest.1); left = rest.0 })

pub next_left : (before : ℕ) (bytes : List ℕ) (o : RawOption) → HasOptions before bytes → option_at before bytes ≡ Some o → Next before bytes o
next_left before bytes o h e = some_by before bytes (options_of before bytes) o h.bytes_are h.options refl e

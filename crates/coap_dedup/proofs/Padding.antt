-- The list of all places, of which only the first were touched.
use Rattle.std.proofs.Common.{◌≡◌, ℕ, ◌+◌, ◌-◌, ◌<◌, ◌≤◌, ◌%◌, true, false, List, ◌++◌, length, replicate, set, refl, sym, ap, ◌∙◌, arith, length-append, length-set}
use Rattle.std.specs.Prelude.{slice_index_or}
use Rattle.std.proofs.lemmas.List.{append_assoc, get_or-append_right, get_or-replicate, get_or_append_left, get_or_default, length-replicate, replicate-append-replicate, set-append_left, set-get_or}
use Rattle.arrayvec.specs.ArrayVec.{ArrayVec}
use Rattle.coap_dedup.specs.declared.exchange.StoredResponse.{StoredResponse}
use Rattle.coap_dedup.specs.Views.{answered_at, forgotten, no_answer, padded}

pub length_padded : (places : ℕ) (kept : List StoredResponse) → length kept ≤ places → length (padded places kept) ≡ places
length_padded places kept le =
    let long = length-append kept (replicate (places - length kept) no_answer) in
    let rest = length-replicate (places - length kept) no_answer in
    omega (arith, le, long, rest)

-- if place `i` was touched, a write at `i` in the list of all places is one in the list of touched
-- places
written : (places i : ℕ) (kept : List StoredResponse) (k : StoredResponse) → i < length kept → set (padded places kept) i k ≡ padded places (set kept i k)
written places i kept k lt = set-append_left kept (replicate (places - length kept) no_answer) i k lt ∙ ap (λ (n : ℕ). set kept i k ++ replicate (places - n) no_answer) (sym (length-set kept i k))

-- a place that wasn't touched has no response
untouched : (places i : ℕ) (kept : List StoredResponse) → length kept ≤ i → i < places → slice_index_or (padded places kept) i no_answer ≡ no_answer
untouched places i kept le lt =
    get_or-append_right kept (replicate (places - length kept) no_answer) (length kept) i no_answer refl le
    ∙ get_or-replicate (places - length kept) (i - length kept) no_answer no_answer (omega (arith, le, lt))

-- touching further places doesn't change the list of all places
touched : (places n : ℕ) (kept : List StoredResponse) → length kept + n ≤ places → padded places (kept ++ replicate n no_answer) ≡ padded places kept
touched places n kept le =
    let long = length-append kept (replicate n no_answer) in
    let rest = length-replicate n no_answer in
    let left : n + (places - length (kept ++ replicate n no_answer)) ≡ places - length kept = omega (arith, le, long, rest) in
    append_assoc kept (replicate n no_answer) (replicate (places - length (kept ++ replicate n no_answer)) no_answer)
    ∙ (ap (λ (l : List StoredResponse). kept ++ l) (replicate-append-replicate n (places - length (kept ++ replicate n no_answer)) no_answer)
    ∙ ap (λ (m : ℕ). kept ++ replicate m no_answer) left)

abbrev without : StoredResponse → StoredResponse
without k = record { answered = false; bytes = k.bytes }

forgotten_of : (places number : ℕ) (kept : List StoredResponse) → length kept ≤ places → set (padded places kept) (number % places) (without (slice_index_or (padded places kept) (number % places) no_answer)) ≡ forgotten (padded places kept) number
forgotten_of places number kept le =
    ap (λ (n : ℕ). set (padded places kept) (number % n) (without (slice_index_or (padded places kept) (number % n) no_answer))) (sym (length_padded places kept le))

-- if the place of a number is touched, marking it as without a response clears its response
pub forgets : (places number : ℕ) (kept : List StoredResponse) (was : StoredResponse) → length kept ≤ places → number % places < length kept → was ≡ slice_index_or kept (number % places) was
    → padded places (set kept (number % places) (without was)) ≡ forgotten (padded places kept) number
forgets places number kept was le lt is =
    let own : was ≡ slice_index_or (padded places kept) (number % places) no_answer = is ∙ (get_or_default kept (number % places) was no_answer lt ∙ sym (get_or_append_left kept (replicate (places - length kept) no_answer) no_answer (number % places) lt)) in
    sym (written places (number % places) kept (without was) lt)
    ∙ (ap (λ (k : StoredResponse). set (padded places kept) (number % places) (without k)) own ∙ forgotten_of places number kept le)

-- if the place of a number wasn't touched, clearing its response changes nothing
pub forgets_none : (places number : ℕ) (kept : List StoredResponse) → length kept ≤ places → length kept ≤ number % places → number % places < places → padded places kept ≡ forgotten (padded places kept) number
forgets_none places number kept le over lt =
    let none = untouched places (number % places) kept over lt in
    sym (set-get_or (padded places kept) (number % places) no_answer)
    ∙ (ap (set (padded places kept) (number % places)) (none ∙ ap without (sym none)) ∙ forgotten_of places number kept le)

-- if the place of a number is touched first, writing a response there stores the response
pub keeps : (places number n : ℕ) (kept : List StoredResponse) (bytes : ArrayVec ℕ) → length kept + n ≤ places → number % places < length (kept ++ replicate n no_answer)
    → padded places (set (kept ++ replicate n no_answer) (number % places) (record { answered = true; bytes = bytes })) ≡ answered_at (padded places kept) number bytes
keeps places number n kept bytes le lt =
    let k : StoredResponse = record { answered = true; bytes = bytes } in
    sym (written places (number % places) (kept ++ replicate n no_answer) k lt)
    ∙ (ap (λ (l : List StoredResponse). set l (number % places) k) (touched places n kept le)
    ∙ ap (λ (m : ℕ). set (padded places kept) (number % m) k) (sym (length_padded places kept (omega (arith, le)))))

-- A further block of the body is sent only if the server took the block before it.
use Rattle.std.proofs.Common.{◌≡◌, ℕ, ◌+◌, ◌==◌, ◌&&◌, nat_le, nat_lt, true, List, length, Option, Some, None, refl}
use Rattle.std.proofs.lemmas.Bool.{and_parts, eqb-true, leb-true}
use Rattle.coap_msg.specs.Wire.{Message}
use Rattle.coap_msg.specs.declared.code.TheConstants.Code as registered
use Rattle.coap_opts.specs.Values.{place_in}
use Rattle.coap_client.specs.declared.part.Part.TheVariants.{Body, Answer}
use Rattle.coap_client.specs.declared.reply.Next.{Next}
use Rattle.coap_client.specs.declared.reply.Next.TheVariants as next
use Rattle.coap_client.specs.Fetching.{Out, after_reply, moved_on}
use Rattle.coap_client.specs.Joined.{NamesTaken, SaysTaken}
use Rattle.coap_client.specs.Parts.{has_more}
use Rattle.coap_client.specs.Replies.{block1_of, block2_of, by_more, by_option, by_part, fits_place, is_continue, is_final, is_success, is_understood, next_block, next_by_code, next_number, next_of_answer, next_of_body, next_of_whole, next_size, size_by_block}
use Rattle.coap_client.proofs.NextParts.{either}

-- the next step is a block of the body only if `P` holds.
abbrev pub OnlyIf : Type 0 → Next → Type 0
OnlyIf P (next.Ask (Body n szx)) = P
OnlyIf P other = Unit {0}

-- the next step after a block of the response is never a block of the body.
option_never : (n szx count : ℕ) (value : Option (List ℕ)) → OnlyIf ⊥ (by_option n szx count value)
option_never n szx count None = either (OnlyIf ⊥) (n == 0) next.Last next.Malformed (λ _. tt) (λ _. tt)
option_never n szx count (Some value) =
    let b = place_in value in
    either (OnlyIf ⊥) (nat_le (length value) 3) _ next.Malformed
    (λ _. either (OnlyIf ⊥) (fits_place n szx b) (by_more b count) next.Malformed
    (λ _. either (OnlyIf ⊥) b.more _ _
    (λ _. either (OnlyIf ⊥) (count == _) (next_block b) next.Malformed
    (λ _. either (OnlyIf ⊥) (nat_lt (b.number + 1) 1048576) (next.Ask (Answer (b.number + 1) b.szx)) next.Malformed (λ _. tt) (λ _. tt)) (λ _. tt))
    (λ _. either (OnlyIf ⊥) (nat_le count _) next.Last next.Malformed (λ _. tt) (λ _. tt)))
    (λ _. tt))
    (λ _. tt)

whole_never : (n : ℕ) (m : Message) → OnlyIf ⊥ (next_of_whole n m)
whole_never n m = either (OnlyIf ⊥) (is_final n m) (next_of_answer 0 6 m) next.Malformed (λ _. option_never 0 6 (length m.payload) (block2_of m)) (λ _. tt)

-- if there is a size for the rest of the body, the response says that the server took the block.
size_names : (n szx : ℕ) (m : Message) (value : Option (List ℕ)) (smaller : ℕ) → next_size n szx (is_continue m) value ≡ Some smaller → NamesTaken n szx m value
size_names n szx m None smaller =
    either (λ o. o ≡ Some smaller → m.code ≡ registered.CONTINUE.byte) (is_continue m) (Some szx) None (λ is _. eqb-true _ _ is) (λ _ e. absurd (cc e))
size_names n szx m (Some value) smaller =
    let b = place_in value in
    either (λ o. o ≡ Some smaller → NamesTaken n szx m (Some value)) (nat_le (length value) 3) (size_by_block n szx b) None
    (λ _. either (λ o. o ≡ Some smaller → NamesTaken n szx m (Some value)) ((b.number == n) && nat_le b.szx szx) (Some b.szx) None
    (λ is _. let both = and_parts _ _ is in (eqb-true _ _ both.0, leb-true _ _ both.1)) (λ _ e. absurd (cc e)))
    (λ _ e. absurd (cc e))

body_only : (n szx : ℕ) (m : Message) (size : Option ℕ) → is_success m.code ≡ true → ((smaller : ℕ) → size ≡ Some smaller → NamesTaken n szx m (block1_of m)) →
    OnlyIf (SaysTaken n szx m) (next_of_body n szx size)
body_only n szx m None success names = tt
body_only n szx m (Some smaller) success names =
    either (OnlyIf (SaysTaken n szx m)) (nat_lt (next_number n szx smaller) 1048576) (next.Ask (Body (next_number n szx smaller) smaller)) next.Malformed
    (λ _. record { success = success; names = names smaller refl }) (λ _. tt)

-- if the next step is never a block of the body, it is one only if `P` holds, for any `P`.
any : (P : Type 0) (x : Next) → OnlyIf ⊥ x → OnlyIf P x
any P (next.Ask (Body n szx)) o = absurd o
any P (next.Ask (Answer n szx)) o = tt
any P (next.Ask other) o = tt
any P next.Last o = tt
any P next.Refused o = tt
any P next.Stale o = tt
any P next.Malformed o = tt

code_only : (count n szx : ℕ) (etag : List ℕ) (m : Message) → OnlyIf (SaysTaken n szx m) (next_by_code count (Body n szx) etag m)
code_only count n szx etag m =
    let P = OnlyIf (SaysTaken n szx m) in
    either P (is_success m.code) (by_part count (Body n szx) etag m) next.Refused
    (λ success. either P (has_more count n szx) (next_of_body n szx (next_size n szx (is_continue m) (block1_of m))) (next_of_whole n m)
    (λ _. body_only n szx m _ success (size_names n szx m (block1_of m)))
    (λ _. any (SaysTaken n szx m) (next_of_whole n m) (whole_never n m)))
    (λ _. tt)

moved_only : (P : Type 0) (x : Next) (body etag : List ℕ) (m : Message) (n szx : ℕ) (body' etag' : List ℕ) → OnlyIf P x → moved_on x body etag m ≡ Out (Body n szx) body' etag' → P
moved_only P (next.Ask (Body k s)) body etag m n szx body' etag' o e = o
moved_only P (next.Ask (Answer k s)) body etag m n szx body' etag' o e = absurd (cc e)
moved_only P (next.Ask other) body etag m n szx body' etag' o e = absurd (cc e)
moved_only P next.Last body etag m n szx body' etag' o e = absurd (cc e)
moved_only P next.Refused body etag m n szx body' etag' o e = absurd (cc e)
moved_only P next.Stale body etag m n szx body' etag' o e = absurd (cc e)
moved_only P next.Malformed body etag m n szx body' etag' o e = absurd (cc e)

pub goes_behind : (count n szx next' smaller : ℕ) (m : Message) (body etag body' etag' : List ℕ) →
    after_reply count m (Out (Body n szx) body etag) ≡ Out (Body next' smaller) body' etag' → SaysTaken n szx m
goes_behind count n szx next' smaller m body etag body' etag' e =
    moved_only (SaysTaken n szx m) _ body etag m next' smaller body' etag'
    (either (OnlyIf (SaysTaken n szx m)) (is_understood m) (next_by_code count (Body n szx) etag m) next.Malformed (λ _. code_only count n szx etag m) (λ _. tt)) e

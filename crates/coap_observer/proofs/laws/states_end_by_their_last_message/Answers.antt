use Rattle.std.proofs.Common.{◌≡◌, ◌≤◌, ℕ, List, ◌++◌, codes, refl, sym, ap, arith}
use Rattle.coap_observer.specs.Completions.{IsStateEnd, IsUnfetchedBy, Joined, Missing, StateEnd, Superseded}
use Rattle.coap_client.specs.Fetching.{Ended, Out, State}
use Rattle.coap_observer.specs.Representations.{unfetched_text}
use Rattle.coap_observer.specs.declared.joining.Unfetched.{Unfetched}
use Rattle.coap_observer.specs.declared.joining.Unfetched.TheVariants as unfetched
use Rattle.coap_client.specs.declared.part.Part.TheVariants.{Answer}
use Rattle.coap_observer.proofs.Joinings.{code_of}
use Rattle.std.specs.Fmt.{digits}
use Rattle.coap_msg.specs.Codes.{code_text}
use Rattle.coap_observer.proofs.laws.states_end_by_their_last_message.Goals as goal

pub returns-clause-refused : goal.returns-clause-refused
unfolding digits
returns-clause-refused c = reason
  where
    reason : (count : ℕ) (body : List ℕ) (cause : Unfetched) → IsUnfetchedBy (Ended 132 body) count cause → unfetched_text cause ≡ codes "a further block was refused by 4.04"
    reason count body unfetched.Silence h = absurd h
    reason count body unfetched.Rejected h = absurd h
    reason count body (unfetched.Refused code) h = ap (λ (x : ℕ). codes "a further block was refused by " ++ code_text x) (sym (code_of 132 code.byte body h.1.0 h.1.1))
    reason count body unfetched.Changed h = absurd (cc h)
    reason count body unfetched.Malformed h = absurd (cc h)
    reason count body unfetched.TooMany h = absurd h.1

pub returns-clause-last : goal.returns-clause-last
returns-clause-last c = reason
  where
    reason : (n szx : ℕ) (body etag : List ℕ) (cause : Unfetched) → IsStateEnd (Out (Answer n szx) body etag) 4194304 (Missing cause)
        → unfetched_text cause ≡ codes "a block is missing after 4194304 requests"
    reason n szx body etag unfetched.Silence h = let more = h.0 in absurd (omega (arith, more))
    reason n szx body etag unfetched.Rejected h = let more = h.0 in absurd (omega (arith, more))
    reason n szx body etag (unfetched.Refused code) h = absurd (cc h.1.1.1)
    reason n szx body etag unfetched.Changed h = absurd (cc h.1)
    reason n szx body etag unfetched.Malformed h = absurd (cc h.1)
    reason n szx body etag unfetched.TooMany h = refl

pub returns-clause-requests : goal.returns-clause-requests
returns-clause-requests c = few
  where
    few : (state : State) (count : ℕ) (end : StateEnd) → IsStateEnd state count end → count ≤ 4194304
    few state count (Joined code body) h = h.0
    few state count (Superseded bytes time) h = let less = h.0 in omega (arith, less)
    few state count (Missing unfetched.Silence) h = let less = h.0 in omega (arith, less)
    few state count (Missing unfetched.Rejected) h = let less = h.0 in omega (arith, less)
    few state count (Missing (unfetched.Refused code)) h = h.0
    few state count (Missing unfetched.Changed) h = h.0
    few state count (Missing unfetched.Malformed) h = h.0
    few state count (Missing unfetched.TooMany) h = h.0

-- The blocks of an observed state that are joined.
use Rattle.std.proofs.Common.{◌≡◌, ℕ, true, List, [], ◌∷◌, ◌++◌, length, refl, subst, arith}
use Rattle.coap_msg.specs.Wire.{Message}
use Rattle.coap_client.specs.Fetching.{State, Out, Ended, Outdated, Lost, after_reply}
use Rattle.coap_client.specs.Joined.{IsOneAnswer}
use Rattle.coap_client.specs.Replies.{block2_of, is_success, next_of_answer}
use Rattle.coap_observer.specs.Representations.{joined}
use Rattle.coap_observer.specs.Representations.{begun as begun_by}
use Rattle.coap_client.proofs.JoinedAnswers.{HasJoined, Joins, begun, option_joins, reply_joins, step_joins, weaker}

first_of : (m : Message) → Joins m [] (begun_by m)
first_of m = begun m [] [] [] (next_of_answer 0 6 m) refl (option_joins 0 6 (length m.payload) 0 (block2_of m) (omega arith))

state_joins : (m : Message) (rs : List Message) → HasJoined (rs ++ m ∷ []) (joined m rs)
state_joins m [] = weaker m [] (begun_by m) (first_of m)
state_joins m (r ∷ rs) = step_joins 0 r (rs ++ m ∷ []) (joined m rs) (state_joins m rs)

ended_by : (r : Message) (ms : List Message) (s : State) (code : ℕ) (body : List ℕ) → HasJoined ms s → after_reply 0 r s ≡ Ended code body → is_success code ≡ true → ((c : ℕ) (b : List ℕ) → s ≡ Ended c b → ⊥)
    → IsOneAnswer body r ms
ended_by r ms (Out part so_far etag) code body h ends success out = subst (Joins r ms) ends (reply_joins 0 part so_far etag r ms h) success
ended_by r ms (Ended c b) code body h ends success out = absurd (out c b refl)
ended_by r ms Outdated code body h ends success out = absurd (cc ends)
ended_by r ms Lost code body h ends success out = absurd (cc ends)

-- if a state of several blocks ends by a success, it is joined from blocks with the same ETag.
pub one_body : (m r : Message) (rs : List Message) (code : ℕ) (body : List ℕ) → ((c : ℕ) (b : List ℕ) → joined m rs ≡ Ended c b → ⊥) → joined m (r ∷ rs) ≡ Ended code body → is_success code ≡ true
    → IsOneAnswer body r (rs ++ m ∷ [])
one_body m r rs code body out ends success = ended_by r (rs ++ m ∷ []) (joined m rs) code body (state_joins m rs) ends success out

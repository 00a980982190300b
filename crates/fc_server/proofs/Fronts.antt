-- The state of a front is that of the history.
use Rattle.std.proofs.Common.{◌≡◌, ℕ, ◌+◌, ◌<◌, ◌≤◌, List, [], ◌∷◌, ◌++◌, length, map, Bool, true, false, cond, Option, Some, None, refl, sym, ap, ◌∙◌, arith, max, length-append}
use Rattle.std.specs.Prelude.{filter, ◌==◌, ◌&&◌}
use Rattle.std.proofs.lemmas.Bool.{lt-ltb}
use Rattle.std.proofs.lemmas.List.{length-map}
use Rattle.std.proofs.lemmas.List.Elements.{filter-append}
use borrow.Author.Tests.{ltb-true}
use Rattle.arrayvec.specs.ArrayVec.{ArrayVec}
use Rattle.coap_msg.specs.declared.types.Endpoint.{Endpoint}
use Rattle.coap_msg.specs.declared.types.Emission.{Emission}
use Rattle.coap_dedup.specs.Exchanges.{Exchange}
use Rattle.coap_dedup.specs.Exchanges.{is_live as is_held, answered_if}
use Rattle.coap_dedup.specs.Calls.{answered}
use Rattle.fc_front.specs.declared.policy.Policy.{Policy}
use Rattle.fc_front.specs.Exchanges.{FrontState, advanced}
use Rattle.fc_core.specs.History.{Seen, answered_in, front_at, front_in}
use Rattle.fc_front.specs.Ids.{Ids}
use Rattle.coap_block.specs.declared.transfer.Transfer.{Transfer}
use Rattle.coap_block.specs.Transfers.{Addition, after_addition, transfers}
use Rattle.fc_front.specs.Receiving.{Received, after_added, exchange_of, keeping, next_opening, opened_by}
use Rattle.fc_front.specs.Receiving as x

-- ---- time passes

filter_filter_step : {X : Type 0} (p : X → Bool) (x : X) (b : Bool) (ys zs : List X) → (p x ≡ true → b ≡ true) → filter p ys ≡ zs → filter p (cond b (x ∷ ys) ys) ≡ cond (p x) (x ∷ zs) zs
filter_filter_step p x true ys zs i e = ap (λ l. cond (p x) (x ∷ l) l) e
filter_filter_step p x false ys zs i e = e ∙ drops (p x) i
  where
    drops : (c : Bool) → (c ≡ true → false ≡ true) → zs ≡ cond c (x ∷ zs) zs
    drops true j = absurd (let k = j refl in cc)
    drops false j = refl

-- if each element that passes p passes q, filtering by q first makes no difference.
filter_of_filter : {X : Type 0} (p q : X → Bool) → ((x : X) → p x ≡ true → q x ≡ true) → (xs : List X) → filter p (filter q xs) ≡ filter p xs
filter_of_filter p q i [] = refl
filter_of_filter p q i (x ∷ xs) = filter_filter_step p x (q x) (filter q xs) (filter p xs) (i x) (filter_of_filter p q i xs)

-- an exchange that is live at a later time was live before.
live_before : (m at : ℕ) → m ≤ at → (e : Exchange) → is_held at e ≡ true → is_held m e ≡ true
live_before m at le e held = let lt : at < e.at + 247000 = ltb-true at (e.at + 247000) held in lt-ltb m (e.at + 247000) (omega arith)

-- a front that advances to a time has the exchanges that are live then.
pub front_advances : (s : Seen) (now : ℕ) → advanced (front_in s s.time) now ≡ front_at s now
front_advances s now =
    let le : s.time ≤ max s.time now = omega arith in
    λ i. record (front_at s now) { held = filter_of_filter (is_held (max s.time now)) (is_held s.time) (live_before s.time (max s.time now) le) s.exchanges i }

-- ---- an exchange is opened

new_live : (at : ℕ) (e : Exchange) → e.at ≡ at → filter (is_held at) (e ∷ []) ≡ e ∷ []
new_live at e is = ap (λ (b : Bool). cond b (e ∷ []) []) (let le = is in lt-ltb at (e.at + 247000) (omega (arith, le)))

pub opened_live : (s : Seen) (at : ℕ) (r : Received) (to : Endpoint) → filter (is_held at) (opened_by r (next_opening (front_in s at)) to) ≡ opened_by r (next_opening (front_in s at)) to
opened_live s at (x.Opened m asked body) to = new_live at (exchange_of (next_opening (front_in s at)) to m) refl
opened_live s at (x.Silenced m) to = new_live at (exchange_of (next_opening (front_in s at)) to m) refl
opened_live s at (x.Immediate m asked response) to = new_live at (exchange_of (next_opening (front_in s at)) to m) refl
opened_live s at (x.Refused m answer) to = new_live at (exchange_of (next_opening (front_in s at)) to m) refl
opened_live s at x.Ignored to = refl
opened_live s at (x.Rejected id) to = refl
opened_live s at (x.Signals id reset) to = refl
opened_live s at x.Unanswered to = refl
opened_live s at (x.Again bytes) to = refl
opened_live s at (x.Full m) to = refl

-- ---- an exchange is answered

-- the exchange with this number is answered where it is stored, if it is live.
kept_one : (at n : ℕ) (bytes : ArrayVec ℕ) (e : Exchange) (rest : List Exchange) (all : List Exchange) (is live : Bool) → (e.number == n) ≡ is → is_held at e ≡ live → map (answered at n bytes) rest ≡ filter (is_held at) all → map (answered at n bytes) (cond live (e ∷ rest) rest) ≡ filter (is_held at) (answered_if is bytes e ∷ all)
kept_one at n bytes e rest all true true same held more = (λ i. answered_if (same i && held i) bytes e ∷ more i) ∙ ap (λ (b : Bool). cond b (record e { answer = Some bytes } ∷ filter (is_held at) all) (filter (is_held at) all)) (sym held)
kept_one at n bytes e rest all false true same held more = (λ i. answered_if (same i && held i) bytes e ∷ more i) ∙ ap (λ (b : Bool). cond b (e ∷ filter (is_held at) all) (filter (is_held at) all)) (sym held)
kept_one at n bytes e rest all true false same held more = more ∙ ap (λ (b : Bool). cond b (record e { answer = Some bytes } ∷ filter (is_held at) all) (filter (is_held at) all)) (sym held)
kept_one at n bytes e rest all false false same held more = more ∙ ap (λ (b : Bool). cond b (e ∷ filter (is_held at) all) (filter (is_held at) all)) (sym held)

kept_all : (at n : ℕ) (bytes : ArrayVec ℕ) (es : List Exchange) → map (answered at n bytes) (filter (is_held at) es) ≡ filter (is_held at) (map (λ e. answered_if (e.number == n) bytes e) es)
kept_all at n bytes [] = refl
kept_all at n bytes (e ∷ es) = kept_one at n bytes e (filter (is_held at) es) (map (λ e. answered_if (e.number == n) bytes e) es) (e.number == n) (is_held at e) refl refl (kept_all at n bytes es)

-- the front with these exchanges, transfers and message IDs.
abbrev pub front_of : Policy → ℕ → List Exchange → List Transfer → Ids → FrontState
front_of p at es ts ids = record { managers = p.managers; limits = p.limits; now = at; opened = length es; held = filter (is_held at) es; transfers = ts; ids = ids }

pub front_keeps : (p : Policy) (at n : ℕ) (em : Option Emission) (es : List Exchange) (ts : List Transfer) (ids : Ids) → keeping n em (front_of p at es ts ids) ≡ front_of p at (answered_in n em es) ts ids
front_keeps p at n None es ts ids = refl
front_keeps p at n (Some em) es ts ids = λ i. record { managers = p.managers; limits = p.limits; now = at; opened = sym (length-map es (λ e. answered_if (e.number == n) em.bytes e)) i; held = kept_all at n em.bytes es i; transfers = ts; ids = ids }

-- the transfers after new payloads are those after the new payloads are added to the earlier ones.
pub transfers_added : (new before : List Addition) → transfers (new ++ before) ≡ after_added new (transfers before)
transfers_added [] before = refl
transfers_added (a ∷ more) before = ap (after_addition a) (transfers_added more before)

-- a front after it opened an exchange, if the datagram opens one, has this exchange too.
pub front_opens : (s : Seen) (at : ℕ) (r : Received) (to : Endpoint) (ts : List Transfer) (ids : Ids) →
    record (front_in s at) { opened = length s.exchanges + length (opened_by r (next_opening (front_in s at)) to); held = filter (is_held at) s.exchanges ++ opened_by r (next_opening (front_in s at)) to; transfers = ts; ids = ids }
    ≡ front_of s.policy at (s.exchanges ++ opened_by r (next_opening (front_in s at)) to) ts ids
front_opens s at r to ts ids =
    let new = opened_by r (next_opening (front_in s at)) to in
    λ i. record {
      managers = s.policy.managers;
      limits = s.policy.limits;
      now = at;
      opened = sym (length-append s.exchanges new) i;
      held = (ap (λ (l : List Exchange). filter (is_held at) s.exchanges ++ l) (sym (opened_live s at r to)) ∙ sym (filter-append (is_held at) s.exchanges new)) i;
      transfers = ts;
      ids = ids;
    }

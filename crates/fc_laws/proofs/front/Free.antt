-- A share is kept for each address.
use Rattle.std.proofs.Common.{◌≡◌, ℕ, suc, ◌+◌, ◌*◌, ◌<◌, ◌≤◌, inl, inr, List, [], ◌∷◌, Bool, true, false, cond, length, refl, sym, ap, subst, ⊎_elim, arith, max}
use Rattle.std.specs.Prelude.{filter}
use Rattle.std.proofs.Math.Nat.{suc-mul}
use Rattle.coap_msg.specs.declared.types.Endpoint.{Endpoint}
use Rattle.coap_msg.specs.Wire.{Message}
use Rattle.coap_dedup.specs.Exchanges.{Exchange, is_at, places_of, share_of}
use Rattle.fc_core.specs.History.{History, seen}
use Rattle.fc_laws.specs.ExchangeLaws.{IsCrowdedOut, held_at}
use Rattle.fc_laws.specs.PolicyLaws.{AreAmong, IsAmong, IsOneOf}
use Rattle.fc_laws.proofs.front.Shares.{within_share}

abbrev total : List (List ℕ) → List Exchange → ℕ
total [] es = 0
total (ip ∷ ips) es = share_of ip es + total ips es

long_if : (b : Bool) (e : Exchange) (l : List Exchange) → length (cond b (e ∷ l) l) ≡ cond b (suc (length l)) (length l)
long_if true e l = refl
long_if false e l = refl

no_fewer : (b : Bool) (n : ℕ) → n ≤ cond b (suc n) n
no_fewer true n = omega arith
no_fewer false n = omega arith

share_grows : (ip : List ℕ) (e : Exchange) (es : List Exchange) → share_of ip es ≤ share_of ip (e ∷ es)
share_grows ip e es = let long = long_if (is_at ip e) e (filter (is_at ip) es) in let more = no_fewer (is_at ip e) (share_of ip es) in omega (arith, long, more)

share_more : (ip : List ℕ) (e : Exchange) (es : List Exchange) → is_at ip e ≡ true → share_of ip (e ∷ es) ≡ suc (share_of ip es)
share_more ip e es is = ap (λ (b : Bool). length (cond b (e ∷ filter (is_at ip) es) (filter (is_at ip) es))) is

total_grows : (ips : List (List ℕ)) (e : Exchange) (es : List Exchange) → total ips es ≤ total ips (e ∷ es)
total_grows [] e es = omega arith
total_grows (ip ∷ ips) e es = let one = share_grows ip e es in let rest = total_grows ips e es in omega (arith, one, rest)

total_more : (ips : List (List ℕ)) (e : Exchange) (es : List Exchange) → IsAmong ips e → total ips es + 1 ≤ total ips (e ∷ es)
total_more [] e es w = absurd w
total_more (ip ∷ ips) e es (inl is) = let one = share_more ip e es is in let rest = total_grows ips e es in omega (arith, one, rest)
total_more (ip ∷ ips) e es (inr w) = let one = share_grows ip e es in let rest = total_more ips e es w in omega (arith, one, rest)

covered : (ips : List (List ℕ)) (es : List Exchange) → AreAmong ips es → length es ≤ total ips es
covered ips [] w = omega arith
covered ips (e ∷ es) w = let more = total_more ips e es w.0 in let rest = covered ips es w.1 in omega (arith, more, rest)

bounded : (n : ℕ) (ips : List (List ℕ)) (es : List Exchange) → ((ip : List ℕ) → share_of ip es ≤ n) → total ips es ≤ length ips * n
bounded n [] es few = omega arith
bounded n (ip ∷ ips) es few = let one = few ip in let rest = bounded n ips es few in let split = suc-mul (length ips) n in omega (arith, one, rest, split)

strictly : (n : ℕ) (own : List ℕ) (ips : List (List ℕ)) (es : List Exchange) → ((ip : List ℕ) → share_of ip es ≤ n) → share_of own es < n → IsOneOf own ips → total ips es < length ips * n
strictly n own [] es few less w = absurd w
strictly n own (ip ∷ ips) es few less (inl is) =
    let one : share_of ip es < n = subst (λ (l : List ℕ). share_of l es < n) (sym is) less in
    let rest = bounded n ips es few in
    let split = suc-mul (length ips) n in
    omega (arith, one, rest, split)
strictly n own (ip ∷ ips) es few less (inr w) =
    let one = few ip in
    let rest = strictly n own ips es few less w in
    let split = suc-mul (length ips) n in
    omega (arith, one, rest, split)

pub kept_free : (h : History) (now : ℕ) (to : Endpoint) (bytes : List ℕ) (m : Message) (ips : List (List ℕ)) → AreAmong ips (held_at (seen h) (max (seen h).time now)) → IsOneOf to.ip ips
    → length ips * (seen h).policy.limits.share ≤ (places_of (seen h).policy.limits) → length (seen h).exchanges < 18446744073709551615 → IsCrowdedOut (seen h) now to bytes m → ⊥
kept_free h now to bytes m ips among one fits ever w =
    let s = seen h in
    let at = max s.time now in
    let es = held_at s at in
    let few : (ip : List ℕ) → share_of ip es ≤ s.policy.limits.share = λ ip. within_share h at ip (omega arith) in
    let sum = strictly s.policy.limits.share to.ip ips es few w.share one in
    let all = covered ips es among in
    ⊎_elim
    (λ (full : (places_of s.policy.limits) ≤ length es). omega (arith, full, sum, all, fits))
    (λ (end : 18446744073709551615 ≤ length s.exchanges). omega (arith, end, ever))
    w.full

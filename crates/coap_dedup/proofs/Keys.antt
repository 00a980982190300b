-- The order and the equality of keys.
use Rattle.std.proofs.Common.{◌≡◌, ℕ, ◌+◌, ◌*◌, ◌/◌, ◌%◌, ◌<◌, List, [], ◌∷◌, Bool, true, false, ap, refl, sym, ◌∙◌, arith}
use Rattle.std.specs.Prelude.{◌==◌, ◌&&◌, nat_eq}
use Rattle.std.specs.Ordering.{eq_by_cmp}
use Rattle.std.specs.Cmp.{IsTotalOrder, unsigned_tied}
use Rattle.std.specs.Cmp.Lexicographic.{pointwise}
use Rattle.std.specs.FinMap.{IsAntisymmetric, nat_cmp-IsAntisymmetric}
use Rattle.std.proofs.lemmas.Bool.{eq-eqb, eqb-true, and_parts, and_from}
use Rattle.std.proofs.lemmas.Cmp.{nat_cmp_total, on_total}
use Rattle.coap_msg.specs.declared.types.Endpoint.{Endpoint}
use Rattle.coap_msg.specs.Endpoints.{same_endpoint}
use Rattle.coap_dedup.specs.declared.key.Key.{Key}
use Rattle.coap_dedup.specs.Keys.{AreBytes, IsPeer, address_bytes, address_number, endpoint_of, id_of, is_key_at, key_cmp, key_of}

pub key_total : IsTotalOrder key_cmp
key_total = on_total (λ k. k.number) nat_cmp_total

pub key_antisymmetric : IsAntisymmetric key_cmp
key_antisymmetric x y e = let same = nat_cmp-IsAntisymmetric x.number y.number e in λ i. record { number = same i }

number_is : (a b c d : ℕ) → address_number (a ∷ b ∷ c ∷ d ∷ []) ≡ a * 16777216 + b * 65536 + c * 256 + d
number_is a b c d = omega arith

pub same_if : (x y : Bool) → (x ≡ true → y ≡ true) → (y ≡ true → x ≡ true) → x ≡ y
same_if true true f g = refl
same_if true false f g = sym (f refl)
same_if false true f g = g refl
same_if false false f g = refl

-- ---- the bytes of an address

bytes_from : (q a b c d : ℕ) → pointwise nat_eq (address_bytes q) (a ∷ b ∷ c ∷ d ∷ []) ≡ true → q ≡ a * 16777216 + b * 65536 + c * 256 + d
bytes_from q a b c d e =
    let first = and_parts _ _ e in
    let second = and_parts _ _ first.1 in
    let third = and_parts _ _ second.1 in
    let fourth = and_parts _ _ third.1 in
    let e1 : q / 16777216 ≡ a = eqb-true _ _ first.0 in
    let e2 : q / 65536 % 256 ≡ b = eqb-true _ _ second.0 in
    let e3 : q / 256 % 256 ≡ c = eqb-true _ _ third.0 in
    let e4 : q % 256 ≡ d = eqb-true _ _ fourth.0 in
    omega (arith, e1, e2, e3, e4)

bytes_to : (q a b c d : ℕ) → b < 256 → c < 256 → d < 256 → q ≡ a * 16777216 + b * 65536 + c * 256 + d → pointwise nat_eq (address_bytes q) (a ∷ b ∷ c ∷ d ∷ []) ≡ true
bytes_to q a b c d lb lc ld e =
    and_from _ _ (eq-eqb (q / 16777216) a (omega (arith, e, lb, lc, ld)))
    (and_from _ _ (eq-eqb (q / 65536 % 256) b (omega (arith, e, lb, lc, ld)))
    (and_from _ _ (eq-eqb (q / 256 % 256) c (omega (arith, e, lb, lc, ld)))
    (and_from _ _ (eq-eqb (q % 256) d (omega (arith, e, lb, lc, ld))) refl)))

-- a key's endpoint has an address exactly if the key's high 32 bits are the address's number
pub same_address : (ip : List ℕ) (k : Key) → AreBytes ip → pointwise nat_eq (endpoint_of k).ip ip ≡ is_key_at ip k
same_address ip k w =
    let q = k.number / 4294967296 in
    let number : address_number ip ≡ w.a * 16777216 + w.b * 65536 + w.c * 256 + w.d = ap address_number w.ip_is ∙ number_is w.a w.b w.c w.d in
    ap (pointwise nat_eq (address_bytes q)) w.ip_is
    ∙ same_if (pointwise nat_eq (address_bytes q) (w.a ∷ w.b ∷ w.c ∷ w.d ∷ [])) (q == address_number ip)
    (λ e. eq-eqb q (address_number ip) (bytes_from q w.a w.b w.c w.d e ∙ sym number))
    (λ e. bytes_to q w.a w.b w.c w.d w.fit.1 w.fit.2 w.fit.3 (eqb-true q (address_number ip) e ∙ number))

-- ---- two requests have the same key exactly if they have the same endpoint and message ID

parts_from : (n a p m : ℕ) → n / 4294967296 ≡ a → n / 65536 % 65536 ≡ p → n % 65536 ≡ m → n ≡ a * 4294967296 + p * 65536 + m
parts_from n a p m ea ep em = omega (arith, ea, ep, em)

pub same_key : (to : Endpoint) (id : ℕ) (k : Key) → IsPeer to id → (same_endpoint (endpoint_of k) to && (id_of k == id)) ≡ eq_by_cmp key_cmp k (key_of to id)
same_key to id k w =
    let n = k.number in
    let a = address_number to.ip in
    let p = to.port in
    let lp = w.port_fits in
    let lm = w.id_fits in
    (λ i. (same_address to.ip k w.bytes i && (n / 65536 % 65536 == p)) && (n % 65536 == id))
    ∙ (same_if (((n / 4294967296 == a) && (n / 65536 % 65536 == p)) && (n % 65536 == id)) (n == a * 4294967296 + p * 65536 + id)
    (λ e.
    let outer = and_parts _ _ e in
    let inner = and_parts _ _ outer.0 in
    eq-eqb n (a * 4294967296 + p * 65536 + id) (parts_from n a p id (eqb-true _ _ inner.0) (eqb-true _ _ inner.1) (eqb-true _ _ outer.1)))
    (λ e.
    let same : n ≡ a * 4294967296 + p * 65536 + id = eqb-true _ _ e in
    and_from _ _
    (and_from _ _ (eq-eqb (n / 4294967296) a (omega (arith, same, lp, lm))) (eq-eqb (n / 65536 % 65536) p (omega (arith, same, lp, lm))))
    (eq-eqb (n % 65536) id (omega (arith, same, lm))))
    ∙ sym (unsigned_tied n (a * 4294967296 + p * 65536 + id)))

-- a key has the endpoint and the message ID of its request
bytes_are : (q a b c d : ℕ) → b < 256 → c < 256 → d < 256 → q ≡ a * 16777216 + b * 65536 + c * 256 + d → address_bytes q ≡ a ∷ b ∷ c ∷ d ∷ []
bytes_are q a b c d lb lc ld e =
    let e1 : q / 16777216 ≡ a = omega (arith, e, lb, lc, ld) in
    let e2 : q / 65536 % 256 ≡ b = omega (arith, e, lb, lc, ld) in
    let e3 : q / 256 % 256 ≡ c = omega (arith, e, lb, lc, ld) in
    let e4 : q % 256 ≡ d = omega (arith, e, lb, lc, ld) in
    λ i. e1 i ∷ e2 i ∷ e3 i ∷ e4 i ∷ []

pub endpoint_is : (to : Endpoint) (id : ℕ) → IsPeer to id → endpoint_of (key_of to id) ≡ to
endpoint_is to id w =
    let b = w.bytes in
    let a = address_number to.ip in
    let lp = w.port_fits in
    let lm = w.id_fits in
    let number : a ≡ b.a * 16777216 + b.b * 65536 + b.c * 256 + b.d = ap address_number b.ip_is ∙ number_is b.a b.b b.c b.d in
    let address : (a * 4294967296 + to.port * 65536 + id) / 4294967296 ≡ a = omega (arith, lp, lm) in
    let ip : address_bytes ((a * 4294967296 + to.port * 65536 + id) / 4294967296) ≡ to.ip = bytes_are _ b.a b.b b.c b.d b.fit.1 b.fit.2 b.fit.3 (address ∙ number) ∙ sym b.ip_is in
    let port : (a * 4294967296 + to.port * 65536 + id) / 65536 % 65536 ≡ to.port = omega (arith, lp, lm) in
    λ i. record { ip = ip i; port = port i }

pub id_is : (to : Endpoint) (id : ℕ) → IsPeer to id → id_of (key_of to id) ≡ id
id_is to id w = let lm = w.id_fits in omega (arith, lm)

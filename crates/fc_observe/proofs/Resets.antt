-- The entries that a Reset message and a cancellation remove.
use Rattle.std.proofs.Common.{◌≡◌, ◌↔◌, ℕ, ◌<◌, List, [], ◌∷◌, length, get_or, suc, zero, Bool, true, false, cond, Option, Some, None, refl, ap, ◌∙◌, subst, arith}
use Rattle.std.specs.Prelude.{nat_eq, not, ◌==◌, ◌&&◌}
use Rattle.std.specs.Cmp.Lexicographic.{pointwise, bytes_decides}
use Rattle.std.specs.List.{Contains, filter}
use Rattle.std.proofs.lemmas.Bool.{and_parts, eq-eqb, eqb-true}
use Rattle.std.proofs.lemmas.List.Elements.{All-contains, All-contains_itself, All-filter, filter_passes}
use Rattle.coap_msg.specs.Endpoints.{same_endpoint}
use Rattle.coap_msg.specs.declared.types.Endpoint.{Endpoint}
use Rattle.fc_observe.specs.declared.entry.Entry.{Entry}
use Rattle.fc_observe.specs.Entries.{has_last_id, is_entry_of, is_id}
use Rattle.fc_observe.specs.Observers.{ObserverList, after_reset, cancelled}

-- ---- the elements that a filter keeps

kept_head : (p : Entry → Bool) (o : Entry) (os : List Entry) (b : Bool) → p o ≡ b → b ≡ true → Contains (cond b (o ∷ filter p os) (filter p os)) o
kept_head p o os true e passes = (0, omega arith, refl)
kept_head p o os false e passes = absurd (cc passes)

kept_tail : (p : Entry → Bool) (o x : Entry) (os : List Entry) (b : Bool) → Contains (filter p os) x → Contains (cond b (o ∷ filter p os) (filter p os)) x
kept_tail p o x os true there = let lt = there.1 in (suc there.0, omega (arith, lt), there.2)
kept_tail p o x os false there = there

kept : (p : Entry → Bool) (os : List Entry) (x : Entry) (k : ℕ) → k < length os → get_or os k x ≡ x → p x ≡ true → Contains (filter p os) x
kept p [] x k lt at passes = absurd (omega (arith, lt))
kept p (o ∷ os) x zero lt at passes =
    let own : p o ≡ true = ap p at ∙ passes in
    subst (λ (y : Entry). Contains (cond (p o) (o ∷ filter p os) (filter p os)) y) at (kept_head p o os (p o) refl own)
kept p (o ∷ os) x (suc k) lt at passes = kept_tail p o x os (p o) (kept p os x k (omega (arith, lt)) at passes)

not_true : (b : Bool) → not b ≡ true → b ≡ true → ⊥
not_true true e f = cc e
not_true false e f = cc f

not_from : (b : Bool) → (b ≡ true → ⊥) → not b ≡ true
not_from true f = absurd (f refl)
not_from false f = refl

-- if a test holds exactly for entries with `Own`, the entries kept by its negation are those
-- without
just_others : (p : Entry → Bool) (Own : Entry → Type 0) → ((o : Entry) → Own o → p o ≡ true) → ((o : Entry) → p o ≡ true → Own o) → (held : List Entry) (o : Entry)
    → Contains (filter (λ (x : Entry). not (p x)) held) o ↔ (Contains held o × (Own o → ⊥))
just_others p Own so is held o =
    let q = λ (x : Entry). not (p x) in (
      λ there. (
        All-contains (Contains held) (filter q held) o (All-filter q (Contains held) held (All-contains_itself held)) there,
        λ w. not_true (p o) (All-contains (λ x. q x ≡ true) (filter q held) o (filter_passes q held) there) (so o w),
      ),
      λ w. kept q held o w.0.0 w.0.1 w.0.2 (not_from (p o) (λ e. w.1 (is o e))),
    )

-- ---- the test for an endpoint

endpoint_so : (to : Endpoint) → same_endpoint to to ≡ true
endpoint_so to =
    let ip : pointwise nat_eq to.ip to.ip ≡ true = (bytes_decides to.ip to.ip).1 refl in
    let port : (to.port == to.port) ≡ true = eq-eqb to.port to.port refl in
    λ i. ip i && port i

pub endpoint_is : (from to : Endpoint) → same_endpoint from to ≡ true → from ≡ to
endpoint_is from to e =
    let v = and_parts (pointwise nat_eq from.ip to.ip) (from.port == to.port) e in
    let ip = (bytes_decides from.ip to.ip).0 v.0 in
    let port = eqb-true from.port to.port v.1 in
    λ i. record { ip = ip i; port = port i }

-- ---- the test for the last message ID

id_is : (id : ℕ) (own : Option ℕ) → is_id id own ≡ true → own ≡ Some id
id_is id None e = absurd (cc e)
id_is id (Some own) e = ap (λ (n : ℕ). Some n) (eqb-true own id e)

pub is_so : (to : Endpoint) (id : ℕ) (o : Entry) → (o.endpoint ≡ to) × (o.id ≡ Some id) → has_last_id to id o ≡ true
is_so to id o w =
    let own : (id == id) ≡ true = eq-eqb id id refl in
    (λ i. same_endpoint (w.0 i) to && is_id id (w.1 i)) ∙ (λ i. endpoint_so to i && own i)

pub so_is : (to : Endpoint) (id : ℕ) (o : Entry) → has_last_id to id o ≡ true → (o.endpoint ≡ to) × (o.id ≡ Some id)
so_is to id o e =
    let w = and_parts (same_endpoint o.endpoint to) (is_id id o.id) e in
    (endpoint_is o.endpoint to w.0, id_is id o.id w.1)

-- ---- the test for an endpoint and a token

entry_so : (to : Endpoint) (token : List ℕ) (o : Entry) → (o.endpoint ≡ to) × (o.token.items ≡ token) → is_entry_of to token o ≡ true
entry_so to token o w =
    let own : pointwise nat_eq token token ≡ true = (bytes_decides token token).1 refl in
    (λ i. same_endpoint (w.0 i) to && pointwise nat_eq (w.1 i) token) ∙ (λ i. endpoint_so to i && own i)

entry_is : (to : Endpoint) (token : List ℕ) (o : Entry) → is_entry_of to token o ≡ true → (o.endpoint ≡ to) × (o.token.items ≡ token)
entry_is to token o e =
    let w = and_parts (same_endpoint o.endpoint to) (pointwise nat_eq o.token.items token) e in
    (endpoint_is o.endpoint to w.0, (bytes_decides o.token.items token).0 w.1)

-- ---- the entries that are left

pub just_those : (to : Endpoint) (id : ℕ) (t : ObserverList) (o : Entry) → Contains (after_reset to id t).held o ↔ (Contains t.held o × ((o.endpoint ≡ to) × (o.id ≡ Some id) → ⊥))
just_those to id t o = just_others (has_last_id to id) (λ (x : Entry). (x.endpoint ≡ to) × (x.id ≡ Some id)) (is_so to id) (so_is to id) t.held o

pub just_its_own : (to : Endpoint) (token : List ℕ) (t : ObserverList) (o : Entry)
    → Contains (cancelled to token t).held o ↔ (Contains t.held o × ((o.endpoint ≡ to) × (o.token.items ≡ token) → ⊥))
just_its_own to token t o =
    just_others (is_entry_of to token) (λ (x : Entry). (x.endpoint ≡ to) × (x.token.items ≡ token)) (entry_so to token) (entry_is to token) t.held o

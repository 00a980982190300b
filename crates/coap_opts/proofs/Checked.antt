-- The checks of a request, from the message's contents.
use Rattle.std.proofs.Common.{◌≡◌, ◌≢◌, ℕ, ◌<◌, ◌≤◌, ◌==◌, ◌||◌, Bool, true, false, if◌then◌else◌, nat_lt, length, List, [], ◌∷◌, Option, Some, None, refl, ap, ◌∙◌, ◌⊎◌, inl, inr, arith}
use Rattle.std.proofs.lemmas.Bool.{and_from, and_right, cases_lt, eq-eqb, le-ltb, lt-ltb, ne_eqb}
use Rattle.std.proofs.lemmas.Bool.Decides.{nat_tests}
use Rattle.coap_msg.specs.Wire.{Message}
use Rattle.coap_msg.specs.Reading.{◌>>=◌}
use Rattle.coap_msg.specs.declared.types.MessageType.{MessageType}
use Rattle.coap_msg.specs.declared.types.MessageType.TheVariants.{Confirmable, NonConfirmable, Acknowledgement, Reset}
use Rattle.coap_opts.specs.Checks.{HasBadValue, IsRequest, NamesProxy, PassesOptions}
use Rattle.coap_opts.specs.Path.{method_of}
use Rattle.coap_opts.specs.Classified.{IsKnown, IsServedAt}
use Rattle.coap_opts.specs.Recognition.{has_unknown_critical}
use Rattle.coap_opts.specs.Served.{action_of}
use Rattle.coap_opts.specs.Values.{Place}
use Rattle.coap_opts.specs.Verdict.{Asked, IsAsked, IsIgnored, IsRefused, IsReset, IsSignal, IsSilent, accepted, action, block_in, first_of, has, has_bad_value, is_request, is_reserved, names_proxy, query, refusal_code, refusal_verdict, request_verdict, resource, values, verdict, verdict_by, verdict_by_check}
use Rattle.coap_opts.specs.declared.request.Action.{Action}
use Rattle.coap_opts.specs.declared.request.Method.{Method}
use Rattle.coap_opts.specs.declared.request.Method.TheVariants.{Get, Post, Put, Delete}
use Rattle.coap_opts.specs.declared.request.Resource.{Resource}
use Rattle.coap_opts.proofs.Order.{asked_is, method_fails, none_fails, path_fails, payload_fails, proxy_fails, service_fails, unknown_fails, value_fails}
use Rattle.coap_opts.proofs.Rows.{code_is}

-- ---- present values

has_some : {A : Type 0} (xs : List A) → xs ≢ [] → has (first_of xs) ≡ true
has_some [] some = absurd (some refl)
has_some (x ∷ xs) some = refl

has_none : {A : Type 0} (xs : List A) → (xs ≢ [] → ⊥) → has (first_of xs) ≡ false
has_none [] none = refl
has_none (x ∷ xs) none = absurd (none (λ e. absurd (cc e)))

or_first : (a b : Bool) → a ≡ true → (a || b) ≡ true
or_first true b e = refl
or_first false b e = absurd (cc e)

or_second : (a b : Bool) → b ≡ true → (a || b) ≡ true
or_second true b e = refl
or_second false b e = e

or_neither : (a b : Bool) → a ≡ false → b ≡ false → (a || b) ≡ false
or_neither true b e f = absurd (cc e)
or_neither false b e f = f

proxy_named : (m : Message) → NamesProxy m → names_proxy m ≡ true
proxy_named m (inl uri) = or_first (has (first_of (values 35 m))) (has (first_of (values 39 m))) (has_some (values 35 m) uri)
proxy_named m (inr scheme) = or_second (has (first_of (values 35 m))) (has (first_of (values 39 m))) (has_some (values 39 m) scheme)

proxy_unnamed : (m : Message) → (NamesProxy m → ⊥) → names_proxy m ≡ false
proxy_unnamed m none = or_neither (has (first_of (values 35 m))) (has (first_of (values 39 m))) (has_none (values 35 m) (λ w. none (inl w)))
    (has_none (values 39 m) (λ w. none (inr w)))

known_of : (m : Message) → PassesOptions m → IsKnown m
known_of m w = record { no_proxy = proxy_unnamed m w.no_proxy; no_unknown = w.known }

-- ---- methods

method_code_few : (method : Method) (c : ℕ) → method_of c ≡ Some method → c ≤ 4
method_code_few Get c e = let is = code_is c Get e in omega (arith, is)
method_code_few Post c e = let is = code_is c Post e in omega (arith, is)
method_code_few Put c e = let is = code_is c Put e in omega (arith, is)
method_code_few Delete c e = let is = code_is c Delete e in omega (arith, is)

no_method : (c : ℕ) (o : Option Method) → method_of c ≡ o → 4 < c → method_of c ≡ None
no_method c None e high = e
no_method c (Some method) e high = absurd (omega (arith, method_code_few method c e, high))

-- the method, from whether the code is 1, 2, 3 or 4
abbrev method_by : Bool → Bool → Bool → Bool → Option Method
method_by get post put delete =
    if get then Some Get else (if post then Some Post else (if put then Some Put else (if delete then Some Delete else None)))

some_by : (c : ℕ) (get post put delete : Bool) → (c == 1) ≡ get → (c == 2) ≡ post → (c == 3) ≡ put → (c == 4) ≡ delete → 0 < c → c ≤ 4
    → (method : Method) × (method_of c ≡ Some method)
some_by c true post put delete a b d e some few = (Get, λ i. method_by (a i) (c == 2) (c == 3) (c == 4))
some_by c false true put delete a b d e some few = (Post, λ i. method_by (a i) (b i) (c == 3) (c == 4))
some_by c false false true delete a b d e some few = (Put, λ i. method_by (a i) (b i) (d i) (c == 4))
some_by c false false false true a b d e some few = (Delete, λ i. method_by (a i) (b i) (d i) (e i))
some_by c false false false false a b d e some few = absurd (grind (arith, nat_tests, a, b, d, e, some, few))

some_method : (c : ℕ) → 0 < c → c ≤ 4 → (method : Method) × (method_of c ≡ Some method)
some_method c some few = some_by c (c == 1) (c == 2) (c == 3) (c == 4) refl refl refl refl some few

-- the action's method is served at its resource
pub record IsServedBy (m : Message) (a : Action) : Type 0 where
  pub method : Method
  pub at : Resource
  pub method_is : method_of m.code ≡ Some method
  pub resource_is : resource m ≡ Some at
  pub served : action_of at method ≡ Some a

served_parts : (m : Message) (a : Action) (o : Option Method) (p : Option Resource) → method_of m.code ≡ o → resource m ≡ p
    → (o >>= λ method. p >>= λ at. action_of at method) ≡ Some a → IsServedBy m a
served_parts m a None p is at e = absurd (cc e)
served_parts m a (Some method) None is at e = absurd (cc e)
served_parts m a (Some method) (Some place) is at e = record { method = method; at = place; method_is = is; resource_is = at; served = e }

served_of : (m : Message) (a : Action) → PassesOptions m → action m ≡ Some a → (method : Method) × (at : Resource) × IsServedAt m method at a
served_of m a w e =
    let s = served_parts m a (method_of m.code) (resource m) refl refl e in
    (s.method, s.at, record { known = known_of m w; method_is = s.method_is; resource_is = s.resource_is; served = s.served })

-- ---- values

reserved_is : (o : Option Place) (b : Place) → o ≡ Some b → b.szx ≡ 7 → is_reserved o ≡ true
reserved_is o b is seven = ap is_reserved is ∙ eq-eqb b.szx 7 seven

unreserved : (o : Option Place) → ((b : Place) → o ≡ Some b → b.szx ≡ 7 → ⊥) → is_reserved o ≡ false
unreserved None none = refl
unreserved (Some b) none = ne_eqb b.szx 7 (none b refl)

bad_value : (m : Message) → HasBadValue m → has_bad_value m ≡ true
bad_value m (inl w) = or_first (is_reserved (block_in 27 m) || is_reserved (block_in 23 m)) (nat_lt 64 (length (query m)))
    (or_first (is_reserved (block_in 27 m)) (is_reserved (block_in 23 m)) (reserved_is (block_in 27 m) w.0 w.1 w.2))
bad_value m (inr (inl w)) = or_first (is_reserved (block_in 27 m) || is_reserved (block_in 23 m)) (nat_lt 64 (length (query m)))
    (or_second (is_reserved (block_in 27 m)) (is_reserved (block_in 23 m)) (reserved_is (block_in 23 m) w.0 w.1 w.2))
bad_value m (inr (inr long)) = or_second (is_reserved (block_in 27 m) || is_reserved (block_in 23 m)) (nat_lt 64 (length (query m)))
    (lt-ltb 64 (length (query m)) long)

not_long : (n : ℕ) → (64 < n → ⊥) → nat_lt 64 n ≡ false
not_long n none = le-ltb 64 n (elim (cases_lt 64 n) as (λ x. n ≤ 64) [ inl lt ↦ absurd (none lt) | inr le ↦ le ])

good_value : (m : Message) → (HasBadValue m → ⊥) → has_bad_value m ≡ false
good_value m none =
    or_neither (is_reserved (block_in 27 m) || is_reserved (block_in 23 m)) (nat_lt 64 (length (query m)))
    (or_neither (is_reserved (block_in 27 m)) (is_reserved (block_in 23 m)) (unreserved (block_in 27 m) (λ b is seven. none (inl (b, is, seven))))
    (unreserved (block_in 23 m) (λ b is seven. none (inr (inl (b, is, seven))))))
    (not_long (length (query m)) (λ long. none (inr (inr long))))

-- ---- verdicts

request_code : (c : ℕ) → 0 < c → c < 32 → is_request c ≡ true
request_code c some class = and_from (nat_lt 0 c) (nat_lt c 32) (lt-ltb 0 c some) (lt-ltb c 32 class)

judged_by : (m : Message) → IsRequest m → verdict m ≡ verdict_by_check m (refusal_code m)
unfolding verdict
judged_by m w = by w.kind
  where
    by : (m.kind ≡ Confirmable) ⊎ (m.kind ≡ NonConfirmable) → verdict_by m.kind m ≡ verdict_by_check m (refusal_code m)
    by (inl kind) = ap (λ (k : MessageType). verdict_by k m) kind ∙ ap (λ (b : Bool). if b then request_verdict m else IsReset)
        (request_code m.code w.some w.class)
    by (inr kind) = ap (λ (k : MessageType). verdict_by k m) kind ∙ ap (λ (b : Bool). if b then request_verdict m else IsIgnored)
        (request_code m.code w.some w.class)

other_code : (k : MessageType) (answer : ℕ) → (answer == 130) ≡ false → refusal_verdict k answer ≡ IsRefused answer
other_code Confirmable answer other = refl
other_code NonConfirmable answer other = ap (λ (b : Bool). if b then IsSilent else IsRefused answer) other
other_code Acknowledgement answer other = refl
other_code Reset answer other = refl

refused_by : (m : Message) (answer : ℕ) → IsRequest m → refusal_code m ≡ Some answer → (answer == 130) ≡ false → verdict m ≡ IsRefused answer
refused_by m answer w is other = judged_by m w ∙ (ap (verdict_by_check m) is ∙ other_code m.kind answer other)

pub by_proxy : (m : Message) → IsRequest m → NamesProxy m → verdict m ≡ IsRefused 165
by_proxy m w named = refused_by m 165 w (proxy_fails m (proxy_named m named)) refl

unknown_code : (m : Message) → (NamesProxy m → ⊥) → has_unknown_critical m.code None m.options ≡ true → refusal_code m ≡ Some 130
unknown_code m none unknown = unknown_fails m (proxy_unnamed m none) unknown

pub by_option : (m : Message) → IsRequest m → (NamesProxy m → ⊥) → m.kind ≡ Confirmable → has_unknown_critical m.code None m.options ≡ true
    → verdict m ≡ IsRefused 130
by_option m w none kind unknown = judged_by m w ∙ (ap (verdict_by_check m) (unknown_code m none unknown) ∙ ap (λ (k : MessageType). refusal_verdict k 130) kind)

pub in_silence : (m : Message) → IsRequest m → (NamesProxy m → ⊥) → m.kind ≡ NonConfirmable → has_unknown_critical m.code None m.options ≡ true
    → verdict m ≡ IsSilent
in_silence m w none kind unknown = judged_by m w ∙ (ap (verdict_by_check m) (unknown_code m none unknown)
    ∙ ap (λ (k : MessageType). refusal_verdict k 130) kind)

pub by_method : (m : Message) → IsRequest m → PassesOptions m → 4 < m.code → verdict m ≡ IsRefused 133
by_method m w passes high = refused_by m 133 w (method_fails m (known_of m passes) (no_method m.code (method_of m.code) refl high)) refl

pub by_path : (m : Message) → IsRequest m → PassesOptions m → m.code ≤ 4 → resource m ≡ None → verdict m ≡ IsRefused 132
by_path m w passes few none = let x = some_method m.code w.some few in refused_by m 132 w (path_fails m x.0 (known_of m passes) x.1 none) refl

pub by_service : (m : Message) (at : Resource) (method : Method) → IsRequest m → PassesOptions m → method_of m.code ≡ Some method → resource m ≡ Some at
    → action_of at method ≡ None → verdict m ≡ IsRefused 133
by_service m at method w passes is place none = refused_by m 133 w (service_fails m method at (known_of m passes) is place none) refl

pub by_value : (m : Message) (a : Action) → IsRequest m → PassesOptions m → action m ≡ Some a → HasBadValue m → verdict m ≡ IsRefused 128
by_value m a w passes is bad = let s = served_of m a passes is in refused_by m 128 w (value_fails m s.0 s.1 a s.2 (bad_value m bad)) refl

pub by_payload : (m : Message) (a : Action) → IsRequest m → PassesOptions m → action m ≡ Some a → (HasBadValue m → ⊥) → 1024 < length m.payload
    → verdict m ≡ IsRefused 141
by_payload m a w passes is good long = let s = served_of m a passes is in refused_by m 141 w (payload_fails m s.0 s.1 a s.2 (good_value m good)
    (lt-ltb 1024 (length m.payload) long)) refl

pub carried : (m : Message) (a : Action) → IsRequest m → PassesOptions m → action m ≡ Some a → (HasBadValue m → ⊥) → length m.payload ≤ 1024
    → (r : Asked) × (verdict m ≡ IsAsked r) × (r.action ≡ a)
carried m a w passes is good short =
    let s = served_of m a passes is in
    let one = asked_is m s.0 s.1 a s.2 in
    let none = none_fails m s.0 s.1 a s.2 (good_value m good) (le-ltb 1024 (length m.payload) short) in
    (_, judged_by m w ∙ (ap (verdict_by_check m) none ∙ ap accepted one), refl)

-- ---- messages that aren't requests

no_request : (c : ℕ) → (c ≡ 0) ⊎ (32 ≤ c) → is_request c ≡ false
no_request c (inl none) = ap is_request none
no_request c (inr high) = and_right (nat_lt 0 c) (nat_lt c 32) (le-ltb c 32 high)

pub is_rejected : (m : Message) → m.kind ≡ Confirmable → (m.code ≡ 0) ⊎ (32 ≤ m.code) → verdict m ≡ IsReset
unfolding verdict
is_rejected m kind code =
    ap (λ (k : MessageType). verdict_by k m) kind ∙ ap (λ (b : Bool). if b then request_verdict m else IsReset) (no_request m.code code)

pub is_ignored : (m : Message) → m.kind ≡ NonConfirmable → (m.code ≡ 0) ⊎ (32 ≤ m.code) → verdict m ≡ IsIgnored
unfolding verdict
is_ignored m kind code =
    ap (λ (k : MessageType). verdict_by k m) kind ∙ ap (λ (b : Bool). if b then request_verdict m else IsIgnored) (no_request m.code code)

-- an empty Acknowledgement or Reset message is a signal; one that isn't empty is ignored
pub acknowledged_by : (m : Message) (b : Bool) → (m.code == 0) ≡ b → m.kind ≡ Acknowledgement → verdict m ≡ (if b then IsSignal false else IsIgnored)
unfolding verdict
acknowledged_by m b empty kind = ap (λ (k : MessageType). verdict_by k m) kind ∙ ap (λ (x : Bool). if x then IsSignal false else IsIgnored) empty

pub reset_by : (m : Message) (b : Bool) → (m.code == 0) ≡ b → m.kind ≡ Reset → verdict m ≡ (if b then IsSignal true else IsIgnored)
unfolding verdict
reset_by m b empty kind = ap (λ (k : MessageType). verdict_by k m) kind ∙ ap (λ (x : Bool). if x then IsSignal true else IsIgnored) empty

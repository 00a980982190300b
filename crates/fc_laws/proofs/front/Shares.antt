-- At most as many exchanges are stored as the policy's limit, and of each address at most its
-- share.
use Rattle.std.proofs.Common.{◌≡◌, ℕ, suc, ◌+◌, ◌<◌, ◌≤◌, List, [], ◌∷◌, ◌++◌, Bool, true, false, cond, length, map, refl, sym, ap, ◌∙◌, subst, ⊎_elim, arith, max}
use Rattle.std.specs.Prelude.{filter, nat_eq, nat_lt}
use Rattle.std.specs.declared.cmp.Ordering.{Ordering}
use Rattle.std.specs.declared.cmp.Ordering.TheVariants.{Less, Equal, Greater}
use Rattle.std.specs.Ordering.{is_eq, nat_cmp}
use Rattle.std.specs.Cmp.Lexicographic.{pointwise, slice_cmp, texts_ties}
use Rattle.std.specs.FinMap.{nat_cmp-IsAntisymmetric, slice_cmp-IsAntisymmetric}
use Rattle.std.proofs.lemmas.Bool.{cases_lt, lt-ltb, le-ltb}
use Rattle.coap_msg.specs.Wire.{Message}
use Rattle.coap_dedup.specs.Exchanges.{Exchange, is_at, places_of, share_of}
use Rattle.fc_core.specs.declared.event.Event.{Event}
use Rattle.fc_core.specs.declared.event.Event.TheVariants.{Deliver}
use Rattle.fc_front.specs.declared.policy.Policy.{Policy}
use Rattle.fc_core.specs.History.{BeginsWith, Entry, History, Seen, Then, and_then, at_front, time_by, seen}
use Rattle.fc_front.specs.Policies.{default_policy}
use Rattle.fc_laws.specs.ExchangeLaws.{Arrival, ArrivesBy, ExceedsShare, Opens, arrival_of, arrivals, held_at, is_within, shared_at}
use Rattle.fc_laws.proofs.front.Repeats.{others_open_nothing, requests_open}
use Rattle.fc_laws.proofs.front.Moving.{time_rises}

-- ---- arrivals

abbrev lives : ℕ → Arrival → Bool
lives at a = nat_lt at (a.at + 247000)

abbrev is_of : List ℕ → Arrival → Bool
is_of ip a = pointwise nat_eq a.endpoint.ip ip

-- the number of arrivals that are less than a lifetime old.
abbrev count : ℕ → List Arrival → ℕ
count at xs = length (filter (lives at) xs)

-- the number of these arrivals from an address.
abbrev share : ℕ → List ℕ → List Arrival → ℕ
share at ip xs = length (filter (is_of ip) (filter (lives at) xs))

lives_mapped : (at : ℕ) (es : List Exchange) → filter (lives at) (map arrival_of es) ≡ map arrival_of (filter (is_within at) es)
lives_mapped at [] = refl
lives_mapped at (e ∷ es) = elim (is_within at e) as (λ b. cond b (arrival_of e ∷ filter (lives at) (map arrival_of es)) (filter (lives at) (map arrival_of es)) ≡ map arrival_of (cond b (e ∷ filter (is_within at) es) (filter (is_within at) es))) [
  | true ↦ ap (λ (l : List Arrival). arrival_of e ∷ l) (lives_mapped at es)
  | false ↦ lives_mapped at es
]

same_length : (es : List Exchange) → length (map arrival_of es) ≡ length es
same_length [] = refl
same_length (e ∷ es) = ap suc (same_length es)

of_mapped : (ip : List ℕ) (es : List Exchange) → length (filter (is_of ip) (map arrival_of es)) ≡ length (filter (is_at ip) es)
of_mapped ip [] = refl
of_mapped ip (e ∷ es) = elim (is_at ip e) as (λ b. length (cond b (arrival_of e ∷ filter (is_of ip) (map arrival_of es)) (filter (is_of ip) (map arrival_of es))) ≡ length (cond b (e ∷ filter (is_at ip) es) (filter (is_at ip) es))) [
  | true ↦ ap suc (of_mapped ip es)
  | false ↦ of_mapped ip es
]

count_is : (s : Seen) (at : ℕ) → count at (arrivals s) ≡ length (held_at s at)
count_is s at = ap length (lives_mapped at s.exchanges) ∙ same_length (filter (is_within at) s.exchanges)

share_is : (s : Seen) (at : ℕ) (ip : List ℕ) → share at ip (arrivals s) ≡ shared_at s at ip
share_is s at ip = ap (λ (l : List Arrival). length (filter (is_of ip) l)) (lives_mapped at s.exchanges) ∙ of_mapped ip (filter (is_within at) s.exchanges)

-- ---- as time passes, fewer are stored

cons_fewer : (b c : Bool) (n m : ℕ) → (b ≡ true → c ≡ true) → n ≤ m → cond b (suc n) n ≤ cond c (suc m) m
cons_fewer true true n m w le = omega (arith, le)
cons_fewer true false n m w le = absurd (cc (w refl))
cons_fewer false true n m w le = omega (arith, le)
cons_fewer false false n m w le = le

long_if : (b : Bool) (a : Arrival) (l : List Arrival) → length (cond b (a ∷ l) l) ≡ cond b (suc (length l)) (length l)
long_if true a l = refl
long_if false a l = refl

still_lives : (at later : ℕ) (a : Arrival) → at ≤ later → lives later a ≡ true → lives at a ≡ true
still_lives at later a le is = ⊎_elim
    (λ (lt : at < a.at + 247000). lt-ltb at (a.at + 247000) lt)
    (λ (past : a.at + 247000 ≤ at). let not = le-ltb later (a.at + 247000) (omega (arith, le, past)) in absurd (cc (is, not)))
    (cases_lt at (a.at + 247000))

count_falls : (at later : ℕ) (xs : List Arrival) → at ≤ later → count later xs ≤ count at xs
count_falls at later [] le = omega arith
count_falls at later (a ∷ xs) le =
    let more = cons_fewer (lives later a) (lives at a) (count later xs) (count at xs) (still_lives at later a le) (count_falls at later xs le) in
    let first = long_if (lives later a) a (filter (lives later) xs) in
    let two = long_if (lives at a) a (filter (lives at) xs) in
    omega (arith, more, first, two)

-- whether an arrival is less than a lifetime old and from this address.
abbrev both : ℕ → List ℕ → Arrival → Bool
both at ip a = cond (lives at a) (is_of ip a) false

share_step : (at : ℕ) (ip : List ℕ) (a : Arrival) (xs : List Arrival) → share at ip (a ∷ xs) ≡ cond (both at ip a) (suc (share at ip xs)) (share at ip xs)
share_step at ip a xs = elim (lives at a) as (λ b. length (filter (is_of ip) (cond b (a ∷ filter (lives at) xs) (filter (lives at) xs))) ≡ cond (cond b (is_of ip a) false) (suc (share at ip xs)) (share at ip xs)) [
  | true ↦ long_if (is_of ip a) a (filter (is_of ip) (filter (lives at) xs))
  | false ↦ refl
]

both_still : (at later : ℕ) (ip : List ℕ) (a : Arrival) → at ≤ later → both later ip a ≡ true → both at ip a ≡ true
both_still at later ip a le is = (elim (lives later a) as (λ b. lives later a ≡ b → cond b (is_of ip a) false ≡ true → both at ip a ≡ true) [
  | true ↦ λ live of. ap (λ (b : Bool). cond b (is_of ip a) false) (still_lives at later a le live) ∙ of
  | false ↦ λ dead of. absurd (cc of)
]) refl is

share_falls : (at later : ℕ) (ip : List ℕ) (xs : List Arrival) → at ≤ later → share later ip xs ≤ share at ip xs
share_falls at later ip [] le = omega arith
share_falls at later ip (a ∷ xs) le =
    let more = cons_fewer (both later ip a) (both at ip a) (share later ip xs) (share at ip xs) (both_still at later ip a le) (share_falls at later ip xs le) in
    let first = share_step later ip a xs in
    let two = share_step at ip a xs in
    omega (arith, more, first, two)

-- ---- one more

cond_plus : (b : Bool) (n k : ℕ) → cond b (suc (n + k)) (n + k) ≡ cond b (suc n) n + k
cond_plus true n k = omega arith
cond_plus false n k = refl

abbrev one : Bool → ℕ
one true = 1
one false = 0

one_of_both : (b c : Bool) → cond (cond b c false) (suc 0) 0 ≤ one c
one_of_both true true = omega arith
one_of_both true false = omega arith
one_of_both false c = omega arith

one_or_none : (b : Bool) (n : ℕ) → cond b (suc n) n ≤ n + 1
one_or_none true n = omega arith
one_or_none false n = omega arith

count_snoc : (at : ℕ) (xs : List Arrival) (a : Arrival) → count at (xs ++ a ∷ []) ≤ count at xs + 1
count_snoc at [] a = let long = long_if (lives at a) a [] in let few = one_or_none (lives at a) 0 in omega (arith, long, few)
count_snoc at (x ∷ xs) a =
    let rest = count_snoc at xs a in
    let more = cons_fewer (lives at x) (lives at x) (count at (xs ++ a ∷ [])) (count at xs + 1) (λ e. e) rest in
    let first = long_if (lives at x) x (filter (lives at) (xs ++ a ∷ [])) in
    let two = long_if (lives at x) x (filter (lives at) xs) in
    let moved = cond_plus (lives at x) (count at xs) 1 in
    omega (arith, more, first, two, moved)

share_snoc : (at : ℕ) (ip : List ℕ) (xs : List Arrival) (a : Arrival) → share at ip (xs ++ a ∷ []) ≤ share at ip xs + one (is_of ip a)
share_snoc at ip [] a =
    let step = share_step at ip a [] in
    let few = one_of_both (lives at a) (is_of ip a) in
    omega (arith, step, few)
share_snoc at ip (x ∷ xs) a =
    let rest = share_snoc at ip xs a in
    let n = share at ip xs in
    let k = one (is_of ip a) in
    let more = cons_fewer (both at ip x) (both at ip x) (share at ip (xs ++ a ∷ [])) (n + k) (λ e. e) rest in
    let first = share_step at ip x (xs ++ a ∷ []) in
    let two = share_step at ip x xs in
    let moved = cond_plus (both at ip x) n k in
    omega (arith, more, first, two, moved)

-- ---- an opening finds space

room_of : (s : Seen) (e : Event) → Opens s e → length (held_at s (time_by (at_front e) s)) < (places_of s.policy.limits)
room_of s (Deliver now to bytes) w = w.room
room_of s other w = absurd w

equal_of : (r : Ordering) → is_eq r ≡ true → r ≡ Equal
equal_of Less e = absurd (cc e)
equal_of Equal e = refl
equal_of Greater e = absurd (cc e)

same_address : (a b : List ℕ) → pointwise nat_eq a b ≡ true → a ≡ b
same_address a b is = slice_cmp-IsAntisymmetric nat_cmp-IsAntisymmetric a b (equal_of (slice_cmp nat_cmp a b) (sym (texts_ties a b) ∙ is))

share_room : (s : Seen) (e : Event) (a : Arrival) (ip : List ℕ) → Opens s e → ArrivesBy s e a → is_of ip a ≡ true → shared_at s (time_by (at_front e) s) ip < s.policy.limits.share
share_room s (Deliver now to bytes) a ip w by is =
    let own : to.ip ≡ ip = same_address to.ip ip (ap (λ (x : Arrival). is_of ip x) (sym by.arrival_is) ∙ is) in
    subst (λ (l : List ℕ). shared_at s (max s.time now) l < s.policy.limits.share) own w.share
share_room s other a ip w by is = absurd w

-- ---- each event keeps within the limits

count_after : (r : Entry) (s : Seen) (at : ℕ) → (and_then r s).time ≤ at → ((t : ℕ) → s.time ≤ t → count t (arrivals s) ≤ (places_of s.policy.limits)) → count at (arrivals (and_then r s)) ≤ (places_of s.policy.limits)
count_after r s at le held =
    let now = time_by (at_front r.event) s in
    let rises = time_rises s (at_front r.event) in
    ⊎_elim
    (λ (many : (places_of s.policy.limits) < count at (arrivals (and_then r s))).
    let not : Opens s r.event → ⊥ = λ w.
    (let one = requests_open r s w in
    let last = ap (count at) one.last in
    let snoc = count_snoc at (arrivals s) one.arrival in
    let falls = count_falls now at (arrivals s) le in
    let is = count_is s now in
    let room = room_of s r.event w in
    omega (arith, many, last, snoc, falls, is, room)) in
    let same = ap (count at) (others_open_nothing r s not) in
    let before = held at (omega (arith, le, rises)) in
    absurd (omega (arith, many, same, before)))
    (λ (few : count at (arrivals (and_then r s)) ≤ (places_of s.policy.limits)). few)
    (cases_lt (places_of s.policy.limits) (count at (arrivals (and_then r s))))

share_after : (r : Entry) (s : Seen) (at : ℕ) (ip : List ℕ) → (and_then r s).time ≤ at → ((t : ℕ) → s.time ≤ t → share t ip (arrivals s) ≤ s.policy.limits.share) → share at ip (arrivals (and_then r s)) ≤ s.policy.limits.share
share_after r s at ip le held =
    let now = time_by (at_front r.event) s in
    let rises = time_rises s (at_front r.event) in
    let before = held at (omega (arith, le, rises)) in
    ⊎_elim
    (λ (many : s.policy.limits.share < share at ip (arrivals (and_then r s))).
    let not : Opens s r.event → ⊥ = λ w.
    (let opens = requests_open r s w in
    let last = ap (share at ip) opens.last in
    let snoc = share_snoc at ip (arrivals s) opens.arrival in
    (elim (is_of ip opens.arrival) as (λ b. is_of ip opens.arrival ≡ b → share at ip (arrivals s ++ opens.arrival ∷ []) ≤ share at ip (arrivals s) + one b → ⊥) [
      | true ↦
          (λ of few.
          let falls = share_falls now at ip (arrivals s) le in
          let is = share_is s now ip in
          let room = share_room s r.event opens.arrival ip w opens.is of in
          omega (arith, many, last, few, falls, is, room))
      | false ↦ (λ of few. omega (arith, many, last, few, before))
    ]) refl snoc) in
    let same = ap (share at ip) (others_open_nothing r s not) in
    absurd (omega (arith, many, same, before)))
    (λ (few : share at ip (arrivals (and_then r s)) ≤ s.policy.limits.share). few)
    (cases_lt s.policy.limits.share (share at ip (arrivals (and_then r s))))

counts : (h : History) (at : ℕ) → (seen h).time ≤ at → count at (arrivals (seen h)) ≤ (places_of (seen h).policy.limits)
unfolding seen
counts (BeginsWith stored id policy) at le = omega arith
counts (Then h r) at le = count_after r (seen h) at le (counts h)

shares : (h : History) (at : ℕ) (ip : List ℕ) → (seen h).time ≤ at → share at ip (arrivals (seen h)) ≤ (seen h).policy.limits.share
unfolding seen
shares (BeginsWith stored id policy) at ip le = omega arith
shares (Then h r) at ip le = share_after r (seen h) at ip le (λ t. shares h t ip)

pub within_exchanges : (h : History) (at : ℕ) → (seen h).time ≤ at → length (held_at (seen h) at) ≤ (places_of (seen h).policy.limits)
within_exchanges h at le = let is = count_is (seen h) at in let few = counts h at le in omega (arith, is, few)

pub within_share : (h : History) (at : ℕ) (ip : List ℕ) → (seen h).time ≤ at → shared_at (seen h) at ip ≤ (seen h).policy.limits.share
within_share h at ip le = let is = share_is (seen h) at ip in let few = shares h at ip le in omega (arith, is, few)

-- ---- by default

share_few : (ip : List ℕ) (es : List Exchange) → share_of ip es ≤ length es
share_few ip [] = omega arith
share_few ip (e ∷ es) = let few = share_few ip es in elim (is_at ip e) as (λ b. length (cond b (e ∷ filter (is_at ip) es) (filter (is_at ip) es)) ≤ suc (length es)) [ true ↦ omega (arith, few) | false ↦ omega (arith, few) ]

pub none_above : (h : History) (e : Event) (m : Message) → (seen h).policy ≡ default_policy → ExceedsShare (seen h) e m → ⊥
none_above h (Deliver now to bytes) m is w =
    let s = seen h in
    let at = max s.time now in
    let over : 65536 ≤ shared_at s at to.ip = subst (λ (p : Policy). p.limits.share ≤ shared_at s at to.ip) is w.over in
    let few = share_few to.ip (held_at s at) in
    let within : length (held_at s at) ≤ 1024 = subst (λ (p : Policy). length (held_at s at) ≤ places_of p.limits) is (within_exchanges h at (omega arith)) in
    omega (arith, over, few, within)
none_above h other m is w = w

-- A request's region has its size, and contains the query and the payload.
use Rattle.std.proofs.Common.{◌≡◌, ℕ, ◌+◌, ◌-◌, ◌≤◌, List, [], ◌++◌, length, take, drop, refl, sym, ap, subst, ◌∙◌, arith, append_assoc}
use Rattle.std.specs.Prelude.{replicate, Option}
use Rattle.std.proofs.lemmas.List.{append-nil, drop-drop, drop-replicate, drop_all, drop_at, length-append, length-replicate, length-take-le, replicate-append-replicate, take_all, take_at}
use Rattle.std.proofs.Math.Seq.{drop-append_seam, take-append_seam}
use Rattle.std.specs.List.{refill}
use borrow.Rule.Slice.PartMut.{put_mid}
use Rattle.fc_help.specs.declared.request.Method.{Method}
use Rattle.fc_help.specs.Request.{Request}
use Rattle.fc_help.specs.Region.{region_head, padded, region_of, readings_region}
use Rattle.fc_help.specs.Layout.{FitsRegion, IsLaidOut, IsZeroFrom, part_at, read_from}

pub padded_size : (size : ℕ) (bytes : List ℕ) → length bytes ≤ size → length (padded size bytes) ≡ size
padded_size size bytes h =
    let zeros : List ℕ = replicate (size - length bytes) 0 in
    let a = length-append bytes zeros in
    let b : length zeros ≡ size - length bytes = length-replicate (size - length bytes) 0 in
    omega (arith, a, b, h)

pub refill_whole : (n : ℕ) (old new : List ℕ) → length new ≡ n → refill n old new ≡ new
refill_whole n old new size = take_at new (drop (length new) old) n size

-- bytes of which the first were overwritten, and then all others, are the new bytes
pub written_over : (old first last : List ℕ) (at : ℕ) → length first ≡ at → put_mid at (length (first ++ drop at old) - at) (first ++ drop at old) last ≡ first ++ last
written_over old first last at size =
    let rest : List ℕ = drop at old in
    let long = length-append first rest in
    let none : drop (length (first ++ rest) - at) (drop at (first ++ rest)) ≡ [] = ap (drop (length (first ++ rest) - at)) (drop_at first rest at size) ∙ drop_all (length (first ++ rest) - at) rest (omega (arith, long, size)) in
    (λ i. take_at first rest at size i ++ (last ++ none i)) ∙ ap (λ l. first ++ l) (append-nil last)

-- overwriting the first bytes doesn't change the others
pub others_kept : (old first : List ℕ) (at : ℕ) → length first ≡ at → take (length (first ++ drop at old) - at) (drop at (first ++ drop at old)) ≡ drop at old
others_kept old first at size =
    let rest : List ℕ = drop at old in
    let long = length-append first rest in
    ap (take (length (first ++ rest) - at)) (drop_at first rest at size) ∙ take_all (length (first ++ rest) - at) rest (omega (arith, long, size))

-- bytes that are zero from a place on are zero from any later place on
zero_further : (before at : ℕ) (room : List ℕ) → before ≤ at → IsZeroFrom before room → IsZeroFrom at room
zero_further before at room le zero =
    ap (λ n. drop n room) {x = at} {y = before + (at - before)} (omega (arith, le)) ∙ (sym (drop-drop (at - before) before room) ∙ (ap (drop (at - before)) zero ∙ (drop-replicate (at - before) (length room - before) 0 ∙ ap (λ n. replicate n 0) {x = length room - before - (at - before)} {y = length room - at} (omega (arith, le)))))

-- if the old bytes after a place are zero, overwriting the bytes before it by padded bytes pads
-- them to 1,024
pub padded_over : (room bytes first : List ℕ) (before at : ℕ) → length room ≡ 1024 → before ≤ at → length bytes ≤ at → at ≤ 1024 → IsZeroFrom before room → first ≡ padded at bytes → first ++ drop at room ≡ padded 1024 bytes
padded_over room bytes first before at size le fits few zero is =
    ap (λ l. l ++ drop at room) is ∙ (append_assoc bytes (replicate (at - length bytes) 0) (drop at room)
    ∙ ap (λ l. bytes ++ l) (ap (λ l. replicate (at - length bytes) 0 ++ l) (zero_further before at room le zero)
    ∙ (replicate-append-replicate (at - length bytes) (length room - at) 0 ∙ ap (λ n. replicate n 0) {x = at - length bytes + (length room - at)} {y = 1024 - length bytes} (omega (arith, size, fits, few)))))

pub region_size : (r : Request) → FitsRegion r → length (region_of r) ≡ 1104
unfolding region_of
region_size r fits =
    let a = length-append (padded 64 r.query) (padded 1024 r.payload) in
    let b : length (region_head r) ≡ 16 = refl in
    let c = padded_size 64 r.query fits.query in
    let d = padded_size 1024 r.payload fits.payload in
    let e = length-append (region_head r) (padded 64 r.query ++ padded 1024 r.payload) in
    omega (arith, a, b, c, d, e)

pub readings_size : (bytes : List ℕ) → length (readings_region bytes) ≡ 64
unfolding readings_region
readings_size bytes =
    let zeros : List ℕ = replicate 64 0 in
    let a = length-append bytes zeros in
    let b : length zeros ≡ 64 = refl in
    length-take-le 64 (bytes ++ zeros) (omega (arith, a, b))

-- 64 bytes of readings are laid out unchanged
pub readings_whole : (bytes : List ℕ) → length bytes ≡ 64 → readings_region bytes ≡ bytes
unfolding readings_region
readings_whole bytes e =
    let zeros : List ℕ = replicate 64 0 in
    ap (λ n. take n (bytes ++ zeros)) (sym e) ∙ take-append_seam bytes zeros

-- the part at the place of some bytes, with their length, is these bytes
part : (before bytes after : List ℕ) → part_at (before ++ (bytes ++ after)) (length before) (length bytes) ≡ bytes
part before bytes after = ap (take (length bytes)) (drop-append_seam before (bytes ++ after)) ∙ take-append_seam bytes after

pub query_back : (r : Request) → part_at (region_of r) 16 (length r.query) ≡ r.query
unfolding region_of
query_back r =
    let zeros : List ℕ = replicate (64 - length r.query) 0 in
    let rest : List ℕ = padded 1024 r.payload in
    let b : length (region_head r) ≡ 16 = refl in
    ap (λ m. part_at (region_head r ++ m) 16 (length r.query)) (append_assoc r.query zeros rest) ∙ part (region_head r) r.query (zeros ++ rest)

pub payload_back : (r : Request) → length r.query ≤ 64 → part_at (region_of r) 80 (length r.payload) ≡ r.payload
unfolding region_of
payload_back r q =
    let first : List ℕ = region_head r ++ padded 64 r.query in
    let zeros : List ℕ = replicate (1024 - length r.payload) 0 in
    let size : length first ≡ 80 = omega (arith, length-append (region_head r) (padded 64 r.query), padded_size 64 r.query q, (let b : length (region_head r) ≡ 16 = refl in b)) in
    ap (λ m. part_at m 80 (length r.payload)) (sym (append_assoc (region_head r) (padded 64 r.query) (padded 1024 r.payload)))
    ∙ ap (λ k. part_at (first ++ padded 1024 r.payload) k (length r.payload)) (sym size)
    ∙ part first r.payload zeros

pub laid_size : {m : Method} {s : ℕ} {f : Option ℕ} {q p : ℕ} {region : List ℕ} → IsLaidOut m s f q p region → length region ≡ 1104
laid_size {m} {s} {f} {q} {p} {region} h = ap length h.region_is ∙ region_size (read_from m s f q p region) h.fits

-- a region laid out for a request contains the request's parts
pub laid_out : (r : Request) (region : List ℕ) → FitsRegion r → region ≡ region_of r
    → (part_at region 16 (length r.query) ≡ r.query) × (part_at region 80 (length r.payload) ≡ r.payload)
laid_out r region fits e =
    (ap (λ m. part_at m 16 (length r.query)) e ∙ query_back r, ap (λ m. part_at m 80 (length r.payload)) e ∙ payload_back r fits.query)

-- a head and a padded query, followed by a padded payload, are the region of their request
pub region_parts : (r : Request) (first last region : List ℕ) → region ≡ first ++ last → first ≡ region_head r ++ padded 64 r.query → last ≡ padded 1024 r.payload → region ≡ region_of r
unfolding region_of
region_parts r first last region is start rest = is ∙ ((λ i. start i ++ rest i) ∙ append_assoc (region_head r) (padded 64 r.query) (padded 1024 r.payload))

-- the bytes of a region before the payload
pub region_start : (r : Request) → length r.query ≤ 64 → take 80 (region_of r) ≡ region_head r ++ padded 64 r.query
unfolding region_of
region_start r few =
    let long = length-append (region_head r) (padded 64 r.query) in
    let head : length (region_head r) ≡ 16 = refl in
    let wide = padded_size 64 r.query few in
    ap (take 80) (sym (append_assoc (region_head r) (padded 64 r.query) (padded 1024 r.payload))) ∙ take_at (region_head r ++ padded 64 r.query) (padded 1024 r.payload) 80 (omega (arith, long, head, wide))

payload_room : (r : Request) → length r.query ≤ 64 → drop 80 (region_of r) ≡ padded 1024 r.payload
unfolding region_of
payload_room r few =
    let long = length-append (region_head r) (padded 64 r.query) in
    let head : length (region_head r) ≡ 16 = refl in
    let wide = padded_size 64 r.query few in
    ap (drop 80) (sym (append_assoc (region_head r) (padded 64 r.query) (padded 1024 r.payload))) ∙ drop_at (region_head r ++ padded 64 r.query) (padded 1024 r.payload) 80 (omega (arith, long, head, wide))

zero_after : (bytes : List ℕ) (size : ℕ) → length bytes ≡ size → size ≤ 1024 → IsZeroFrom size (padded 1024 bytes)
zero_after bytes size is few =
    let whole = padded_size 1024 bytes (omega (arith, is, few)) in
    drop_at bytes (replicate (1024 - length bytes) 0) size is ∙ ap (λ n. replicate n 0) {x = 1024 - length bytes} {y = length (padded 1024 bytes) - size} (omega (arith, is, whole))

-- after a payload all bytes are zero
pub zero_behind : {m : Method} {s : ℕ} {f : Option ℕ} {q p : ℕ} {region : List ℕ} → IsLaidOut m s f q p region → (p ≤ 1024) × IsZeroFrom p (drop 80 region)
zero_behind {m} {s} {f} {q} {p} {region} h =
    let r = read_from m s f q p region in
    let few : p ≤ 1024 = let fits = h.fits.payload in let size = h.payload_is in omega (arith, fits, size) in
    (few, subst (IsZeroFrom p) (sym (ap (drop 80) h.region_is ∙ payload_room r h.fits.query)) (zero_after r.payload p h.payload_is few))

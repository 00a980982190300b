use Rattle.std.proofs.Common.{◌≡◌, ◌∙◌, ◌++◌, List, ℕ, drop, take, length, ap, subst, sym, arith}
use Rattle.std.proofs.lemmas.List.{length-take-le}
use Rattle.fc_help.specs.Layout.{IsZeroFrom}
use Rattle.fc_help.specs.Region.{padded, region_head}
use Rattle.fc_help.specs.Request.{Request}
use Rattle.fc_help.proofs.Laid.{others_kept, refill_whole, region_parts, region_size, region_start, written_over}
use Rattle.fc_help.proofs.request.copy_over.Goals as goal

-- 80 bytes are taken from each of two regions
both : (one other : List ℕ) → length one ≡ 1104 → length other ≡ 1104 → length (take 80 one) ≡ length (take 80 other)
both one other size same = length-take-le 80 one (omega (arith, size)) ∙ sym (length-take-le 80 other (omega (arith, same)))

-- the first 80 bytes of another region have their length
start_size : (first region : List ℕ) → length region ≡ 1104 → first ≡ take 80 region → length first ≡ 80
start_size first region size is = ap length is ∙ length-take-le 80 region (omega (arith, size))

pub copy_from_slice-requires : goal.copy_from_slice-requires
copy_from_slice-requires c = both c.as_mut_slice-bytes.result.now c.region.result.now (ap length c.as_mut_slice-bytes.ensures.value ∙ c.requires.size) c.region.ensures.size

pub write_payload-requires-clause-zeros : goal.write_payload-requires-clause-zeros
write_payload-requires-clause-zeros c =
    let bytes : List ℕ = c.as_mut_slice-bytes.result.now in
    let start = start_size c.copy_from_slice.new.self c.region.result.now c.region.ensures.size c.copy_from_slice.ensures.after in
    let zeros : IsZeroFrom c.args.before (drop 80 bytes) = subst (λ (l : List ℕ). IsZeroFrom c.args.before (drop 80 l)) (sym c.as_mut_slice-bytes.ensures.value) c.requires.zeros in
    subst (IsZeroFrom c.args.before) (sym (others_kept bytes c.copy_from_slice.new.self 80 start)) zeros

pub returns : goal.returns
returns c =
    let r : Request = c.args.other.now in
    let fits = c.region.ensures.fits in
    let first : List ℕ = c.copy_from_slice.new.self in
    let start = start_size first c.region.result.now c.region.ensures.size c.copy_from_slice.ensures.after in
    let head : first ≡ region_head r ++ padded 64 r.query = c.copy_from_slice.ensures.after ∙ (ap (take 80) c.region.ensures.region ∙ region_start r fits.query) in
    let last : c.write_payload.new.room ≡ padded 1024 r.payload = c.write_payload.ensures ∙ ap (padded 1024) c.payload.ensures.payload in
    let whole = region_parts r first c.write_payload.new.room _ (written_over c.as_mut_slice-bytes.result.now first c.write_payload.new.room 80 start) head last in
    refill_whole (length c.args.region.now.items) c.args.region.now.items _ (ap length whole ∙ (region_size r fits ∙ sym c.requires.size)) ∙ whole

pub slice_bounds-copy_from_slice-end-2 : goal.slice_bounds-copy_from_slice-end-2
slice_bounds-copy_from_slice-end-2 c =
    let size = ap length c.as_mut_slice-bytes.ensures.value ∙ c.requires.size in
    sym (length-take-le 80 c.as_mut_slice-bytes.result.now (omega (arith, size)))

pub slice_bounds-copy_from_slice-end-3 : goal.slice_bounds-copy_from_slice-end-3
slice_bounds-copy_from_slice-end-3 c =
    let size = c.region.ensures.size in
    sym (length-take-le 80 c.region.result.now (omega (arith, size)))

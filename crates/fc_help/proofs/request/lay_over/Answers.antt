use Rattle.std.proofs.Common.{◌≡◌, ◌∙◌, ◌++◌, ◌≤◌, List, ℕ, drop, length, ap, subst, sym, arith}
use Rattle.std.proofs.lemmas.List.{length-append, length-take-le}
use Rattle.fc_help.specs.Layout.{IsZeroFrom, request_with}
use Rattle.fc_help.specs.Region.{padded}
use Rattle.fc_help.specs.Request.{Request}
use Rattle.fc_help.proofs.Laid.{others_kept, padded_size, refill_whole, region_parts, region_size, written_over}
use Rattle.fc_help.proofs.request.lay_over.Goals as goal

pub slice_bounds-write_start-end-2 : goal.slice_bounds-write_start-end-2
slice_bounds-write_start-end-2 c =
    let size = ap length c.as_mut_slice-bytes.ensures.value ∙ c.requires.size in
    sym (length-take-le 80 c.as_mut_slice-bytes.result.now (omega (arith, size)))

pub write_start-requires-clause-room : goal.write_start-requires-clause-room
write_start-requires-clause-room c =
    let size = ap length c.as_mut_slice-bytes.ensures.value ∙ c.requires.size in
    length-take-le 80 c.as_mut_slice-bytes.result.now (omega (arith, size))

-- a head and a padded query have 80 bytes
start_size : (head query first : List ℕ) → length head ≡ 16 → length query ≤ 64 → first ≡ head ++ padded 64 query → length first ≡ 80
start_size head query first size few is =
    let long = length-append head (padded 64 query) in
    let wide = padded_size 64 query few in
    ap length is ∙ omega (arith, long, wide, size)

pub write_payload-requires-clause-zeros : goal.write_payload-requires-clause-zeros
write_payload-requires-clause-zeros c =
    let bytes : List ℕ = c.as_mut_slice-bytes.result.now in
    let start = start_size c.head-head.result c.args.query.now c.write_start.new.room (ap length c.head-head.ensures) c.requires.query c.write_start.ensures in
    let zeros : IsZeroFrom c.args.before (drop 80 bytes) = subst (λ (l : List ℕ). IsZeroFrom c.args.before (drop 80 l)) (sym c.as_mut_slice-bytes.ensures.value) c.requires.zeros in
    subst (IsZeroFrom c.args.before) (sym (others_kept bytes c.write_start.new.room 80 start)) zeros

pub returns : goal.returns
returns c =
    let r : Request = request_with c.args.method c.args.slot c.args.content_format c.args.query.now c.args.payload.now in
    let start = start_size c.head-head.result c.args.query.now c.write_start.new.room (ap length c.head-head.ensures) c.requires.query c.write_start.ensures in
    let whole = region_parts r c.write_start.new.room c.write_payload.new.room _ (written_over c.as_mut_slice-bytes.result.now c.write_start.new.room c.write_payload.new.room 80 start)
    (c.write_start.ensures ∙ ap (λ (h : List ℕ). h ++ padded 64 c.args.query.now) c.head-head.ensures) c.write_payload.ensures in
    refill_whole (length c.args.region.now.items) c.args.region.now.items _ (ap length whole ∙ (region_size r (record { query = c.requires.query; payload = c.requires.payload }) ∙ sym c.requires.size)) ∙ whole

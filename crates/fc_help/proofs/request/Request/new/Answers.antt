use Rattle.std.proofs.Common.{length, refl, ap, ◌∙◌, arith}
use Rattle.fc_help.specs.Request.{Request}
use Rattle.fc_help.specs.Layout.{FitsRegion, request_with}
use Rattle.fc_help.proofs.Laid.{laid_out}
use Rattle.fc_help.proofs.request.Request.new.Goals as goal

pub invariant_of-result : goal.invariant_of-result
invariant_of-result c =
    let r : Request = request_with c.args.method c.args.slot c.args.content_format c.args.query.now c.args.payload.now in
    let fits : FitsRegion r = record { query = c.requires.query; payload = c.requires.payload } in
    let back = laid_out r c.lay_out.new.region.items fits c.lay_out.ensures in
    record {
      region_is = c.lay_out.ensures ∙ rw (back.0, back.1) refl;
      fits = record { query = omega (arith, ap length back.0, c.requires.query); payload = omega (arith, ap length back.1, c.requires.payload) };
      query_is = ap length back.0;
      payload_is = ap length back.1;
    }

pub returns : goal.returns
returns c =
    let r : Request = request_with c.args.method c.args.slot c.args.content_format c.args.query.now c.args.payload.now in
    let back = laid_out r c.lay_out.new.region.items (record { query = c.requires.query; payload = c.requires.payload }) c.lay_out.ensures in
    rw (back.0, back.1) refl

use Rattle.std.proofs.Common.{ℕ, drop, length, refl, ap, sym, subst, ◌∙◌, arith}
use Rattle.fc_help.specs.Request.{Request}
use Rattle.fc_help.specs.Layout.{FitsRegion, IsZeroFrom, request_with}
use Rattle.fc_help.proofs.Laid.{laid_out, laid_size, zero_behind}
use Rattle.fc_help.proofs.request.Request.write.Goals as goal

pub lay_over-requires-clause-size : goal.lay_over-requires-clause-size
lay_over-requires-clause-size c = laid_size c.self.invariant

pub lay_over-requires-clause-before : goal.lay_over-requires-clause-before
lay_over-requires-clause-before c = let few = (zero_behind c.self.invariant).0 in let same = c.from.ensures in omega (arith, few, same)

pub lay_over-requires-clause-zeros : goal.lay_over-requires-clause-zeros
lay_over-requires-clause-zeros c = subst (λ (n : ℕ). IsZeroFrom n (drop 80 c.self.inside.region.items)) (sym c.from.ensures) (zero_behind c.self.invariant).1

pub invariant_of-self : goal.invariant_of-self
invariant_of-self c =
    let r : Request = request_with c.args.method c.args.slot c.args.content_format c.args.query.now c.args.payload.now in
    let fits : FitsRegion r = record { query = c.requires.query; payload = c.requires.payload } in
    let back = laid_out r c.lay_over.new.region.items fits c.lay_over.ensures in
    record {
      region_is = c.lay_over.ensures ∙ rw (back.0, back.1) refl;
      fits = record { query = omega (arith, ap length back.0, c.requires.query); payload = omega (arith, ap length back.1, c.requires.payload) };
      query_is = ap length back.0;
      payload_is = ap length back.1;
    }

pub returns : goal.returns
returns c =
    let r : Request = request_with c.args.method c.args.slot c.args.content_format c.args.query.now c.args.payload.now in
    let back = laid_out r c.lay_over.new.region.items (record { query = c.requires.query; payload = c.requires.payload }) c.lay_over.ensures in
    rw (back.0, back.1) refl

use Rattle.std.proofs.Common.{◌≡◌, ◌++◌, List, ℕ, ap, ◌∙◌, append_assoc, rules}
use Rattle.fc_help.specs.Request.{Request}
use Rattle.fc_help.specs.Layout.{request_with}
use Rattle.fc_help.specs.Region.{region_head, padded, region_of}
use Rattle.fc_help.proofs.request.lay_out.Goals as goal

-- the region is the head, the query and the payload
region_is : (r : Request) (first second region : List ℕ) → first ≡ region_head r → second ≡ first ++ padded 64 r.query → region ≡ second ++ padded 1024 r.payload → region ≡ region_of r
unfolding region_of
region_is r first second region e f g =
    g ∙ ap (λ m. m ++ padded 1024 r.payload) (f ∙ ap (λ m. m ++ padded 64 r.query) e) ∙ append_assoc (region_head r) (padded 64 r.query) (padded 1024 r.payload)

pub returns : goal.returns
returns c =
    let r : Request = request_with c.args.method c.args.slot c.args.content_format c.args.query.now c.args.payload.now in
    let first : c.try_extend_from_slice-fits.new.self.items ≡ region_head r = search rules in
    region_is r c.try_extend_from_slice-fits.new.self.items c.put_padded.new.region.items c.put_padded-2.new.region.items first c.put_padded.ensures c.put_padded-2.ensures

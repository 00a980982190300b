use Rattle.std.proofs.Common.{◌≡◌, ◌-◌, ◌++◌, length, ap, ◌∙◌, append_assoc, rules, arith}
use Rattle.std.specs.Prelude.{replicate, take}
use Rattle.std.proofs.lemmas.List.{take-replicate}
use Rattle.fc_help.proofs.request.put_padded.Goals as goal

pub returns : goal.returns
returns c =
    let first : c.try_extend_from_slice-fits.new.self.items ≡ c.args.region.now.items ++ c.args.bytes.now = search rules in
    let zeros : take (c.args.size - length c.args.bytes.now) (replicate 1024 0) ≡ replicate (c.args.size - length c.args.bytes.now) 0 = take-replicate (c.args.size - length c.args.bytes.now) 1024 0 (omega (arith, c.requires.size)) in
    let second : c.try_extend_from_slice-fits-2.new.self.items ≡ c.try_extend_from_slice-fits.new.self.items ++ take (c.args.size - length c.args.bytes.now) (replicate 1024 0) = search rules in
    second ∙ ap (λ m. m ++ take (c.args.size - length c.args.bytes.now) (replicate 1024 0)) first ∙ ap (λ z. (c.args.region.now.items ++ c.args.bytes.now) ++ z) zeros
    ∙ append_assoc c.args.region.now.items c.args.bytes.now (replicate (c.args.size - length c.args.bytes.now) 0)

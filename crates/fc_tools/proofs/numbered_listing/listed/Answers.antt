use Rattle.std.proofs.Common.{◌≡◌, [], ◌∷◌, IfOk, string_bytes, append-nil, subst}
use Rattle.fc_isa.specs.declared.insn.Insn.{Insn}
use Rattle.fc_isa.specs.declared.insn.Insn.TheVariants.{WideSecond}
use Rattle.fc_asm.specs.Listing.{line_of, listing}
use Rattle.fc_tools.proofs.numbered_listing.listed.Goals as goal

listing_one : (insn : Insn) → listing (insn ∷ []) ≡ line_of insn
unfolding listing
listing_one insn = append-nil (line_of insn)

listing_wide : (insn : Insn) → listing (insn ∷ WideSecond ∷ []) ≡ line_of insn
unfolding listing
listing_wide insn = append-nil (line_of insn)

pub returns-in-LoadWide : goal.returns-in-LoadWide
returns-in-LoadWide c = subst (λ t. IfOk c.disassemble.result (λ s. string_bytes s ≡ t)) (listing_wide c.args.insn) c.disassemble.ensures

pub returns-in_default : goal.returns-in_default
returns-in_default c = subst (λ t. IfOk c.disassemble-in_default.result (λ s. string_bytes s ≡ t)) (listing_one c.args.insn) c.disassemble-in_default.ensures

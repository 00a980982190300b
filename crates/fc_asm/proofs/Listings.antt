-- A disassembly, instruction by instruction.
use Rattle.std.proofs.Common.{◌≡◌, Some, None, ℕ, ◌+◌, ◌<◌, List, [], ◌∷◌, ◌++◌, length, take, get_or, refl, sym, ap, ◌∙◌}
use Rattle.std.proofs.lemmas.List.{take_more, flat_map_more}
use Rattle.fc_isa.specs.declared.insn.Insn.{Insn}
use Rattle.fc_asm.specs.declared.mnemonic.Mnemonic.{Mnemonic}
use Rattle.fc_asm.specs.Names.{Text}
use Rattle.fc_asm.specs.Listing.{mnemonic_of, operands_of, line, line_if, line_of, listing}

pub listing_none : listing [] ≡ []
unfolding listing
listing_none = refl

pub listing_more : (p : List Insn) (i : ℕ) (x : Insn) → i < length p → x ≡ get_or p i x → listing (take (i + 1) p) ≡ listing (take i p) ++ line_of x
unfolding listing
listing_more p i x h e = ap listing (take_more p i x h ∙ ap (λ y. take i p ++ y ∷ []) (sym e)) ∙ sym (flat_map_more line_of [] (take i p) x)

-- an instruction with a mnemonic has a line; an instruction without one has no line
pub line_shown : (i : Insn) (m : Mnemonic) (operands : List Text) → mnemonic_of i ≡ Some m → operands ≡ operands_of i → line m operands ≡ line_of i
line_shown i m operands e o = ap (line m) o ∙ ap (λ n. line_if n (operands_of i)) (sym e)

pub line_none : (i : Insn) → mnemonic_of i ≡ None → line_of i ≡ []
line_none i e = ap (λ n. line_if n (operands_of i)) e

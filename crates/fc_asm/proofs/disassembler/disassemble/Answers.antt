use Rattle.std.proofs.Common.{◌≡◌, ◌++◌, ap, sym, ◌∙◌, string_bytes, arith, append-nil}
use Rattle.fc_asm.specs.Listing.{line_of}
use Rattle.fc_asm.proofs.Listings.{listing_none, listing_more, line_shown, line_none}
use Rattle.fc_asm.proofs.disassembler.disassemble.Goals as goal
use Rattle.fc_asm.proofs.disassembler.disassemble.Goals.{in-Some+in_ok-write, in_default}

pub loop-insn-init : goal.loop-insn-init
loop-insn-init c = c.new-text.ensures.bytes ∙ sym listing_none

pub loop-insn-preserved : goal.loop-insn-preserved
loop-insn-preserved c =
    let wrote : string_bytes c.match-mnemonic.text ≡ string_bytes c.loop-insn.text ++ line_of c.insn-item.result =
    elim c.match-mnemonic.branch [
      | in-Some+in_ok-write w ↦ ap string_bytes w.text-is ∙ w.in_ok-write.ensures.bytes ∙ ap (λ l. string_bytes c.loop-insn.text ++ l) (line_shown c.insn-item.result w.in-Some.mnemonic _ (sym c.mnemonic.ensures ∙ w.in-Some.is) w.shown_operands.ensures)
      | in_default w ↦ ap string_bytes w.text-is ∙ sym (append-nil _) ∙ ap (λ l. string_bytes c.loop-insn.text ++ l) (sym (line_none c.insn-item.result (sym c.mnemonic.ensures ∙ w.in_default.is)))
    ] in
    wrote ∙ ap (λ t. t ++ line_of c.insn-item.result) c.loop-insn.invariant ∙ sym (listing_more c.args.program.now c.loop-insn.insn-index c.insn-item.result (omega arith) c.insn-item.is)

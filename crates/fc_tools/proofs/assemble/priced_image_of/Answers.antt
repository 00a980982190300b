use Rattle.std.proofs.Common.{◌≡◌, ◌++◌, ℕ, List, None, ap, ◌∙◌, subst}
use Rattle.std.proofs.lemmas.Result.{IfOk-weaker}
use Rattle.fc_asm.specs.Assembled.{IsAssembled}
use Rattle.fc_asm.specs.Syntax.{lines_of}
use Rattle.fc_image.specs.Head.{Head}
use Rattle.fc_image.specs.Written.{head_bytes, limit_fault}
use Rattle.fc_image.specs.Paths.{IsLongest}
use Rattle.fc_isa.specs.Encoding.{encoded}
use Rattle.fc_isa.specs.declared.insn.Insn.{Insn}
use Rattle.fc_isa.specs.declared.version.ImageVersion.{ImageVersion}
use Rattle.fc_tools.specs.Tools.{IsPricedImageOf, program_head}
use Rattle.fc_tools.proofs.assemble.priced_image_of.Goals as goal

priced : (text image : List ℕ) (vars : ℕ) (version : ImageVersion) (program : List Insn) (h : Head) → IsAssembled (lines_of text) program
    → h ≡ program_head vars h.budget version program → limit_fault h ≡ None
    → IsLongest version program h.budget → image ≡ head_bytes h ++ encoded program → IsPricedImageOf text vars version image
priced text image vars version program h assembled is limits cost bytes = record {
  budget = h.budget;
  image_is = record {
    program = program;
    assembled = assembled;
    limits = subst (λ x. limit_fault x ≡ None) is limits;
    bytes_are = bytes ∙ ap (λ x. head_bytes x ++ encoded program) is;
  };
  cost = cost;
}

pub returns : goal.returns
returns c =
    let program = c.in_ok-program.program.items in
    let h = c.in_ok-head.head in
    let is = rw c.deref.ensures.value at c.in_ok-head.ensures.head in
    IfOk-weaker c.image_with.result (λ v. v.items ≡ head_bytes h ++ encoded program) (λ v. IsPricedImageOf c.args.text.now c.args.vars_size c.args.version v.items)
    (λ v bytes. priced c.args.text.now v.items c.args.vars_size c.args.version program h c.in_ok-program.ensures.program is.0 is.1 (rw c.deref.ensures.value at c.in_ok-head.ensures.cost) bytes)
    (rw c.deref-2.ensures.value at c.image_with.ensures)

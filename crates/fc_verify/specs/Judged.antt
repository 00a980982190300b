-- The judgement of an image as a function. A law states that it is right, by the relations of
-- Accepted.
use Rattle.std.specs.Prelude.{ℕ, Bool, true, false, List, Option, Some, None}
use Rattle.fc_isa.specs.declared.insn.Insn.{Insn}
use Rattle.fc_isa.specs.declared.rule.Rule.{Rule}
use Rattle.fc_isa.specs.Encoding.{first_fault, decoded_program}
use Rattle.fc_image.specs.Head.{head_fault, stated}
use Rattle.fc_image.specs.Paths.{longest}
use Rattle.fc_image.specs.ShapeRules.{shape_fault}
use Rattle.fc_kinds.specs.Meaning.{Program}
use Rattle.fc_verify.specs.Accepted.{Judgement, Accepts, Breaks, Untypable, slots_of}
use Rattle.fc_verify.specs.Pass.{is_typable}

-- the program that an image's slots encode, if they encode one.
abbrev pub code_in : List ℕ → List Insn
code_in image = decoded_program (slots_of image)

-- the program of an image whose header and slots break no rule.
abbrev pub program_in : List ℕ → Program
program_in image = record {
  version = (stated image).version;
  code = code_in image;
  vars_size = (stated image).vars_size;
  budget = (stated image).budget;
  cost = longest (stated image).version (code_in image);
}

abbrev pub by_typing : Bool → List ℕ → Judgement
by_typing true image = Accepts (program_in image)
by_typing false image = Untypable

abbrev pub by_shape : Option (ℕ × Rule) → List ℕ → Judgement
by_shape (Some (slot, rule)) image = Breaks rule slot
by_shape None image = by_typing (is_typable (stated image).version (stated image).vars_size (code_in image)) image

abbrev pub by_slots : Option (ℕ × Rule) → List ℕ → Judgement
by_slots (Some (slot, rule)) image = Breaks rule slot
by_slots None image = by_shape (shape_fault (stated image) (code_in image)) image

abbrev pub by_head : Option Rule → List ℕ → Judgement
by_head (Some rule) image = Breaks rule 0
by_head None image = by_slots (first_fault (slots_of image)) image

-- the header's rules come first, then those of the slots, of the control flow, and of the typing.
unfoldable pub judged : List ℕ → Judgement
judged image = by_head (head_fault image) image

-- The results of the tools for a source and for an image.
use Rattle.std.specs.Prelude.{◌≡◌, ℕ, ◌++◌, List, length, drop, codes, Option, Some, None}
use Rattle.fc_isa.specs.declared.insn.Insn.{Insn}
use Rattle.fc_isa.specs.Encoding.{Spells, encoded}
use Rattle.fc_isa.specs.declared.version.ImageVersion.{ImageVersion}
use Rattle.fc_isa.specs.declared.version.ImageVersion.TheVariants.{One, Two}
use Rattle.fc_image.specs.Head.{head_fault, Head}
use Rattle.fc_image.specs.Written.{head_bytes, limit_fault}
use Rattle.fc_image.specs.Paths.{IsLongest}
use Rattle.fc_asm.specs.Syntax.{lines_of}
use Rattle.fc_asm.specs.Assembled.{IsAssembled}
use Rattle.fc_asm.specs.Listing.{listing}
use Rattle.fc_tools.specs.Numbered.{numbered_from}

-- the header of a program.
abbrev pub program_head : ℕ → ℕ → ImageVersion → List Insn → Head
program_head vars_size budget version program = record { version = version; vars_size = vars_size; count = length program; budget = budget }

-- the version that a word names, if it names one; without a word, version 1.
abbrev pub NamesVersion : Option (List ℕ) → ImageVersion → Type 0
NamesVersion None One = Unit {0}
NamesVersion (Some word) One = word ≡ codes "1"
NamesVersion (Some word) Two = word ≡ codes "2"
NamesVersion word version = ⊥

-- the source is assembled into a program, and the image consists of its header and its slots.
pub record IsImageOf (text : List ℕ) (vars_size budget : ℕ) (version : ImageVersion) (image : List ℕ) : Type 0 where
  pub program : List Insn
  pub assembled : IsAssembled (lines_of text) program
  pub limits : limit_fault (program_head vars_size budget version program) ≡ None
  pub bytes_are : image ≡ head_bytes (program_head vars_size budget version program) ++ encoded program

-- the image is that of the source, and its budget is the number of steps on the program's longest
-- path.
pub record IsPricedImageOf (text : List ℕ) (vars_size : ℕ) (version : ImageVersion) (image : List ℕ) : Type 0 where
  pub budget : ℕ
  pub image_is : IsImageOf text vars_size budget version image
  pub cost : IsLongest version image_is.program budget

-- the image's slots encode a program, and the text is its disassembly.
pub record IsListingOf (image text : List ℕ) : Type 0 where
  pub head : head_fault image ≡ None
  pub program : List Insn
  pub spelled : Spells (drop 16 image) program
  pub listed : text ≡ listing program

-- the image's slots encode a program, and the text is its disassembly with slot numbers.
pub record IsNumberedListingOf (image text : List ℕ) : Type 0 where
  pub head : head_fault image ≡ None
  pub program : List Insn
  pub spelled : Spells (drop 16 image) program
  pub listed : text ≡ numbered_from 0 program

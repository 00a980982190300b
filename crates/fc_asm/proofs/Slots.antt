-- The meaning of lines is a program: no line means the second half of a wide load alone.
use Rattle.std.proofs.Common.{◌≡◌, Bool, true, false, Option, Some, None, Ok, Err, List, [], ◌∷◌, ◌++◌, refl, sym, ap, ◌∙◌}
use Rattle.std.specs.List.{flat_map}
use Rattle.fc_isa.specs.declared.insn.Insn.{Insn}
use Rattle.fc_isa.specs.declared.insn.Insn.TheVariants.{WideSecond, Exit}
use Rattle.fc_isa.specs.Program.{is_program}
use Rattle.fc_asm.specs.declared.mnemonic.Mnemonic.{Mnemonic}
use Rattle.fc_asm.specs.declared.mnemonic.Mnemonic.TheVariants as mnemonic
use Rattle.fc_asm.specs.Names.{Text, mnemonic_named}
use Rattle.fc_asm.specs.Operands.{Reading, map_ok, if_ok}
use Rattle.fc_asm.specs.Syntax.{one_of, two_of, three_of, insn_from, named, meaning, line_meaning, words_of}
use Rattle.fc_asm.specs.Assembled.{as_slots, slots_in, line_slots}

-- the instruction may be the first slot of a line: a second half may not
abbrev leads : Insn → Bool
leads WideSecond = false
leads other = true

made : {A : Type 0} (make : A → Insn) (r : Reading A) (i : Insn) → ((a : A) → leads (make a) ≡ true) → map_ok make r ≡ Ok i → leads i ≡ true
made make (Ok a) i h e = let same : make a ≡ i = cc e in ap leads (sym same) ∙ h a
made make (Err m) i h e = absurd (cc e)

read_then : {A : Type 0} (r : Reading A) (f : A → Reading Insn) (i : Insn) → ((a : A) → f a ≡ Ok i → leads i ≡ true) → if_ok r f ≡ Ok i → leads i ≡ true
read_then (Ok a) f i h e = h a e
read_then (Err m) f i h e = absurd (cc e)

none_leads : (operands : List Text) (i : Insn) → insn_from mnemonic.Exit operands ≡ Ok i → leads i ≡ true
none_leads [] i e = let same : Exit ≡ i = cc e in ap leads (sym same)
none_leads (a ∷ more) i e = absurd (cc e)

insn_leads : (m : Mnemonic) (operands : List Text) (i : Insn) → insn_from m operands ≡ Ok i → leads i ≡ true
insn_leads (mnemonic.Alu op width) ops i e = read_then (two_of ops) _ i (λ ws. made _ _ i (λ a. refl)) e
insn_leads (mnemonic.Unary op) ops i e = read_then (one_of ops) _ i (λ ws. made _ _ i (λ a. refl)) e
insn_leads (mnemonic.SignExtend width) ops i e = read_then (three_of ops) _ i (λ ws. made _ _ i (λ a. refl)) e
insn_leads mnemonic.LoadWide ops i e = read_then (two_of ops) _ i (λ ws. made _ _ i (λ a. refl)) e
insn_leads (mnemonic.Load loaded) ops i e = read_then (three_of ops) _ i (λ ws. made _ _ i (λ a. refl)) e
insn_leads (mnemonic.StoreImm size) ops i e = read_then (three_of ops) _ i (λ ws. made _ _ i (λ a. refl)) e
insn_leads (mnemonic.Store size) ops i e = read_then (three_of ops) _ i (λ ws. made _ _ i (λ a. refl)) e
insn_leads mnemonic.JumpAlways ops i e = read_then (one_of ops) _ i (λ ws. made _ _ i (λ a. refl)) e
insn_leads mnemonic.JumpAlwaysLong ops i e = read_then (one_of ops) _ i (λ ws. made _ _ i (λ a. refl)) e
insn_leads (mnemonic.JumpIf relation width) ops i e = read_then (three_of ops) _ i (λ ws. made _ _ i (λ a. refl)) e
insn_leads mnemonic.CallHelper ops i e = read_then (one_of ops) _ i (λ ws. made _ _ i (λ a. refl)) e
insn_leads mnemonic.CallLocal ops i e = read_then (one_of ops) _ i (λ ws. made _ _ i (λ a. refl)) e
insn_leads mnemonic.Exit ops i e = none_leads ops i e

some_leads : (m : Mnemonic) (ops : List Text) (r : Reading Insn) (i : Insn) → insn_from m ops ≡ r → map_ok (λ j. Some j) r ≡ Ok (Some i) → leads i ≡ true
some_leads m ops (Ok j) i e h = insn_leads m ops i (e ∙ cc h)
some_leads m ops (Err x) i e h = absurd (cc h)

named_leads : (o : Option Mnemonic) (ops : List Text) (i : Insn) → named o ops ≡ Ok (Some i) → leads i ≡ true
named_leads None ops i h = absurd (cc h)
named_leads (Some m) ops i h = some_leads m ops (insn_from m ops) i refl h

meaning_leads : (ws : List Text) (i : Insn) → meaning ws ≡ Ok (Some i) → leads i ≡ true
meaning_leads [] i h = absurd (cc h)
meaning_leads (name ∷ ops) i h = named_leads (mnemonic_named name) ops i h

slots_program : (i : Insn) (p : List Insn) → leads i ≡ true → is_program (as_slots i ++ p) ≡ is_program p
slots_program WideSecond p h = absurd (cc h)
slots_program other p h = refl

line_program : (r : Reading (Option Insn)) (p : List Insn) → ((i : Insn) → r ≡ Ok (Some i) → leads i ≡ true) → is_program (slots_in r ++ p) ≡ is_program p
line_program (Ok None) p h = refl
line_program (Ok (Some i)) p h = slots_program i p (h i refl)
line_program (Err m) p h = refl

line_slots_program : (line : Text) (p : List Insn) → is_program (line_slots line ++ p) ≡ is_program p
unfolding line_meaning
line_slots_program line p = line_program (line_meaning line) p (meaning_leads (words_of line))

-- the slots of all lines are a program
pub lines_program : (lines : List Text) → is_program (flat_map line_slots lines) ≡ true
lines_program [] = refl
lines_program (line ∷ lines) = line_slots_program line (flat_map line_slots lines) ∙ lines_program lines

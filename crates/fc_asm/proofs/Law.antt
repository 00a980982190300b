-- Assembling a program's disassembly gives the program.
use Rattle.std.proofs.Common.{◌≡◌, ℕ, zero, suc, ◌+◌, ◌<◌, Bool, true, false, not, Some, None, Ok, List, [], ◌∷◌, ◌++◌, length, lit<, refl, sym, ap, subst, ◌∙◌, arith, append_assoc}
use Rattle.std.specs.Prelude.{All, ◌==◌, pos, codes}
use Rattle.std.specs.Fmt.{signed_decimal}
use Rattle.std.specs.List.{flat_map, list_all, prefix_len, position_or_len, slice_split}
use Rattle.std.proofs.lemmas.Bool.{and_parts, and_from, cond-true}
use Rattle.std.proofs.lemmas.List.{take_all}
use Rattle.fc_isa.specs.declared.insn.Insn.{Insn}
use Rattle.fc_isa.specs.declared.insn.Insn.TheVariants.{Alu, Unary, SignExtend, LoadWide, WideSecond, Load, StoreImm, Store, JumpAlways, JumpAlwaysLong, JumpIf, CallHelper, CallLocal, Exit}
use Rattle.fc_isa.specs.declared.insn.SignExtension.{SignExtension}
use Rattle.fc_isa.specs.declared.insn.SignExtension.TheVariants.{Byte, HalfWord, Word}
use Rattle.fc_isa.specs.Encoding.{extended_bits, extended_width}
use Rattle.fc_isa.specs.Program.{IsInsn, is_program}
use Rattle.fc_asm.specs.declared.mnemonic.Mnemonic.{Mnemonic}
use Rattle.fc_asm.specs.declared.mnemonic.Mnemonic.TheVariants as mnemonic
use Rattle.fc_asm.specs.Names.{Text, name_of}
use Rattle.fc_asm.specs.Operands.{Reading, map_ok, if_ok, both_of, extended, extension_from}
use Rattle.fc_asm.specs.Listing.{register, operands_of, rest_of_line, line, line_of, listing}
use Rattle.fc_asm.specs.Syntax.{lines_of, before_comment, split_words, words_of, named, insn_from, meaning, line_meaning}
use Rattle.fc_asm.specs.Assembled.{as_slots, slots_in, line_slots, mistake_in}
use Rattle.fc_asm.proofs.Listed.{is_plain, is_word, are_words, joined, word_lacks, list_all-append, split_at, parts_last, parts_space, parts_joined}
use Rattle.fc_asm.proofs.Named.{named_name}
use Rattle.fc_asm.proofs.Operands.{register_means, target_means, imm_means, offset_means, wide_means, operand_means}

-- ---- an instruction's printed operands mean that instruction

one_means : {A : Type 0} (make : A → Insn) (r : Reading A) (a : A) → r ≡ Ok a → map_ok make r ≡ Ok (make a)
one_means make r a e = ap (map_ok make) e

two_mean : {A B : Type 0} (make : A → B → Insn) (r : Reading A) (s : Reading B) (a : A) (b : B) → r ≡ Ok a → s ≡ Ok b → map_ok (λ (p : A × B). make p.0 p.1) (both_of r s) ≡ Ok (make a b)
two_mean {A} {B} make r s a b e f = ap (λ x. map_ok (λ (p : A × B). make p.0 p.1) (both_of x s)) e ∙ ap (λ y. map_ok (λ (p : A × B). make p.0 p.1) (both_of (Ok a) y)) f

three_mean : {A B C : Type 0} (make : A → B → C → Insn) (r : Reading A) (s : Reading B) (t : Reading C) (a : A) (b : B) (c : C) → r ≡ Ok a → s ≡ Ok b → t ≡ Ok c → map_ok (λ (p : (A × B) × C). make p.0.0 p.0.1 p.1) (both_of (both_of r s) t) ≡ Ok (make a b c)
three_mean {A} {B} {C} make r s t a b c e f g =
    ap (λ x. map_ok (λ (p : (A × B) × C). make p.0.0 p.0.1 p.1) (both_of (both_of x s) t)) e
    ∙ ap (λ y. map_ok (λ (p : (A × B) × C). make p.0.0 p.0.1 p.1) (both_of (both_of (Ok a) y) t)) f
    ∙ ap (λ z. map_ok (λ (p : (A × B) × C). make p.0.0 p.0.1 p.1) (both_of (Ok (a, b)) z)) g

extension_means : (x : SignExtension) → (extension_from (extended_width x) (signed_decimal (pos (extended_bits x))) ≡ Ok x) × (is_word (signed_decimal (pos (extended_bits x))) ≡ true)
extension_means (Byte w) = let m = imm_means (pos 8) (record { sfits = lit< tt }) in (ap (λ r. if_ok r (extended w)) m.0, m.1)
extension_means (HalfWord w) = let m = imm_means (pos 16) (record { sfits = lit< tt }) in (ap (λ r. if_ok r (extended w)) m.0, m.1)
extension_means Word = let m = imm_means (pos 32) (record { sfits = lit< tt }) in (ap (λ r. if_ok r (extended (extended_width Word))) m.0, m.1)

-- the line of i has the mnemonic m and i's operands, each operand is a word, and parsing them gives
-- i
pub record IsSpelled (i : Insn) (m : Mnemonic) : Type 0 where
  line_is : line_of i ≡ line m (operands_of i)
  means : insn_from m (operands_of i) ≡ Ok i
  words : are_words (operands_of i) ≡ true

register_word : (r : ℕ) → r < 10 → is_word (register r) ≡ true
register_word r h = (register_means r (omega arith)).1

no_words : are_words [] ≡ true
unfolding are_words
no_words = refl

words_one : (a : Text) → is_word a ≡ true → are_words (a ∷ []) ≡ true
unfolding are_words
words_one a h = and_from _ _ h refl

words_two : (a b : Text) → is_word a ≡ true → is_word b ≡ true → are_words (a ∷ b ∷ []) ≡ true
unfolding are_words
words_two a b h k = and_from _ _ h (and_from _ _ k refl)

words_three : (a b c : Text) → is_word a ≡ true → is_word b ≡ true → is_word c ≡ true → are_words (a ∷ b ∷ c ∷ []) ≡ true
unfolding are_words
words_three a b c h k l = and_from _ _ h (and_from _ _ k (and_from _ _ l refl))

spelled : (i : Insn) → IsInsn i → (i ≡ WideSecond → ⊥) → (m : Mnemonic) × IsSpelled i m
spelled (Alu op w d o) h n = (
  mnemonic.Alu op w,
  record {
    line_is = refl;
    means = two_mean _ _ _ d o (target_means d h.0) (operand_means o h.1).0;
    words = words_two _ _ (register_word d h.0) (operand_means o h.1).1;
  },
)
spelled (Unary op d) h n = (mnemonic.Unary op, record { line_is = refl; means = one_means _ _ d (target_means d h); words = words_one _ (register_word d h) })
spelled (SignExtend x d s) h n = (
  mnemonic.SignExtend (extended_width x),
  record {
    line_is = refl;
    means = three_mean _ _ _ _ d s x (target_means d h.0) (register_means s h.1).0 (extension_means x).0;
    words = words_three _ _ _ (register_word d h.0) (register_means s h.1).1 (extension_means x).1;
  },
)
spelled (LoadWide d v) h n = (
  mnemonic.LoadWide,
  record {
    line_is = refl;
    means = two_mean _ _ _ d v (target_means d h.0) (wide_means v h.1).0;
    words = words_two _ _ (register_word d h.0) (wide_means v h.1).1;
  },
)
spelled WideSecond h n = absurd (n refl)
spelled (Load t d b o) h n = (
  mnemonic.Load t,
  record {
    line_is = refl;
    means = three_mean _ _ _ _ d b o (target_means d h.0) (register_means b h.1).0 (offset_means o h.2).0;
    words = words_three _ _ _ (register_word d h.0) (register_means b h.1).1 (offset_means o h.2).1;
  },
)
spelled (StoreImm s b o k) h n = (
  mnemonic.StoreImm s,
  record {
    line_is = refl;
    means = three_mean _ _ _ _ b o k (register_means b h.0).0 (offset_means o h.1).0 (imm_means k h.2).0;
    words = words_three _ _ _ (register_means b h.0).1 (offset_means o h.1).1 (imm_means k h.2).1;
  },
)
spelled (Store s b o r) h n = (
  mnemonic.Store s,
  record {
    line_is = refl;
    means = three_mean _ _ _ _ b o r (register_means b h.0).0 (offset_means o h.1).0 (register_means r h.2).0;
    words = words_three _ _ _ (register_means b h.0).1 (offset_means o h.1).1 (register_means r h.2).1;
  },
)
spelled (JumpAlways o) h n = (mnemonic.JumpAlways, record { line_is = refl; means = one_means _ _ o (offset_means o h).0; words = words_one _ (offset_means o h).1 })
spelled (JumpAlwaysLong o) h n = (mnemonic.JumpAlwaysLong, record { line_is = refl; means = one_means _ _ o (imm_means o h).0; words = words_one _ (imm_means o h).1 })
spelled (JumpIf j) h n = (
  mnemonic.JumpIf j.relation j.width,
  record {
    line_is = refl;
    means = three_mean _ _ _ _ j.left j.right j.offset (register_means j.left h.0).0 (operand_means j.right h.1).0 (offset_means j.offset h.2).0;
    words = words_three _ _ _ (register_means j.left h.0).1 (operand_means j.right h.1).1 (offset_means j.offset h.2).1;
  },
)
spelled (CallHelper k) h n = (mnemonic.CallHelper, record { line_is = refl; means = one_means _ _ k (imm_means k h).0; words = words_one _ (imm_means k h).1 })
spelled (CallLocal k) h n = (mnemonic.CallLocal, record { line_is = refl; means = one_means _ _ k (imm_means k h).0; words = words_one _ (imm_means k h).1 })
spelled Exit h n = (mnemonic.Exit, record { line_is = refl; means = refl; words = no_words })

-- ---- a line without its line feed

body : Mnemonic → List Text → Text
body m [] = name_of m
body m (a ∷ more) = name_of m ++ 32 ∷ joined (a ∷ more)

rest_joined : (a : Text) (more : List Text) → a ++ rest_of_line more ≡ joined (a ∷ more) ++ 10 ∷ []
unfolding joined
rest_joined a [] = refl
rest_joined a (b ∷ more) = ap (λ t. a ++ (codes ", " ++ t)) (rest_joined b more) ∙ sym (append_assoc a (codes ", " ++ joined (b ∷ more)) (10 ∷ []))

line_body : (m : Mnemonic) (ops : List Text) → line m ops ≡ body m ops ++ 10 ∷ []
unfolding body
line_body m [] = refl
line_body m (a ∷ more) = ap (λ t. name_of m ++ 32 ∷ t) (rest_joined a more) ∙ sym (append_assoc (name_of m) (32 ∷ joined (a ∷ more)) (10 ∷ []))

-- a byte that is in no word, and is neither a space nor a comma, is in no line
module _ (c : ℕ) (space : (32 == c) ≡ false) (comma : (44 == c) ≡ false) (lacks : (w : Text) → is_word w ≡ true → list_all (λ b. not (b == c)) w ≡ true) where
  joined_lacks : (ws : List Text) → are_words ws ≡ true → list_all (λ b. not (b == c)) (joined ws) ≡ true
  unfolding joined are_words
  joined_lacks [] h = refl
  joined_lacks (a ∷ []) h = lacks a (and_parts _ _ h).0
  joined_lacks (a ∷ b ∷ more) h =
      let t = and_parts _ _ h in
      list_all-append (λ b. not (b == c)) a _ (lacks a t.0) (and_from _ _ (ap not comma) (and_from _ _ (ap not space) (joined_lacks (b ∷ more) t.1)))

  body_lacks : (m : Mnemonic) (ops : List Text) → are_words ops ≡ true → list_all (λ b. not (b == c)) (body m ops) ≡ true
  unfolding body
  body_lacks m [] h = lacks (name_of m) (named_name m).1
  body_lacks m (a ∷ more) h = list_all-append (λ b. not (b == c)) (name_of m) _ (lacks (name_of m) (named_name m).1) (and_from _ _ (ap not space) (joined_lacks (a ∷ more) h))

not_plain_feed : is_plain 10 ≡ false
unfolding is_plain
not_plain_feed = refl

not_plain_comment : is_plain 59 ≡ false
unfolding is_plain
not_plain_comment = refl

prefix_all : (q : ℕ → Bool) (xs : Text) → list_all q xs ≡ true → prefix_len q xs ≡ length xs
prefix_all q [] h = refl
prefix_all q (x ∷ xs) h = let t = and_parts _ _ h in cond-true (q x) (1 + prefix_len q xs) 0 t.0 ∙ omega (arith, prefix_all q xs t.1)

code_whole : (t : Text) → list_all (λ b. not (b == 59)) t ≡ true → before_comment t ≡ t
code_whole t h = take_all (position_or_len (λ b. b == 59) t) t (omega (arith, prefix_all (λ b. not (b == 59)) t h))

parts_body : (m : Mnemonic) (ops : List Text) → are_words ops ≡ true → split_words (body m ops) ≡ name_of m ∷ ops
unfolding body
parts_body m [] h = parts_last (name_of m) (named_name m).1
parts_body m (a ∷ more) h = parts_space (name_of m) (joined (a ∷ more)) (named_name m).1 ∙ ap (λ ws. name_of m ∷ ws) (parts_joined (a ∷ more) h (omega arith))

words_body : (m : Mnemonic) (ops : List Text) → are_words ops ≡ true → words_of (body m ops) ≡ name_of m ∷ ops
unfolding words_of
words_body m ops h = ap split_words (code_whole (body m ops) (body_lacks 59 refl refl (word_lacks 59 not_plain_comment) m ops h)) ∙ parts_body m ops h

body_means : (i : Insn) (m : Mnemonic) → IsSpelled i m → line_meaning (body m (operands_of i)) ≡ Ok (Some i)
unfolding line_meaning
body_means i m s =
    ap meaning (words_body m (operands_of i) s.words) ∙ ap (λ o. named o (operands_of i)) (named_name m).0 ∙ ap (map_ok (λ j. Some j)) s.means

-- the lines of a listing are its first line, without the line feed, and the lines of the rest
first_line : (i : Insn) (m : Mnemonic) (rest : Text) → IsSpelled i m → lines_of (line_of i ++ rest) ≡ body m (operands_of i) ∷ lines_of rest
unfolding lines_of
first_line i m rest s =
    ap (λ t. slice_split (λ b. b == 10) (t ++ rest)) (s.line_is ∙ line_body m (operands_of i))
    ∙ ap (slice_split (λ b. b == 10)) (append_assoc (body m (operands_of i)) (10 ∷ []) rest)
    ∙ split_at (λ b. b == 10) (body m (operands_of i)) 10 rest (body_lacks 10 refl refl (word_lacks 10 not_plain_feed) m (operands_of i) s.words) refl

-- ---- all lines

record IsListed (lines : List Text) (p : List Insn) : Type 0 where
  faultless : All (λ l. mistake_in (line_meaning l) ≡ None) lines
  slots : flat_map line_slots lines ≡ p

all_cons : (P : Text → Type 0) (x : Text) (xs : List Text) → P x → All P xs → All P (x ∷ xs)
all_cons P x xs p h zero d l = p
all_cons P x xs p h (suc k) d l = h k d (omega arith)

no_lines : IsListed (lines_of []) []
unfolding lines_of line_meaning words_of
no_lines = record { faultless = all_cons (λ l. mistake_in (line_meaning l) ≡ None) [] [] refl (λ k d l. absurd (omega arith)); slots = refl }

line_more : (i : Insn) (m : Mnemonic) (rest : Text) (p : List Insn) → IsSpelled i m → IsListed (lines_of rest) p → IsListed (lines_of (line_of i ++ rest)) (as_slots i ++ p)
line_more i m rest p s h =
    let P : List Text → Type 0 = λ ls. IsListed ls (as_slots i ++ p) in
    let means = body_means i m s in
    subst P (sym (first_line i m rest s)) (record {
      faultless = all_cons (λ l. mistake_in (line_meaning l) ≡ None) (body m (operands_of i)) (lines_of rest) (ap mistake_in means) h.faultless;
      slots = ap (λ r. slots_in r ++ flat_map line_slots (lines_of rest)) means ∙ ap (λ q. as_slots i ++ q) h.slots;
    })

insn_more : (i : Insn) (rest : Text) (p : List Insn) → IsInsn i → (i ≡ WideSecond → ⊥) → IsListed (lines_of rest) p → IsListed (lines_of (line_of i ++ rest)) (as_slots i ++ p)
insn_more i rest p h n = let s = spelled i h n in line_more i s.0 rest p s.1

law : (p : List Insn) → is_program p ≡ true → All IsInsn p → IsListed (lines_of (listing p)) p
unfolding listing
law [] e h = no_lines
law (LoadWide d v ∷ WideSecond ∷ p) e h = insn_more (LoadWide d v) (listing p) p (h 0 Exit (omega arith)) (λ x. cc x) (law p e (λ k y l. h (suc (suc k)) y (omega arith)))
law (LoadWide d v ∷ rest) e h = absurd (cc e)
law (WideSecond ∷ p) e h = absurd (cc e)
law (other ∷ p) e h = insn_more other (listing p) p (h 0 Exit (omega arith)) (λ x. cc x) (law p e (λ k y l. h (suc k) y (omega arith)))

pub listed_faultless : (text : Text) (p : List Insn) → is_program p ≡ true → All IsInsn p → text ≡ listing p → All (λ l. mistake_in (line_meaning l) ≡ None) (lines_of text)
listed_faultless text p program insns e = let P : Text → Type 0 = λ t. All (λ l. mistake_in (line_meaning l) ≡ None) (lines_of t) in subst P (sym e) (law p program insns).faultless

pub listed_slots : (text : Text) (p : List Insn) → is_program p ≡ true → All IsInsn p → text ≡ listing p → flat_map line_slots (lines_of text) ≡ p
listed_slots text p program insns e = ap (λ t. flat_map line_slots (lines_of t)) e ∙ (law p program insns).slots

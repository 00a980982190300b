-- A sequence of slots: a list of instructions and its bytes determine each other.
use Rattle.std.proofs.Common.{◌≡◌, ◌⊎◌, inl, inr, ℕ, zero, suc, ◌+◌, ◌*◌, ◌/◌, ◌^◌, ◌<◌, ◌≤◌, ◌&&◌, Bool, true, false, Option, Some, None, List, [], ◌∷◌, ◌++◌, length, take, drop, get_or, refl, sym, ap, ◌∙◌, subst, arith, lit<, append_assoc, append-nil, add-one, add-zero}
use Rattle.std.specs.Prelude.{All}
use Rattle.std.specs.List.{flat_map}
use Rattle.std.proofs.lemmas.Bool.{cases_lt, cases_eq, le-leb, lt-leb, lt-ltb, le-ltb}
use Rattle.std.proofs.lemmas.List.{length-drop, take_more, take_all, length_push}
use Rattle.std.proofs.lemmas.List.Elements.{All-push}
use Rattle.std.proofs.Math.Seq.{take-add}
use Rattle.fc_isa.specs.declared.insn.Insn.{Insn}
use Rattle.fc_isa.specs.declared.insn.Insn.TheVariants.{LoadWide, WideSecond, Exit}
use Rattle.fc_isa.specs.declared.rule.Rule.TheVariants.{WideLoad}
use Rattle.fc_isa.specs.Shapes.{shape_of, is_wide}
use Rattle.fc_isa.specs.Program.{IsInsn, is_program, is_wide_load, is_wide_second}
use Rattle.fc_isa.specs.Encoding.{Fields, fields_of, bytes_of_fields, insn_slots, second_half, fields_at, whole_fields_at, is_second, encoded, Spells, slot_fault, insn_of, insn_at, imm_after, insns_below, decoded_program, fault_at}
use Rattle.fc_isa.proofs.Insns.{Fit, fields_fit, IsOwn, own_faultless, own_insn}
use Rattle.fc_isa.proofs.Faultless.{fields_of-insn_of, IsInsn-insn_of, is_wide_insn, is_own_insn, IsWideLoad, wide_faultless}
use Rattle.fc_isa.proofs.Slot.{AreBytes, slot_bytes, slot_fit, slot_is}
use Rattle.fc_isa.proofs.Programs.{after, same, same_true, cond_some, after_push, program_ends, ends_program}

-- ---- the fault of a slot

pub slot_at_whole : (bytes : List ℕ) (k : ℕ) → 8 * k + 8 ≤ length bytes → whole_fields_at bytes k ≡ Some (fields_at bytes k)
slot_at_whole bytes k h = rw (le-leb (8 * k + 8) (length bytes) h) refl

-- a slot that is a second half has no fault
pub fault_at_second : (bytes : List ℕ) (k : ℕ) → 8 * k + 8 ≤ length bytes → is_second bytes k ≡ true → fault_at bytes k ≡ None
unfolding fault_at
fault_at_second bytes k h s = rw (le-leb (8 * k + 8) (length bytes) h, s) refl

-- a whole slot that isn't a second half has the fault of its own fields
pub fault_at_own : (bytes : List ℕ) (k : ℕ) → 8 * k + 8 ≤ length bytes → is_second bytes k ≡ false → fault_at bytes k ≡ slot_fault (fields_at bytes k) (whole_fields_at bytes (k + 1))
unfolding fault_at
fault_at_own bytes k h s = rw (le-leb (8 * k + 8) (length bytes) h, s) refl

-- a partial slot at the end breaks rule 10
pub fault_at_rest : (bytes : List ℕ) (k : ℕ) → length bytes < 8 * k + 8 → 8 * k < length bytes → fault_at bytes k ≡ Some WideLoad
unfolding fault_at
fault_at_rest bytes k h l = rw (lt-leb (8 * k + 8) (length bytes) h, lt-ltb (8 * k) (length bytes) l) refl

-- a slot after the end of the bytes has no fault
pub fault_at_past : (bytes : List ℕ) (k : ℕ) → length bytes ≤ 8 * k → fault_at bytes k ≡ None
unfolding fault_at
fault_at_past bytes k h = rw (lt-leb (8 * k + 8) (length bytes) (omega arith), le-ltb (8 * k) (length bytes) h) refl

pub insn_at_second : (bytes : List ℕ) (k : ℕ) → is_second bytes k ≡ true → insn_at bytes k ≡ WideSecond
insn_at_second bytes k s = rw s refl

pub insn_at_own : (bytes : List ℕ) (k : ℕ) → is_second bytes k ≡ false → insn_at bytes k ≡ insn_of (fields_at bytes k) (whole_fields_at bytes (k + 1))
insn_at_own bytes k s = rw s refl

and_false : (a : Bool) → (a && false) ≡ false
and_false true = refl
and_false false = refl

and_true : (a : Bool) → (a && true) ≡ a
and_true true = refl
and_true false = refl

-- the next slot is a second half exactly if this slot's instruction is a wide load
pub second_after : (bytes : List ℕ) (k : ℕ) (s : Bool) → is_second bytes k ≡ s → is_second bytes (suc k) ≡ is_wide_load (insn_at bytes k)
second_after bytes k true s = rw s (and_false (is_wide (shape_of (fields_at bytes k).opcode)))
second_after bytes k false s =
    rw s (and_true (is_wide (shape_of (fields_at bytes k).opcode)) ∙ sym (is_wide_insn (shape_of (fields_at bytes k).opcode) (fields_at bytes k) (imm_after (whole_fields_at bytes (k + 1)))))

-- ---- bytes of slots without a fault

-- the number of slots that must still follow: 1 if a second half is due, else 0
abbrev pub due : Bool → ℕ
due true = 1
due false = 0

encoded-append : (p q : List Insn) → encoded (p ++ q) ≡ encoded p ++ encoded q
encoded-append [] q = refl
encoded-append (i ∷ p) q = ap (λ bs. flat_map bytes_of_fields (insn_slots i) ++ bs) (encoded-append p q) ∙ sym (append_assoc (flat_map bytes_of_fields (insn_slots i)) (encoded p) (encoded q))

encoded-push : (p : List Insn) (i : Insn) → encoded (p ++ i ∷ []) ≡ encoded p ++ flat_map bytes_of_fields (insn_slots i)
encoded-push p i = encoded-append p (i ∷ []) ∙ ap (λ bs. encoded p ++ bs) (append-nil (flat_map bytes_of_fields (insn_slots i)))

-- the first n slots and the next eight bytes are the first n + 1 slots
take_eight : (bytes : List ℕ) (n : ℕ) → take (8 * n) bytes ++ take 8 (drop (8 * n) bytes) ≡ take (8 * suc n) bytes
take_eight bytes n = sym (take-add (8 * n) 8 bytes) ∙ ap (λ m. take m bytes) (omega arith)

-- an instruction that is neither a wide load nor a second half has one slot
slots_plain : (i : Insn) → is_wide_load i ≡ false → is_wide_second i ≡ false → insn_slots i ≡ fields_of i ∷ []
slots_plain (LoadWide dst value) w s = absurd (cc w)
slots_plain WideSecond w s = absurd (cc s)
slots_plain i w s = refl

-- slot n has no fault, and its bytes encode its instruction; `s` says whether it is a second half,
-- and `t` whether the next one is
pub record IsRead (bytes : List ℕ) (n : ℕ) (s : Bool) (t : Bool) : Type 0 where
  pub second : is_second bytes (suc n) ≡ t
  pub whole : 8 * (suc n + due t) ≤ length bytes
  pub spelled : take (8 * (n + due s)) bytes ++ flat_map bytes_of_fields (insn_slots (insn_at bytes n)) ≡ take (8 * (suc n + due t)) bytes
  pub insn : IsInsn (insn_at bytes n)
  pub kind : is_wide_second (insn_at bytes n) ≡ s
  pub wide : is_wide_load (insn_at bytes n) ≡ t

read_second : (bytes : List ℕ) (n : ℕ) → 8 * n + 8 ≤ length bytes → is_second bytes n ≡ true → IsRead bytes n true false
read_second bytes n l s =
    let i = insn_at_second bytes n s in
    record {
      second = second_after bytes n true s ∙ ap is_wide_load i;
      whole = omega arith;
      spelled = ap (λ i. take (8 * (n + 1)) bytes ++ flat_map bytes_of_fields (insn_slots i)) i ∙ append-nil (take (8 * (n + 1)) bytes) ∙ ap (λ m. take m bytes) (omega arith);
      insn = subst IsInsn (sym i) tt;
      kind = ap is_wide_second i;
      wide = ap is_wide_load i;
    }

read_plain : (bytes : List ℕ) (n : ℕ) (i : Insn) → AreBytes bytes → 8 * n + 8 ≤ length bytes → is_second bytes n ≡ false → insn_at bytes n ≡ i → fields_of i ≡ fields_at bytes n → IsInsn i
    → is_wide_second i ≡ false → is_wide_load i ≡ false → IsRead bytes n false false
read_plain bytes n i b l s e f k o w =
    record {
      second = second_after bytes n false s ∙ ap is_wide_load e ∙ w;
      whole = omega arith;
      spelled =
          ap (λ i. take (8 * (n + 0)) bytes ++ flat_map bytes_of_fields (insn_slots i)) e
          ∙ ap (λ fs. take (8 * (n + 0)) bytes ++ flat_map bytes_of_fields fs) (slots_plain i w o ∙ ap (λ f. f ∷ []) f)
          ∙ ap (λ bs. take (8 * (n + 0)) bytes ++ bs) (append-nil (bytes_of_fields (fields_at bytes n)) ∙ slot_bytes bytes n b l)
          ∙ ap (λ m. take (8 * m) bytes ++ take 8 (drop (8 * n) bytes)) (add-zero n)
          ∙ take_eight bytes n
          ∙ ap (λ m. take m bytes) (omega arith);
      insn = subst IsInsn (sym e) k;
      kind = ap is_wide_second e ∙ o;
      wide = ap is_wide_load e ∙ w;
    }

-- the value of a wide load has the high half from which it was made
halves : (high low : ℕ) → low < 2 ^ 32 → (high * 2 ^ 32 + low) / 2 ^ 32 ≡ high
halves high low h = omega arith

some_whole : (bytes : List ℕ) (k : ℕ) (g : Fields) → whole_fields_at bytes k ≡ Some g → (length bytes < 8 * k + 8) ⊎ (8 * k + 8 ≤ length bytes) → (8 * k + 8 ≤ length bytes) × (fields_at bytes k ≡ g)
some_whole bytes k g e (inr h) = let w = slot_at_whole bytes k h in (h, cc)
some_whole bytes k g e (inl h) = let n : whole_fields_at bytes k ≡ None = rw (lt-leb (8 * k + 8) (length bytes) h) refl in absurd (cc (n, e))

bits_of_two : (f g : Fields) → flat_map bytes_of_fields (f ∷ g ∷ []) ≡ bytes_of_fields f ++ bytes_of_fields g
bits_of_two f g = ap (λ bs. bytes_of_fields f ++ bs) (append-nil (bytes_of_fields g))

-- the bytes of n slots, followed by the bytes of a wide load's two slots, are those of n + 2 slots
wide_spelled : (bytes : List ℕ) (n : ℕ) (f g : Fields) → bytes_of_fields f ≡ take 8 (drop (8 * n) bytes) → bytes_of_fields g ≡ take 8 (drop (8 * suc n) bytes)
    → take (8 * n) bytes ++ flat_map bytes_of_fields (f ∷ g ∷ []) ≡ take (8 * suc (suc n)) bytes
wide_spelled bytes n f g p q =
    ap (λ bs. take (8 * n) bytes ++ bs) (bits_of_two f g)
    ∙ sym (append_assoc (take (8 * n) bytes) (bytes_of_fields f) (bytes_of_fields g))
    ∙ ap (λ bs. (take (8 * n) bytes ++ bs) ++ bytes_of_fields g) p
    ∙ ap (λ bs. bs ++ bytes_of_fields g) (take_eight bytes n)
    ∙ ap (λ bs. take (8 * suc n) bytes ++ bs) q
    ∙ take_eight bytes (suc n)

read_wide : (bytes : List ℕ) (n : ℕ) (g : Fields) → AreBytes bytes → 8 * n + 8 ≤ length bytes → is_second bytes n ≡ false → slot_fault (fields_at bytes n) (Some g) ≡ None
    → whole_fields_at bytes (n + 1) ≡ Some g → IsWideLoad (fields_at bytes n) g → IsRead bytes n false true
read_wide bytes n g b l s h e w =
    let f = fields_at bytes n in
    let next = some_whole bytes (n + 1) g e (cases_lt (length bytes) (8 * (n + 1) + 8)) in
    let at : insn_at bytes n ≡ LoadWide f.dst (g.imm * 2 ^ 32 + f.imm) = insn_at_own bytes n s ∙ ap (insn_of f) e ∙ w.insn in
    let fit = slot_fit bytes n b in
    let own : fields_of (LoadWide f.dst (g.imm * 2 ^ 32 + f.imm)) ≡ f = ap fields_of (sym w.insn) ∙ fields_of-insn_of f (Some g) fit h in
    let half : second_half ((g.imm * 2 ^ 32 + f.imm) / 2 ^ 32) ≡ g = ap second_half (halves g.imm f.imm fit.imm) ∙ w.half in
    let g_fit : Fit g = subst Fit next.1 (slot_fit bytes (n + 1) b) in
    let g_bytes : bytes_of_fields g ≡ take 8 (drop (8 * suc n) bytes) = ap bytes_of_fields (sym next.1) ∙ slot_bytes bytes (n + 1) b next.0 ∙ ap (λ m. take 8 (drop m bytes)) (omega arith) in
    record {
      second = second_after bytes n false s ∙ ap is_wide_load at;
      whole = let q = next.0 in omega arith;
      spelled =
          ap (λ i. take (8 * (n + 0)) bytes ++ flat_map bytes_of_fields (insn_slots i)) at
          ∙ ap (λ f. take (8 * (n + 0)) bytes ++ flat_map bytes_of_fields (f ∷ second_half ((g.imm * 2 ^ 32 + (fields_at bytes n).imm) / 2 ^ 32) ∷ [])) own
          ∙ ap (λ k. take (8 * (n + 0)) bytes ++ flat_map bytes_of_fields (f ∷ k ∷ [])) half
          ∙ ap (λ m. take (8 * m) bytes ++ flat_map bytes_of_fields (f ∷ g ∷ [])) (add-zero n)
          ∙ wide_spelled bytes n f g (slot_bytes bytes n b l) g_bytes
          ∙ ap (λ m. take m bytes) (omega arith);
      insn = subst IsInsn (sym (insn_at_own bytes n s ∙ ap (insn_of f) e)) (IsInsn-insn_of f (Some g) fit g_fit.imm h);
      kind = ap is_wide_second at;
      wide = ap is_wide_load at;
    }

-- the imm of the next slot is below 2 ^ 32, and is 0 if there is no next slot
after_small : (bytes : List ℕ) (k : ℕ) (next : Option Fields) → AreBytes bytes → whole_fields_at bytes k ≡ next → imm_after next < 2 ^ 32
after_small bytes k (Some g) b e = let w = some_whole bytes k g e (cases_lt (length bytes) (8 * k + 8)) in let g_fit : Fit g = subst Fit w.1 (slot_fit bytes k b) in g_fit.imm
after_small bytes k None b e = lit< tt

read_own : (bytes : List ℕ) (n : ℕ) (w : Bool) → AreBytes bytes → 8 * n + 8 ≤ length bytes → is_second bytes n ≡ false → slot_fault (fields_at bytes n) (whole_fields_at bytes (n + 1)) ≡ None
    → is_wide (shape_of (fields_at bytes n).opcode) ≡ w → IsRead bytes n false w
read_own bytes n true b l s h w =
    let half = wide_faultless (fields_at bytes n) (whole_fields_at bytes (n + 1)) w h in
    read_wide bytes n half.half b l s (ap (slot_fault (fields_at bytes n)) (sym half.is) ∙ h) half.is half.wide
read_own bytes n false b l s h w =
    let f = fields_at bytes n in
    let next = whole_fields_at bytes (n + 1) in
    let fit = slot_fit bytes n b in
    read_plain bytes n (insn_of f next) b l s (insn_at_own bytes n s) (fields_of-insn_of f next fit h) (IsInsn-insn_of f next fit (after_small bytes (n + 1) next b refl) h)
    (is_own_insn (shape_of f.opcode) f (imm_after next)) (is_wide_insn (shape_of f.opcode) f (imm_after next) ∙ w)

-- slot n has no fault, and `follows` says whether a second half must follow it
pub record IsReadOn (bytes : List ℕ) (n : ℕ) (s : Bool) : Type 0 where
  pub follows : Bool
  pub read : IsRead bytes n s follows

read_slot : (bytes : List ℕ) (n : ℕ) (s : Bool) → AreBytes bytes → 8 * n + 8 ≤ length bytes → is_second bytes n ≡ s → fault_at bytes n ≡ None → IsReadOn bytes n s
read_slot bytes n true b l s h = record { follows = false; read = read_second bytes n l s }
read_slot bytes n false b l s h =
    record { follows = is_wide (shape_of (fields_at bytes n).opcode); read = read_own bytes n (is_wide (shape_of (fields_at bytes n).opcode)) b l s (sym (fault_at_own bytes n l s) ∙ h) refl }

-- the slots before `n` break no rule, and their bytes encode their instructions; `s` says whether
-- slot n is a second half
pub record IsReadBelow (bytes : List ℕ) (n : ℕ) (s : Bool) : Type 0 where
  pub second : is_second bytes n ≡ s
  pub whole : 8 * (n + due s) ≤ length bytes
  pub bytes_are : encoded (insns_below bytes n) ≡ take (8 * (n + due s)) bytes
  pub insns : All IsInsn (insns_below bytes n)
  pub state : after false (insns_below bytes n) ≡ Some s

pub record IsReadSome (bytes : List ℕ) (n : ℕ) : Type 0 where
  pub due_then : Bool
  pub below : IsReadBelow bytes n due_then

read_more : (bytes : List ℕ) (n : ℕ) (s t : Bool) → IsReadBelow bytes n s → IsRead bytes n s t → IsReadSome bytes (suc n)
read_more bytes n s t p r = record {
  due_then = t;
  below = record {
    second = r.second;
    whole = r.whole;
    bytes_are = encoded-push (insns_below bytes n) (insn_at bytes n) ∙ ap (λ bs. bs ++ flat_map bytes_of_fields (insn_slots (insn_at bytes n))) p.bytes_are ∙ r.spelled;
    insns = All-push IsInsn (insns_below bytes n) (insn_at bytes n) p.insns r.insn;
    state = after_push false (insns_below bytes n) (insn_at bytes n) s p.state r.kind ∙ ap Some r.wide;
  };
}

pub read_below : (bytes : List ℕ) (n : ℕ) → AreBytes bytes → 8 * n ≤ length bytes → ((k : ℕ) → k < n → fault_at bytes k ≡ None) → IsReadSome bytes n
read_below bytes zero b l h = record { due_then = false; below = record { second = refl; whole = omega arith; bytes_are = refl; insns = λ k d lt. absurd (omega arith); state = refl } }
read_below bytes (suc n) b l h =
    let p = read_below bytes n b (omega arith) (λ k lt. h k (omega arith)) in
    let r = read_slot bytes n p.due_then b (omega arith) p.below.second (h n (omega arith)) in
    read_more bytes n p.due_then r.follows p.below r.read

-- if n slots without a fault are all the bytes, the bytes encode their instructions
spell_all : (bytes : List ℕ) (n : ℕ) (s : Bool) → 8 * n ≡ length bytes → IsReadBelow bytes n s → Spells bytes (insns_below bytes n)
spell_all bytes n true l p = absurd (let w = p.whole in omega arith)
spell_all bytes n false l p = record {
  bytes_are = sym (p.bytes_are ∙ take_all (8 * (n + 0)) bytes (omega arith));
  insns = p.insns;
  whole = ends_program (insns_below bytes n) p.state;
}

pub below_spell : (bytes : List ℕ) (n : ℕ) → AreBytes bytes → 8 * n ≡ length bytes → ((k : ℕ) → k < n → fault_at bytes k ≡ None) → Spells bytes (insns_below bytes n)
below_spell bytes n b l h = let p = read_below bytes n b (omega arith) h in spell_all bytes n p.due_then l p.below

-- bytes without a fault have no partial slot
no_rest : (bytes : List ℕ) → ((k : ℕ) → fault_at bytes k ≡ None) → (8 * (length bytes / 8) ≡ length bytes) ⊎ (8 * (length bytes / 8) < length bytes) → 8 * (length bytes / 8) ≡ length bytes
no_rest bytes h (inl e) = e
no_rest bytes h (inr l) = absurd (cc (fault_at_rest bytes (length bytes / 8) (omega arith) l, h (length bytes / 8)))

-- bytes without a fault encode the program that is decoded from them
pub faultless_spell : (bytes : List ℕ) → AreBytes bytes → ((k : ℕ) → fault_at bytes k ≡ None) → Spells bytes (decoded_program bytes)
unfolding decoded_program
faultless_spell bytes b h = below_spell bytes (length bytes / 8) b (no_rest bytes h (grind arith)) (λ k lt. h k)

pub length-insns_below : (bytes : List ℕ) (n : ℕ) → length (insns_below bytes n) ≡ n
length-insns_below bytes zero = refl
length-insns_below bytes (suc n) = length_push (insns_below bytes n) (insn_at bytes n) ∙ (omega (arith, length-insns_below bytes n))

-- ---- the bytes of an encoded program

-- the bytes from slot n on encode the suffix q of a program; `s` says whether slot n is a second
-- half
pub record IsRest (bytes : List ℕ) (n : ℕ) (s : Bool) (q : List Insn) : Type 0 where
  pub second : is_second bytes n ≡ s
  pub whole : 8 * (n + due s) ≤ length bytes
  pub rest : drop (8 * (n + due s)) bytes ≡ encoded q
  pub state : after s q ≡ Some false
  pub insns : All IsInsn q

-- slot n has the instruction i and no fault, and the bytes after it encode the suffix q
pub record IsNext (bytes : List ℕ) (n : ℕ) (i : Insn) (q : List Insn) : Type 0 where
  pub fault : fault_at bytes n ≡ None
  pub insn : insn_at bytes n ≡ i
  pub rest : IsRest bytes (suc n) (is_wide_load i) q

rest_insns : (i : Insn) (q : List Insn) → All IsInsn (i ∷ q) → All IsInsn q
rest_insns i q a = λ k d lt. a (suc k) d (omega arith)

first_insn : (i : Insn) (q : List Insn) → All IsInsn (i ∷ q) → IsInsn i
first_insn i q a = a zero Exit (omega arith)

next_second : (bytes : List ℕ) (n : ℕ) (q : List Insn) → IsRest bytes n true (WideSecond ∷ q) → IsNext bytes n WideSecond q
next_second bytes n q r =
    let l : 8 * n + 8 ≤ length bytes = (let w = r.whole in omega arith) in
    let at = insn_at_second bytes n r.second in
    record {
      fault = fault_at_second bytes n l r.second;
      insn = at;
      rest = record {
        second = second_after bytes n true r.second ∙ ap is_wide_load at;
        whole = omega arith;
        rest = ap (λ m. drop m bytes) (omega arith) ∙ r.rest;
        state = r.state;
        insns = rest_insns WideSecond q r.insns;
      };
    }

next_plain : (bytes : List ℕ) (n : ℕ) (i : Insn) (q : List Insn) → IsRest bytes n false (i ∷ q) → insn_slots i ≡ fields_of i ∷ [] → is_wide_load i ≡ false → ((next : Option Fields) → IsOwn i next)
    → after (is_wide_load i) q ≡ Some false → IsNext bytes n i q
next_plain bytes n i q r one w own a =
    let k = first_insn i q r.insns in
    let e : drop (8 * n) bytes ≡ bytes_of_fields (fields_of i) ++ encoded q =
    ap (λ m. drop (8 * m) bytes) (sym (add-zero n)) ∙ r.rest ∙ ap (λ fs. flat_map bytes_of_fields fs ++ encoded q) one ∙ ap (λ bs. bs ++ encoded q) (append-nil (bytes_of_fields (fields_of i))) in
    let at = slot_is bytes n (fields_of i) (encoded q) (fields_fit i k) e in
    let next = whole_fields_at bytes (n + 1) in
    let is : insn_at bytes n ≡ i = insn_at_own bytes n r.second ∙ ap (λ f. insn_of f next) at.fields ∙ own_insn i next k (own next) in
    record {
      fault = fault_at_own bytes n at.whole r.second ∙ ap (λ f. slot_fault f next) at.fields ∙ own_faultless i next k (own next);
      insn = is;
      rest = subst (λ t. IsRest bytes (suc n) t q) (sym w) (record {
        second = second_after bytes n false r.second ∙ ap is_wide_load is ∙ w;
        whole = let l = at.whole in omega arith;
        rest = ap (λ m. drop (8 * m) bytes) (add-zero (suc n)) ∙ at.after;
        state = subst (λ t. after t q ≡ Some false) w a;
        insns = rest_insns i q r.insns;
      });
    }

half_fit : (value : ℕ) → value < 2 ^ 64 → Fit (second_half (value / 2 ^ 32))
half_fit value h = record { dst = lit< tt; offset = lit< tt; imm = omega arith }

next_wide : (bytes : List ℕ) (n dst value : ℕ) (q : List Insn) → IsRest bytes n false (LoadWide dst value ∷ q) → IsNext bytes n (LoadWide dst value) q
next_wide bytes n dst value q r =
    let i = LoadWide dst value in
    let k = first_insn i q r.insns in
    let f = fields_of i in
    let g = second_half (value / 2 ^ 32) in
    let e : drop (8 * n) bytes ≡ bytes_of_fields f ++ (bytes_of_fields g ++ encoded q) =
    ap (λ m. drop (8 * m) bytes) (sym (add-zero n)) ∙ r.rest ∙ ap (λ bs. bs ++ encoded q) (bits_of_two f g) ∙ append_assoc (bytes_of_fields f) (bytes_of_fields g) (encoded q) in
    let first = slot_is bytes n f (bytes_of_fields g ++ encoded q) (fields_fit i k) e in
    let after_it = slot_is bytes (suc n) g (encoded q) (half_fit value k.1) first.after in
    let next : whole_fields_at bytes (n + 1) ≡ Some g = ap (whole_fields_at bytes) (add-one n) ∙ slot_at_whole bytes (suc n) after_it.whole ∙ ap Some after_it.fields in
    let is : insn_at bytes n ≡ i = insn_at_own bytes n r.second ∙ ap (λ f. insn_of f (whole_fields_at bytes (n + 1))) first.fields ∙ ap (insn_of f) next ∙ own_insn i (Some g) k (refl, refl) in
    record {
      fault = fault_at_own bytes n first.whole r.second ∙ ap (λ f. slot_fault f (whole_fields_at bytes (n + 1))) first.fields ∙ ap (slot_fault f) next ∙ own_faultless i (Some g) k (refl, refl);
      insn = is;
      rest = record {
        second = second_after bytes n false r.second ∙ ap is_wide_load is;
        whole = let l = after_it.whole in omega arith;
        rest = ap (λ m. drop (8 * m) bytes) (add-one (suc n)) ∙ after_it.after;
        state = r.state;
        insns = rest_insns i q r.insns;
      };
    }

-- the first instruction of a suffix of a program is a second half exactly if one is due
not_due : (i : Insn) (s : Bool) (q : List Insn) → after s (i ∷ q) ≡ Some false → (is_wide_second i ≡ s) × (after (is_wide_load i) q ≡ Some false)
not_due i s q h = let p = cond_some (same s (is_wide_second i)) (after (is_wide_load i) q) false h in (same_true s (is_wide_second i) p.0, p.1)

next_of : (bytes : List ℕ) (n : ℕ) (s : Bool) (i : Insn) (q : List Insn) → IsRest bytes n s (i ∷ q) → is_wide_second i ≡ s → after (is_wide_load i) q ≡ Some false → IsNext bytes n i q
next_of bytes n true WideSecond q r e a = next_second bytes n q r
next_of bytes n false WideSecond q r e a = absurd (cc e)
next_of bytes n false (LoadWide dst value) q r e a = next_wide bytes n dst value q r
next_of bytes n true (LoadWide dst value) q r e a = absurd (cc e)
next_of bytes n false i q r e a = next_plain bytes n i q r refl refl (λ next. tt) a
next_of bytes n true i q r e a = absurd (cc e)

-- the slots from n on have no fault, and decoding them gives the suffix q
pub record IsReadRest (bytes : List ℕ) (n : ℕ) (q : List Insn) : Type 0 where
  pub count : length bytes ≡ 8 * (n + length q)
  pub faultless : (k : ℕ) → n ≤ k → fault_at bytes k ≡ None
  pub list : insns_below bytes (n + length q) ≡ insns_below bytes n ++ q

read_end : (bytes : List ℕ) (n : ℕ) (s : Bool) → IsRest bytes n s [] → s ≡ false → IsReadRest bytes n []
read_end bytes n true r e = absurd (cc e)
read_end bytes n false r e =
    let l : length bytes ≡ 8 * n = (let w = r.whole in omega (arith, length-drop (8 * (n + 0)) bytes, ap length r.rest)) in
    record {
      count = omega arith;
      faultless = λ k h. fault_at_past bytes k (omega arith);
      list = ap (insns_below bytes) (add-zero n) ∙ sym (append-nil (insns_below bytes n));
    }

fault_from : (bytes : List ℕ) (n k : ℕ) → fault_at bytes n ≡ None → ((k : ℕ) → suc n ≤ k → fault_at bytes k ≡ None) → n ≤ k → (k ≡ n) ⊎ (k ≡ n → ⊥) → fault_at bytes k ≡ None
fault_from bytes n k h more l (inl e) = ap (fault_at bytes) e ∙ h
fault_from bytes n k h more l (inr ne) = more k (grind arith)

read_on : (bytes : List ℕ) (n : ℕ) (i : Insn) (q : List Insn) → IsNext bytes n i q → IsReadRest bytes (suc n) q → IsReadRest bytes n (i ∷ q)
read_on bytes n i q p r =
    let e : n + suc (length q) ≡ suc n + length q = omega arith in
    record {
      count = r.count ∙ ap (λ m. 8 * m) (sym e);
      faultless = λ k h. fault_from bytes n k p.fault r.faultless h (cases_eq k n);
      list =
          ap (insns_below bytes) e ∙ r.list ∙ ap (λ j. (insns_below bytes n ++ j ∷ []) ++ q) p.insn ∙ append_assoc (insns_below bytes n) (i ∷ []) q;
    }

some_false : (s : Bool) → Some s ≡ Some false → s ≡ false
some_false s h = cc

pub read_rest : (bytes : List ℕ) (n : ℕ) (s : Bool) (q : List Insn) → IsRest bytes n s q → IsReadRest bytes n q
read_rest bytes n s [] r = read_end bytes n s r (some_false s r.state)
read_rest bytes n s (i ∷ q) r =
    let d = not_due i s q r.state in
    let p = next_of bytes n s i q r d.0 d.1 in
    read_on bytes n i q p (read_rest bytes (suc n) (is_wide_load i) q p.rest)

-- decoding all bytes of a program gives the program
pub read_all : (bytes : List ℕ) (p : List Insn) → Spells bytes p → IsReadRest bytes 0 p
read_all bytes p s = read_rest bytes 0 false p (record { second = refl; whole = omega arith; rest = s.bytes_are; state = program_ends p s.whole; insns = s.insns })

-- bytes that encode a program have no fault
pub spelled_faultless : (bytes : List ℕ) (p : List Insn) → Spells bytes p → (k : ℕ) → fault_at bytes k ≡ None
spelled_faultless bytes p s k = (read_all bytes p s).faultless k (omega arith)

-- bytes that encode a program encode no other program
pub spelled_once : (bytes : List ℕ) (p : List Insn) → Spells bytes p → p ≡ decoded_program bytes
unfolding decoded_program
spelled_once bytes p s =
    let r = read_all bytes p s in
    let count : 0 + length p ≡ length bytes / 8 = (let c = r.count in omega arith) in
    sym (ap (insns_below bytes) (sym count) ∙ r.list)

-- ---- writing a program

pub encode_more : (program : List Insn) (k : ℕ) (d : Insn) (old new : List ℕ) → k < length program → old ≡ encoded (take k program) → d ≡ get_or program k d → new ≡ old ++ flat_map bytes_of_fields (insn_slots d)
    → new ≡ encoded (take (k + 1) program)
encode_more program k d old new l h e n =
    n
    ∙ ap (λ bs. bs ++ flat_map bytes_of_fields (insn_slots d)) h
    ∙ ap (λ i. encoded (take k program) ++ flat_map bytes_of_fields (insn_slots i)) e
    ∙ sym (encoded-push (take k program) (get_or program k d))
    ∙ ap encoded (sym (take_more program k d l))

-- the bytes of a program encode it
pub written_spells : (program : List Insn) → All IsInsn program → is_program program ≡ true → Spells (encoded program) program
written_spells program a w = record { bytes_are = refl; insns = a; whole = w }

pub written_count : (program : List Insn) → All IsInsn program → is_program program ≡ true → length (encoded program) ≡ 8 * length program
written_count program a w = let r = read_all (encoded program) program (written_spells program a w) in r.count ∙ omega arith

-- Facts about the steps of decoding.
use Rattle.std.proofs.Common.{◌≡◌, ℕ, ◌+◌, ◌-◌, ◌*◌, ◌/◌, ◌%◌, ◌<◌, ◌≤◌, false, Option, Some, None, List, [], ◌∷◌, ◌++◌, length, take, drop, sym, ap, ◌∙◌, below_more, arith, add-one, refl, subst}
use Rattle.fc_isa.specs.declared.insn.Insn.{Insn}
use Rattle.fc_isa.specs.declared.rule.Rule.{Rule}
use Rattle.fc_isa.specs.declared.rule.Rule.TheVariants.{WideLoad}
use Rattle.fc_isa.specs.Program.{is_wide_load}
use Rattle.fc_isa.specs.Encoding.{Fields, fields_at, whole_fields_at, read_fields, Spells, slot_fault, insn_of, insn_at, is_second, insns_below, decoded_program, fault_at, first_fault, IsFirstFault}
use Rattle.fc_isa.proofs.Slot.{AreBytes}
use Rattle.fc_isa.proofs.Slots.{fault_at_own, fault_at_rest, insn_at_own, second_after, below_spell, spelled_faultless, spelled_once}
use Rattle.fc_isa.proofs.First.{faultless_none}

-- `&bytes[8 * k..8 * k + 8]` has the fields of slot k
pub fields_are : (bytes : List ℕ) (k : ℕ) (f : Fields) → f ≡ read_fields (take (8 * k + 8 - 8 * k) (drop (8 * k) bytes)) → f ≡ fields_at bytes k
fields_are bytes k f h = let e : 8 * k + 8 - 8 * k ≡ 8 = omega arith in h ∙ ap (λ n. read_fields (take n (drop (8 * k) bytes))) e

-- the fault of a whole slot's fields is the slot's fault, unless the slot is a second half
pub own_fault : (bytes : List ℕ) (k : ℕ) (f : Fields) (next : Option Fields) (r : Option Rule) → 8 * k + 8 ≤ length bytes → is_second bytes k ≡ false → f ≡ fields_at bytes k
    → next ≡ whole_fields_at bytes (k + 1) → r ≡ slot_fault f next → fault_at bytes k ≡ r
own_fault bytes k f next r l s ef en h =
    fault_at_own bytes k l s ∙ ap (λ f. slot_fault f (whole_fields_at bytes (k + 1))) (sym ef) ∙ ap (slot_fault f) (sym en) ∙ sym h

pub own_insn_at : (bytes : List ℕ) (k : ℕ) (f : Fields) (next : Option Fields) (i : Insn) → is_second bytes k ≡ false → f ≡ fields_at bytes k → next ≡ whole_fields_at bytes (k + 1) → i ≡ insn_of f next → i ≡ insn_at bytes k
own_insn_at bytes k f next i s ef en h =
    h ∙ ap (insn_of f) en ∙ ap (λ f. insn_of f (whole_fields_at bytes (k + 1))) ef ∙ sym (insn_at_own bytes k s)

pub broken : (bytes : List ℕ) (k : ℕ) (rule : Rule) → fault_at bytes k ≡ Some rule → ((j : ℕ) → j < k → fault_at bytes j ≡ None) → IsFirstFault bytes rule k
broken bytes k rule h before = record { broken = h; before = before }

pub broken_rest : (bytes : List ℕ) (k : ℕ) → length bytes / 8 ≤ k → 0 < length bytes % 8 → ((j : ℕ) → j < k → fault_at bytes j ≡ None) → IsFirstFault bytes WideLoad (length bytes / 8)
broken_rest bytes k e h before = record { broken = fault_at_rest bytes (length bytes / 8) (omega arith) (omega arith); before = λ j lt. before j (omega arith) }

-- bytes with a fault encode no program
pub broken_not_spelled : (bytes : List ℕ) (k : ℕ) (rule : Rule) (p : List Insn) → IsFirstFault bytes rule k → Spells bytes p → ⊥
broken_not_spelled bytes k rule p f s = cc (f.broken, spelled_faultless bytes p s k)

pub faultless_more : (bytes : List ℕ) (k : ℕ) → fault_at bytes k ≡ None → ((j : ℕ) → j < k → fault_at bytes j ≡ None) → (j : ℕ) → j < k + 1 → fault_at bytes j ≡ None
faultless_more bytes k h before = below_more (λ j. fault_at bytes j ≡ None) k before h

pub insns_more : (bytes : List ℕ) (k : ℕ) (items : List Insn) (insn : Insn) → items ≡ insns_below bytes k → insn ≡ insn_at bytes k → items ++ insn ∷ [] ≡ insns_below bytes (k + 1)
insns_more bytes k items insn e i = rw (add-one k, e, i) refl

-- the next slot is a second half exactly if this slot's instruction is a wide load
pub second_more : (bytes : List ℕ) (k : ℕ) (insn : Insn) → insn ≡ insn_at bytes k → is_wide_load insn ≡ is_second bytes (k + 1)
second_more bytes k insn i = ap is_wide_load i ∙ sym (second_after bytes k (is_second bytes k) refl) ∙ ap (is_second bytes) (sym (add-one k))

-- the bytes encode the program, which is the one that is decoded from them, and have no fault
pub record IsDecoded (bytes : List ℕ) (program : List Insn) : Type 0 where
  pub spells : Spells bytes program
  pub program_is : program ≡ decoded_program bytes
  pub faultless : first_fault bytes ≡ None

pub decoded : (bytes : List ℕ) (k : ℕ) (items : List Insn) → AreBytes bytes → k ≡ length bytes / 8 → length bytes % 8 ≡ 0 → ((j : ℕ) → j < k → fault_at bytes j ≡ None) → items ≡ insns_below bytes k
    → IsDecoded bytes items
decoded bytes k items b e z before is =
    let s = subst (Spells bytes) (sym is) (below_spell bytes k b (omega arith) before) in
    record { spells = s; program_is = spelled_once bytes items s; faultless = faultless_none bytes (spelled_faultless bytes items s) }

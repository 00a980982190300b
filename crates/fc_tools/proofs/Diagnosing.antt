-- Each step of a diagnosis is right for the image.
use Rattle.std.proofs.Common.{◌≡◌, ℕ, ◌+◌, ◌*◌, ◌<◌, ◌≤◌, Bool, true, false, cond, nat_lt, List, length, Option, Some, None, Result, Ok, Err, sym, ap, ◌∙◌, subst, arith}
use Rattle.std.proofs.lemmas.Option.{slice_get_within}
use Rattle.std.specs.Prelude.{IfErr, slice_get}
use Rattle.std.specs.Result.{IsErrAnd}
use Rattle.fc_isa.specs.declared.insn.Insn.{Insn}
use Rattle.fc_isa.specs.declared.rule.Rule.{Rule}
use Rattle.fc_isa.specs.declared.rule.Fault.{Fault}
use Rattle.fc_isa.specs.declared.rule.Rule.TheVariants.{Format, SlotCount, VarsSize, Budget, Reserved, Opcode, Register, FramePointer, Field, WideLoad, JumpTarget, BackwardJump, Boundary, BackwardCall, FrameDepth, Cost as CostRule, Helper}
use Rattle.fc_isa.specs.Encoding.{Fields, breaks, fault_at, fields_at, is_second, is_whole, slot_fault, whole_fields_at}
use Rattle.fc_isa.specs.Rules.{number_of}
use Rattle.fc_image.specs.Head.{Head, head_breaks, head_fault, stated}
use Rattle.fc_image.specs.ShapeRules.{IsShapeFault, breaks_shape, shape_fault}
use Rattle.fc_verify.specs.Judged.{code_in}
use Rattle.fc_verify.specs.Pass.{is_typable}
use Rattle.fc_verify.specs.Stages.{IsHeadOf, IsCodeOf, IsTypingFault, IsUntyped}
use Rattle.fc_verify.specs.declared.untyped.Untyped.{Untyped}
use Rattle.fc_verify.proofs.Judging.{refused_shape, refused_typing}
use Rattle.fc_tools.specs.Diagnosed.{IsCauseOf, IsCost, IsDiagnosisOf, IsShapeCause, IsShapeShown, IsShown}
use Rattle.fc_tools.specs.declared.diagnosis.Diagnosis.{Diagnosis}
use Rattle.fc_tools.specs.declared.diagnosis.Cause.{Cause}
use Rattle.fc_tools.specs.declared.diagnosis.Cause.TheVariants.{Header, Slot, Flow, Back, Frames, Cost, Typing}

-- if the error of a result is e, a property of e is one of the result's error.
pub err_of : {T E : Type 0} (r : Result T E) (e : E) (P : E → Type 0) → IsErrAnd r (λ x. x ≡ e) → P e → IfErr r P
err_of (Ok x) e P h p = absurd h
err_of (Err x) e P h p = subst P (sym h) p

-- a slot that breaks a rule is wholly within bytes that are slots.
pub whole_slot : (bytes : List ℕ) (slot count : ℕ) (rule : Rule) → length bytes ≡ 8 * count → fault_at bytes slot ≡ Some rule → 8 * slot + 8 ≤ length bytes
unfolding fault_at
whole_slot bytes slot count rule n e = grind (arith, n, e)

-- the slot of a fault of the control flow is a slot of the program.
pub fault_within : (head : Head) (code : List Insn) (slot : ℕ) (rule : Rule) → IsShapeFault head code slot rule → slot < length code
fault_within head code slot rule f = slice_get_within code slot f.insn f.stands

cause_in_image : (image : List ℕ) (head : Head) (code : List Insn) (f : Fault) (cause : Cause) → IsHeadOf image head → IsCodeOf image code → IsShapeShown head code f cause → IsShown image f cause
cause_in_image image head code f Header h k s = absurd s
cause_in_image image head code f (Slot bytes) h k s = absurd s
cause_in_image image head code f (Flow insn) h k s = subst (λ c. slice_get c f.slot ≡ Some insn) k.code_is s
cause_in_image image head code f (Back insn reason) h k s =
    subst (λ x. IsShapeShown x (code_in image) f (Back insn reason)) h.stated_is (subst (λ c. IsShapeShown head c f (Back insn reason)) k.code_is s)
cause_in_image image head code f Frames h k s = tt
cause_in_image image head code f (Cost cost budget) h k s = (subst (λ x. IsCost x (code_in image) cost) h.stated_is (subst (λ c. IsCost head c cost) k.code_is s.0), s.1 ∙ ap (λ x. x.budget) h.stated_is)
cause_in_image image head code f (Typing insn known demand) h k s = absurd s

-- ---- the ranges of rule numbers

-- the number of the rule, if there is one, is from `low` to `high`.
abbrev IsWithin : ℕ → ℕ → Option Rule → Type 0
IsWithin low high None = Unit {0}
IsWithin low high (Some rule) = (low ≤ number_of rule) × (number_of rule ≤ high)

within_or : (low high : ℕ) (a : Bool) (x : Rule) (rest : Option Rule) → (low ≤ number_of x) × (number_of x ≤ high) → IsWithin low high rest → IsWithin low high (cond a (Some x) rest)
within_or low high true x rest here more = here
within_or low high false x rest here more = more

head_within : (image : List ℕ) → IsWithin 1 5 (head_fault image)
head_within image =
    within_or 1 5 (head_breaks image Format) Format _ (omega arith, omega arith) (within_or 1 5 (head_breaks image SlotCount) SlotCount _ (omega arith, omega arith)
    (within_or 1 5 (head_breaks image VarsSize) VarsSize _ (omega arith, omega arith) (within_or 1 5 (head_breaks image Budget) Budget _ (omega arith, omega arith)
    (within_or 1 5 (head_breaks image Reserved) Reserved None (omega arith, omega arith) tt))))

pub head_rule : (image : List ℕ) (rule : Rule) → head_fault image ≡ Some rule → (1 ≤ number_of rule) × (number_of rule ≤ 5)
head_rule image rule e = subst (IsWithin 1 5) e (head_within image)

slot_within : (f : Fields) (next : Option Fields) → IsWithin 6 10 (slot_fault f next)
slot_within f next =
    within_or 6 10 (breaks f next Opcode) Opcode _ (omega arith, omega arith) (within_or 6 10 (breaks f next Register) Register _ (omega arith, omega arith)
    (within_or 6 10 (breaks f next FramePointer) FramePointer _ (omega arith, omega arith) (within_or 6 10 (breaks f next Field) Field _ (omega arith, omega arith)
    (within_or 6 10 (breaks f next WideLoad) WideLoad None (omega arith, omega arith) tt))))

slot_if : (inside second rest : Bool) (f : Fields) (next : Option Fields)
    → IsWithin 6 10 (cond {A = Option Rule} inside (cond {A = Option Rule} second None (slot_fault f next)) (cond {A = Option Rule} rest (Some WideLoad) None))
slot_if true true rest f next = tt
slot_if true false rest f next = slot_within f next
slot_if false second rest f next = within_or 6 10 rest WideLoad None (omega arith, omega arith) tt

pub slot_rule : (bytes : List ℕ) (slot : ℕ) (rule : Rule) → fault_at bytes slot ≡ Some rule → (6 ≤ number_of rule) × (number_of rule ≤ 10)
unfolding fault_at
slot_rule bytes slot rule e =
    subst (IsWithin 6 10) e (slot_if (is_whole bytes slot) (is_second bytes slot) (nat_lt (8 * slot) (length bytes)) (fields_at bytes slot) (whole_fields_at bytes (slot + 1)))

pub flow_rule : (head : Head) (code : List Insn) (slot : ℕ) (insn : Insn) (rule : Rule) → breaks_shape head code slot insn rule ≡ true → (11 ≤ number_of rule) × (number_of rule ≤ 17)
unfolding breaks_shape
flow_rule head code slot insn JumpTarget e = (omega arith, omega arith)
flow_rule head code slot insn BackwardJump e = (omega arith, omega arith)
flow_rule head code slot insn Boundary e = (omega arith, omega arith)
flow_rule head code slot insn BackwardCall e = (omega arith, omega arith)
flow_rule head code slot insn FrameDepth e = (omega arith, omega arith)
flow_rule head code slot insn CostRule e = (omega arith, omega arith)
flow_rule head code slot insn Helper e = (omega arith, omega arith)
flow_rule head code slot insn other e = absurd (cc e)

pub shape_diagnosis : (image : List ℕ) (head : Head) (code : List Insn) (d : Diagnosis) → IsHeadOf image head → IsCodeOf image code → shape_fault head code ≡ Some (d.fault.slot, d.fault.rule)
    → number_of d.fault.rule < 20 → IsShapeCause head code d.fault d.cause → IsDiagnosisOf image d
shape_diagnosis image head code d h k s low c = record {
  fault = refused_shape image head code d.fault h k s low;
  cause = record { rule = c.rule; shown = cause_in_image image head code d.fault d.cause h k c.shown };
}

pub typing_diagnosis : (image : List ℕ) (head : Head) (code : List Insn) (u : Untyped) (d : Diagnosis) → IsHeadOf image head → IsCodeOf image code → shape_fault head code ≡ None
    → is_typable head.version head.vars_size code ≡ false → IsTypingFault code u.fault → IsUntyped head.version head.vars_size code u
    → d.fault ≡ u.fault → ((insn : Insn) → slice_get code u.fault.slot ≡ Some insn → d.cause ≡ Typing insn u.known u.demand) → IsDiagnosisOf image d
typing_diagnosis image head code u d h k s t r n same cause =
    let fault = refused_typing image head code u.fault h k s t r in
    let there : slice_get (code_in image) u.fault.slot ≡ Some n.insn = subst (λ c. slice_get c u.fault.slot ≡ Some n.insn) k.code_is n.insn_is in
    let at : IsUntyped (stated image).version (stated image).vars_size (code_in image) u = subst (λ x. IsUntyped x.version x.vars_size (code_in image) u) h.stated_is (subst (λ c. IsUntyped head.version head.vars_size c u) k.code_is n) in
    let shown : IsCauseOf image u.fault (Typing n.insn u.known u.demand) = record { rule = (r.from, r.upto); shown = (there, at) } in
    record {
      fault = rw same fault;
      cause = rw (same, cause n.insn n.insn_is) shown;
    }

-- The judgement of an image, from the result of each step.
use Rattle.std.proofs.Common.{◌≡◌, ℕ, ◌<◌, ◌≤◌, ◌/◌, Bool, true, false, List, length, Option, Some, None, Result, Ok, Err, refl, sym, ap, ◌∙◌, subst, arith}
use Rattle.std.proofs.lemmas.List.{length-drop}
use Rattle.std.proofs.lemmas.Option.{slice_get_within, get_or_from_slice_get}
use Rattle.std.specs.Prelude.{IfErr, slice_get, All}
use Rattle.std.specs.Result.{IsErrAnd}
use Rattle.fc_isa.specs.declared.insn.Insn.{Insn}
use Rattle.fc_isa.specs.declared.rule.Rule.{Rule}
use Rattle.fc_isa.specs.declared.rule.Fault.{Fault}
use Rattle.fc_isa.specs.declared.decoder.DecodeError.{DecodeError}
use Rattle.fc_isa.specs.declared.decoder.DecodeError.TheVariants.{Fault as FaultAt, NoMemory as NoRoom}
use Rattle.fc_isa.specs.Encoding.{Spells, IsDecodeError, first_fault, decoded_program}
use Rattle.fc_isa.specs.Program.{IsInsn}
use Rattle.fc_isa.specs.Rules.{number_of}
use Rattle.fc_isa.proofs.Slots.{length-insns_below}
use Rattle.fc_isa.specs.declared.version.ImageVersion.{ImageVersion}
use Rattle.fc_isa.specs.declared.version.ImageVersion.TheVariants.{One, Two}
use Rattle.fc_image.specs.Functions.{frames}
use Rattle.fc_image.specs.Head.{Head, head_fault, stated, frames_allowed}
use Rattle.fc_image.specs.Paths.{longest}
use Rattle.fc_image.specs.ShapeRules.{IsShaped, shape_fault}
use Rattle.fc_verify.specs.declared.refusal.Refusal.{Refusal}
use Rattle.fc_verify.specs.declared.refusal.Refusal.TheVariants.{Broken}
use Rattle.fc_verify.specs.Accepted.{Judgement, Accepts, Breaks, Untypable, slots_of}
use Rattle.fc_verify.specs.Judged.{code_in, program_in, judged}
use Rattle.fc_verify.specs.Pass.{is_typable}
use Rattle.fc_verify.specs.Refusals.{IsFaultOf, IsRefusal, refusal_of}
use Rattle.fc_verify.specs.Runs.{IsUntypedProgram}
use Rattle.fc_verify.specs.Stages.{IsHeadOf, IsCodeOf, IsTypingFault}
use Rattle.fc_verify.specs.Verified.{program_of as program}
use Rattle.fc_isa.proofs.First.{first_fault_is}
use Rattle.fc_isa.proofs.Low.{low_fault_at}
use Rattle.fc_verify.proofs.LowHead.{head_rule_low}
use Rattle.fc_image.proofs.Written.{few_slots}

-- whether the program in an image has a typing
abbrev pub types : List ℕ → Bool
types image = is_typable (stated image).version (stated image).vars_size (code_in image)

pub judged_head : (image : List ℕ) (rule : Rule) → head_fault image ≡ Some rule → judged image ≡ Breaks rule 0
unfolding judged
judged_head image rule e = rw e refl

pub judged_slots : (image : List ℕ) (rule : Rule) (slot : ℕ) → head_fault image ≡ None → first_fault (slots_of image) ≡ Some (slot, rule) → judged image ≡ Breaks rule slot
unfolding judged
judged_slots image rule slot e f = rw (e, f) refl

pub judged_shape : (image : List ℕ) (rule : Rule) (slot : ℕ) → head_fault image ≡ None → first_fault (slots_of image) ≡ None → shape_fault (stated image) (code_in image) ≡ Some (slot, rule) → judged image ≡ Breaks rule slot
unfolding judged
judged_shape image rule slot e f s = rw (e, f, s) refl

pub judged_untypable : (image : List ℕ) → head_fault image ≡ None → first_fault (slots_of image) ≡ None → shape_fault (stated image) (code_in image) ≡ None → types image ≡ false → judged image ≡ Untypable
unfolding judged
judged_untypable image e f s t = rw (e, f, s, t) refl

pub judged_accepts : (image : List ℕ) → head_fault image ≡ None → first_fault (slots_of image) ≡ None → shape_fault (stated image) (code_in image) ≡ None → types image ≡ true → judged image ≡ Accepts (program_in image)
unfolding judged
judged_accepts image e f s t = rw (e, f, s, t) refl

-- if the error of a result is e, a property of e is one of the result's error
pub err_is : {T : Type 0} (r : Result T Refusal) (e : Refusal) (P : Refusal → Type 0) → IsErrAnd r (λ x. x ≡ e) → P e → IfErr r P
err_is (Ok x) e P h p = absurd h
err_is (Err x) e P h p = subst P (sym h) p

fault_of : (image : List ℕ) (j : Judgement) (f : Fault) → judged image ≡ j → IsFaultOf image j f → IsRefusal image (Broken f)
fault_of image j f e h = subst (λ k. IsFaultOf image k f) (sym e) h

pub refused_head : (image : List ℕ) (f : Fault) → head_fault image ≡ Some f.rule → f.slot ≡ 0 → IsRefusal image (Broken f)
refused_head image f e z = fault_of image (Breaks f.rule 0) f (judged_head image f.rule e) (refl, z, head_rule_low image f.rule e)

-- the program in an image has one instruction for each eight bytes of its slots
pub code_count : (image : List ℕ) → length (code_in image) ≡ length (slots_of image) / 8
unfolding decoded_program
code_count image = length-insns_below (slots_of image) (length (slots_of image) / 8)

pub code_found : (image : List ℕ) (head : Head) (code : List Insn) → IsHeadOf image head → code ≡ code_in image → first_fault (slots_of image) ≡ None → Spells (slots_of image) code
    → IsCodeOf image code
code_found image head code h e f s = record {
  fault = f;
  code_is = e;
  spelled = s;
  count = let c = ap (λ x. x.count) h.stated_is in omega (arith, ap length e, code_count image, length-drop 16 image, h.size, c);
}

pub refused_decode : (image : List ℕ) (head : Head) (e : DecodeError) → IsHeadOf image head → IsDecodeError (slots_of image) e → IsRefusal image (refusal_of e)
refused_decode image head (FaultAt f) h d =
    fault_of image (Breaks f.rule f.slot) f (judged_slots image f.rule f.slot h.fault (first_fault_is (slots_of image) f.rule f.slot d)) (refl, refl, low_fault_at (slots_of image) f.slot f.rule d.broken)
refused_decode image head NoRoom h d = h.fault

-- ---- the program that the slots encode

insn_there : (code : List Insn) (slot : ℕ) (insn : Insn) → All IsInsn code → slice_get code slot ≡ Some insn → IsInsn insn
insn_there code slot insn h e = subst IsInsn (get_or_from_slice_get code slot insn insn e) (h slot insn (slice_get_within code slot insn e))

pub untyped_program : (version : ImageVersion) (bytes : List ℕ) (code : List Insn) → 1 ≤ length code → length code ≤ 1024 → Spells bytes code → IsShaped version code → frames code ≤ 8 → IsUntypedProgram version code
untyped_program version bytes code some few s shaped nested = record {
  some = some;
  few = few;
  insns = λ slot insn e. insn_there code slot insn s.insns e;
  whole = s.whole;
  shaped = shaped;
  frames = nested;
}

few_frames : (version : ImageVersion) (n : ℕ) → n ≤ frames_allowed version → n ≤ 8
few_frames One n le = omega (arith, le)
few_frames Two n le = omega (arith, le)

pub untyped_of : (image : List ℕ) (head : Head) (code : List Insn) → IsHeadOf image head → IsCodeOf image code → IsShaped head.version code → frames code ≤ frames_allowed head.version → IsUntypedProgram head.version code
untyped_of image head code h k s nested =
    let c = ap (λ x. x.count) h.stated_is in
    let few = few_slots head.version head.count h.limits.count in
    untyped_program head.version (slots_of image) code (omega (arith, h.limits.some, c, k.count)) (omega (arith, few, c, k.count)) k.spelled s
    (few_frames head.version (frames code) nested)

-- the control-flow fault of the decoded program is that of the program in the image; so is its
-- typing's judgement
pub shape_of : (image : List ℕ) (head : Head) (code : List Insn) (o : Option (ℕ × Rule)) → IsHeadOf image head → IsCodeOf image code → shape_fault head code ≡ o → shape_fault (stated image) (code_in image) ≡ o
shape_of image head code o h k e = ap (λ x. shape_fault x (code_in image)) (sym h.stated_is) ∙ ap (shape_fault head) (sym k.code_is) ∙ e

pub types_of : (image : List ℕ) (head : Head) (code : List Insn) (b : Bool) → IsHeadOf image head → IsCodeOf image code → is_typable head.version head.vars_size code ≡ b → types image ≡ b
types_of image head code b h k e =
    ap (λ x. is_typable x.version x.vars_size (code_in image)) (sym h.stated_is) ∙ ap (λ x. is_typable head.version head.vars_size x) (sym k.code_is) ∙ e

pub refused_shape : (image : List ℕ) (head : Head) (code : List Insn) (f : Fault) → IsHeadOf image head → IsCodeOf image code → shape_fault head code ≡ Some (f.slot, f.rule) → number_of f.rule < 20 → IsRefusal image (Broken f)
refused_shape image head code f h k e low =
    fault_of image (Breaks f.rule f.slot) f (judged_shape image f.rule f.slot h.fault k.fault (shape_of image head code (Some (f.slot, f.rule)) h k e)) (refl, refl, low)

pub refused_typing : (image : List ℕ) (head : Head) (code : List Insn) (f : Fault) → IsHeadOf image head → IsCodeOf image code → shape_fault head code ≡ None → is_typable head.version head.vars_size code ≡ false → IsTypingFault code f → IsRefusal image (Broken f)
refused_typing image head code f h k s t r =
    fault_of image Untypable f (judged_untypable image h.fault k.fault (shape_of image head code None h k s) (types_of image head code false h k t))
    (r.from, r.upto, omega (arith, r.within, k.count))

pub accepts_is : (image : List ℕ) (head : Head) (code : List Insn) (cost : ℕ) → IsHeadOf image head → IsCodeOf image code → shape_fault head code ≡ None → cost ≡ longest head.version code → is_typable head.version head.vars_size code ≡ true
    → judged image ≡ Accepts (program head.version code head.vars_size head.budget cost)
accepts_is image head code cost h k s l t =
    judged_accepts image h.fault k.fault (shape_of image head code None h k s) (types_of image head code true h k t)
    ∙ ap (λ x. Accepts (program x.version (code_in image) x.vars_size x.budget (longest x.version (code_in image)))) (sym h.stated_is)
    ∙ ap (λ x. Accepts (program head.version x head.vars_size head.budget (longest head.version x))) (sym k.code_is)
    ∙ ap (λ x. Accepts (program head.version code head.vars_size head.budget x)) (sym l)

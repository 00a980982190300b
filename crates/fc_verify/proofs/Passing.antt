-- The pass in progress: the slots before a given slot were passed.
use Rattle.std.proofs.Common.{◌≡◌, ℕ, zero, suc, ◌+◌, ◌<◌, ◌≤◌, Option, Some, None, List, [], ◌∷◌, ◌++◌, length, take, refl, sym, ap, ◌∙◌, subst, arith, length-set}
use Rattle.std.specs.Prelude.{slice_get, slice_set}
use Rattle.std.proofs.lemmas.List.{take_all, take_more}
use Rattle.fc_isa.specs.declared.insn.Insn.{Insn}
use Rattle.fc_isa.specs.declared.version.ImageVersion.{ImageVersion}
use Rattle.fc_isa.specs.Flow.{flow}
use Rattle.fc_isa.specs.Program.{IsInsn}
use Rattle.fc_image.specs.declared.loops.Loop.{Loop}
use Rattle.fc_image.specs.LoopLaws.{AreLoops}
use Rattle.fc_kinds.specs.declared.kind.Kind.{Kind}
use Rattle.fc_kinds.specs.Entry.{entry}
use Rattle.fc_kinds.specs.Containing.{AreKinds}
use Rattle.fc_verify.specs.Typing.{States, state_at}
use Rattle.fc_kinds.specs.Values.{with_some}
use Rattle.fc_kinds.specs.Ways.{ways_after}
use Rattle.fc_kinds.proofs.JoinLaws.{joined_kinds}
use Rattle.fc_kinds.proofs.WayLaws.{are_numbers}
use Rattle.fc_verify.specs.Pass.{passed_with, passed, pass_from, beginning, pass_with}
use Rattle.fc_verify.proofs.PassLaws.{passed_parts, settled_now, set_all, fit_ways, effect_kinds, entry_kinds, first_is, none_at, nones}
use Rattle.fc_verify.proofs.HandedOn.{led_all, led_length, all_from}

-- each abstract value of each state contains some value of its form
abbrev pub AreProper : States → Type 0
AreProper states = (slot : ℕ) (kinds : List Kind) → state_at states slot ≡ Some kinds → AreKinds kinds

passed_proper : (vars : ℕ) (code : List Insn) (loops : List Loop) (slot : ℕ) (insn : Insn) (states next : States) (found : List Kind) → AreLoops code loops → IsInsn insn → AreProper states → state_at states slot ≡ Some found
    → passed_with vars code loops slot insn (Some found) states ≡ Some next → AreProper next × (length next ≡ length states)
passed_proper vars code loops slot insn states next found a n p e f =
    let r = passed_parts vars code loops slot insn found states next f in
    let kinds = r.0 in
    let after = r.1 in
    let ws = ways_after slot insn kinds after in
    let base = slice_set states slot (Some kinds) in
    let fit = (settled_now code loops slot found kinds a (p slot found e) r.2.settled_is).fit in
    let fit' = effect_kinds vars insn kinds after n fit r.2.effect in
    let in_base = set_all states slot kinds (λ k ks. AreKinds ks) fit p in
    let all = led_all (λ k ks. AreKinds ks) slot base ws (λ k x y q s. joined_kinds x y q s) in_base
    (all_from (λ t ks. slot < t → AreKinds ks) (flow slot insn) insn kinds after (fit_ways vars slot (flow slot insn) insn kinds after n (are_numbers vars insn kinds after r.2.effect) fit fit')) in
    (subst AreProper r.3 all, ap length (sym r.3) ∙ led_length slot base ws ∙ length-set states slot (Some kinds))

pub record Passing (version : ImageVersion) (vars : ℕ) (code : List Insn) (loops : List Loop) (slot : ℕ) (states : States) : Type 0 where
  pub count : length states ≡ length code
  pub passed_is : pass_from vars code loops 0 (take slot code) (beginning version code) ≡ Some states
  pub proper : AreProper states

beginning_length : (version : ImageVersion) (code : List Insn) → length (beginning version code) ≡ length code
beginning_length version [] = refl
beginning_length version (insn ∷ code) = ap suc (nones code)

pub passing_start : (version : ImageVersion) (vars : ℕ) (code : List Insn) (loops : List Loop) → Passing version vars code loops 0 (beginning version code)
unfolding pass_from
passing_start version vars code loops = record { count = beginning_length version code; passed_is = refl; proper = λ k ks e. subst AreKinds (first_is version code k ks e).1 (entry_kinds version) }

one_slot : (o : Option States) → with_some o (λ states. Some states) ≡ o
one_slot None = refl
one_slot (Some states) = refl

pass_more : (vars : ℕ) (whole : List Insn) (loops : List Loop) (from : ℕ) (code : List Insn) (n : ℕ) (insn : Insn) (states : States) → slice_get code n ≡ Some insn
    → pass_from vars whole loops from (take (suc n) code) states ≡ with_some (pass_from vars whole loops from (take n code) states) (passed vars whole loops (from + n) insn)
unfolding pass_from
pass_more vars whole loops from [] n insn states e = absurd (cc e)
pass_more vars whole loops from (x ∷ code) zero insn states e =
    let same : x ≡ insn = cc e in
    let at : from ≡ from + 0 = omega arith in
    one_slot (passed vars whole loops from x states) ∙ ap (λ i. passed vars whole loops from i states) same ∙ ap (λ k. passed vars whole loops k insn states) at
pass_more vars whole loops from (x ∷ code) (suc n) insn states e = go (λ s. pass_more vars whole loops (from + 1) code n insn s e) (passed vars whole loops from x states)
  where
    go : ((s : States) → pass_from vars whole loops (from + 1) (take (suc n) code) s ≡ with_some (pass_from vars whole loops (from + 1) (take n code) s) (passed vars whole loops (from + 1 + n) insn))
        → (o : Option States) → with_some o (pass_from vars whole loops (from + 1) (take (suc n) code)) ≡ with_some (with_some o (pass_from vars whole loops (from + 1) (take n code))) (passed vars whole loops (from + suc n) insn)
    go ih None = refl
    go ih (Some s) = let at : from + 1 + n ≡ from + suc n = omega arith in ih s ∙ ap (λ k. with_some (pass_from vars whole loops (from + 1) (take n code) s) (passed vars whole loops k insn)) at

pass_none : (vars : ℕ) (whole : List Insn) (loops : List Loop) (from : ℕ) (code : List Insn) (n : ℕ) (states : States) → pass_from vars whole loops from (take n code) states ≡ None → pass_from vars whole loops from code states ≡ None
unfolding pass_from
pass_none vars whole loops from code zero states e = absurd (cc e)
pass_none vars whole loops from [] (suc n) states e = absurd (cc e)
pass_none vars whole loops from (x ∷ code) (suc n) states e = go (λ s. pass_none vars whole loops (from + 1) code n s) (passed vars whole loops from x states) e
  where
    go : ((s : States) → pass_from vars whole loops (from + 1) (take n code) s ≡ None → pass_from vars whole loops (from + 1) code s ≡ None)
        → (o : Option States) → with_some o (pass_from vars whole loops (from + 1) (take n code)) ≡ None → with_some o (pass_from vars whole loops (from + 1) code) ≡ None
    go ih None g = refl
    go ih (Some s) g = ih s g

-- the pass up to the next slot passes one more slot
pass_next : (version : ImageVersion) (vars : ℕ) (code : List Insn) (loops : List Loop) (slot : ℕ) (states : States) (insn : Insn) → Passing version vars code loops slot states → slice_get code slot ≡ Some insn → pass_from vars code loops 0 (take (slot + 1) code) (beginning version code) ≡ passed vars code loops slot insn states
pass_next version vars code loops slot states insn p g =
    let m : slot + 1 ≡ suc slot = omega arith in
    let z : 0 + slot ≡ slot = omega arith in
    ap (λ n. pass_from vars code loops 0 (take n code) (beginning version code)) m ∙ pass_more vars code loops 0 code slot insn (beginning version code) g
    ∙ ap (λ o. with_some o (passed vars code loops (0 + slot) insn)) p.passed_is ∙ ap (λ k. passed vars code loops k insn states) z

pub passing_some : (version : ImageVersion) (vars : ℕ) (code : List Insn) (loops : List Loop) (slot : ℕ) (states next : States) (insn : Insn) (found : List Kind) → AreLoops code loops → IsInsn insn → Passing version vars code loops slot states → slice_get code slot ≡ Some insn → state_at states slot ≡ Some found
    → passed_with vars code loops slot insn (Some found) states ≡ Some next → Passing version vars code loops (slot + 1) next
passing_some version vars code loops slot states next insn found a n p g e f =
    let r = passed_proper vars code loops slot insn states next found a n p.proper e f in
    record { count = r.1 ∙ p.count; passed_is = pass_next version vars code loops slot states insn p g ∙ ap (λ o. passed_with vars code loops slot insn o states) e ∙ f; proper = r.0 }

pub passing_none : (version : ImageVersion) (vars : ℕ) (code : List Insn) (loops : List Loop) (slot : ℕ) (states : States) (insn : Insn) → Passing version vars code loops slot states → slice_get code slot ≡ Some insn → state_at states slot ≡ None → Passing version vars code loops (slot + 1) states
passing_none version vars code loops slot states insn p g e =
    record { count = p.count; passed_is = pass_next version vars code loops slot states insn p g ∙ ap (λ o. passed_with vars code loops slot insn o states) e; proper = p.proper }

-- if a slot with a state isn't passed, the pass has no result
pub passing_refused : (version : ImageVersion) (vars : ℕ) (code : List Insn) (loops : List Loop) (slot : ℕ) (states : States) (insn : Insn) (found : List Kind) → Passing version vars code loops slot states → slice_get code slot ≡ Some insn → state_at states slot ≡ Some found
    → passed_with vars code loops slot insn (Some found) states ≡ None → pass_with version vars code loops ≡ None
passing_refused version vars code loops slot states insn found p g e f =
    pass_none vars code loops 0 code (slot + 1) (beginning version code) (pass_next version vars code loops slot states insn p g ∙ ap (λ o. passed_with vars code loops slot insn o states) e ∙ f)

pub passing_end : (version : ImageVersion) (vars : ℕ) (code : List Insn) (loops : List Loop) (slot : ℕ) (states : States) → Passing version vars code loops slot states → length code ≤ slot → pass_with version vars code loops ≡ Some states
passing_end version vars code loops slot states p e = ap (λ l. pass_from vars code loops 0 l (beginning version code)) (sym (take_all slot code e)) ∙ p.passed_is

-- at the beginning of the pass, the first state is that of the entry
first_state : (version : ImageVersion) (code : List Insn) → 0 < length code → take 1 (beginning version code) ≡ Some (entry version) ∷ []
first_state version [] h = absurd (omega arith)
first_state version (insn ∷ code) h = refl

later_state : (version : ImageVersion) (code : List Insn) (slot : ℕ) → 0 < slot → slot < length code → take (slot + 1) (beginning version code) ≡ take slot (beginning version code) ++ (None ∷ [])
later_state version code slot h lt = take_more (beginning version code) slot None (omega (arith, lt, beginning_length version code)) ∙ ap (λ x. take slot (beginning version code) ++ (x ∷ [])) (none_there code slot h)
  where
    none_there : (code : List Insn) (slot : ℕ) → 0 < slot → state_at (beginning version code) slot ≡ None
    none_there [] slot h = refl
    none_there (insn ∷ code) zero h = absurd (omega arith)
    none_there (insn ∷ code) (suc slot) h = none_at code slot

pub first_states_more : (version : ImageVersion) (code : List Insn) (slot : ℕ) (s : Option (List Kind)) → slot < length code → (slot ≡ 0 → s ≡ Some (entry version)) → (1 ≤ slot → s ≡ None) → take slot (beginning version code) ++ (s ∷ []) ≡ take (slot + 1) (beginning version code)
first_states_more version code zero s lt f g = ap (λ x. x ∷ []) (f refl) ∙ sym (first_state version code lt)
first_states_more version code (suc slot) s lt f g =
    ap (λ x. take (suc slot) (beginning version code) ++ (x ∷ [])) (g (omega arith)) ∙ sym (later_state version code (suc slot) (omega arith) lt)

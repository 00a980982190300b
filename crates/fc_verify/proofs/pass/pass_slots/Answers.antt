use Rattle.std.proofs.Common.{◌≡◌, ℕ, ◌+◌, ◌<◌, ◌≤◌, nat_lt, Bool, List, length, Option, Some, None, get_or, refl, sym, ap, ◌∙◌, subst, arith}
use Rattle.std.specs.Prelude.{slice_get}
use Rattle.std.proofs.lemmas.Option.{slice_get-get_or}
use Rattle.fc_isa.specs.declared.insn.Insn.{Insn}
use Rattle.fc_isa.specs.Flow.{flow}
use Rattle.fc_image.specs.Head.{loops_allowed}
use Rattle.fc_image.specs.Loops.{begins, loops_in}
use Rattle.fc_image.specs.LoopLaws.{AreLoops}
use Rattle.fc_image.specs.declared.loops.Loop.{Loop}
use Rattle.fc_image.specs.Tables.{AreHeads}
use Rattle.fc_image.proofs.HeadTable.{default_in}
use Rattle.fc_kinds.specs.declared.kind.Kind.{Kind}
use Rattle.fc_kinds.specs.Containing.{AreShallow}
use Rattle.fc_verify.specs.Typing.{States, state_at}
use Rattle.fc_verify.specs.Heads.{IsLoopOf, is_inside, reached}
use Rattle.fc_verify.specs.Pass.{IsWithin, passed_by, passed_with}
use Rattle.fc_verify.specs.Stages.{Stops}
use Rattle.fc_verify.proofs.Levels.{AreLow, shallow_up, low_up, low_passed, beginning_low}
use Rattle.fc_verify.proofs.Passing.{Passing, passing_start, passing_some, passing_none, passing_refused}
use Rattle.fc_verify.proofs.Table.{Reaches, loop_is, reached_is, reaches_none, reaches_on, within_is}
use Rattle.fc_verify.proofs.pass.pass_slots.Goals as goal
use Rattle.fc_verify.proofs.pass.pass_slots.Goals.{in-Some+else-not-pass, in_default}

-- the table's entry for a slot is the loop that begins there
begins_there : (loops : List Loop) (heads : List (Option Loop)) (slot : ℕ) (o : Option Loop) → AreHeads loops heads → slot < 1024
    → get_or heads slot o ≡ begins loops slot
begins_there loops heads slot o h lt = let size = h.count in default_in heads slot o None (omega (arith, size, lt)) ∙ h.each slot lt

-- passing a slot with the loop from the table, and with the computed flag of a body, is passing it
-- with the program's loops
with_loops : (vars : ℕ) (code : List Insn) (loops : List Loop) (slot : ℕ) (insn : Insn) (found : List Kind) (states : States)
    (o : Option Loop) (inside : Bool) (r : Option States) → o ≡ begins loops slot → inside ≡ is_inside loops slot
    → passed_by vars code o inside slot insn found states ≡ r → passed_with vars code loops slot insn (Some found) states ≡ r
with_loops vars code loops slot insn found states o inside r e f g =
    ap (λ x. passed_by vars code x (is_inside loops slot) slot insn found states) (sym e) ∙ ap (λ b. passed_by vars code o b slot insn found states) (sym f) ∙ g

-- the computed reach is that of the bodies so far, with the loop that begins at the slot
far_is : (loops : List Loop) (slot reach now : ℕ) (o : Option Loop) → now ≡ reached reach o → o ≡ begins loops slot → now ≡ reached reach (begins loops slot)
far_is loops slot reach now o e b = e ∙ ap (reached reach) b

-- the loop in the table at a slot is a loop of the program
loop_there : (code : List Insn) (loops : List Loop) (heads : List (Option Loop)) (slot : ℕ) (o : Option Loop) → AreLoops code loops → AreHeads loops heads
    → slot < 1024 → IsLoopOf code (get_or heads slot o)
loop_there code loops heads slot o a h lt = subst (IsLoopOf code) (sym (begins_there loops heads slot o h lt)) (loop_is code loops slot a)

insn_there : (code : List Insn) (slot : ℕ) (insn : Insn) → slot < length code → insn ≡ get_or code slot insn → slice_get code slot ≡ Some insn
insn_there code slot insn lt is = slice_get-get_or code slot insn lt ∙ ap Some (sym is)

pub loop-slot-init : goal.loop-slot-init
loop-slot-init c =
    let version = c.args.version in
    let code = c.args.code.now in
    let loops = loops_in version code in
    record {
      passing = subst (Passing version c.args.vars_size code loops 0) (sym c.requires.beginning) (passing_start version c.args.vars_size code loops);
      low = subst (AreLow 0) (sym c.requires.beginning) (beginning_low version code);
      reach = reaches_none loops;
    }

pub pass-requires-clause-counted : goal.pass-requires-clause-counted
pass-requires-clause-counted c =
    let p = c.requires.program in
    let code = c.args.code.now in
    let loops = (c.shaped_loops_are_loops.ensures (loops_allowed c.args.version) code p.insns p.whole p.shaped).typing in
    loop_there code (loops_in c.args.version code) c.loops_by_head-heads.result c.loop-slot.slot c.index-heads-slot.result loops
    c.loops_by_head-heads.ensures (omega (arith, p.few, c.loop-slot-test.true))

pub untyped-requires-clause-counted : goal.untyped-requires-clause-counted
untyped-requires-clause-counted c =
    let p = c.requires.program in
    let code = c.args.code.now in
    let loops = (c.shaped_loops_are_loops.ensures (loops_allowed c.args.version) code p.insns p.whole p.shaped).typing in
    loop_there code (loops_in c.args.version code) c.loops_by_head-heads.result c.loop-slot.slot c.index-heads-slot.result loops
    c.loops_by_head-heads.ensures (omega (arith, p.few, c.loop-slot-test.true))

pub pass-requires-clause-levels : goal.pass-requires-clause-levels
pass-requires-clause-levels c =
    let l = c.loop-slot in
    let few : l.slot ≤ 1023 = omega (arith, c.requires.program.few, c.loop-slot-test.true) in
    subst (AreShallow 1023) (sym c.copy_from_slice.ensures.after)
    (shallow_up l.slot 1023 c.in-Some.found few (l.invariant.low l.slot c.in-Some.found c.in-Some.is))

pub pass-requires-clause-within : goal.pass-requires-clause-within
pass-requires-clause-within c =
    let l = c.loop-slot in
    let p = c.requires.program in
    let code = c.args.code.now in
    let insn = c.index-code-slot.result in
    let at = insn_there code l.slot insn c.loop-slot-test.true c.index-code-slot.is in
    let loops = (c.shaped_loops_are_loops.ensures (loops_allowed c.args.version) code p.insns p.whole p.shaped).typing in
    subst (λ n. IsWithin n (flow l.slot insn)) (sym l.invariant.passing.count)
    (within_is code (loops_in c.args.version code) l.slot (flow l.slot insn) loops (loops.onward l.slot insn at))

pub pass-requires-clause-insn : goal.pass-requires-clause-insn
pass-requires-clause-insn c =
    let l = c.loop-slot in
    let insn = c.index-code-slot.result in
    c.requires.program.insns l.slot insn (insn_there c.args.code.now l.slot insn c.loop-slot-test.true c.index-code-slot.is)

pub untyped-requires-clause-insn : goal.untyped-requires-clause-insn
untyped-requires-clause-insn c =
    let l = c.loop-slot in
    let insn = c.index-code-slot.result in
    c.requires.program.insns l.slot insn (insn_there c.args.code.now l.slot insn c.loop-slot-test.true c.index-code-slot.is)

pub loop-slot-preserved : goal.loop-slot-preserved
loop-slot-preserved c =
    let l = c.loop-slot in
    let version = c.args.version in
    let vars = c.args.vars_size in
    let code = c.args.code.now in
    let all = loops_in version code in
    let program = c.requires.program in
    let loops : AreLoops code all = (c.shaped_loops_are_loops.ensures (loops_allowed version) code program.insns program.whole program.shaped).typing in
    let few : l.slot < 1024 = omega (arith, program.few, c.loop-slot-test.true) in
    let insn = c.index-code-slot.result in
    let at = insn_there code l.slot insn c.loop-slot-test.true c.index-code-slot.is in
    let p = l.invariant.passing in
    let begin = begins_there all c.loops_by_head-heads.result l.slot c.index-heads-slot.result c.loops_by_head-heads.ensures few in
    let far = far_is all l.slot l.reach c.reached-reach.result _ c.reached-reach.ensures begin in
    let reach = subst (Reaches all (l.slot + 1)) (sym far) (reaches_on code all l.slot l.reach loops l.invariant.reach) in
    elim c.match-states-slot.branch [
      | in-Some+else-not-pass w ↦
          let ks = w.copy_from_slice.new.self in
          let next = w.pass.new.states in
          let is : state_at l.states l.slot ≡ Some ks = w.in-Some.is ∙ ap Some (sym w.copy_from_slice.ensures.after) in
          let inside = ap (nat_lt l.slot) far ∙ reached_is code all l.slot l.reach loops l.invariant.reach in
          let passed = with_loops vars code all l.slot insn ks l.states _ _ (Some next) begin inside (w.if-not-pass.ensures.met refl) in
          let now = passing_some version vars code all l.slot l.states next insn ks loops (program.insns l.slot insn at) p at is passed in
          let low = low_passed l.slot vars code all l.slot insn ks l.states next l.invariant.low is passed in
          record {
            passing = subst (Passing version vars code all (l.slot + 1)) (sym w.states-is) now;
            low = subst (AreLow (l.slot + 1)) (sym w.states-is) low;
            reach = reach;
          }
      | in_default w ↦
          record {
            passing = subst (Passing version vars code all (l.slot + 1)) (sym w.states-is)
                (passing_none version vars code all l.slot l.states insn p at w.in_default.is);
            low = subst (AreLow (l.slot + 1)) (sym w.states-is) (low_up l.slot (l.slot + 1) l.states (omega arith) l.invariant.low);
            reach = reach;
          }
    ]

pub returns-in-Some-states-clause-refused : goal.returns-in-Some-states-clause-refused
returns-in-Some-states-clause-refused c =
    let l = c.loop-slot in
    let version = c.args.version in
    let vars = c.args.vars_size in
    let code = c.args.code.now in
    let all = loops_in version code in
    let program = c.requires.program in
    let loops : AreLoops code all = (c.shaped_loops_are_loops.ensures (loops_allowed version) code program.insns program.whole program.shaped).typing in
    let few : l.slot < 1024 = omega (arith, program.few, c.loop-slot-test.true) in
    let insn = c.index-code-slot.result in
    let at = insn_there code l.slot insn c.loop-slot-test.true c.index-code-slot.is in
    let begin = begins_there all c.loops_by_head-heads.result l.slot c.index-heads-slot.result c.loops_by_head-heads.ensures few in
    let far = far_is all l.slot l.reach c.reached-reach.result _ c.reached-reach.ensures begin in
    let inside = ap (nat_lt l.slot) far ∙ reached_is code all l.slot l.reach loops l.invariant.reach in
    let ks = c.copy_from_slice.new.self in
    let is : state_at l.states l.slot ≡ Some ks = c.in-Some.is ∙ ap Some (sym c.copy_from_slice.ensures.after) in
    passing_refused version vars code all l.slot l.states insn ks l.invariant.passing at is
    (with_loops vars code all l.slot insn ks l.states _ _ None begin inside (c.if-not-pass.ensures.refused refl))

pub returns-in-Some-states-clause-known : goal.returns-in-Some-states-clause-known
returns-in-Some-states-clause-known c =
    let l = c.loop-slot in
    let version = c.args.version in
    let vars = c.args.vars_size in
    let code = c.args.code.now in
    let all = loops_in version code in
    let program = c.requires.program in
    let loops : AreLoops code all = (c.shaped_loops_are_loops.ensures (loops_allowed version) code program.insns program.whole program.shaped).typing in
    let few : l.slot < 1024 = omega (arith, program.few, c.loop-slot-test.true) in
    let insn = c.index-code-slot.result in
    let at = insn_there code l.slot insn c.loop-slot-test.true c.index-code-slot.is in
    let begin = begins_there all c.loops_by_head-heads.result l.slot c.index-heads-slot.result c.loops_by_head-heads.ensures few in
    let far = far_is all l.slot l.reach c.reached-reach.result _ c.reached-reach.ensures begin in
    let inside = ap (nat_lt l.slot) far ∙ reached_is code all l.slot l.reach loops l.invariant.reach in
    let u = c.untyped.result in
    let found = c.in-Some-states.found in
    let e = c.untyped.ensures in
    let stops : Stops vars code (begins all l.slot) (is_inside all l.slot) insn found u.known u.demand =
    subst (λ o. Stops vars code o (is_inside all l.slot) insn found u.known u.demand) begin
    (subst (λ b. Stops vars code (get_or c.loops_by_head-heads.result l.slot c.index-heads-slot.result) b insn found u.known u.demand) inside
    e.stops) in
    let passed = l.invariant.passing.passed_is in
    let is = ap (λ states. state_at states l.slot) (sym (c.if-not-pass.ensures.kept refl)) ∙ c.in-Some-states.is in
    record {
      rule = e.rule;
      insn = insn;
      insn_is = rw e.slot at;
      states = l.states;
      passed = rw e.slot passed;
      found = found;
      found_is = rw e.slot is;
      stops = rw e.slot stops;
    }

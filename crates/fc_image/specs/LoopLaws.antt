-- Consequences of the form of counted loops: for a program's typing, for its paths, and for its
-- counters.
use Rattle.std.specs.Prelude.{◌≡◌, ◌≢◌, ◌⊎◌, ℕ, suc, ◌+◌, ◌<◌, ◌≤◌, Bool, true, false, pos, List, length, Some, None, slice_get}
use Rattle.fc_isa.specs.declared.insn.Width.TheVariants.{W64}
use Rattle.fc_isa.specs.declared.insn.AluOp.TheVariants.{Add}
use Rattle.fc_isa.specs.declared.insn.Relation.TheVariants.{Lt}
use Rattle.fc_isa.specs.declared.insn.Operand.TheVariants.{Imm}
use Rattle.fc_isa.specs.declared.insn.Jump.{Jump}
use Rattle.fc_isa.specs.declared.insn.Insn.{Insn}
use Rattle.fc_isa.specs.declared.insn.Insn.TheVariants.{Alu, JumpIf, Exit}
use Rattle.fc_isa.specs.Flow.{Flow, Halts, Goes, Forks, Enters, flow}
use Rattle.fc_isa.specs.Program.{IsInsn, is_program}
use Rattle.fc_isa.specs.Writes.{writes}
use Rattle.fc_image.specs.Flow.{flow_at}
use Rattle.fc_image.specs.Functions.{frames}
use Rattle.fc_image.specs.Laws.{frames_at}
use Rattle.fc_image.specs.declared.loops.Loop.{Loop}
use Rattle.fc_image.specs.Loops.{is_written, has_call, begins, ends, loops_of}
use Rattle.fc_image.specs.Paths.{IsLongestIn, cost_in}
use Rattle.fc_image.specs.ShapeRules.{IsShapedBy}

-- t is later than `slot`, and is a slot of a program of `count` slots.
abbrev pub IsLater : ℕ → ℕ → ℕ → Type 0
IsLater count slot t = (slot < t) × (t < count)

-- each successor is a later slot, and in the program.
abbrev pub IsForward : ℕ → ℕ → Flow → Type 0
IsForward count slot Halts = Unit {0}
IsForward count slot (Goes next) = IsLater count slot next
IsForward count slot (Forks taken next) = IsLater count slot taken × IsLater count slot next
IsForward count slot (Enters start next) = IsLater count slot start × IsLater count slot next

-- slot t is a successor within the same function.
abbrev pub FlowsTo : Flow → ℕ → Type 0
FlowsTo Halts t = ⊥
FlowsTo (Goes next) t = t ≡ next
FlowsTo (Forks taken next) t = (t ≡ taken) ⊎ (t ≡ next)
FlowsTo (Enters start next) t = t ≡ next

-- the flow calls the function that starts at slot t.
abbrev pub Calls : Flow → ℕ → Type 0
Calls (Enters start next) t = t ≡ start
Calls f t = ⊥

-- the loop's last slot has its back jump, `jlt counter, bound`.
pub record JumpsBack (code : List Insn) (l : Loop) : Type 0 where
  pub jump : Jump
  pub stands : slice_get code l.last ≡ Some (JumpIf jump)
  pub width : jump.width ≡ W64
  pub relation : jump.relation ≡ Lt
  pub left : jump.left ≡ l.counter
  pub right : jump.right ≡ Imm (pos l.bound)

-- ---- for typings

pub record IsLoop (code : List Insn) (l : Loop) : Type 0 where
  pub order : l.head < l.last
  pub within : l.last < length code
  pub counter : l.counter < 10
  pub some : 1 ≤ l.bound
  pub few : l.bound ≤ 1024
  pub jumps : JumpsBack code l
  pub counts : is_written code l l.counter ≡ true
  -- a flow into the body from an earlier slot leads to the head, or comes from the body.
  pub closed :
      (k t : ℕ) (insn : Insn) → slice_get code k ≡ Some insn → FlowsTo (flow k insn) t → k < t → l.head < t → t ≤ l.last
      → l.head ≤ k
  -- no function starts within the body.
  pub whole : (k t : ℕ) (insn : Insn) → slice_get code k ≡ Some insn → Calls (flow k insn) t → l.head < t → t ≤ l.last → ⊥

-- one of the loops has its back jump at `slot` and its head at `t`.
pub record IsBack (loops : List Loop) (slot t : ℕ) : Type 0 where
  pub index : ℕ
  pub loop : Loop
  pub among : slice_get loops index ≡ Some loop
  pub last : slot ≡ loop.last
  pub head : t ≡ loop.head

-- each successor is in the program, and is a later slot or the target of a loop's back jump.
abbrev pub IsOnward : ℕ → List Loop → ℕ → Flow → Type 0
IsOnward count loops slot Halts = Unit {0}
IsOnward count loops slot (Goes next) = IsLater count slot next
IsOnward count loops slot (Forks taken next) = (IsLater count slot taken ⊎ IsBack loops slot taken) × IsLater count slot next
IsOnward count loops slot (Enters start next) = IsLater count slot start × IsLater count slot next

-- the loops of a program: nested or apart, and no other jump goes back.
pub record AreLoops (code : List Insn) (loops : List Loop) : Type 0 where
  pub each : (i : ℕ) (l : Loop) → slice_get loops i ≡ Some l → IsLoop code l
  pub one : (i : ℕ) (l : Loop) → slice_get loops i ≡ Some l → begins loops l.head ≡ Some l
  -- each register that an inner body writes is also written by the outer body.
  pub inner :
      (i k : ℕ) (l m : Loop) (r : ℕ) → slice_get loops i ≡ Some l → slice_get loops k ≡ Some m → l.head < m.head → m.head ≤ l.last
      → is_written code m r ≡ true → is_written code l r ≡ true
  pub calls :
      (i k : ℕ) (l m : Loop) → slice_get loops i ≡ Some l → slice_get loops k ≡ Some m → l.head < m.head → m.head ≤ l.last
      → has_call code m ≡ true → has_call code l ≡ true
  pub onward :
      (slot : ℕ) (insn : Insn) → slice_get code slot ≡ Some insn → IsOnward (length code) loops slot (flow slot insn)

-- ---- for paths

pub record AreBodies (code : List Insn) (loops : List Loop) : Type 0 where
  pub order : (i : ℕ) (l : Loop) → slice_get loops i ≡ Some l → l.head < l.last
  pub jumps : (i : ℕ) (l : Loop) → slice_get loops i ≡ Some l → flow_at code l.last ≡ Some (Forks l.head (l.last + 1))
  pub after : (i : ℕ) (l : Loop) → slice_get loops i ≡ Some l → l.last + 1 < length code
  -- no two loops begin at the same slot, or end at the same slot; they are nested or apart.
  pub first : (i : ℕ) (l : Loop) → slice_get loops i ≡ Some l → begins loops l.head ≡ Some l
  pub last : (i : ℕ) (l : Loop) → slice_get loops i ≡ Some l → ends loops l.last ≡ Some l
  pub nested :
      (i k : ℕ) (l m : Loop) → slice_get loops i ≡ Some l → slice_get loops k ≡ Some m → l.head < m.head → m.head ≤ l.last
      → m.last < l.last
  -- no other jump goes back, no flow enters a body except by its head, and no flow leaves a body
  -- except by its back jump.
  pub onward :
      (slot : ℕ) (insn : Insn) → slice_get code slot ≡ Some insn → ends loops slot ≡ None
      → IsForward (length code) slot (flow slot insn)
  pub closed :
      (i k t : ℕ) (l : Loop) (f : Flow) → slice_get loops i ≡ Some l → flow_at code k ≡ Some f → FlowsTo f t → k < t
      → l.head < t → t ≤ l.last → l.head ≤ k
  pub stays :
      (i k t : ℕ) (l : Loop) (f : Flow) → slice_get loops i ≡ Some l → flow_at code k ≡ Some f → ends loops k ≡ None
      → FlowsTo f t → l.head ≤ k → k ≤ l.last → t ≤ l.last
  pub whole :
      (i k t : ℕ) (l : Loop) (f : Flow) → slice_get loops i ≡ Some l → flow_at code k ≡ Some f → Calls f t → l.head < t
      → t ≤ l.last → ⊥
  -- no exit is in a body.
  pub exits :
      (i k : ℕ) (l : Loop) → slice_get loops i ≡ Some l → l.head ≤ k → k ≤ l.last → slice_get code k ≡ Some Exit → ⊥
  pub starts : (i : ℕ) (l : Loop) → slice_get loops i ≡ Some l → flow_at code l.head ≡ Some Halts → ⊥
  pub goes :
      (i k t : ℕ) (l : Loop) (f : Flow) → slice_get loops i ≡ Some l → flow_at code k ≡ Some f → FlowsTo f t → l.head < t
      → t ≤ l.last → flow_at code t ≡ Some Halts → ⊥

-- ---- for counters

pub record IsCounter (code : List Insn) (l : Loop) : Type 0 where
  pub step : 1 ≤ l.step
  pub low : l.step < 4294967296
  pub few : l.bound ≤ 1024
  pub counter : l.counter < 10
  pub jumps : JumpsBack code l
  pub add :
      (slot : ℕ) (insn : Insn) → suc slot ≡ l.last → slice_get code slot ≡ Some insn
      → insn ≡ Alu Add W64 l.counter (Imm (pos l.step))
  pub keeps :
      (slot : ℕ) (insn : Insn) → l.head ≤ slot → slot ≤ l.last → suc slot ≢ l.last → slice_get code slot ≡ Some insn
      → writes insn l.counter ≡ false

pub record AreCounters (code : List Insn) (loops : List Loop) : Type 0 where
  pub each : (i : ℕ) (l : Loop) → slice_get loops i ≡ Some l → IsCounter code l
  -- only the addition leads to a back jump.
  pub only :
      (i k : ℕ) (l : Loop) (f : Flow) → slice_get loops i ≡ Some l → flow_at code k ≡ Some f → FlowsTo f l.last
      → suc k ≡ l.last
  pub then :
      (i k t : ℕ) (l : Loop) (f : Flow) → slice_get loops i ≡ Some l → flow_at code k ≡ Some f → FlowsTo f t
      → suc k ≡ l.last → t ≡ l.last

-- ---- for frames

-- the frames are the first frame and those that calls add; a later slot in a function needs at most
-- as many as an earlier one, and a called function needs fewer than the slot of the call.
pub record FramesFall (code : List Insn) : Type 0 where
  pub first : frames code ≡ 1 + frames_at code 0
  pub later :
      (slot t : ℕ) (insn : Insn) → slice_get code slot ≡ Some insn → FlowsTo (flow slot insn) t → slot < t
      → frames_at code t ≤ frames_at code slot
  pub enters :
      (slot t : ℕ) (insn : Insn) → slice_get code slot ≡ Some insn → Calls (flow slot insn) t
      → frames_at code t < frames_at code slot

-- ---- the law

-- the loops of a program that passes the control-flow checks.
pub record HasLoops (code : List Insn) (loops : List Loop) : Type 0 where
  pub typing : AreLoops code loops
  pub paths : AreBodies code loops
  pub counters : AreCounters code loops
  pub frames : FramesFall code

abbrev pub ShapedLoopsAreLoops : Type 0
ShapedLoopsAreLoops =
    (allowed : Bool) (code : List Insn) → ((slot : ℕ) (insn : Insn) → slice_get code slot ≡ Some insn → IsInsn insn)
    → is_program code ≡ true → IsShapedBy allowed code → HasLoops code (loops_of allowed code)

abbrev pub LoopsHaveLongestPaths : Type 0
LoopsHaveLongestPaths =
    (allowed : Bool) (code : List Insn) → 0 < length code → is_program code ≡ true → IsShapedBy allowed code
    → IsLongestIn code (loops_of allowed code) (cost_in code (loops_of allowed code) 0)

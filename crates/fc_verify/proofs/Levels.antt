-- The levels of stack frames in the pass: a loop invariant raises no level.
use Rattle.std.proofs.Common.{◌≡◌, ℕ, zero, suc, ◌+◌, ◌<◌, ◌≤◌, Bool, true, false, Option, Some, None, List, [], ◌∷◌, subst, arith}
use Rattle.std.specs.Prelude.{slice_set}
use Rattle.fc_isa.specs.declared.insn.Insn.{Insn}
use Rattle.fc_isa.specs.declared.version.ImageVersion.{ImageVersion}
use Rattle.fc_isa.specs.declared.version.ImageVersion.TheVariants.{One, Two}
use Rattle.fc_image.specs.declared.loops.Loop.{Loop}
use Rattle.fc_image.specs.Loops.{begins}
use Rattle.fc_kinds.specs.declared.kind.Kind.{Kind}
use Rattle.fc_kinds.specs.declared.kind.Kind.TheVariants.{Unset, Num, Stack, Req, Vars, Dev}
use Rattle.fc_kinds.specs.Kinds.{kind_at}
use Rattle.fc_kinds.specs.Transfer.{where_met}
use Rattle.fc_kinds.specs.Containing.{IsShallow, AreShallow, AllShallow}
use Rattle.fc_kinds.specs.Entry.{entry, fourth_kind}
use Rattle.fc_verify.specs.Typing.{States, state_at}
use Rattle.fc_kinds.specs.Ways.{Way, ways_after}
use Rattle.fc_kinds.proofs.Levels.{ways_shallow, joined_shallow}
use Rattle.fc_verify.specs.Heads.{settled, formed, enters, any_number}
use Rattle.fc_verify.specs.Pass.{passed_with, beginning}
use Rattle.fc_verify.proofs.Heads.{formed_all, formed_case}
use Rattle.fc_verify.proofs.PassLaws.{passed_parts, set_all, first_is}
use Rattle.fc_verify.proofs.HandedOn.{AllWays, led_all}

any_shallow : (top : ℕ) (k : Kind) → IsShallow top (any_number k)
any_shallow top Unset = tt
any_shallow top (Num lo hi) = tt
any_shallow top (Stack level lo hi) = tt
any_shallow top (Req lo hi) = tt
any_shallow top (Vars lo hi) = tt
any_shallow top (Dev lo hi) = tt

formed_shallow : (top : ℕ) (code : List Insn) (l : Loop) (ks : List Kind) → AreShallow top ks → AreShallow top (formed code l ks)
formed_shallow top code l ks h = record {
  each = formed_all (λ r k. IsShallow top k) code l ks
      (λ r. formed_case (IsShallow top) code l r (kind_at ks r) (λ e. tt) (λ d c a b. tt) (λ d n w. any_shallow top (kind_at ks r)) (λ d n w. h.each r))
      (λ r ge. tt);
}

pub settled_shallow : (top : ℕ) (code : List Insn) (o : Option Loop) (found kinds : List Kind) → settled code o found ≡ Some kinds → AreShallow top found → AreShallow top kinds
unfolding settled
settled_shallow top code None found kinds e h = let same : found ≡ kinds = cc e in subst (AreShallow top) same h
settled_shallow top code (Some l) found kinds e h = go (enters l (kind_at found l.counter)) e
  where
    go : (b : Bool) → where_met b (formed code l found) ≡ Some kinds → AreShallow top kinds
    go true g = let same : formed code l found ≡ kinds = cc g in subst (AreShallow top) same (formed_shallow top code l found h)
    go false g = absurd (cc g)

-- no state has a pointer into a stack frame more than `top` levels above the current one
abbrev pub AreLow : ℕ → States → Type 0
AreLow top states = (slot : ℕ) (kinds : List Kind) → state_at states slot ≡ Some kinds → AreShallow top kinds

kind_up : (n m : ℕ) (k : Kind) → n ≤ m → IsShallow n k → IsShallow m k
kind_up n m Unset le h = tt
kind_up n m (Num lo hi) le h = tt
kind_up n m (Stack level lo hi) le h = omega (arith, le, h)
kind_up n m (Req lo hi) le h = tt
kind_up n m (Vars lo hi) le h = tt
kind_up n m (Dev lo hi) le h = tt

pub shallow_up : (n m : ℕ) (ks : List Kind) → n ≤ m → AreShallow n ks → AreShallow m ks
shallow_up n m ks le h = record { each = λ r. kind_up n m (kind_at ks r) le (h.each r) }

pub low_up : (n m : ℕ) (states : States) → n ≤ m → AreLow n states → AreLow m states
low_up n m states le h slot ks e = shallow_up n m ks le (h slot ks e)

later_shallow : (top slot : ℕ) (ws : List Way) → AllShallow top ws → AllWays (λ t ks. slot < t → AreShallow top ks) ws
later_shallow top slot [] h = tt
later_shallow top slot (w ∷ ws) h = (λ lt. h.0, later_shallow top slot ws h.1)

-- passing over a slot raises the levels by at most one
pub low_passed : (top vars : ℕ) (code : List Insn) (loops : List Loop) (slot : ℕ) (insn : Insn) (found : List Kind) (states next : States) → AreLow top states → state_at states slot ≡ Some found
    → passed_with vars code loops slot insn (Some found) states ≡ Some next → AreLow (top + 1) next
low_passed top vars code loops slot insn found states next low e p =
    let r = passed_parts vars code loops slot insn found states next p in
    let kinds = r.0 in
    let after = r.1 in
    let up : top ≤ top + 1 = omega arith in
    let here : AreShallow top kinds = settled_shallow top code (begins loops slot) found kinds r.2.settled_is (low slot found e) in
    let base = slice_set states slot (Some kinds) in
    let in_base = set_all states slot kinds (λ k ks. AreShallow (top + 1) ks) (shallow_up top (top + 1) kinds up here) (low_up top (top + 1) states up low) in
    subst (AreLow (top + 1)) r.3
    (led_all (λ k ks. AreShallow (top + 1) ks) slot base (ways_after slot insn kinds after) (λ k x y. joined_shallow (top + 1) x y) in_base
    (later_shallow (top + 1) slot (ways_after slot insn kinds after) (ways_shallow top vars slot insn kinds after here r.2.effect)))

fourth_shallow : (version : ImageVersion) → IsShallow 0 (fourth_kind version)
fourth_shallow One = tt
fourth_shallow Two = tt

entry_shallow : (version : ImageVersion) → AreShallow 0 (entry version)
entry_shallow version = record { each = each }
  where
    each : (r : ℕ) → IsShallow 0 (kind_at (entry version) r)
    each zero = tt
    each (suc zero) = tt
    each (suc (suc zero)) = tt
    each (suc (suc (suc zero))) = tt
    each (suc (suc (suc (suc zero)))) = fourth_shallow version
    each (suc (suc (suc (suc (suc zero))))) = tt
    each (suc (suc (suc (suc (suc (suc zero)))))) = tt
    each (suc (suc (suc (suc (suc (suc (suc zero))))))) = tt
    each (suc (suc (suc (suc (suc (suc (suc (suc zero)))))))) = tt
    each (suc (suc (suc (suc (suc (suc (suc (suc (suc zero))))))))) = tt
    each (suc (suc (suc (suc (suc (suc (suc (suc (suc (suc zero)))))))))) = omega arith
    each (suc (suc (suc (suc (suc (suc (suc (suc (suc (suc (suc r))))))))))) = tt

pub beginning_low : (version : ImageVersion) (code : List Insn) → AreLow 0 (beginning version code)
beginning_low version code k ks e = subst (AreShallow 0) (first_is version code k ks e).1 (entry_shallow version)

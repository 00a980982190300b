-- Serials count changes, and the program in a slot follows its install.
use Rattle.std.proofs.Common.{◌≡◌, ℕ, ◌+◌, Bool, true, false, List, [], ◌∷◌, length, replicate, Option, Some, None, refl, ap, subst, ◌∙◌, arith, ⊎_elim}
use Rattle.std.specs.Prelude.{nat_lt, if◌then◌else◌}
use Rattle.std.proofs.lemmas.Bool.{cases_eq, eq-eqb, ne_eqb}
use Rattle.std.proofs.lemmas.List.{length-replicate}
use Rattle.fc_ticket.specs.Tickets.{Present}
use Rattle.fc_registry.specs.Slots.{Slot, new_slot, last_serial, vars_in}
use Rattle.fc_registry.specs.Changes.{Change, Installed, Committed, Removed, Commit, after_changes, changed, installed, vars_installed, with_vars}
use Rattle.fc_registry.specs.Calls.{install_in, put_by}
use Rattle.fc_registry.specs.Laws.{FollowsInstall}
use Rattle.fc_ticket.specs.declared.job.InitialVars.{InitialVars}
use Rattle.fc_ticket.specs.declared.job.InitialVars.TheVariants.{Zeros, Kept}
use Rattle.fc_kinds.specs.Meaning.{Program}

pub serials_from : (first : Slot) (cs : List Change) → (after_changes first cs).serial ≡ first.serial + length cs
serials_from first [] = omega arith
serials_from first (Installed p v ∷ cs) = omega (arith, serials_from first cs)
serials_from first (Committed c ∷ cs) = omega (arith, serials_from first cs)
serials_from first (Removed ∷ cs) = omega (arith, serials_from first cs)

pub serials_count : (serial : ℕ) (cs : List Change) → (after_changes (new_slot serial) cs).serial ≡ serial + length cs
serials_count serial cs = serials_from (new_slot serial) cs

-- if the program in a slot follows its install, it still does after a commit, which sets only the
-- variables.
committed_follows : (serial : ℕ) (c : Commit) (cs : List Change) (found : Option Present) → ((q : Present) → found ≡ Some q → FollowsInstall serial cs q) → (p : Present) → with_vars c.after found ≡ Some p → FollowsInstall serial (Committed c ∷ cs) p
committed_follows serial c cs None before p e = absurd (cc)
committed_follows serial c cs (Some q) before p e =
    let w = before q refl in
    let is : record q { vars = c.after } ≡ p = cc in
    subst (FollowsInstall serial (Committed c ∷ cs)) is (record {
      later = Committed c ∷ w.later;
      earlier = w.earlier;
      initial = w.initial;
      changes = ap (λ (xs : List Change). Committed c ∷ xs) w.changes;
      only_commits = w.only_commits;
      version = w.version;
      vars = refl;
    })

pub follows : (serial : ℕ) (cs : List Change) (p : Present) → (after_changes (new_slot serial) cs).present ≡ Some p → FollowsInstall serial cs p
follows serial [] p e = absurd (cc)
follows serial (Installed program v ∷ cs) p e =
    let made = installed (after_changes (new_slot serial) cs) program v in
    let is : made ≡ p = cc in
    subst (FollowsInstall serial (Installed program v ∷ cs)) is (record { later = []; earlier = cs; initial = v; changes = refl; only_commits = tt; version = refl; vars = refl })
follows serial (Committed c ∷ cs) p e = committed_follows serial c cs (after_changes (new_slot serial) cs).present (follows serial cs) p e
follows serial (Removed ∷ cs) p e = absurd (cc)

-- ---- the variables that an install leaves

-- an install that keeps the variables leaves them unchanged if there are as many as the program
-- has.
pub kept_vars : (p : Program) (before : List ℕ) → length before ≡ p.vars_size → vars_installed Kept p before ≡ before
kept_vars p before is = ap (λ (b : Bool). if b then before else replicate p.vars_size 0) (eq-eqb (length before) p.vars_size is)

pub other_vars : (p : Program) (before : List ℕ) → (length before ≡ p.vars_size → ⊥) → vars_installed Kept p before ≡ replicate p.vars_size 0
other_vars p before differ = ap (λ (b : Bool). if b then before else replicate p.vars_size 0) (ne_eqb (length before) p.vars_size differ)

-- an install in an empty slot leaves zeros, whether or not it keeps the variables.
pub empty_vars : (p : Program) (v : InitialVars) (slot : Slot) → slot.present ≡ None → vars_in (changed slot (Installed p v)).present ≡ replicate p.vars_size 0
empty_vars p Zeros slot e = refl
empty_vars p Kept slot e = ap (λ (o : Option Present). vars_installed Kept p (vars_in o)) e ∙ ⊎_elim
    (λ (none : 0 ≡ p.vars_size). kept_vars p [] none ∙ ap (λ (n : ℕ). replicate n 0) none)
    (λ (some : 0 ≡ p.vars_size → ⊥). other_vars p [] some)
    (cases_eq 0 p.vars_size)

pub installed_size : (v : InitialVars) (p : Program) (before : List ℕ) → length (vars_installed v p before) ≡ p.vars_size
installed_size Zeros p before = length-replicate p.vars_size 0
installed_size Kept p before = ⊎_elim
    (λ (e : length before ≡ p.vars_size). ap (λ (xs : List ℕ). length xs) (kept_vars p before e) ∙ e)
    (λ (differ : length before ≡ p.vars_size → ⊥). ap (λ (xs : List ℕ). length xs) (other_vars p before differ) ∙ length-replicate p.vars_size 0)
    (cases_eq (length before) p.vars_size)

pub kept_present : (slot : Slot) (found : Present) (p : Program) → slot.present ≡ Some found → length found.vars ≡ p.vars_size
    → vars_in (changed slot (Installed p Kept)).present ≡ found.vars
kept_present slot found p is same = ap (λ (o : Option Present). vars_installed Kept p (vars_in o)) is ∙ kept_vars p found.vars same

pub kept_answer : (slot : Slot) (p : Program) → (install_in slot p Kept).answer ≡ (install_in slot p Zeros).answer
kept_answer slot p = by_room (nat_lt slot.serial last_serial)
  where
    by_room : (b : Bool) → (put_by b slot p Kept).answer ≡ (put_by b slot p Zeros).answer
    by_room true = refl
    by_room false = refl

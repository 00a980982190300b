-- Instructions that don't disturb a counted loop.
use Rattle.std.proofs.Common.{◌≡◌, ◌≢◌, ℕ, suc, ◌==◌, ◌||◌, ◌&&◌, not, Bool, true, false, if◌then◌else◌, ℤ, Option, Some, None, refl, ap, ◌∙◌, subst, inl, inr, arith}
use Rattle.std.proofs.lemmas.Bool.Decides.{nat_tests}
use Rattle.std.proofs.lemmas.Bool.{cases_lt, ne_eqb}
use Rattle.fc_isa.specs.declared.insn.Insn.{Insn}
use Rattle.fc_isa.specs.declared.insn.Insn.TheVariants.{Exit}
use Rattle.fc_isa.specs.Flow.{jump_offset, target}
use Rattle.fc_isa.specs.Writes.{writes}
use Rattle.fc_image.specs.declared.loops.Loop.{Loop}
use Rattle.fc_image.specs.CountingLaws.{IsInBody, IsOutside, JumpsTo, LeavesLoop}
use Rattle.fc_image.specs.Functions.{with_offset}
use Rattle.fc_image.specs.Loops.{crosses, disturbs, is_exit, is_in, spoils}

-- ---- in a body and outside

in_body : (l : Loop) (k : ℕ) → IsInBody l k → is_in l k ≡ true
in_body l k w = grind (arith, nat_tests, w.0, w.1)

of_body : (l : Loop) (k : ℕ) → is_in l k ≡ true → IsInBody l k
of_body l k e = (grind (arith, nat_tests, e), grind (arith, nat_tests, e))

outside : (l : Loop) (k : ℕ) → IsOutside l k → is_in l k ≡ false
outside l k (inl lt) = grind (arith, nat_tests, lt)
outside l k (inr lt) = grind (arith, nat_tests, lt)

of_outside : (l : Loop) (k : ℕ) → is_in l k ≡ false → IsOutside l k
of_outside l k e = elim (cases_lt k l.head) as (λ o. IsOutside l k) [ inl lt ↦ inl lt | inr le ↦ inr (grind (arith, nat_tests, e, le)) ]

-- ---- tests

or_left : (a b : Bool) → (a || b) ≡ false → a ≡ false
or_left true b e = absurd (cc e)
or_left false b e = refl

or_right : (a b : Bool) → (a || b) ≡ false → b ≡ false
or_right true b e = absurd (cc e)
or_right false b e = e

-- a jump that doesn't cross a loop stays in the body or stays outside
same_side : (b c d : Bool) → ((if b then not c else c) || d) ≡ false → b ≡ c
same_side true true d e = refl
same_side true false d e = absurd (cc e)
same_side false true d e = absurd (cc e)
same_side false false d e = refl

by_sides : (b c d : Bool) → b ≡ c → d ≡ false → ((if b then not c else c) || d) ≡ false
by_sides true true d same e = e
by_sides true false d same e = absurd (cc same)
by_sides false true d same e = absurd (cc same)
by_sides false false d same e = e

-- ---- an instruction that doesn't disturb a loop keeps the conditions

module _ (l : Loop) (k : ℕ) (insn : Insn) (calm : disturbs l k insn ≡ false) where
  unspoilt : spoils l k insn ≡ false
  unspoilt = or_left (spoils l k insn) (with_offset (jump_offset insn) (λ o. crosses l k (target k o))) calm

  uncrossed : (t : ℕ) → JumpsTo k insn t → crosses l k (Some t) ≡ false
  uncrossed t w =
      let at : with_offset (jump_offset insn) (λ o. crosses l k (target k o)) ≡ false =
      or_right (spoils l k insn) (with_offset (jump_offset insn) (λ o. crosses l k (target k o))) calm in
      let one : crosses l k (target k w.0) ≡ false = subst (λ (x : Option ℤ). with_offset x (λ o. crosses l k (target k o)) ≡ false) w.1 at in
      subst (λ (x : Option ℕ). crosses l k x ≡ false) w.2 one

  sides : (t : ℕ) → JumpsTo k insn t → is_in l k ≡ is_in l t
  sides t w = same_side (is_in l k) (is_in l t) (t == l.last) (uncrossed t w)

  exits_not : IsInBody l k → insn ≢ Exit
  exits_not w is =
      let at : is_in l k ≡ true = in_body l k w in
      let ex : is_exit insn ≡ true = ap is_exit is in
      no_exit_by (is_in l k) (writes insn l.counter && not (suc k == l.last)) (is_exit insn) unspoilt at ex
    where
      no_exit_by : (b c d : Bool) → (b && (c || d)) ≡ false → b ≡ true → d ≡ true → ⊥
      no_exit_by true true d e in_it ex = absurd (cc e)
      no_exit_by true false true e in_it ex = absurd (cc e)
      no_exit_by true false false e in_it ex = absurd (cc ex)
      no_exit_by false c d e in_it ex = absurd (cc in_it)

  writes_not : IsInBody l k → suc k ≢ l.last → writes insn l.counter ≡ false
  writes_not w other = by (is_in l k) (writes insn l.counter) (suc k == l.last) (is_exit insn) unspoilt (in_body l k w) (ne_eqb (suc k) l.last other)
    where
      by : (b c d e : Bool) → (b && ((c && not d) || e)) ≡ false → b ≡ true → d ≡ false → c ≡ false
      by true true false e is in_it d = absurd (cc is)
      by true true true e is in_it d = absurd (cc d)
      by true false d e is in_it n = refl
      by false c d e is in_it n = absurd (cc in_it)

  pub left : LeavesLoop l k insn
  left = record {
    no_exit = exits_not;
    no_write = writes_not;
    no_way_out = λ t w from to. absurd (cc (sides t w, in_body l k from, outside l t to));
    no_way_in = λ t w from to. absurd (cc (sides t w, outside l k from, in_body l t to));
    no_skip = λ t w same. absurd (cc (or_right (if is_in l k then not (is_in l t) else is_in l t) (t == l.last) (uncrossed t w), eqb_same t l.last same));
  }
    where
      eqb_same : (a b : ℕ) → a ≡ b → (a == b) ≡ true
      eqb_same a b e = grind (arith, nat_tests, e)

-- ---- the converse

module _ (l : Loop) (k : ℕ) (insn : Insn) (w : LeavesLoop l k insn) where
  same_by : (b c : Bool) (t : ℕ) → JumpsTo k insn t → is_in l k ≡ b → is_in l t ≡ c → b ≡ c
  same_by true true t leads from to = refl
  same_by true false t leads from to = absurd (w.no_way_out t leads (of_body l k from) (of_outside l t to))
  same_by false true t leads from to = absurd (w.no_way_in t leads (of_outside l k from) (of_body l t to))
  same_by false false t leads from to = refl

  calm_at : (t : ℕ) → JumpsTo k insn t → crosses l k (Some t) ≡ false
  calm_at t leads = by_sides (is_in l k) (is_in l t) (t == l.last) (same_by (is_in l k) (is_in l t) t leads refl refl) (ne_eqb t l.last (w.no_skip t leads))

  calm_to : (o : ℤ) (place : Option ℕ) → jump_offset insn ≡ Some o → target k o ≡ place → crosses l k place ≡ false
  calm_to o None jumps leads = refl
  calm_to o (Some t) jumps leads = calm_at t (o, jumps, leads)

  calm_by : (offset : Option ℤ) → jump_offset insn ≡ offset → with_offset offset (λ o. crosses l k (target k o)) ≡ false
  calm_by None jumps = refl
  calm_by (Some o) jumps = calm_to o (target k o) jumps refl

  is_exit_of : (i : Insn) → is_exit i ≡ true → i ≡ Exit
  is_exit_of Exit e = refl
  is_exit_of i e = absurd (cc e)

  unspoilt_by : (b c d e : Bool) → is_in l k ≡ b → writes insn l.counter ≡ c → (suc k == l.last) ≡ d → is_exit insn ≡ e → (b && ((c && not d) || e)) ≡ false
  unspoilt_by false c d e at writes_it last exits = refl
  unspoilt_by true c d true at writes_it last exits = absurd (w.no_exit (of_body l k at) (is_exit_of insn exits))
  unspoilt_by true false d false at writes_it last exits = refl
  unspoilt_by true true true false at writes_it last exits = refl
  unspoilt_by true true false false at writes_it last exits = absurd (cc (
    writes_it,
    w.no_write (of_body l k at)
        (λ same. absurd (cc (last, eqb_same (suc k) l.last same))),
  ))
    where
      eqb_same : (a b : ℕ) → a ≡ b → (a == b) ≡ true
      eqb_same a b e = grind (arith, nat_tests, e)

  pub undisturbed : disturbs l k insn ≡ false
  undisturbed = (λ i. unspoilt_by (is_in l k) (writes insn l.counter) (suc k == l.last)
      (is_exit insn) refl refl refl refl i || with_offset (jump_offset insn) (λ o. crosses l k (target k o))) ∙ calm_by (jump_offset insn) refl

-- Only a local call raises the levels of stack frames, and by one.
use Rattle.std.proofs.Common.{◌≡◌, ℕ, zero, suc, ◌+◌, ◌==◌, ◌&&◌, Bool, true, false, if◌then◌else◌, ℤ, negsuc, pos, ◌+ℤ◌, ◌-ℤ◌, int_le, Option, Some, None, List, [], ◌∷◌, ◌++◌, sym, subst, arith}
use Rattle.std.specs.Prelude.{slice_set}
use Rattle.std.specs.Int.{int_min, int_max}
use Rattle.fc_isa.specs.declared.insn.Width.{Width}
use Rattle.fc_isa.specs.declared.insn.Width.TheVariants.{W32, W64}
use Rattle.fc_isa.specs.declared.insn.AluOp.{AluOp}
use Rattle.fc_isa.specs.declared.insn.AluOp.TheVariants.{Add, Sub, Mul, Div, Or, And, Lsh, Rsh, Mod, Xor, Mov, Arsh, Sdiv, Smod}
use Rattle.fc_isa.specs.declared.insn.Operand.{Operand}
use Rattle.fc_isa.specs.declared.insn.Operand.TheVariants.{Imm, Reg}
use Rattle.fc_isa.specs.declared.insn.Jump.{Jump}
use Rattle.fc_isa.specs.declared.insn.Insn.{Insn}
use Rattle.fc_isa.specs.declared.insn.Insn.TheVariants.{Alu, Unary, SignExtend, LoadWide, WideSecond, Load, StoreImm, Store, JumpAlways, JumpAlwaysLong, JumpIf, CallHelper, CallLocal, Exit}
use Rattle.fc_isa.specs.Flow.{Flow, Halts, Goes, Forks, Enters, flow}
use Rattle.fc_help.specs.declared.helper.Helper.{Helper}
use Rattle.fc_help.specs.Helpers.{helper_of, signature_of}
use Rattle.fc_kinds.specs.declared.interval.Interval.{Interval}
use Rattle.fc_kinds.specs.Intervals.{all, alu_interval, extended_values, refined}
use Rattle.fc_kinds.specs.declared.kind.Kind.{Kind}
use Rattle.fc_kinds.specs.declared.kind.Kind.TheVariants.{Unset, Num, Stack, Req, Vars, Dev}
use Rattle.fc_kinds.specs.Values.{with_some}
use Rattle.fc_kinds.specs.Kinds.{kind_at}
use Rattle.fc_kinds.specs.Lattice.{join_kind, joined}
use Rattle.fc_kinds.specs.Transfer.{num, by_form, where_number, operand_kind, distance, near, numbers, forth, back, moved, alu_kind, unary_interval, bytes_loaded, loaded_interval, may_read, put_kind, where_met, after_call, returned, are_arguments, helped_kinds, raised, enter, transfer}
use Rattle.fc_kinds.specs.Containing.{IsShallow, AreShallow, AllShallow}
use Rattle.fc_kinds.specs.Refinement.{put_right, put_both, relation_of, refines, both_numbers, when}
use Rattle.fc_kinds.specs.Ways.{Way, way_where, kinds_when, ways_along, ways_after}
use Rattle.fc_kinds.proofs.JoinLaws.{joined_at}

-- ---- one abstract value

-- an abstract value, if there is one, has a level of at most `top`
abbrev IsLow : ℕ → Option Kind → Type 0
IsLow top None = Unit {0}
IsLow top (Some k) = IsShallow top k

abbrev IsForm : ℕ → (ℤ → ℤ → Kind) → Type 0
IsForm top form = (lo hi : ℤ) → IsShallow top (form lo hi)

by_form_low : (top : ℕ) (k : Kind) (f : Interval → Option Kind) (g : (ℤ → ℤ → Kind) → ℤ → ℤ → Option Kind) → IsShallow top k → ((s : Interval) → IsLow top (f s))
    → ((form : ℤ → ℤ → Kind) (lo hi : ℤ) → IsForm top form → IsLow top (g form lo hi)) → IsLow top (by_form k f g)
by_form_low top Unset f g h p q = tt
by_form_low top (Num lo hi) f g h p q = p _
by_form_low top (Stack level lo hi) f g h p q = q (Stack level) lo hi (λ l m. h)
by_form_low top (Req lo hi) f g h p q = q Req lo hi (λ l m. tt)
by_form_low top (Vars lo hi) f g h p q = q Vars lo hi (λ l m. tt)
by_form_low top (Dev lo hi) f g h p q = q Dev lo hi (λ l m. tt)

number_low : (top : ℕ) (k : Kind) (f : Interval → Interval) → IsLow top (where_number k (λ s. Some (num (f s))))
number_low top Unset f = tt
number_low top (Num lo hi) f = tt
number_low top (Stack level lo hi) f = tt
number_low top (Req lo hi) f = tt
number_low top (Vars lo hi) f = tt
number_low top (Dev lo hi) f = tt

plain_low : (top : ℕ) (op : AluOp) (width : Width) (a b : Kind) → IsLow top (where_number a (numbers op width b))
plain_low top op width Unset b = tt
plain_low top op width (Num lo hi) b = number_low top b (alu_interval op width _)
plain_low top op width (Stack level lo hi) b = tt
plain_low top op width (Req lo hi) b = tt
plain_low top op width (Vars lo hi) b = tt
plain_low top op width (Dev lo hi) b = tt

near_low : (top : ℕ) (form : ℤ → ℤ → Kind) (lo hi : ℤ) → IsForm top form → IsLow top (near form lo hi)
near_low top form lo hi h = go (int_le (negsuc 65535) lo && int_le hi (pos 65536))
  where
    go : (t : Bool) → IsLow top (if t then Some (form lo hi) else None)
    go true = h lo hi
    go false = tt

forth_low : (top : ℕ) (by : Option (ℤ × ℤ)) (form : ℤ → ℤ → Kind) (lo hi : ℤ) → IsForm top form → IsLow top (forth by form lo hi)
forth_low top None form lo hi h = tt
forth_low top (Some d) form lo hi h = near_low top form (lo +ℤ d.0) (hi +ℤ d.1) h

back_low : (top : ℕ) (by : Option (ℤ × ℤ)) (form : ℤ → ℤ → Kind) (lo hi : ℤ) → IsForm top form → IsLow top (back by form lo hi)
back_low top None form lo hi h = tt
back_low top (Some d) form lo hi h = near_low top form (lo -ℤ d.1) (hi -ℤ d.0) h

moved_low : (top : ℕ) (width : Width) (b : Kind) → IsShallow top b → IsLow top (moved width b)
moved_low top W64 b h = by_form_low top b (λ s. Some (num s)) (λ form lo hi. Some (form lo hi)) h (λ s. tt) (λ form lo hi p. p lo hi)
moved_low top W32 b h = number_low top b (λ t. alu_interval Mov W32 t t)

alu_low : (top : ℕ) (op : AluOp) (width : Width) (o : Operand) (a b : Kind) → IsShallow top a → IsShallow top b → IsLow top (alu_kind op width o a b)
unfolding alu_kind
alu_low top Mov width o a b h i = moved_low top width b i
alu_low top Add W64 o a b h i = by_form_low top a (numbers Add W64 b) (forth (distance o b)) h (λ s. number_low top b (alu_interval Add W64 s)) (forth_low top (distance o b))
alu_low top Sub W64 o a b h i = by_form_low top a (numbers Sub W64 b) (back (distance o b)) h (λ s. number_low top b (alu_interval Sub W64 s)) (back_low top (distance o b))
alu_low top Add W32 o a b h i = plain_low top Add W32 a b
alu_low top Sub W32 o a b h i = plain_low top Sub W32 a b
alu_low top Mul width o a b h i = plain_low top Mul width a b
alu_low top Div width o a b h i = plain_low top Div width a b
alu_low top Or width o a b h i = plain_low top Or width a b
alu_low top And width o a b h i = plain_low top And width a b
alu_low top Lsh width o a b h i = plain_low top Lsh width a b
alu_low top Rsh width o a b h i = plain_low top Rsh width a b
alu_low top Mod width o a b h i = plain_low top Mod width a b
alu_low top Xor width o a b h i = plain_low top Xor width a b
alu_low top Arsh width o a b h i = plain_low top Arsh width a b
alu_low top Sdiv width o a b h i = plain_low top Sdiv width a b
alu_low top Smod width o a b h i = plain_low top Smod width a b

operand_shallow : (top : ℕ) (width : Width) (o : Operand) (ks : List Kind) → AreShallow top ks → IsShallow top (operand_kind width o ks)
operand_shallow top width (Imm k) ks h = tt
operand_shallow top width (Reg r) ks h = h.each r

-- ---- states

put_each : (top : ℕ) (ks : List Kind) (r : ℕ) (k : Kind) → ((j : ℕ) → IsShallow top (kind_at ks j)) → IsShallow top k → (j : ℕ) → IsShallow top (kind_at (slice_set ks r k) j)
put_each top [] r k h i j = h j
put_each top (x ∷ ks) zero k h i zero = i
put_each top (x ∷ ks) zero k h i (suc j) = h (suc j)
put_each top (x ∷ ks) (suc r) k h i zero = h 0
put_each top (x ∷ ks) (suc r) k h i (suc j) = put_each top ks r k (λ m. h (suc m)) i j

put_shallow : (top : ℕ) (ks : List Kind) (r : ℕ) (k : Kind) → AreShallow top ks → IsShallow top k → AreShallow top (slice_set ks r k)
put_shallow top ks r k h i = record { each = put_each top ks r k h.each i }

kind_put : (top : ℕ) (ks after : List Kind) (dst : ℕ) (o : Option Kind) → AreShallow top ks → IsLow top o → put_kind ks dst o ≡ Some after → AreShallow top after
kind_put top ks after dst None h i e = absurd (cc e)
kind_put top ks after dst (Some k) h i e = subst (AreShallow top) (cc e) (put_shallow top ks dst k h i)

met_shallow : (top : ℕ) (b : Bool) (ks after : List Kind) → AreShallow top ks → where_met b ks ≡ Some after → AreShallow top after
met_shallow top true ks after h e = subst (AreShallow top) (cc e) h
met_shallow top false ks after h e = absurd (cc e)

loaded_low : (top : ℕ) (b : Bool) (s : Interval) → IsLow top (if b then Some (num s) else None)
loaded_low top true s = tt
loaded_low top false s = tt

call_shallow : (top : ℕ) (k : Kind) (ks : List Kind) → IsShallow top k → AreShallow top ks → AreShallow top (after_call k ks)
call_shallow top k ks i h = record { each = each }
  where
    each : (r : ℕ) → IsShallow top (kind_at (after_call k ks) r)
    each zero = i
    each (suc zero) = tt
    each (suc (suc zero)) = tt
    each (suc (suc (suc zero))) = tt
    each (suc (suc (suc (suc zero)))) = tt
    each (suc (suc (suc (suc (suc zero))))) = tt
    each (suc (suc (suc (suc (suc (suc zero)))))) = h.each 6
    each (suc (suc (suc (suc (suc (suc (suc zero))))))) = h.each 7
    each (suc (suc (suc (suc (suc (suc (suc (suc zero)))))))) = h.each 8
    each (suc (suc (suc (suc (suc (suc (suc (suc (suc zero))))))))) = h.each 9
    each (suc (suc (suc (suc (suc (suc (suc (suc (suc (suc zero)))))))))) = h.each 10
    each (suc (suc (suc (suc (suc (suc (suc (suc (suc (suc (suc r))))))))))) = tt

raised_shallow : (top : ℕ) (k : Kind) → IsShallow top k → IsShallow (top + 1) (raised k)
raised_shallow top Unset h = tt
raised_shallow top (Num lo hi) h = tt
raised_shallow top (Stack level lo hi) h = omega (arith, h)
raised_shallow top (Req lo hi) h = tt
raised_shallow top (Vars lo hi) h = tt
raised_shallow top (Dev lo hi) h = tt

enter_shallow : (top : ℕ) (ks : List Kind) → AreShallow top ks → AreShallow (top + 1) (enter ks)
enter_shallow top ks h = record { each = each }
  where
    at : (r : ℕ) → IsShallow (top + 1) (raised (kind_at ks r))
    at r = raised_shallow top (kind_at ks r) (h.each r)

    each : (r : ℕ) → IsShallow (top + 1) (kind_at (enter ks) r)
    each zero = tt
    each (suc zero) = at 1
    each (suc (suc zero)) = at 2
    each (suc (suc (suc zero))) = at 3
    each (suc (suc (suc (suc zero)))) = at 4
    each (suc (suc (suc (suc (suc zero))))) = at 5
    each (suc (suc (suc (suc (suc (suc zero)))))) = tt
    each (suc (suc (suc (suc (suc (suc (suc zero))))))) = tt
    each (suc (suc (suc (suc (suc (suc (suc (suc zero)))))))) = tt
    each (suc (suc (suc (suc (suc (suc (suc (suc (suc zero))))))))) = tt
    each (suc (suc (suc (suc (suc (suc (suc (suc (suc (suc zero)))))))))) = omega arith
    each (suc (suc (suc (suc (suc (suc (suc (suc (suc (suc (suc r))))))))))) = tt

helped_shallow : (top vars : ℕ) (o : Option Helper) (ks after : List Kind) → AreShallow top ks → with_some o (helped_kinds vars ks) ≡ Some after → AreShallow top after
helped_shallow top vars None ks after h e = absurd (cc e)
helped_shallow top vars (Some helper) ks after h e =
    met_shallow top (are_arguments vars (signature_of helper).arguments ks) (after_call (Num 0 (signature_of helper).most) ks) after (call_shallow top (Num 0 (signature_of helper).most) ks tt h) e

transfer_shallow : (top vars : ℕ) (insn : Insn) (ks after : List Kind) → AreShallow top ks → transfer vars insn ks ≡ Some after → AreShallow top after
unfolding transfer
transfer_shallow top vars (Alu op width dst operand) ks after h e =
    kind_put top ks after dst _ h (alu_low top op width operand (kind_at ks dst) (operand_kind width operand ks) (h.each dst) (operand_shallow top width operand ks h)) e
transfer_shallow top vars (Unary op dst) ks after h e = kind_put top ks after dst _ h (number_low top (kind_at ks dst) (unary_interval op)) e
transfer_shallow top vars (SignExtend extension dst src) ks after h e = kind_put top ks after dst _ h (number_low top (kind_at ks src) (extended_values extension)) e
transfer_shallow top vars (LoadWide dst value) ks after h e = kind_put top ks after dst (Some (Num value value)) h tt e
transfer_shallow top vars WideSecond ks after h e = absurd (cc e)
transfer_shallow top vars (Load loaded dst base offset) ks after h e = kind_put top ks after dst _ h (loaded_low top (may_read vars (bytes_loaded loaded) offset (kind_at ks base)) (loaded_interval loaded)) e
transfer_shallow top vars (StoreImm size base offset imm) ks after h e = met_shallow top _ ks after h e
transfer_shallow top vars (Store size base offset src) ks after h e = met_shallow top _ ks after h e
transfer_shallow top vars (JumpAlways offset) ks after h e = met_shallow top true ks after h e
transfer_shallow top vars (JumpAlwaysLong offset) ks after h e = met_shallow top true ks after h e
transfer_shallow top vars (JumpIf j) ks after h e = met_shallow top _ ks after h e
transfer_shallow top vars (CallHelper number) ks after h e = helped_shallow top vars (helper_of number) ks after h e
transfer_shallow top vars (CallLocal offset) ks after h e = met_shallow top true (returned ks) after (call_shallow top (num (all 64)) ks tt h) e
transfer_shallow top vars Exit ks after h e = met_shallow top _ ks after h e

-- ---- branches

abbrev AreLow : ℕ → Option (List Kind) → Type 0
AreLow top None = Unit {0}
AreLow top (Some ks) = AreShallow top ks

right_shallow : (top : ℕ) (o : Operand) (ks : List Kind) (s : Interval) → AreShallow top ks → AreShallow top (put_right o ks s)
right_shallow top (Imm k) ks s h = h
right_shallow top (Reg r) ks s h = put_shallow top ks r (num s) h tt

refined_low : (top : ℕ) (j : Jump) (ks : List Kind) (o : Option (Interval × Interval)) → AreShallow top ks → AreLow top (with_some o (λ pair. Some (put_both j ks pair)))
refined_low top j ks None h = tt
refined_low top j ks (Some pair) h = right_shallow top j.right (slice_set ks j.left (num pair.0)) pair.1 (put_shallow top ks j.left (num pair.0) h tt)

numbers_low : (top : ℕ) (k l : Kind) (f : Interval → Interval → Option (List Kind)) (ks : List Kind) → AreShallow top ks → ((a b : Interval) → AreLow top (f a b)) → AreLow top (both_numbers k l f ks)
numbers_low top (Num lo hi) (Num lo' hi') f ks h g = g _ _
numbers_low top k l f ks h g = h

when_low : (top : ℕ) (j : Jump) (taken : Bool) (ks : List Kind) → AreShallow top ks → AreLow top (when j taken ks)
unfolding when
when_low top j taken ks h = go (refines j)
  where
    go : (b : Bool) → AreLow top (if b then both_numbers (kind_at ks j.left) (operand_kind W64 j.right ks) (λ a b. with_some (refined (relation_of taken j) a b) (λ pair. Some (put_both j ks pair))) ks else Some ks)
    go true = numbers_low top (kind_at ks j.left) (operand_kind W64 j.right ks) _ ks h (λ a b. refined_low top j ks (refined (relation_of taken j) a b) h)
    go false = h

higher_each : (top : ℕ) (k : Kind) → IsShallow top k → IsShallow (top + 1) k
higher_each top Unset h = tt
higher_each top (Num lo hi) h = tt
higher_each top (Stack level lo hi) h = omega (arith, h)
higher_each top (Req lo hi) h = tt
higher_each top (Vars lo hi) h = tt
higher_each top (Dev lo hi) h = tt

higher : (top : ℕ) (ks : List Kind) → AreShallow top ks → AreShallow (top + 1) ks
higher top ks h = record { each = λ r. higher_each top (kind_at ks r) (h.each r) }

where_shallow : (top target : ℕ) (o : Option (List Kind)) → AreLow top o → AllShallow (top + 1) (way_where target o)
where_shallow top target None h = tt
where_shallow top target (Some ks) h = (higher top ks h, tt)

both_shallow : (top : ℕ) (ws vs : List Way) → AllShallow top ws → AllShallow top vs → AllShallow top (ws ++ vs)
both_shallow top [] vs p q = q
both_shallow top (w ∷ ws) vs p q = (p.0, both_shallow top ws vs p.1 q)

taken_low : (top : ℕ) (taken : Bool) (insn : Insn) (ks : List Kind) → AreShallow top ks → AreLow top (kinds_when taken insn ks)
taken_low top taken (JumpIf j) ks h = when_low top j taken ks h
taken_low top taken insn ks h = h

along_shallow : (top : ℕ) (f : Flow) (insn : Insn) (before after : List Kind) → AreShallow top before → AreShallow top after → AllShallow (top + 1) (ways_along f insn before after)
along_shallow top Halts insn before after p q = tt
along_shallow top (Goes next) insn before after p q = (higher top after q, tt)
along_shallow top (Forks taken next) insn before after p q =
    both_shallow (top + 1) (way_where taken (kinds_when true insn after)) (way_where next (kinds_when false insn after))
    (where_shallow top taken (kinds_when true insn after) (taken_low top true insn after q)) (where_shallow top next (kinds_when false insn after) (taken_low top false insn after q))
along_shallow top (Enters start next) insn before after p q = (enter_shallow top before p, (higher top after q, tt))

pub ways_shallow : (top vars slot : ℕ) (insn : Insn) (ks after : List Kind) → AreShallow top ks → transfer vars insn ks ≡ Some after → AllShallow (top + 1) (ways_after slot insn ks after)
ways_shallow top vars slot insn ks after h e = along_shallow top (flow slot insn) insn ks after h (transfer_shallow top vars insn ks after h e)

-- ---- joins

join_shallow : (top : ℕ) (a b : Kind) → IsShallow top a → IsShallow top b → IsShallow top (join_kind a b)
join_shallow top (Num lo hi) (Num lo' hi') p q = tt
join_shallow top (Stack l lo hi) (Stack l' lo' hi') p q = go (l == l')
  where
    go : (t : Bool) → IsShallow top (if t then Stack l (int_min lo lo') (int_max hi hi') else Unset)
    go true = p
    go false = tt
join_shallow top (Req lo hi) (Req lo' hi') p q = tt
join_shallow top (Vars lo hi) (Vars lo' hi') p q = tt
join_shallow top (Dev lo hi) (Dev lo' hi') p q = tt
join_shallow top _ _ p q = tt

pub joined_shallow : (top : ℕ) (a b : List Kind) → AreShallow top a → AreShallow top b → AreShallow top (joined a b)
joined_shallow top a b p q = record { each = λ r. subst (IsShallow top) (sym (joined_at a b r)) (join_shallow top (kind_at a r) (kind_at b r) (p.each r) (q.each r)) }

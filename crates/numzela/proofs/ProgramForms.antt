-- A handle, by its machine value: the ownership of its fields, and its additional ownership.
use Rattle.std.proofs.Common.{◌≡◌, ℕ, List, [], ◌∷◌, ◌++◌, refl, subst, lit<}
use lib.Dec.{T}
use mir.Raw.{raw as bare}
use base.Logic.{never, fst∗}
use Rattle.std.specs.Prelude.{Option, Some, None, is_some}
use Rattle.std.specs.Box.Ownership.{box_owns}
use Rattle.libc.specs.Heap.{chunk}
use Rattle.numzela.specs.Held.{owned_at}
use Rattle.fc_verify.specs.contracts.verified.Verified as inner
use denote.Memory.{lone}
use denote.Param.{layout}
use mathlib.Core.Bool.{Bool, true, false}
use seplogic.Ra.Ura.{Ura}
use mir.Val.{Val, vstruct, vbool, vcons, vnil, of_list, has_ty, WT}
use types.Logic.{Logic, sem}
use types.Kit.{Item, Goal, Seq, Step, step, ‵, ◌$◌, drop, fsplit, fjoin, fpick, fpack, feq_i, feq_l}
use denote.RattleType.{Valss}
use denote.Builtin.{bool}
use denote.Plain.{bool_Makes}
use denote.RawPtr.{Ptr, block_ptr, null_ptr, ptr_val, RawPtr, in_a_block}
use denote.Steps.{nothing, owned}
use denote.Struct.Struct.{within}
use denote.Struct.Owning.{shape}
use Rattle.numzela.specs.declared.program.Program.{Program}
use Rattle.numzela.specs.contracts.program.Program as handle

abbrev pub word : Ptr → Bool → Val
word p held = vstruct (vcons (ptr_val p) (vcons (vbool held) vnil))

module _ {M : Type 1} {𝓤 : Ura M} {𝓛 : Logic 𝓤} {K : Type 0} {Γ : List (Item 𝓤)} {G : Goal 𝓤 𝓛.H} where
  pub handle_in : K → (h : Program) → Step K 𝓛 (‵ (handle.the_row.own_val h (word h.at h.held ∷ [])) ∷ Γ) G (‵ (handle.the_heap h) ∷ Γ) G
  handle_in t h = step (λ s. let v : Val = word h.at h.held in
      nothing t $ owned t bool _ (bool_Makes 𝓛) h.held (vbool h.held ∷ []) refl $ fjoin t $ feq_i t (List Val) (ptr_val h.at ∷ []) (ptr_val h.at ∷ []) refl $ fjoin t $
      feq_i t (List Val) (v ∷ []) (v ∷ []) refl $ fjoin t $
      fpack t (Valss (RawPtr ∷ bool ∷ [])) (within (shape handle.the_type) (h.at, (h.held, tt)) (v ∷ [])) (ptr_val h.at ∷ [], (vbool h.held ∷ [], tt)) $ fjoin t $ s)

  -- a case for each value of the handle's flag, which says whether the handle holds a box
  by_value : K → (p : Ptr) (held : Bool) (value : Option (inner.the_row).Denot) → held ≡ is_some value
      → (value ≡ None → held ≡ false → Seq K 𝓛 Γ G)
      → ((b o : ℕ) (x : (inner.the_row).Denot) → value ≡ Some x → p ≡ block_ptr b o → held ≡ true → Seq K 𝓛 (‵ (box_owns chunk inner.the_row (block_ptr b o) x) ∷ Γ) G)
      → Seq K 𝓛 (‵ (owned_at chunk inner.the_row p value) ∷ Γ) G
  by_value t p held None e none some = drop t $ none refl e
  by_value t p held (Some x) e none some = in_a_block t p (λ p. box_owns chunk inner.the_row p x) (fst∗ 𝓤 (never 𝓤) (sem 𝓛 (chunk (bare (lone (inner.the_row).mir)) null_ptr))) (λ b o ep. some b o x refl ep e)

  pub handle_out : K → (h : Program) (vs : List Val)
      → (h.value ≡ None → vs ≡ word h.at false ∷ [] → Seq K 𝓛 Γ G)
      → ((b o : ℕ) (x : (inner.the_row).Denot) → h.value ≡ Some x → vs ≡ word (block_ptr b o) true ∷ [] → Seq K 𝓛 (‵ (box_owns chunk inner.the_row (block_ptr b o) x) ∷ Γ) G)
      → Seq K 𝓛 (‵ (handle.the_row.own_val h vs) ∷ Γ) G
  handle_out t h vs none some =
      fsplit t $ fpick t (λ vss. fsplit t $ feq_l t (λ ev. fsplit t $ feq_l t (λ ep. fsplit t $ feq_l t (λ eb. drop t $ fsplit t $ feq_l t (λ eh.
      let is : vs ≡ word h.at h.held ∷ [] =
      subst (λ (ws : List Val). vs ≡ vstruct (of_list (ptr_val h.at ∷ (ws ++ []))) ∷ []) eb (subst (λ (ps : List Val). vs ≡ vstruct (of_list (ps ++ (vss.1.0 ++ []))) ∷ []) ep ev) in
      by_value t h.at h.held h.value eh (λ e l. none e (subst (λ (l : Bool). vs ≡ word h.at l ∷ []) l is))
      (λ b o x e p l. some b o x e (subst (λ (l : Bool). vs ≡ word (block_ptr b o) l ∷ []) l (subst (λ (p : Ptr). vs ≡ word p h.held ∷ []) p is))))))))

pub word_good : (p : Ptr) (held : Bool) → T (has_ty (layout handle.the_row) (word p held)) × WT (word p held)
word_good (block_ptr b o) held = (tt, (tt, (tt, tt)))
word_good null_ptr held = (tt, (record { fits = lit< tt }, (tt, tt)))

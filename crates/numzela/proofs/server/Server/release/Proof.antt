-- `release` takes a handle apart. The handle held nothing, or a box, whose pointer is returned.
use Rattle.std.proofs.Common.{◌≡◌, List, [], ◌∷◌, ◌++◌, refl, sym, subst, lit<}
use mathlib.Core.Bool.{true, false}
use mir.Val.{Val, vptr, vcons, vnil}
use base.Logic.{SProp, ent, emp, id⊢}
use base.Fml.{ftrue}
use prog.Wp.{WpFn}
use types.Kit.{‵, raw, ◌⊛◌, at_ret, ◌$◌, ◌∵◌, !, qed, by, move, keep, split, fsplit, fjoin, suffices, use0, use1}
use types.Run.{stop, fld, lit, of_opd, no_more, and_then, first, branches, exec, returns, enter}
use types.ByLocal.{alloc_all, pass_all, free_all, look_at, get, get_in, sets, sets_last, env}
use types.Part.{agg, sub, whole}
use types.Match.{live}
use contract.Monad.{fact, fact_i}
use contract.Running.{tables}
use denote.Exit.{yes}
use denote.RattleType.{RattleType, owns}
use denote.Param.{layout}
use denote.RawPtr.{block_ptr}
use denote.Signature.{types_at, type_at, plain}
use denote.Steps.{nothing}
use denote.Triple.Walked.{Stays, stay_dropped, walk_of, Goes-dropped}
use Rattle.core.specs.declared.option.Option.TheVariants.{None, Some}
use Rattle.core.proofs.alloc.Calls.{handle_tells}
use Rattle.core.proofs.alloc.Shapes.{after}
use Rattle.core.proofs.atomic.Steps.{Ptr-Good}
use Rattle.core.proofs.cell.Inside.{Good}
use Rattle.core.proofs.option.Made.{Some-of, none_of}
use Rattle.std.specs.contracts.alloc.Global as heap
use Rattle.std.proofs.alloc.Global.TheLaws as heap_laws
use Rattle.std.specs.contracts.impls.GlobalAllocator.TheImpl.{ghosts}
use Rattle.std_alloc.proofs.ResultValues.{and_tt}
use Rattle.std.proofs.raw_atomic.Walks.{proved_at, leaves}
use Rattle.numzela.proofs.Values.{both, Loose, al, loose_good, loose_in}
use Rattle.numzela.proofs.ServerForms.{handle_out, word, word_good}
use Rattle.numzela.specs.contracts.server.Serving as inner
use Rattle.numzela.specs.contracts.server.Server as handle
use Rattle.numzela.specs.contracts.server.Server.release.{ended, clauses}
use Rattle.numzela.specs.contracts.server.Server.release.Key.{name as #self}
use Rattle.numzela.proofs.server.Server.release.Statement.{statement}
use Rattle.numzela.proofs.server.Server.release.Code as code

pub release_spec : {M : Type 1} → statement M
release_spec 𝓤 𝓛 𝓜 𝓡 wired =
    let H = 𝓛.H in let 𝓣 = tables 𝓤 H 𝓜 𝓡 𝓡.env in let En = ended in let c = clauses 𝓛 𝓜.mem 𝓡.returns in let fn = code.function in
    let R : RattleType = inner.the_row in let Z : RattleType = heap.the_row in let LZ = heap_laws.the_row_laws in let Lr : RattleType = Loose R Z LZ ghosts in
    let hs : Stays En.signature.params En.kept = (stay_dropped (plain (λ _. handle.the_row)) yes, (stay_dropped (plain (λ _. Z)) yes, tt)) in
    proved_at 𝓛 En hs c 𝓜 𝓡 (Goes-dropped 𝓛 0 (plain (λ _. handle.the_row)) yes (λ κs x f. refl), (Goes-dropped 𝓛 0 (plain (λ _. Z)) yes (λ κs x f. refl), tt)) #self fn (code.unfolded 𝓤 H 𝓜 𝓡 wired) (λ z are.
    let κs = z.0.0 in let h = z.0.3.0 in let a = z.0.3.1.0 in let Post : Val → SProp 𝓤 = (walk_of 𝓛 En hs c).post z in let Run : List Val → SProp 𝓤 = λ ws. WpFn 𝓤 H 𝓣.C 𝓣.Λ fn ws Post in
    let Out : RattleType = type_at En.signature.result κs in
    qed 𝓛 ((‵ ftrue ⊛ ‵ (owns (types_at En.signature.params κs) z.0.3 z.0.4)) ∷ raw ((c κs z.0.3).requires z.1) ∷ []) ∵ split ! $ move ! (1 ∷ []) $ fsplit ! $ move ! (1 ∷ []) $ fsplit ! $
    -- [the allocator; nothing; the handle; the tokens; the `requires`]
    handle_tells (al R Z LZ ghosts) ! a z.0.4.1.0 (λ ha ea fits. move ! (2 ∷ []) $ handle_out ! h z.0.4.0
    (λ is_none is.
    let w : Val = word h.at false in let v₀ : Val = live 0 vnil in
    suffices ! (Run (w ∷ ha ∷ [])) (subst (λ (us : List Val). ent 𝓤 (Run (w ∷ ha ∷ [])) (Run us)) (sym (λ i. is i ++ (ea i ++ []))) (id⊢ 𝓤 (Run (w ∷ ha ∷ [])))) $
    enter ! 𝓣.C 𝓣.Λ fn (w ∷ ha ∷ []) Post $ alloc_all ! (λ l. pass_all ! refl (word_good h.at false, (fits, tt)) $ let Ev = env fn.locals l in
    sets ! (of_opd ! (get_in ! (fld ! refl (stop !)) (sub ! 0 refl (whole !)))) refl (Ptr-Good h.at) $
    sets ! (of_opd ! (get_in ! (fld ! refl (stop !)) (sub ! 1 refl (whole !)))) refl (tt, tt) $
    sets ! (of_opd ! (get ! refl)) refl (tt, tt) $ first ! $ branches ! (get ! refl) (λ wrong. absurd wrong)
    (λ _. sets_last ! (agg ! (and_then ! (lit ! tt) (no_more !))) refl (tt, (record { fits = lit< tt }, tt)) $
    exec ! 𝓣.C 𝓣.Λ Ev (after 4 fn.body) (at_ret Ev Post) $ sets ! (of_opd ! (get ! refl)) refl (tt, (record { fits = lit< tt }, tt)) $
    use0 𝓛 (‵ (Out.own_val None (v₀ ∷ []))) (none_of 𝓛 Lr) $
    use0 𝓛 (raw (fact 𝓤 (None ≡ h.value))) (fact_i 𝓤 (None ≡ h.value) (emp 𝓤) (sym is_none)) $ nothing ! $ nothing ! $ fjoin ! $ nothing ! $ fjoin ! $
    returns ! (look_at ! 0 refl) $ free_all ! refl $ keep ! (5 ∷ 0 ∷ 2 ∷ 1 ∷ []) $ by ! (leaves 𝓛 En hs c z v₀ None (tt, (tt, tt)) (tt, (tt, tt))))))
    (λ b o x is_some is.
    let w : Val = word (block_ptr b o) true in let made : Val = both (vptr b o) ha in let typed = loose_good R Z LZ ghosts b o ha fits in let v₁ : Val = live 1 (vcons made vnil) in
    let d : Lr.Denot = record { at = block_ptr b o; alloc = a; value = x } in let good : Good (layout Out) v₁ = (and_tt _ typed.0, (record { fits = lit< tt }, (typed.1, tt))) in
    suffices ! (Run (w ∷ ha ∷ [])) (subst (λ (us : List Val). ent 𝓤 (Run (w ∷ ha ∷ [])) (Run us)) (sym (λ i. is i ++ (ea i ++ []))) (id⊢ 𝓤 (Run (w ∷ ha ∷ [])))) $
    enter ! 𝓣.C 𝓣.Λ fn (w ∷ ha ∷ []) Post $ alloc_all ! (λ l. pass_all ! refl (word_good (block_ptr b o) true, (fits, tt)) $ let Ev = env fn.locals l in
    sets ! (of_opd ! (get_in ! (fld ! refl (stop !)) (sub ! 0 refl (whole !)))) refl (tt, tt) $
    sets ! (of_opd ! (get_in ! (fld ! refl (stop !)) (sub ! 1 refl (whole !)))) refl (tt, tt) $
    sets ! (of_opd ! (get ! refl)) refl (tt, tt) $ first ! $ branches ! (get ! refl)
    (λ _. sets ! (of_opd ! (get ! refl)) refl (tt, tt) $
    sets ! (agg ! (and_then ! (get ! refl) (and_then ! (get ! refl) (no_more !)))) refl typed $
    sets_last ! (agg ! (and_then ! (lit ! tt) (and_then ! (get ! refl) (no_more !)))) refl good $
    exec ! 𝓣.C 𝓣.Λ Ev (after 4 fn.body) (at_ret Ev Post) $ sets ! (of_opd ! (get ! refl)) refl good $
    loose_in R Z LZ ghosts ! b o ha a x $ use1 𝓛 (‵ (Out.own_val (Some d) (v₁ ∷ []))) (Some-of 𝓛 Lr d made) $
    use0 𝓛 (raw (fact 𝓤 (Some x ≡ h.value))) (fact_i 𝓤 (Some x ≡ h.value) (emp 𝓤) (sym is_some)) $ nothing ! $ nothing ! $ fjoin ! $ nothing ! $ fjoin ! $
    returns ! (look_at ! 0 refl) $ free_all ! refl $ keep ! (4 ∷ 0 ∷ 2 ∷ 1 ∷ []) $ by ! (leaves 𝓛 En hs c z v₁ (Some d) (tt, (tt, tt)) (tt, (tt, tt))))
    (λ wrong. absurd wrong)))))

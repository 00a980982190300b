-- `empty` makes a handle that owns nothing.
use Rattle.std.proofs.Common.{◌≡◌, [], ◌∷◌, refl, lit<}
use Rattle.std.specs.Prelude.{None}
use Rattle.std.proofs.raw_atomic.Walks.{proved, leaves}
use base.Fml.{ftrue}
use types.Kit.{‵, raw, ◌⊛◌, ◌$◌, ◌∵◌, !, qed, by, move, drop, fjoin, feq_i, split, use0}
use types.Run.{lit, false_lit, no_more, and_then, returns, enter}
use types.ByLocal.{alloc_all, pass_all, free_all, look_at, sets}
use types.Part.{agg}
use denote.RawPtr.{null_ptr}
use denote.Steps.{nothing}
use denote.Triple.Walked.{Stays, walk_of}
use Rattle.numzela.specs.contracts.server.Server.empty as f
use Rattle.numzela.specs.declared.server.Server.{Server}
use Rattle.numzela.proofs.ServerForms.{handle_in, word}
use mathlib.Core.Bool.{Bool, false}
use base.Logic.{emp}
use contract.Monad.{fact, fact_i}
use Rattle.numzela.proofs.server.Server.empty.Statement.{statement}
use Rattle.numzela.proofs.server.Server.empty.Code as code

pub empty_spec : {M : Type 1} → statement M
empty_spec 𝓤 𝓛 𝓜 𝓡 wired =
    let c = f.clauses 𝓛 𝓜.mem 𝓡.returns in let hs : Stays f.ended.signature.params f.ended.kept = tt in let W = walk_of 𝓛 f.ended hs c in
    proved 𝓛 f.ended hs c 𝓜 𝓡 tt
    f.Key.name code.function (code.unfolded 𝓤 𝓛.H 𝓜 𝓡 wired)
    (λ κs. tt) (λ κs. tt) (λ κs qs bounds a _ are.
    let y : W.Ghost = ((κs, qs, bounds, a, tt), tt) in
    qed 𝓛 ((‵ ftrue ⊛ ‵ ftrue) ∷ ‵ ftrue ∷ []) ∵ split ! $ move ! (2 ∷ []) $ drop ! $
    -- [the tokens; the ownership of the parameters]
    enter ! _ _ _ _ _ $ alloc_all ! (λ l. pass_all ! refl tt $
    sets ! (agg ! (and_then ! (lit ! tt) (and_then ! (false_lit !) (no_more !)))) refl (tt, (record { fits = lit< tt }, (tt, tt))) $
    returns ! (look_at ! 0 refl) $ free_all ! refl $
    let made : Server = record { at = null_ptr; held = false; value = None } in
    use0 𝓛 (raw (fact 𝓤 (made.value ≡ None))) (fact_i 𝓤 (made.value ≡ None) (emp 𝓤) refl) $
    nothing ! $ feq_i ! Bool false false refl $ fjoin ! $ handle_in ! made $
    -- [the handle; the clause; the tokens; the parameters]
    move ! (2 ∷ 3 ∷ 0 ∷ 1 ∷ []) $ by ! (leaves 𝓛 f.ended hs c y (word null_ptr false) made tt tt)))

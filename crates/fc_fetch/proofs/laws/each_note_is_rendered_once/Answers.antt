use Rattle.std.proofs.Common.{◌≡◌, ◌++◌, [], ◌∷◌, ℕ, List, codes, refl, subst, sym}
use Rattle.std.specs.Fmt.{digits}
use Rattle.std.specs.Str.{chars, is_utf8}
use lib.Utf8.{encode}
use Rattle.fc_fetch.specs.Rendering.{note_text}
use Rattle.fc_fetch.specs.declared.printer.Shown.TheVariants.{Text}
use Rattle.fc_fetch.proofs.laws.each_note_is_rendered_once.Goals as goal

nineteen : note_text Text 69 (codes "19") ≡ codes "2.05 19" ++ (10 ∷ [])
unfolding digits chars is_utf8 encode
nineteen = refl

pub returns-clause-whole : goal.returns-clause-whole
returns-clause-whole c = λ n code payload.
    subst (λ (x : ℕ). note_text Text x n.message.payload ≡ codes "2.05 19" ++ (10 ∷ [])) (sym code)
    (subst (λ (x : List ℕ). note_text Text 69 x ≡ codes "2.05 19" ++ (10 ∷ [])) (sym payload) nineteen)

pub returns-clause-joined : goal.returns-clause-joined
unfolding digits chars is_utf8 encode
returns-clause-joined c = λ n first w outcomes. refl

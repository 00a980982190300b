use Rattle.std.proofs.Common.{◌≡◌, ℕ, inl, inr, false, true, List, [], ◌∷◌, ◌++◌, refl, sym, ◌∙◌, ap}
use Rattle.std.specs.Net.Addr.{ipv4_octets}
use Rattle.std.specs.Net.Socket.{v4_ip}
use Rattle.std.specs.Prelude.{◌==◌, codes, decimal}
use Rattle.std.specs.List.{list_any}
use Rattle.std.proofs.lemmas.Bool.{or_left, or_right}
use Rattle.std.proofs.lemmas.List.Folds.{list_any-append}
use Rattle.coap_uri.proofs.laws.localhost_is_one_address.Goals as goal

-- a text with a dot between two others contains the byte of a dot.
has_dot : (before after : List ℕ) → list_any (λ b. b == 46) (before ++ codes "." ++ after) ≡ true
has_dot before after =
    list_any-append (λ b. b == 46) (before ++ codes ".") after
    ∙ or_left (list_any (λ b. b == 46) (before ++ codes ".")) (list_any (λ b. b == 46) after)
    (list_any-append (λ b. b == 46) before (codes ".") ∙ or_right (list_any (λ b. b == 46) before) true refl)

pub returns : goal.returns
returns c = λ uri a h is. elim h.host_is as (λ _. ipv4_octets (v4_ip a.server) ≡ 127 ∷ 0 ∷ 0 ∷ 1 ∷ []) [
  | inl local ↦ local.1
  | inr dotted ↦
      let none : false ≡ true = ap (list_any (λ b. b == 46)) (sym is ∙ dotted.spelled)
      ∙ has_dot (decimal dotted.a ++ codes "." ++ decimal dotted.b ++ codes "." ++ decimal dotted.c) (decimal dotted.d) in
      absurd (cc none)
]

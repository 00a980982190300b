-- Timers that fire in order.
use Rattle.std.proofs.Common.{◌≡◌, ℕ, suc, ◌+◌, ◌<◌, List, [], ◌∷◌, ◌++◌, length, take, drop, arith, refl, sym, subst, ◌∙◌}
use Rattle.std.specs.Prelude.{slice_index_or, slice_set}
use Rattle.std.proofs.Math.Seq.{drop-cons}
use Rattle.std.proofs.lemmas.List.{drop-set-lt, take_more, take_more_set}
use Rattle.fc_host.specs.declared.timer.Timer.{Timer}
use Rattle.fc_server.specs.Ingresses.{IngressCalls}
use Rattle.fc_receive.specs.Firing.{AreFired, FiresIfDue}

-- equal lists have equal heads.
head_same : {X : Type 0} (x y : X) (xs ys : List X) → x ∷ xs ≡ y ∷ ys → x ≡ y
head_same x y xs ys e = cc e

tail_same : {X : Type 0} (x y : X) (xs ys : List X) → x ∷ xs ≡ y ∷ ys → xs ≡ ys
tail_same x y xs ys e = cc e

-- lists that are equal from a place on, at that place and after it.
rest_same : (k : ℕ) (ts all : List Timer) (d : Timer) → k < length ts → k < length all → drop k ts ≡ drop k all
    → slice_index_or ts k d ∷ drop (suc k) ts ≡ slice_index_or all k d ∷ drop (suc k) all
rest_same k ts all d lt within same = sym (drop-cons ts k d lt) ∙ (same ∙ drop-cons all k d within)

next_is : (k : ℕ) → suc k ≡ k + 1
next_is k = omega arith

-- the timers below a place have fired, and the others are as they were.
pub record AreFiredBelow {S : Type 0} (calls : IngressCalls S) (now k : ℕ) (all ts : List Timer) (before after : S) : Type 0 where
  pub fired : AreFired calls now (take k all) (take k ts) before after
  pub rest : drop k ts ≡ drop k all

module _ {S : Type 0} (calls : IngressCalls S) where
  -- one more timer.
  one_more : (now : ℕ) (ts us : List Timer) (t u : Timer) (before mid after : S) → AreFired calls now ts us before mid → FiresIfDue calls now t u mid after
      → AreFired calls now (ts ++ t ∷ []) (us ++ u ∷ []) before after
  one_more now [] [] t u before mid after fired fires = (after, subst (λ (s : S). FiresIfDue calls now t u s after) fired fires, refl)
  one_more now (t' ∷ ts) (u' ∷ us) t u before mid after fired fires = (fired.0, fired.1, one_more now ts us t u fired.0 mid after fired.2 fires)
  one_more now [] (u' ∷ us) t u before mid after fired fires = elim fired [ ]
  one_more now (t' ∷ ts) [] t u before mid after fired fires = elim fired [ ]

  pub fired_more : (now k : ℕ) (all ts : List Timer) (u d : Timer) (before mid after : S) → k < length ts → length ts ≡ length all → AreFiredBelow calls now k all ts before mid
      → FiresIfDue calls now (slice_index_or ts k d) u mid after → AreFiredBelow calls now (k + 1) all (slice_set ts k u) before after
  fired_more now k all ts u d before mid after lt same w fires =
      let within : k < length all = omega (arith, lt, same) in
      let rest = rest_same k ts all d lt within w.rest in
      let here = head_same _ _ _ _ rest in
      let later = tail_same _ _ _ _ rest in
      let more = one_more now (take k all) (take k ts) (slice_index_or all k d) u before mid after w.fired (subst (λ (t : Timer). FiresIfDue calls now t u mid after) here fires) in
      record {
        fired = subst (λ (l : List Timer). AreFired calls now l (take (k + 1) (slice_set ts k u)) before after) (sym (take_more all k d within))
            (subst (λ (l : List Timer). AreFired calls now (take k all ++ slice_index_or all k d ∷ []) l before after) (sym (take_more_set ts k u lt)) more);
        rest = drop-set-lt (k + 1) ts k u (omega arith) ∙ subst (λ (n : ℕ). drop n ts ≡ drop n all) (next_is k) later;
      }

-- The timers of a command line, text by text.
use Rattle.std.proofs.Common.{◌≡◌, ◌≢◌, ◌∙◌, ℕ, zero, suc, ◌+◌, ◌<◌, ◌^◌, List, [], ◌∷◌, ◌++◌, ◌≤◌, ap, arith, drop, length, map, refl, subst, sym, take, Bor}
use Rattle.std.specs.Prelude.{Err, Ok, Result, slice_index, slice_index_or}
use Rattle.std.specs.Result.{IfErr, IsErrAnd}
use Rattle.std.specs.Char.{digit_value}
use Rattle.std.specs.Str.Parse.{AllDigits}
use Rattle.std.proofs.lemmas.Str.Parse.{digit_from_value}
use Rattle.std.specs.List.{AllZip}
use Rattle.fc_host.specs.declared.timer.Timer.{Timer}
use Rattle.fc_lines.specs.Fields.{IsNoNumber, IsNumber}
use Rattle.fc_lines.proofs.Reading.{AreSame}
use Rattle.fc_config.specs.Every.{AreRefusedBy, IsNoTimerText, IsRefusedBy, IsTimerText, Pushes, colon}
use Rattle.fc_config.specs.declared.every.BadTimer.{BadTimer}

-- one more text.
timer_suc : (texts : List (Bor (List ℕ))) (k : ℕ) (ts : List Timer) (t : Timer) (d : Bor (List ℕ)) → k < length texts
    → AllZip IsTimerText (map (λ text. text.now) (take k texts)) ts → IsTimerText (slice_index_or texts k d).now t
    → AllZip IsTimerText (map (λ text. text.now) (take (suc k) texts)) (ts ++ (t ∷ []))
timer_suc [] k ts t d lt zip is = absurd (omega (arith, lt))
timer_suc (text ∷ texts) zero [] t d lt zip is = (is, tt {0})
timer_suc (text ∷ texts) zero (u ∷ us) t d lt zip is = elim zip [ ]
timer_suc (text ∷ texts) (suc k) [] t d lt zip is = elim zip [ ]
timer_suc (text ∷ texts) (suc k) (u ∷ us) t d lt (first, zip) is = (first, timer_suc texts k us t d (omega (arith, lt)) zip is)

one_more : (k : ℕ) → suc k ≡ k + 1
one_more k = omega arith

-- the timers of the first texts.
abbrev pub AreFirst : List (Bor (List ℕ)) → ℕ → List Timer → Type 0
AreFirst texts k ts = AllZip IsTimerText (map (λ text. text.now) (take k texts)) ts

timers_after : (texts : List (Bor (List ℕ))) (k : ℕ) (ts : List Timer) (t : Timer) (d : Bor (List ℕ)) → k < length texts
    → AreFirst texts k ts → IsTimerText (slice_index_or texts k d).now t → AreFirst texts (k + 1) (ts ++ (t ∷ []))
timers_after texts k ts t d lt zip is =
    subst (λ (n : ℕ). AllZip IsTimerText (map (λ text. text.now) (take n texts)) (ts ++ (t ∷ []))) (one_more k) (timer_suc texts k ts t d lt zip is)

pub pushed : (texts : List (Bor (List ℕ))) (k : ℕ) (ts new : List Timer) (d : Bor (List ℕ)) → k < length texts
    → AreFirst texts k ts → Pushes (slice_index_or texts k d).now ts new → AreFirst texts (k + 1) new
pushed texts k ts new d lt first p = subst (λ (items : List Timer). AreFirst texts (k + 1) items) (sym p.last) (timers_after texts k ts p.timer d lt first p.is)

-- ---- texts that are refused

pub returned : {A : Type 0} (r : Result A BadTimer) (e : BadTimer) (P : BadTimer → Type 0) → IsErrAnd r (λ y. y ≡ e) → P e → IfErr r P
returned (Ok x) e P is h = tt
returned (Err y) e P is h = subst P (sym is) h

-- the texts before a place, the one at it, and those after it.
split_at : (texts : List (Bor (List ℕ))) (k : ℕ) (d : Bor (List ℕ)) → k < length texts
    → map (λ text. text.now) texts ≡ map (λ text. text.now) (take k texts) ++ ((slice_index_or texts k d).now ∷ map (λ text. text.now) (drop (suc k) texts))
split_at [] k d lt = absurd (omega (arith, lt))
split_at (text ∷ texts) zero d lt = refl
split_at (text ∷ texts) (suc k) d lt = ap (λ (l : List (List ℕ)). text.now ∷ l) (split_at texts k d (omega (arith, lt)))

pub refused_at : (texts : List (Bor (List ℕ))) (k : ℕ) (ts : List Timer) (d : Bor (List ℕ)) (error : BadTimer) → k < length texts
    → AreFirst texts k ts → IsRefusedBy (slice_index_or texts k d).now error → AreRefusedBy (map (λ text. text.now) texts) error
refused_at texts k ts d error lt zip refused = record {
  before = map (λ text. text.now) (take k texts);
  text = (slice_index_or texts k d).now;
  after = map (λ text. text.now) (drop (suc k) texts);
  texts_are = split_at texts k d lt;
  timers = ts;
  good = zip;
  refused = refused;
}

-- ---- a text that is of no timer

-- no byte of it is a colon.
abbrev pub IsUncoloned : List ℕ → Type 0
IsUncoloned text = (i : ℕ) → i < length text → slice_index text i ≢ colon

digit_no_colon : (b : ℕ) → digit_value b < 10 → b ≢ colon
digit_no_colon b h e = let r = digit_from_value b h in absurd (omega arith)

pub digits_uncoloned : (text : List ℕ) → AllDigits 10 text → IsUncoloned text
digits_uncoloned [] h i lt = absurd (omega (arith, lt))
digits_uncoloned (x ∷ text) h zero lt = digit_no_colon x h.0
digits_uncoloned (x ∷ text) h (suc i) lt = digits_uncoloned text h.1 i (omega (arith, lt))

rest_uncoloned : (x : ℕ) (a : List ℕ) → IsUncoloned (x ∷ a) → IsUncoloned a
rest_uncoloned x a u = λ i lt. u (suc i) (omega (arith, lt))

cut : (a b a' b' : List ℕ) → IsUncoloned a → IsUncoloned a' → a ++ (colon ∷ b) ≡ a' ++ (colon ∷ b') → AreSame a b a' b'
cut [] b [] b' u u' e = record { first = refl; rest = cc e }
cut [] b (x ∷ a') b' u u' e = absurd (u' 0 (omega arith) (cc e))
cut (x ∷ a) b [] b' u u' e = absurd (u 0 (omega arith) (cc e))
cut (x ∷ a) b (y ∷ a') b' u u' e =
    let same = cut a b a' b' (rest_uncoloned x a u) (rest_uncoloned y a' u') (cc e) in
    let head : y ≡ x = cc e in
    record { first = cc (head, same.first); rest = same.rest }

uncut : (a b : List ℕ) → IsUncoloned (a ++ (colon ∷ b)) → ⊥
uncut [] b u = u 0 (omega arith) refl
uncut (x ∷ a) b u = uncut a b (rest_uncoloned x (a ++ (colon ∷ b)) u)

pub no_colon : (text : List ℕ) → IsUncoloned text → IsNoTimerText text
no_colon text u = record { none = λ t w. uncut w.period w.digits (subst IsUncoloned w.text_is u) }

-- a text split at its first colon.
pub record IsSplit (text period digits : List ℕ) : Type 0 where
  pub text_is : text ≡ period ++ (colon ∷ digits)
  pub first : IsUncoloned period

same_parts : (text period digits : List ℕ) (t : Timer) → IsSplit text period digits → (w : IsTimerText text t) → AreSame period digits w.period w.digits
same_parts text period digits t c w = cut period digits w.period w.digits c.first (digits_uncoloned w.period w.every.digits.1) (sym c.text_is ∙ w.text_is)

pub no_period : (text period digits : List ℕ) → IsSplit text period digits → IsNoNumber period (2 ^ 64) → IsNoTimerText text
no_period text period digits c none = record {
  none = λ t w.
      let same = same_parts text period digits t c w in
      let most = w.most in
      none.none t.every (omega (arith, most)) (subst (λ (l : List ℕ). IsNumber l t.every) same.first w.every);
}

pub no_slot : (text period digits : List ℕ) → IsSplit text period digits → IsNoNumber digits 256 → IsNoTimerText text
no_slot text period digits c none = record {
  none = λ t w.
      let same = same_parts text period digits t c w in
      let few = w.is_slot in
      none.none t.slot (omega (arith, few)) (subst (λ (l : List ℕ). IsNumber l t.slot) same.rest w.slot);
}

-- the period of a text is the only one, and so is the slot.
pub record IsOutside (every slot : ℕ) : Type 0 where
  pub is : (e s : ℕ) → e ≡ every → s ≡ slot → 1 ≤ e → e ≤ 86400000 → s < 64 → ⊥

pub outside : (text period digits : List ℕ) (every slot : ℕ) → IsSplit text period digits → IsNumber period every → IsNumber digits slot → IsOutside every slot → IsNoTimerText text
outside text period digits every slot c e s none = record {
  none = λ t w.
      let same = same_parts text period digits t c w in
      let its : IsNumber period t.every = subst (λ (l : List ℕ). IsNumber l t.every) same.first w.every in
      let own : IsNumber digits t.slot = subst (λ (l : List ℕ). IsNumber l t.slot) same.rest w.slot in
      none.is t.every t.slot (sym its.value ∙ e.value) (sym own.value ∙ s.value) w.some w.most w.is_slot;
}

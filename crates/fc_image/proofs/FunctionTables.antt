-- The tables of function starts and of frames, filled from the last slot back.
use Rattle.std.proofs.Common.{◌≡◌, ℕ, zero, suc, ◌+◌, ◌<◌, ◌≤◌, ◌==◌, ◌||◌, Bool, true, false, if◌then◌else◌, max, min, set, List, [], ◌∷◌, length, drop, Some, get_or, inl, inr, refl, sym, ap, ◌∙◌, subst, add-zero, arith}
use Rattle.std.specs.Prelude.{slice_get, nat_lt}
use Rattle.std.proofs.lemmas.Bool.{cases_lt}
use Rattle.std.proofs.lemmas.Bool.Decides.{nat_tests}
use Rattle.std.proofs.lemmas.List.{get_or-drop}
use Rattle.fc_isa.specs.declared.insn.Insn.{Insn}
use Rattle.fc_isa.specs.declared.insn.Insn.TheVariants.{Alu, Unary, SignExtend, LoadWide, WideSecond, Load, StoreImm, Store, JumpAlways, JumpAlwaysLong, JumpIf, CallHelper, CallLocal, Exit}
use Rattle.fc_image.specs.Functions.{calls, is_called, is_start, starts_within, frames_called, depth_and, depths}
use Rattle.fc_image.specs.Tables.{starts_below}
use Rattle.fc_image.proofs.CostTable.{AreCapped, at_capped, drop_at, first_of, one_more, past_end, rest_capped}

-- ---- starts between two slots

starts_grow : (code : List Insn) (slot n : ℕ) → starts_below code slot ≤ starts_below code (slot + n)
starts_grow code slot zero = rw add-zero (omega arith)
starts_grow code slot (suc n) =
    let rest = starts_grow code slot n in
    let e : slot + suc n ≡ suc (slot + n) = omega arith in
    rw e (omega (arith, rest))

-- a function starts in the `n` slots after a slot exactly if more functions start up to the last of
-- them
pub within_counted : (code : List Insn) (slot n : ℕ) → starts_within code slot n ≡ nat_lt (starts_below code (slot + 1)) (starts_below code (slot + n + 1))
within_counted code slot zero = rw add-zero (grind (arith, nat_tests))
within_counted code slot (suc n) =
    let rest = within_counted code slot n in
    let grows = starts_grow code (slot + 1) n in
    let before : slot + n + 1 ≡ slot + suc n = omega arith in
    let further : slot + 1 + n ≡ slot + suc n = omega arith in
    let least : starts_below code (slot + 1) ≤ starts_below code (slot + suc n) = subst (λ k. starts_below code (slot + 1) ≤ starts_below code k) further grows in
    let here : starts_within code slot n ≡ nat_lt (starts_below code (slot + 1)) (starts_below code (slot + suc n)) = rest ∙ ap (λ k. nat_lt (starts_below code (slot + 1)) (starts_below code k)) before in
    let next : slot + suc n + 1 ≡ suc (slot + suc n) = omega arith in
    rw (here, next) (one_more_start (starts_below code (slot + 1)) (starts_below code (slot + suc n)) (is_start code (slot + suc n)) least)
  where
    one_more_start : (a b : ℕ) (start : Bool) → a ≤ b → (nat_lt a b || start) ≡ nat_lt a (b + (if start then 1 else 0))
    one_more_start a b true le = grind (arith, nat_tests)
    one_more_start a b false le = grind (arith, nat_tests)

-- ---- the calls of one more instruction

pub called_more : (code : List Insn) (slot place : ℕ) (insn : Insn) → slice_get code slot ≡ Some insn → is_called slot (drop slot code) place ≡ (calls slot insn place || is_called (slot + 1) (drop (slot + 1) code) place)
called_more code slot place insn e =
    let n : suc slot ≡ slot + 1 = omega arith in
    ap (λ c. is_called slot c place) (drop_at code slot insn e) ∙ ap (λ k. calls slot insn place || is_called (slot + 1) (drop k code) place) n

pub or_assoc : (a b c : Bool) → (a || (b || c)) ≡ ((a || b) || c)
or_assoc true b c = refl
or_assoc false b c = refl

pub mark_more : (code : List Insn) (slot place : ℕ) (insn : Insn) (new old : Bool) → slice_get code slot ≡ Some insn → old ≡ (is_called (slot + 1) (drop (slot + 1) code) place || (place == 0))
    → new ≡ (calls slot insn place || old) → new ≡ (is_called slot (drop slot code) place || (place == 0))
mark_more code slot place insn new old e f g =
    g ∙ ap (λ b. calls slot insn place || b) f ∙ or_assoc (calls slot insn place) (is_called (slot + 1) (drop (slot + 1) code) place) (place == 0)
    ∙ ap (λ b. b || (place == 0)) (sym (called_more code slot place insn e))

-- ---- frames

pub length-depths : (starts : ℕ → Bool) (slot : ℕ) (code : List Insn) → length (depths starts slot code) ≡ length code
length-depths starts slot [] = refl
length-depths starts slot (insn ∷ code) = ap suc (length-depths starts (slot + 1) code)

depths-drop : (starts : ℕ → Bool) (from k to : ℕ) (code : List Insn) → to ≡ from + k → depths starts to (drop k code) ≡ drop k (depths starts from code)
depths-drop starts from zero to code e = let same : to ≡ from = omega (arith, e) in ap (λ n. depths starts n code) same
depths-drop starts from (suc k) to [] e = refl
depths-drop starts from (suc k) to (insn ∷ code) e = depths-drop starts (from + 1) k to code (omega (arith, e))

abbrev pub unless : Bool → ℕ → ℕ
unless b n = if b then 0 else n

abbrev pub rest_of : Bool → List ℕ → ℕ
rest_of ends after = unless ends (get_or after 0 0)

pub depth_is : (starts : ℕ → Bool) (code : List Insn) (slot : ℕ) (insn : Insn) → slice_get code slot ≡ Some insn
    → get_or (depths starts 0 code) slot 0 ≡ max (frames_called insn (drop (suc slot) (depths starts 0 code))) (rest_of (starts (slot + 1)) (drop (suc slot) (depths starts 0 code)))
depth_is starts code slot insn e =
    let after : depths starts (slot + 1) (drop (suc slot) code) ≡ drop (suc slot) (depths starts 0 code) = depths-drop starts 0 (suc slot) (slot + 1) code (omega arith) in
    let first : drop slot (depths starts 0 code) ≡ depth_and (starts (slot + 1)) insn (depths starts (slot + 1) (drop (suc slot) code)) = sym (depths-drop starts 0 slot slot code (omega arith)) ∙ ap (depths starts slot) (drop_at code slot insn e) in
    first_of (depths starts 0 code) (depths starts (slot + 1) (drop (suc slot) code)) slot (max (frames_called insn (depths starts (slot + 1) (drop (suc slot) code))) (rest_of (starts (slot + 1)) (depths starts (slot + 1) (drop (suc slot) code)))) first
    ∙ ap (λ xs. max (frames_called insn xs) (rest_of (starts (slot + 1)) xs)) after

called_capped : (cap : ℕ) (insn : Insn) (xs ys : List ℕ) → AreCapped cap xs ys → min cap (frames_called insn xs) ≡ min cap (frames_called insn ys)
called_capped cap (CallLocal offset) xs ys h = let e = at_capped cap xs ys offset h in omega (arith, e)
called_capped cap Exit xs ys h = refl
called_capped cap WideSecond xs ys h = refl
called_capped cap (JumpAlways offset) xs ys h = refl
called_capped cap (JumpAlwaysLong offset) xs ys h = refl
called_capped cap (JumpIf j) xs ys h = refl
called_capped cap (LoadWide dst value) xs ys h = refl
called_capped cap (Alu op width dst operand) xs ys h = refl
called_capped cap (Unary op dst) xs ys h = refl
called_capped cap (SignExtend extension dst src) xs ys h = refl
called_capped cap (Load loaded dst base offset) xs ys h = refl
called_capped cap (StoreImm size base offset imm) xs ys h = refl
called_capped cap (Store size base offset src) xs ys h = refl
called_capped cap (CallHelper number) xs ys h = refl

rest_is_capped : (cap : ℕ) (ends : Bool) (xs ys : List ℕ) → AreCapped cap xs ys → min cap (rest_of ends xs) ≡ min cap (rest_of ends ys)
rest_is_capped cap true xs ys h = refl
rest_is_capped cap false xs ys h = let e = h 0 in omega (arith, e)

max_capped : (cap a b a' b' : ℕ) → min cap a ≡ min cap a' → min cap b ≡ min cap b' → min cap (max a b) ≡ min cap (max a' b')
max_capped cap a b a' b' e f = omega (arith, e, f)

-- past the table's end the next slot's flag doesn't matter, since the depth there is 0
next_rest : (flags : List Bool) (table : List ℕ) (starts : Bool) (next : ℕ) → (next < length table → get_or flags next false ≡ starts)
    → unless (get_or flags next false) (get_or table next 0) ≡ unless starts (get_or table next 0)
next_rest flags table starts next h =
    elim (cases_lt next (length table)) [
      | inl lt ↦ ap (λ b. unless b (get_or table next 0)) (h lt)
      | inr ge ↦ let e = past_end table next ge in rw e (none (get_or flags next false) starts)
    ]
  where
    none : (a b : Bool) → unless a 0 ≡ unless b 0
    none true true = refl
    none true false = refl
    none false true = refl
    none false false = refl

pub depth_more : (code : List Insn) (flags : List Bool) (table : List ℕ) (slot value : ℕ) (insn : Insn) → slice_get code slot ≡ Some insn → slot < length table
    → (slot + 1 < length table → get_or flags (slot + 1) false ≡ is_start code (slot + 1))
    → ((k : ℕ) → suc slot ≤ k → get_or table k 0 ≡ min 9 (get_or (depths (is_start code) 0 code) k 0))
    → value ≡ min 9 (max (frames_called insn (drop (slot + 1) table)) (if get_or flags (slot + 1) false then 0 else get_or table (slot + 1) 0))
    → (k : ℕ) → slot ≤ k → get_or (set table slot value) k 0 ≡ min 9 (get_or (depths (is_start code) 0 code) k 0)
depth_more code flags table slot value insn stands lt flag known is =
    let whole = depths (is_start code) 0 code in
    let n : slot + 1 ≡ suc slot = omega arith in
    let m : slot + 1 ≡ suc slot + 0 = omega arith in
    let capped = rest_capped 9 table whole slot known in
    let starts = is_start code (slot + 1) in
    let rest : (if get_or flags (slot + 1) false then 0 else get_or table (slot + 1) 0) ≡ rest_of starts (drop (suc slot) table) =
    next_rest flags table starts (slot + 1) flag ∙ ap (unless starts) (ap (λ k. get_or table k 0) m ∙ sym (get_or-drop (suc slot) table 0 0)) in
    one_more 9 table whole slot value lt known
    (is ∙ ap (λ k. min 9 (max (frames_called insn (drop k table)) (if get_or flags (slot + 1) false then 0 else get_or table (slot + 1) 0))) n
    ∙ ap (λ r. min 9 (max (frames_called insn (drop (suc slot) table)) r)) rest
    ∙ max_capped 9 (frames_called insn (drop (suc slot) table)) (rest_of starts (drop (suc slot) table)) (frames_called insn (drop (suc slot) whole)) (rest_of starts (drop (suc slot) whole))
    (called_capped 9 insn (drop (suc slot) table) (drop (suc slot) whole) capped) (rest_is_capped 9 starts (drop (suc slot) table) (drop (suc slot) whole) capped)
    ∙ ap (min 9) (sym (depth_is (is_start code) code slot insn stands)))

-- Values computed in steps or after a test, lists in two parts, and lists of bytes.
use Rattle.std.proofs.Common.{◌≡◌, ℕ, suc, ◌<◌, Bool, true, false, nat_le, List, [], ◌∷◌, ◌++◌, length, take, drop, get_or, Option, Some, None, refl, sym, ◌∙◌, subst, arith, length-append}
use Rattle.std.proofs.Math.Seq.{take-append_seam, drop-append_seam}
use Rattle.std.proofs.lemmas.List.{take-append-drop, length-take-le}
use Rattle.std.proofs.lemmas.Bool.{leb-true, le-leb}
use Rattle.coap_msg.specs.Reading.{◌>>=◌, guard, split}

-- `y` is computed in two steps: `o` is `value`, and `f` makes `y` of this value
pub record Came {A B : Type 0} (o : Option A) (f : A → Option B) (y : B) : Type 0 where
  pub value : A
  pub first : o ≡ Some value
  pub second : f value ≡ Some y

pub came : {A B : Type 0} (o : Option A) (f : A → Option B) (y : B) → (o >>= f) ≡ Some y → Came o f y
came None f y e = absurd (cc e)
came (Some x) f y e = record { value = x; first = refl; second = e }

-- the test holds, and the value `x` that it guards is `y`
pub record Passed {A : Type 0} (b : Bool) (x y : A) : Type 0 where
  pub test : b ≡ true
  pub same : x ≡ y

pub passed : {A : Type 0} (b : Bool) (x y : A) → guard b x ≡ Some y → Passed b x y
passed false x y e = absurd (cc e)
passed true x y e = record { test = refl; same = cc e }

pub passes : {A : Type 0} (b : Bool) (x : A) → b ≡ true → guard b x ≡ Some x
passes b x e = rw e refl

-- splitting two joined lists after the length of the first gives the two lists
pub split-append : (xs ys : List ℕ) → split (length xs) (xs ++ ys) ≡ Some (xs, ys)
split-append xs ys =
    passes (nat_le (length xs) (length (xs ++ ys))) (take (length xs) (xs ++ ys), drop (length xs) (xs ++ ys)) (le-leb _ _ (omega (arith, length-append xs ys))) ∙
    rw (take-append_seam xs ys, drop-append_seam xs ys) refl

pub record Joins (count : ℕ) (bytes : List ℕ) (parts : List ℕ × List ℕ) : Type 0 where
  pub bytes_are : bytes ≡ parts.0 ++ parts.1
  pub count_is : length parts.0 ≡ count

pub joins : (count : ℕ) (bytes : List ℕ) (parts : List ℕ × List ℕ) → split count bytes ≡ Some parts → Joins count bytes parts
joins count bytes parts e =
    let p = passed (nat_le count (length bytes)) (take count bytes, drop count bytes) parts e in
    let same : (take count bytes, drop count bytes) ≡ parts = p.same in
    subst (λ q. Joins count bytes q) same (record {
      bytes_are = sym (take-append-drop count bytes);
      count_is = length-take-le count bytes (leb-true _ _ p.test);
    })

-- each number of the list is a byte
pub record AreBytes (bytes : List ℕ) : Type 0 where
  pub each : (k : ℕ) → get_or bytes k 0 < 256

pub tail_bytes : (b : ℕ) (bytes : List ℕ) → AreBytes (b ∷ bytes) → AreBytes bytes
tail_bytes b bytes h = record { each = λ k. h.each (suc k) }

-- the back of a list of bytes is a list of bytes
pub back_bytes : (xs ys : List ℕ) → AreBytes (xs ++ ys) → AreBytes ys
back_bytes [] ys h = h
back_bytes (x ∷ xs) ys h = back_bytes xs ys (tail_bytes x (xs ++ ys) h)

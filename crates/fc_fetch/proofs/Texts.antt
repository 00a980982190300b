-- The bytes that are text.
use Rattle.std.proofs.Common.{◌≡◌, ℕ, Bool, true, false, ◌&&◌, List, refl}
use Rattle.std.proofs.lemmas.Bool.{and_right}
use Rattle.std.specs.List.{list_all}
use Rattle.std.specs.Str.{IsUtf8, chars, is_utf8}
use Rattle.std.proofs.lemmas.Str.{IsUtf8-from_is_utf8, is_utf8-from_IsUtf8}
use Rattle.fc_fetch.specs.Printing.{is_shown_char, is_text}

both : (a b : Bool) → a ≡ true → b ≡ true → (a && b) ≡ true
both a b x y = rw x y

pub text_is : (bytes : List ℕ) → IsUtf8 bytes → list_all is_shown_char (chars bytes) ≡ true → is_text bytes ≡ true
text_is bytes utf8 plain = both (is_utf8 bytes) (list_all is_shown_char (chars bytes)) (is_utf8-from_IsUtf8 bytes utf8) plain

pub not_plain : (bytes : List ℕ) → list_all is_shown_char (chars bytes) ≡ false → is_text bytes ≡ false
not_plain bytes plain = and_right (is_utf8 bytes) (list_all is_shown_char (chars bytes)) plain

first : (a b : Bool) → (a ≡ true → ⊥) → (a && b) ≡ false
first true b f = absurd (f refl)
first false b f = refl

pub no_text : (bytes : List ℕ) → (IsUtf8 bytes → ⊥) → is_text bytes ≡ false
no_text bytes none = first (is_utf8 bytes) (list_all is_shown_char (chars bytes)) (λ is. none (IsUtf8-from_is_utf8 bytes is))

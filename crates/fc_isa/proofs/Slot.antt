-- One slot: its eight bytes and its fields determine each other.
use Rattle.std.proofs.Common.{◌≡◌, ◌⊎◌, inl, inr, ℕ, zero, suc, ◌+◌, ◌*◌, ◌/◌, ◌%◌, ◌^◌, ◌<◌, ◌≤◌, List, [], ◌∷◌, ◌++◌, length, take, drop, get_or, refl, sym, ap, ◌∙◌, arith, lit<, Fits, w8}
use Rattle.std.specs.Int.{w16, w32, to_le_bytes, from_le_bytes}
use Rattle.std.proofs.lemmas.Bool.{cases_lt}
use Rattle.std.proofs.lemmas.List.{length-take, length-drop, length-take-le, get_or-take, get_or-drop, get_or_past, drop-drop}
use Rattle.std.proofs.lemmas.Nat.{le_bytes_2, le_bytes_4, from_le_bytes-to_le_bytes_2, from_le_bytes-to_le_bytes_4}
use Rattle.fc_isa.specs.Encoding.{Fields, bytes_of_fields, read_fields, fields_at}
use Rattle.fc_isa.proofs.Insns.{Fit}

-- each byte is below 256
pub record AreBytes (bs : List ℕ) : Type 0 where
  pub each : (i : ℕ) → get_or bs i 0 < 256

-- the elements of a slice of `u8` are bytes
pub are_bytes : (bs : List ℕ) → ((i : ℕ) → Fits w8 (get_or bs i 0)) → AreBytes bs
are_bytes bs h = record { each = λ i. let f = h i in omega arith }

byte_of_part : (bs : List ℕ) (n m i : ℕ) → AreBytes bs → (i < m) ⊎ (m ≤ i) → get_or (take m (drop n bs)) i 0 < 256
byte_of_part bs n m i b (inl h) = rw (get_or-take m (drop n bs) i 0 h, get_or-drop n bs i 0) (b.each (n + i))
byte_of_part bs n m i b (inr h) = rw (get_or_past (take m (drop n bs)) i 0 (omega (arith, length-take m (drop n bs)))) (lit< tt)

pub part_bytes : (bs : List ℕ) (n m : ℕ) → AreBytes bs → AreBytes (take m (drop n bs))
part_bytes bs n m b = record { each = λ i. byte_of_part bs n m i b (cases_lt i m) }

-- writing fields that are within their ranges, and reading the bytes, gives the same fields
pub read-bytes_of_fields : (f : Fields) → Fit f → read_fields (bytes_of_fields f) ≡ f
read-bytes_of_fields f fit =
    let d : (16 * f.src + f.dst) % 16 ≡ f.dst = omega (arith, fit.dst) in
    let s : (16 * f.src + f.dst) / 16 ≡ f.src = omega (arith, fit.dst) in
    let k : from_le_bytes w16 (to_le_bytes w16 f.offset) ≡ f.offset = from_le_bytes-to_le_bytes_2 f.offset fit.offset in
    let m : from_le_bytes w32 (to_le_bytes w32 f.imm) ≡ f.imm = from_le_bytes-to_le_bytes_4 f.imm fit.imm in
    rw (d, s, k, m) refl

imm_below : (bs : List ℕ) → AreBytes bs → (read_fields bs).imm < 2 ^ 32
imm_below bs b = let part = part_bytes bs 4 4 b in omega (arith, part.each 0, part.each 1, part.each 2, part.each 3)

offset_below : (bs : List ℕ) → AreBytes bs → (read_fields bs).offset < 2 ^ 16
offset_below bs b = let part = part_bytes bs 2 2 b in omega (arith, part.each 0, part.each 1)

-- the fields of bytes are within their ranges
pub read_fit : (bs : List ℕ) → AreBytes bs → Fit (read_fields bs)
read_fit bs b = record { dst = omega arith; offset = offset_below bs b; imm = imm_below bs b }

pub two_bytes : (a b : ℕ) → a < 256 → b < 256 → (i : ℕ) → get_or (a ∷ b ∷ []) i 0 < 256
two_bytes a b p q zero = p
two_bytes a b p q (suc zero) = q
two_bytes a b p q (suc (suc i)) = lit< tt

-- writing the fields that were read from eight bytes gives the same eight bytes
pub bytes_of_fields-read_fields : (bs : List ℕ) → length bs ≡ 8 → AreBytes bs → bytes_of_fields (read_fields bs) ≡ bs
bytes_of_fields-read_fields (a ∷ b ∷ c ∷ d ∷ e ∷ f ∷ g ∷ h ∷ []) l small =
    let regs : 16 * (b / 16) + b % 16 ≡ b = omega arith in
    let two : to_le_bytes w16 (from_le_bytes w16 (c ∷ d ∷ [])) ≡ c ∷ d ∷ [] = le_bytes_2 (c ∷ d ∷ []) _ refl (two_bytes c d (small.each 2) (small.each 3)) refl in
    let four : to_le_bytes w32 (from_le_bytes w32 (e ∷ f ∷ g ∷ h ∷ [])) ≡ e ∷ f ∷ g ∷ h ∷ [] = le_bytes_4 (e ∷ f ∷ g ∷ h ∷ []) _ refl (λ i. small.each (suc (suc (suc (suc i))))) refl in
    rw regs (ap (λ xs. a ∷ b ∷ (xs ++ to_le_bytes w32 (from_le_bytes w32 (e ∷ f ∷ g ∷ h ∷ [])))) two ∙ ap (λ xs. a ∷ b ∷ c ∷ d ∷ xs) four)
bytes_of_fields-read_fields _ l small = absurd (omega arith)

-- a slot's fields determine its bytes
pub slot_bytes : (bytes : List ℕ) (k : ℕ) → AreBytes bytes → 8 * k + 8 ≤ length bytes → bytes_of_fields (fields_at bytes k) ≡ take 8 (drop (8 * k) bytes)
slot_bytes bytes k b l =
    bytes_of_fields-read_fields (take 8 (drop (8 * k) bytes)) (length-take-le 8 (drop (8 * k) bytes) (omega (arith, length-drop (8 * k) bytes))) (part_bytes bytes (8 * k) 8 b)

pub slot_fit : (bytes : List ℕ) (k : ℕ) → AreBytes bytes → Fit (fields_at bytes k)
slot_fit bytes k b = read_fit (take 8 (drop (8 * k) bytes)) (part_bytes bytes (8 * k) 8 b)

-- slot k of the bytes has the fields f, and `tail` follows that slot
pub record IsSlot (bytes : List ℕ) (k : ℕ) (f : Fields) (tail : List ℕ) : Type 0 where
  pub whole : 8 * k + 8 ≤ length bytes
  pub fields : fields_at bytes k ≡ f
  pub after : drop (8 * suc k) bytes ≡ tail

length-bytes_of_fields : (f : Fields) (tail : List ℕ) → length (bytes_of_fields f ++ tail) ≡ 8 + length tail
length-bytes_of_fields f tail = omega arith

drop_eight : (bytes : List ℕ) (k : ℕ) → drop (8 * suc k) bytes ≡ drop 8 (drop (8 * k) bytes)
drop_eight bytes k = ap (λ m. drop m bytes) (omega arith) ∙ sym (drop-drop 8 (8 * k) bytes)

pub slot_is : (bytes : List ℕ) (k : ℕ) (f : Fields) (tail : List ℕ) → Fit f → drop (8 * k) bytes ≡ bytes_of_fields f ++ tail → IsSlot bytes k f tail
slot_is bytes k f tail fit e = record {
  whole = omega (arith, length-drop (8 * k) bytes, ap length e, length-bytes_of_fields f tail);
  fields = ap (λ bs. read_fields (take 8 bs)) e ∙ read-bytes_of_fields f fit;
  after = drop_eight bytes k ∙ ap (drop 8) e;
}

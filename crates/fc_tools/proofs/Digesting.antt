-- The bytes that a digest's command reads.
use Rattle.std.proofs.Common.{◌≡◌, ℕ, ◌<◌, ◌≤◌, List, [], ◌∷◌, ◌++◌, ◌+◌, length, take, Option, Some, None, IfSome, option_map, refl, sym, ap, subst, ◌∙◌, arith}
use Rattle.std.specs.Io.KnownBytes.{Appends}
use Rattle.std.proofs.lemmas.List.{length-take, take_all}
use Rattle.fc_tools.specs.Digests.{IsDigested, IsTooLong, digest_text, longest_image, read_of}

-- if at most 524,297 bytes of the input are read, they are those of `read_of`
pub read_whole : (limit : ℕ) (rest known : Option (List ℕ)) (old new : List ℕ) → limit ≡ 524297 → rest ≡ known → old ≡ [] → IfSome (option_map (take limit) rest) (λ xs. new ≡ old ++ xs)
    → IfSome known (λ bytes. new ≡ read_of bytes)
read_whole limit None known old new l r o h = subst (λ (x : Option (List ℕ)). IfSome x (λ bytes. new ≡ read_of bytes)) r tt
read_whole limit (Some bytes) known old new l r o h =
    subst (λ (x : Option (List ℕ)). IfSome x (λ bytes. new ≡ read_of bytes)) r
    (h ∙ ap (λ (x : List ℕ). x ++ take limit bytes) o ∙ ap (λ (n : ℕ). take n bytes) l)

-- if no more bytes were read than the longest image has, the input has no more
fits : (n : ℕ) (bytes image : List ℕ) → image ≡ read_of bytes → n ≡ length image → n ≤ longest_image → length bytes ≤ longest_image
fits n bytes image is counted few =
    let cut = ap length is ∙ length-take (longest_image + 1) bytes in
    omega (arith, cut, counted, few)

-- if more bytes were read than the longest image has, the input has more
exceeds : (n : ℕ) (bytes image : List ℕ) → image ≡ read_of bytes → n ≡ length image → longest_image < n → longest_image < length bytes
exceeds n bytes image is counted many =
    let cut = ap length is ∙ length-take (longest_image + 1) bytes in
    omega (arith, cut, counted, many)

pub too_long : (input : Option (List ℕ)) (out : Option (List ℕ)) (image : List ℕ) (n : ℕ) → IfSome input (λ bytes. image ≡ read_of bytes) → n ≡ length image → longest_image < n
    → IsTooLong input out out
too_long None out image n read counted many = record { long = tt; same = refl }
too_long (Some bytes) out image n read counted many = record { long = exceeds n bytes image read counted many; same = refl }

pub digested : (input : Option (List ℕ)) (before after : Option (List ℕ)) (image text : List ℕ) (n : ℕ) → IfSome input (λ bytes. image ≡ read_of bytes) → n ≡ length image → n ≤ longest_image
    → text ≡ digest_text image → Appends before after (text ++ 10 ∷ []) → IsDigested input before after
digested None before after image text n read counted few is appends = record {
  image = image;
  input_is = tt;
  short = omega (arith, counted, few);
  text = subst (λ (x : List ℕ). Appends before after (x ++ 10 ∷ [])) is appends;
}
digested (Some bytes) before after image text n read counted few is appends = record {
  image = image;
  input_is = sym (read ∙ take_all (longest_image + 1) bytes (let short = fits n bytes image read counted few in omega (arith, short)));
  short = omega (arith, counted, few);
  text = subst (λ (x : List ℕ). Appends before after (x ++ 10 ∷ [])) is appends;
}

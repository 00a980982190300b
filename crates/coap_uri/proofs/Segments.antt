-- Paths with one more segment, and texts that are split.
use Rattle.std.proofs.Common.{◌≡◌, ◌≢◌, ◌⊎◌, inl, inr, ℕ, List, [], ◌∷◌, ◌++◌, refl, sym, ap, ◌∙◌, length, map, take, get_or, ◌<◌, ◌+◌, suc, arith}
use Rattle.std.specs.Global.{Vec}
use Rattle.std.specs.Prelude.{◌==◌, ◌||◌, Bool, false, if◌then◌else◌}
use Rattle.std.specs.List.{list_any, slice_split}
use Rattle.std.proofs.lemmas.Bool.{cases_eq, ne_eqb}
use Rattle.std.proofs.Math.Seq.{take-suc}
use Rattle.std.proofs.lemmas.List.{append_assoc, append-nil, map_push}
use Rattle.coap_client.specs.Paths.{path_text, slash}
use Rattle.percent_encoding.specs.Percent.{percent_decode}
use Rattle.coap_uri.specs.Addresses.{decoded_pieces, has_slash, plain_pieces, segments_in, texts_in}

-- the text of a path with one more segment is the path's text, a slash, and the segment.
pub path_text_push : (segments : List (List ℕ)) (s : List ℕ) → path_text (segments ++ (s ∷ [])) ≡ path_text segments ++ (slash ∷ s)
path_text_push [] s = ap (λ text. slash ∷ text) (append-nil s)
path_text_push (first ∷ segments) s =
    ap (λ text. slash ∷ (first ++ text)) (path_text_push segments s) ∙ ap (λ text. slash ∷ text) (sym (append_assoc first (path_text segments) (slash ∷ s)))

-- the text of the first i segments, a slash and segment i are the text of the first i + 1 segments.
pub path_grown : (segments : List (Vec ℕ)) (i : ℕ) (d : Vec ℕ) (old slashed new : List ℕ) → i < length segments
    → old ≡ path_text (texts_in (take i segments)) → slashed ≡ old ++ (slash ∷ []) → new ≡ slashed ++ (get_or segments i d).items
    → new ≡ path_text (texts_in (take (i + 1) segments))
path_grown segments i d old slashed new below so_far pushed added =
    let s = (get_or segments i d).items in
    let is_next : suc i ≡ i + 1 = omega arith in
    added ∙ ap (λ text. text ++ s) (pushed ∙ ap (λ text. text ++ (slash ∷ [])) so_far)
    ∙ append_assoc (path_text (texts_in (take i segments))) (slash ∷ []) s
    ∙ sym (path_text_push (texts_in (take i segments)) s)
    ∙ ap path_text (sym (map_push (λ (text : Vec ℕ). text.items) (take i segments) (get_or segments i d)))
    ∙ ap (λ list. path_text (texts_in list)) (sym (take-suc segments i d below))
    ∙ ap (λ n. path_text (texts_in (take n segments))) is_next

-- a path that doesn't begin with a slash has no segments
pub no_segments : (path : List ℕ) → ((rest : List ℕ) → path ≢ slash ∷ rest) → segments_in path ≡ []
no_segments [] none = refl
no_segments (first ∷ path) none = by (cases_eq first slash)
  where
    by : (first ≡ slash) ⊎ (first ≡ slash → ⊥) → segments_in (first ∷ path) ≡ []
    by (inl same) = absurd (none path (ap (λ b. b ∷ path) same))
    by (inr other) = ap (λ is. if is then decoded_pieces slash path else []) (ne_eqb first slash other)

-- a text that isn't empty is split into pieces, and the escapes of each piece are decoded.
pub pieces_of : (byte : ℕ) (text : List ℕ) → false ≡ (length text == 0) → map percent_decode (slice_split (λ b. b == byte) text) ≡ decoded_pieces byte text
pieces_of byte [] filled = cc filled
pieces_of byte (first ∷ text) filled = refl

pub plain_pieces_of : (byte : ℕ) (text : List ℕ) → false ≡ (length text == 0) → slice_split (λ b. b == byte) text ≡ plain_pieces byte text
plain_pieces_of byte [] filled = cc filled
plain_pieces_of byte (first ∷ text) filled = refl

-- whether a segment contains a slash is the same for vectors of bytes and for lists of bytes.
pub none_has_slash : (segments : List (Vec ℕ)) → list_any has_slash (texts_in segments) ≡ list_any (λ (segment : Vec ℕ). has_slash segment.items) segments
none_has_slash [] = refl
none_has_slash (first ∷ segments) = ap (λ (rest : Bool). has_slash first.items || rest) (none_has_slash segments)

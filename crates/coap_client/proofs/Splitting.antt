-- A path can be split in one way only, so its segments are those that the split finds.
use Rattle.std.proofs.Common.{◌≡◌, ◌≢◌, ◌⊎◌, ◌+◌, ◌<◌, ℕ, inl, inr, List, [], ◌∷◌, ◌++◌, codes, length, length-append, refl, sym, ◌∙◌, ap, subst, arith}
use Rattle.std.proofs.lemmas.List.{append_assoc, append-nil, length-map, map_push}
use Rattle.std.specs.List.{All}
use Rattle.std.proofs.lemmas.List.Elements.{All-head, All-tail, All-nil, All-cons, All-append}
use Rattle.std.specs.Prelude.{◌==◌, false}
use Rattle.std.specs.Borrow.{Bor}
use Rattle.coap_client.specs.declared.path.PathError.{PathError}
use Rattle.coap_client.specs.declared.path.PathError.TheVariants.{NoSlash, Empty, Long, NoMemory}
use Rattle.coap_client.specs.PathErrors.{IsFirstUnfit, IsPathFault, IsUnfit, TellsNoPath}
use Rattle.coap_client.specs.Paths.{slices_in, slash, IsSegment, path_text, IsSlashed, IsNoPath, IsRest, IsFirstSegment, HasNoSlash}

abbrev pub IsUnsplit : List ℕ → Type 0
IsUnsplit s = All (λ b. b ≢ slash) s

-- a path consists of the segments `done` and of others, which the text `rest` encodes.
pub record IsAcknowledgedLeaving (whole done : List (List ℕ)) (rest : List ℕ) : Type 0 where
  pub left : List (List ℕ)
  pub whole_is : whole ≡ done ++ left
  pub rest_is : IsSlashed rest left

-- the text begins with the segments `done`, each after a slash, and `rest` follows. Each path that
-- the text encodes begins with these segments.
pub record IsCutTo (text : List ℕ) (done : List (List ℕ)) (rest : List ℕ) : Type 0 where
  pub text_is : text ≡ path_text done ++ rest
  pub are : All IsSegment done
  pub only : (whole : List (List ℕ)) → IsSlashed text whole → IsAcknowledgedLeaving whole done rest
  pub tail : (done ≡ []) ⊎ IsRest rest

pub uncut : (text : List ℕ) → IsCutTo text [] text
uncut text = record { text_is = refl; are = All-nil IsSegment; only = λ whole p. record { left = whole; whole_is = refl; rest_is = p }; tail = inl refl }

-- two splits of a text before its first slash have the same parts.
pub record AreSame (a b a' b' : List ℕ) : Type 0 where
  pub first : a' ≡ a
  pub rest : b' ≡ b

cut_once : (a b a' b' : List ℕ) → IsUnsplit a → IsUnsplit a' → IsRest b → IsRest b' → a ++ b ≡ a' ++ b' → AreSame a b a' b'
cut_once [] b [] b' u u' r r' e = record { first = refl; rest = sym e }
cut_once [] b (x ∷ a') b' u u' r r' e = absurd (All-head (λ y. y ≢ slash) x a' u' (subst IsRest e r))
cut_once (x ∷ a) b [] b' u u' r r' e = absurd (All-head (λ y. y ≢ slash) x a u (subst IsRest (sym e) r'))
cut_once (x ∷ a) b (y ∷ a') b' u u' r r' e =
    let same = cut_once a b a' b' (All-tail (λ y. y ≢ slash) x a u) (All-tail (λ y. y ≢ slash) y a' u') r r' (cc e) in
    let head : y ≡ x = cc e in
    record { first = cc (head, same.first); rest = same.rest }

path_is_rest : (segments : List (List ℕ)) → IsRest (path_text segments)
path_is_rest [] = tt
path_is_rest (s ∷ segments) = refl

-- `left` are the segments of a text after a slash: `segment`, which ends at the next slash, and
-- those that `next` encodes.
pub record IsBehind (segment next : List ℕ) (left : List (List ℕ)) : Type 0 where
  pub others : List (List ℕ)
  pub left_is : left ≡ segment ∷ others
  pub own : IsSegment segment
  pub next_is : IsSlashed next others

behind : (after segment next : List ℕ) (left : List (List ℕ)) → IsFirstSegment after segment next → IsSlashed (slash ∷ after) left → IsBehind segment next left
behind after segment next [] f p = let e : slash ∷ after ≡ [] = p.text_is in absurd (cc e)
behind after segment next (s ∷ others) f p =
    let own = All-head IsSegment s others p.are in
    let same = cut_once segment next s (path_text others) f.unsplit own.unsplit f.rest_is (path_is_rest others) (cc (f.text_is, p.text_is)) in
    record {
      others = others;
      left_is = cc same.first;
      own = subst IsSegment same.first own;
      next_is = record { text_is = sym same.rest; are = All-tail IsSegment s others p.are };
    }

text_of_one_more : (done : List (List ℕ)) (segment next : List ℕ) → path_text (done ++ segment ∷ []) ++ next ≡ path_text done ++ (slash ∷ (segment ++ next))
text_of_one_more [] segment next = cc (append_assoc segment [] next)
text_of_one_more (s ∷ done) segment next =
    cc (append_assoc s (path_text (done ++ segment ∷ [])) next, append_assoc s (path_text done) (slash ∷ (segment ++ next)), text_of_one_more done segment next)

-- if the next part is a segment, the text is split up to the end of that segment.
pub cut_more : (text : List ℕ) (done : List (List ℕ)) (rest after segment next : List ℕ) (more : List (List ℕ)) → IsCutTo text done rest → rest ≡ slash ∷ after →
    IsFirstSegment after segment next → IsSegment segment → more ≡ done ++ segment ∷ [] → IsCutTo text more next
cut_more text done rest after segment next more c e f own m = subst (λ d. IsCutTo text d next) (sym m) (record {
  text_is = c.text_is ∙ cc (text_of_one_more done segment next, f.text_is, e);
  are = All-append IsSegment done (segment ∷ []) c.are (All-cons IsSegment segment [] own (All-nil IsSegment));
  only = λ whole p.
      let l = c.only whole p in
      let b = behind after segment next l.left f (subst (λ r. IsSlashed r l.left) e l.rest_is) in
      record { left = b.others; whole_is = l.whole_is ∙ cc (b.left_is, append_assoc done (segment ∷ []) b.others); rest_is = b.next_is };
  tail = inr f.rest_is;
})

-- if the next part isn't a segment, the text isn't a path.
pub no_segment : (text : List ℕ) (done : List (List ℕ)) (rest after segment next : List ℕ) → IsCutTo text done rest → rest ≡ slash ∷ after →
    IsFirstSegment after segment next → (IsSegment segment → ⊥) → IsNoPath text
no_segment text done rest after segment next c e f none = record {
  none = λ whole p.
      let l = c.only whole p in
      none (behind after segment next l.left f (subst (λ r. IsSlashed r l.left) e l.rest_is)).own;
}

-- if the text is split and no rest is left, the text encodes these segments.
pub whole_path : (text : List ℕ) (done : List (List ℕ)) (rest : List ℕ) → IsCutTo text done rest → rest ≡ [] → IsSlashed text done
whole_path text done rest c e = record { text_is = c.text_is ∙ (ap (λ r. path_text done ++ r) e ∙ append-nil (path_text done)); are = c.are }

no_slash : (rest : List ℕ) (left : List (List ℕ)) → (rest ≡ [] → ⊥) → HasNoSlash rest → IsSlashed rest left → ⊥
no_slash rest [] some none p = some p.text_is
no_slash rest (s ∷ left) some none p = none.none (s ++ path_text left) p.text_is

-- if there is a rest and it doesn't begin with a slash, the text isn't a path.
pub no_path : (text : List ℕ) (done : List (List ℕ)) (rest : List ℕ) → IsCutTo text done rest → (rest ≡ [] → ⊥) → HasNoSlash rest → IsNoPath text
no_path text done rest c some none = record { none = λ whole p. let l = c.only whole p in no_slash rest l.left some none l.rest_is }

pub not_nil : (xs : List ℕ) → false ≡ (length xs == 0) → xs ≡ [] → ⊥
not_nil [] e n = cc e
not_nil (x ∷ xs) e n = cc n

-- if a slice is appended to a list, its contents are appended to the contents of the list.
pub pushed : (old new : List (Bor (List ℕ))) (s : Bor (List ℕ)) → new ≡ old ++ s ∷ [] → slices_in new ≡ slices_in old ++ s.now ∷ []
pushed old new s e = ap slices_in e ∙ map_push (λ x. x.now) old s

-- if a part has no bytes, or more than 255, it isn't a segment.
pub unfit : (segment : List ℕ) (number : ℕ) (e : PathError) → IsUnfit segment number e → IsSegment segment → ⊥
unfit segment number NoSlash u own = absurd u
unfit segment number (Empty n) u own = let none = ap length u.0 in omega (arith, none, own.some)
unfit segment number (Long n) u own = let long = u.0 in omega (arith, long, own.short)
unfit segment number NoMemory u own = absurd u

-- the number of the next part is one more than the number of segments so far.
pub counted : (items : List (Bor (List ℕ))) (n told : ℕ) → n ≡ length items → told ≡ n + 1 → told ≡ length (slices_in items) + 1
counted items n told is next = next ∙ ap (λ (k : ℕ). k + 1) (is ∙ sym (length-map items (λ (s : Bor (List ℕ)). s.now)))

first_unfit : (text : List ℕ) (done : List (List ℕ)) (rest after segment next : List ℕ) (number told : ℕ) (Unfit : List ℕ → Type 0) → IsCutTo text done rest → rest ≡ slash ∷ after →
    IsFirstSegment after segment next → number ≡ length done + 1 → told ≡ number → Unfit segment → IsFirstUnfit text told Unfit
first_unfit text done rest after segment next number told Unfit c e f numbered same none = record {
  before = done;
  are = c.are;
  number_is = same ∙ numbered;
  after = after;
  text_is = c.text_is ∙ ap (λ r. path_text done ++ r) e;
  segment = segment;
  rest = next;
  cut = f;
  unfit = none;
}

-- the error has the number of the first part that isn't a segment.
pub segment_fault : (text : List ℕ) (done : List (List ℕ)) (rest after segment next : List ℕ) (number : ℕ) (e : PathError) → IsCutTo text done rest → rest ≡ slash ∷ after →
    IsFirstSegment after segment next → number ≡ length done + 1 → IsUnfit segment number e → IsPathFault text e
segment_fault text done rest after segment next number NoSlash c is f numbered u = absurd u
segment_fault text done rest after segment next number (Empty told) c is f numbered u =
    first_unfit text done rest after segment next number told (λ s. s ≡ []) c is f numbered u.1 u.0
segment_fault text done rest after segment next number (Long told) c is f numbered u =
    first_unfit text done rest after segment next number told (λ s. 255 < length s) c is f numbered u.1 u.0
segment_fault text done rest after segment next number NoMemory c is f numbered u = absurd u

no_rest : (rest : List ℕ) → IsRest rest → (rest ≡ [] → ⊥) → HasNoSlash rest → ⊥
no_rest [] r some none = some refl
no_rest (b ∷ rest) r some none = none.none rest (ap (λ (x : ℕ). x ∷ rest) r)

-- if there is a rest and it doesn't begin with a slash, the whole text doesn't.
pub slash_fault : (text : List ℕ) (done : List (List ℕ)) (rest : List ℕ) → IsCutTo text done rest → (rest ≡ [] → ⊥) → HasNoSlash rest → IsPathFault text NoSlash
slash_fault text done rest c some none = elim c.tail as (λ _. IsPathFault text NoSlash) [
  | inl first ↦
      let same : text ≡ rest = c.text_is ∙ ap (λ (d : List (List ℕ)). path_text d ++ rest) first in
      (λ e. some (sym same ∙ e), subst HasNoSlash (sym same) none)
  | inr r ↦ absurd (no_rest rest r some none)
]

-- ---- paths with an empty segment

-- if a text begins with two slashes, or is one slash, no segment is before the empty one.
pub begins_empty : (tail : List ℕ) (before : List (List ℕ)) (after : List ℕ) → IsRest tail → All IsSegment before → slash ∷ tail ≡ path_text before ++ slash ∷ after → before ≡ []
begins_empty tail [] after r are e = refl
begins_empty tail ([] ∷ before) after r are e = let own = All-head IsSegment [] before are in let some : 0 < 0 = own.some in absurd (omega (arith, some))
begins_empty tail ((b ∷ s) ∷ before) after r are e =
    let own = All-head IsSegment (b ∷ s) before are in
    let tail_is : tail ≡ b ∷ (s ++ path_text before ++ slash ∷ after) = cc e in
    absurd (All-head (λ y. y ≢ slash) b s own.unsplit (subst IsRest tail_is r))

pub tells : (text : List ℕ) (e : PathError) → IsNoPath text → TellsNoPath text e
tells text NoSlash none = none
tells text (Empty n) none = none
tells text (Long n) none = none
tells text NoMemory none = tt

long_path : (s : List ℕ) (segments : List (List ℕ)) → length (path_text (s ∷ segments)) ≡ length s + length (path_text segments) + 1
long_path s segments = let all = length-append s (path_text segments) in omega (arith, all)

-- in the text `/a/`, one segment is before the empty one.
pub one_before : (before : List (List ℕ)) (after rest : List ℕ) → All IsSegment before → codes "/a/" ≡ path_text before ++ slash ∷ after → after ≡ rest → IsRest rest → length before ≡ 1
one_before [] after rest are e same r =
    let after_is : codes "a/" ≡ after = cc e in
    let bad : 97 ≡ 47 = subst IsRest (sym (after_is ∙ same)) r in
    absurd (omega (arith, bad))
one_before (s ∷ []) after rest are e same r = refl
one_before (s ∷ t ∷ before) after rest are e same r =
    let first = All-head IsSegment s (t ∷ before) are in
    let second = All-head IsSegment t before (All-tail IsSegment s (t ∷ before) are) in
    let some : 0 < length s = first.some in
    let more : 0 < length t = second.some in
    let all : 3 ≡ length (path_text (s ∷ t ∷ before)) + length (slash ∷ after) = ap length e ∙ length-append (path_text (s ∷ t ∷ before)) (slash ∷ after) in
    let longer = long_path s (t ∷ before) in
    let long = long_path t before in
    absurd (omega (arith, some, more, all, longer, long))

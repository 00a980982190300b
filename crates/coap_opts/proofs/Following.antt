-- Options written one after another.
use Rattle.std.proofs.Common.{◌≡◌, ℕ, ◌-◌, List, [], ◌∷◌, ◌++◌, refl, sym, ap, subst, ◌∙◌, append_assoc}
use Rattle.coap_msg.specs.Wire.{AreOptions, option_bytes, options_bytes}
use Rattle.coap_msg.specs.Writing.{last_number}

pub last_append : (before : ℕ) (xs ys : List (ℕ × List ℕ)) → last_number before (xs ++ ys) ≡ last_number (last_number before xs) ys
last_append before [] ys = refl
last_append before ((n, v) ∷ xs) ys = last_append n xs ys

pub options_append : (before : ℕ) (xs ys : List (ℕ × List ℕ)) → options_bytes before (xs ++ ys) ≡ options_bytes before xs ++ options_bytes (last_number before xs) ys
options_append before [] ys = refl
options_append before ((n, v) ∷ xs) ys = ap (λ bs. option_bytes (n - before) v ++ bs) (options_append n xs ys) ∙ sym (append_assoc (option_bytes (n - before) v) (options_bytes n xs) _)

are_append : (before : ℕ) (xs ys : List (ℕ × List ℕ)) → AreOptions before xs → AreOptions (last_number before xs) ys → AreOptions before (xs ++ ys)
are_append before [] ys a b = b
are_append before ((n, v) ∷ xs) ys a b = (a.0, are_append n xs ys a.1 b)

-- the bytes written so far are `start` and the options `done`, whose last number is `last`
pub record IsSoFar (start bytes : List ℕ) (last : ℕ) (done : List (ℕ × List ℕ)) : Type 0 where
  pub bytes_are : bytes ≡ start ++ options_bytes 0 done
  pub last_is : last ≡ last_number 0 done
  pub are : AreOptions 0 done

pub more_so_far : (start bytes new : List ℕ) (last next : ℕ) (done more : List (ℕ × List ℕ)) → IsSoFar start bytes last done → new ≡ bytes ++ options_bytes last more → next ≡ last_number last more → AreOptions last more →
    IsSoFar start new next (done ++ more)
more_so_far start bytes new last next done more h b l a = record {
  are = are_append 0 done more h.are (subst (λ n. AreOptions n more) h.last_is a);
  bytes_are = b ∙ (ap (λ bs. bs ++ options_bytes last more) h.bytes_are ∙ (append_assoc start (options_bytes 0 done) (options_bytes last more) ∙ ap (λ bs. start ++ bs) (ap (λ n. options_bytes 0 done ++ options_bytes n more) h.last_is ∙ sym (options_append 0 done more))));
  last_is = l ∙ (ap (λ n. last_number n more) h.last_is ∙ sym (last_append 0 done more));
}

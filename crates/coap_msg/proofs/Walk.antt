-- A walk over options finds the bytes after them.
use Rattle.std.proofs.Common.{◌≡◌, ℕ, zero, suc, ◌-◌, ◌<◌, ◌≤◌, true, false, List, [], ◌∷◌, ◌++◌, length, take, Option, Some, None, refl, sym, ◌∙◌, ap, arith, append_assoc, length-append}
use Rattle.std.proofs.Math.Seq.{take-append_seam}
use Rattle.coap_msg.specs.Wire.{options_bytes}
use Rattle.coap_msg.specs.Reading.{◌>>=◌, RawOption, option_at, Listed, with_first, options_at}
use Rattle.coap_msg.specs.Parsing.{is_end, EndsIn, AreSplit}
use Rattle.coap_msg.proofs.Steps.{AreBytes}
use Rattle.coap_msg.proofs.Spelling.{options_from, HasOptions-of}

-- the decoded options with the options `done` before them; `None` stays `None`
abbrev pub after_all : List (ℕ × List ℕ) → Option Listed → Option Listed
after_all done None = None
after_all done (Some (options, after)) = Some (done ++ options, after)

-- decoding all bytes gives the options `done`, and then those decoded from `rest`
pub record Walked (bytes : List ℕ) (number : ℕ) (rest : List ℕ) : Type 0 where
  pub done : List (ℕ × List ℕ)
  pub count : ℕ
  pub enough : length rest ≤ count
  pub same : options_at (length bytes) 0 bytes ≡ after_all done (options_at count number rest)

after_all-nil : (x : Option Listed) → x ≡ after_all [] x
after_all-nil None = refl
after_all-nil (Some x) = refl

pub walked_none : (bytes : List ℕ) → Walked bytes 0 bytes
walked_none bytes = record { done = []; count = length bytes; enough = omega arith; same = after_all-nil (options_at (length bytes) 0 bytes) }

after_all-first : (done : List (ℕ × List ℕ)) (o : RawOption) (x : Option Listed) → after_all done (with_first o x) ≡ after_all (done ++ ((o.number, o.value) ∷ [])) x
after_all-first done o None = refl
after_all-first done o (Some x) = ap (λ os. Some (os, x.1)) (sym (append_assoc done ((o.number, o.value) ∷ []) x.0))

-- if the rest doesn't end the options, its first option is decoded, and then the others
unmarked : (count number : ℕ) (rest : List ℕ) → is_end rest ≡ false →
    options_at (suc count) number rest ≡ (option_at number rest >>= λ o. with_first o (options_at count o.number o.after))
unfolding options_at
unmarked count number [] n = absurd (cc n)
unmarked count number (b ∷ rest) n = rw n refl

walked_by : (bytes : List ℕ) (number : ℕ) (rest : List ℕ) (o : RawOption) (done : List (ℕ × List ℕ)) (count : ℕ) → length rest ≤ count →
    options_at (length bytes) 0 bytes ≡ after_all done (options_at count number rest) → is_end rest ≡ false → option_at number rest ≡ Some o →
    length o.after < length rest → Walked bytes o.number o.after
walked_by bytes number rest o done zero h s n e f = absurd (omega arith)
walked_by bytes number rest o done (suc count) h s n e f = record {
  done = done ++ ((o.number, o.value) ∷ []);
  count = count;
  enough = omega arith;
  same = s ∙ (ap (after_all done) (unmarked count number rest n ∙ rw e refl) ∙ after_all-first done o (options_at count o.number o.after));
}

pub walked_more : (bytes : List ℕ) (number : ℕ) (rest : List ℕ) (o : RawOption) → Walked bytes number rest → is_end rest ≡ false →
    option_at number rest ≡ Some o → length o.after < length rest → Walked bytes o.number o.after
walked_more bytes number rest o w n e f = walked_by bytes number rest o w.done w.count w.enough w.same n e f

cut_by : (bytes : List ℕ) (number : ℕ) (rest : List ℕ) (done : List (ℕ × List ℕ)) (count : ℕ) → length rest ≤ count →
    options_at (length bytes) 0 bytes ≡ after_all done (options_at count number rest) → is_end rest ≡ false → option_at number rest ≡ None →
    options_at (length bytes) 0 bytes ≡ None
cut_by bytes number [] done zero h s n e = absurd (cc n)
cut_by bytes number (b ∷ rest) done zero h s n e = absurd (omega arith)
cut_by bytes number rest done (suc count) h s n e =
    let cut : options_at (suc count) number rest ≡ None = unmarked count number rest n ∙ rw e refl in
    s ∙ ap (after_all done) cut

-- if the rest doesn't end the options and no option can be decoded from it, decoding all bytes
-- gives `None`
pub walked_cut : (bytes : List ℕ) (number : ℕ) (rest : List ℕ) → Walked bytes number rest → is_end rest ≡ false → option_at number rest ≡ None →
    options_at (length bytes) 0 bytes ≡ None
walked_cut bytes number rest w n e = cut_by bytes number rest w.done w.count w.enough w.same n e

at_end : (count number : ℕ) (rest : List ℕ) → length rest ≤ count → is_end rest ≡ true → options_at count number rest ≡ Some ([], rest)
unfolding options_at
at_end count number [] h e = refl
at_end zero number (b ∷ rest) h e = absurd (omega arith)
at_end (suc count) number (b ∷ rest) h e = rw e refl

-- if the rest ends the options, it is the bytes after the options of all bytes
pub walked_end : (bytes : List ℕ) (number : ℕ) (rest : List ℕ) → Walked bytes number rest → is_end rest ≡ true → EndsIn bytes rest
walked_end bytes number rest w e = record { options = w.done ++ []; found = w.same ∙ ap (after_all w.done) (at_end w.count number rest w.enough e) }

-- the bytes after the options are at most as many as all bytes
pub ends_shorter : (bytes after : List ℕ) → AreBytes bytes → EndsIn bytes after → length after ≤ length bytes
ends_shorter bytes after b e =
    let l = options_from (length bytes) 0 bytes (e.options, after) b e.found in
    let own = options_bytes 0 e.options in
    let whole : bytes ≡ own ++ after = l.bytes_are in
    omega (arith, ap length whole, length-append own after)

-- if `after` are the bytes after the options, the bytes before `after` encode these options
pub ends_split : (bytes front after : List ℕ) → AreBytes bytes → EndsIn bytes after → front ≡ take (length bytes - length after) bytes → AreSplit bytes front after
ends_split bytes front after b e f =
    let l = options_from (length bytes) 0 bytes (e.options, after) b e.found in
    let own = options_bytes 0 e.options in
    let whole : bytes ≡ own ++ after = l.bytes_are in
    let count : length bytes - length after ≡ length own = omega (arith, ap length whole, length-append own after) in
    let front_is : front ≡ own = f ∙ (ap (λ n. take n bytes) count ∙ (ap (take (length own)) whole ∙ take-append_seam own after)) in
    let has = HasOptions-of 0 e.options front l.options front_is in
    record { found = e.found ∙ ap (λ os. Some (os, after)) (sym has.1); has_options = has.0 }

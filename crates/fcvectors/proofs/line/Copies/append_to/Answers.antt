use Rattle.std.proofs.Common.{◌≡◌, ◌++◌, ◌+◌, List, ℕ, zero, suc, ap, sym, ◌∙◌, add-one}
use Rattle.std.specs.List.{repeat}
use Rattle.std.proofs.lemmas.List.{append-nil, append_assoc}
use Rattle.fcvectors.specs.Lines.{copy_bytes}
use Rattle.fcvectors.proofs.line.Copies.append_to.Goals as goal

-- `n` copies and one more copy after them are `n + 1` copies.
repeat_snoc : (n : ℕ) (xs : List ℕ) → repeat n xs ++ xs ≡ repeat (suc n) xs
repeat_snoc zero xs = sym (append-nil xs)
repeat_snoc (suc n) xs = append_assoc xs (repeat n xs) xs ∙ ap (λ ys. xs ++ ys) (repeat_snoc n xs)

pub loop-preserved : goal.loop-preserved
loop-preserved c =
    let copy = copy_bytes c.args.self.now in
    c.in_ok-append_one.ensures ∙ (ap (λ ys. ys ++ copy) c.loop.invariant ∙ (append_assoc c.args.bytes.now.items (repeat c.loop.counter copy) copy
    ∙ ap (λ ys. c.args.bytes.now.items ++ ys) (repeat_snoc c.loop.counter copy ∙ ap (λ n. repeat n copy) (sym (add-one c.loop.counter)))))

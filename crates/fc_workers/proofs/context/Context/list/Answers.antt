use Rattle.std.proofs.Common.{◌≡◌, ◌∙◌, ◌++◌, ◌+◌, ◌<◌, ℕ, List, [], ◌∷◌, Result, Ok, Err, ap, append_assoc, arith, length, length-append, subst}
use Rattle.std.specs.Prelude.{OnErr, OnOk}
use Rattle.fc_calls.specs.Logged.{LooksAt}
use Rattle.fc_workers.proofs.Steps.{more_seen}
use Rattle.fc_workers.proofs.context.Context.list.Goals as goal

-- if fewer than 64 words were stored, the push of a word succeeded, so the new list ends with that
-- word.
pushed : {E : Type 0} (new old : List ℕ) (word : ℕ) (r : Result (Unit {0}) E) → OnOk r (new ≡ old ++ word ∷ []) → OnErr r (length old ≡ 64) → length old < 64
    → new ≡ old ++ word ∷ []
pushed new old word (Ok x) ok err less = ok
pushed new old word (Err e) ok err less = absurd (omega (arith, err, less))

pub slots-preserved : goal.slots-preserved
slots-preserved g c =
    let seen = c.args.words.now.items in
    let more = c.slots.invariant.1.0 in
    let word = c.peek-word.result in
    let less : length c.slots.words.items < 64 = omega arith in
    let new : c.try_push-fits.new.self.items ≡ c.slots.words.items ++ word ∷ [] = pushed c.try_push-fits.new.self.items c.slots.words.items word
    c.try_push-fits.result c.try_push-fits.ensures.ok c.try_push-fits.ensures.full less in
    let at : c.new-slot.result ≡ length seen + length more = c.new-slot.ensures ∙
    (c.len-in-slots.ensures.value ∙ (ap length c.slots.invariant.1.1 ∙ length-append seen more)) in
    let looks = subst (λ (k : ℕ). g.B.Bench.logged (LooksAt k word) c.slots.log c.peek-word.new.log) at c.peek-word.ensures.logged in
    let are = new ∙ (ap (λ (ws : List ℕ). ws ++ word ∷ []) c.slots.invariant.1.1 ∙ append_assoc seen more (word ∷ [])) in
    let one = length-append c.slots.words.items (word ∷ []) in
    let long = ap length new in (
      omega (arith, one, long, less),
      (more ++ word ∷ [], are, more_seen g.B.Bench.logged (length seen) word more c.args.log.now c.slots.log c.peek-word.new.log c.slots.invariant.1.2 looks),
    )

use Rattle.std.proofs.Common.{◌++◌, ℕ, List, Bor, length, map, filter, lit<, ◌∙◌, arith}
use Rattle.std.specs.Prelude.{nat_lt}
use Rattle.std.proofs.lemmas.Bool.Decides.{nat_tests}
use Rattle.std.proofs.lemmas.Iterator.Splits.{YieldsList-from_str_split}
use Rattle.std.proofs.lemmas.Iterator.Consumers.{YieldsList-at, YieldsList-turn, YieldsList-end}
use Rattle.fc_asm.proofs.Words.{pushed, passed, all_taken}
use Rattle.fc_asm.proofs.line.push_words.Goals as goal

pub loop-word-preserved-in-Continue-1 : goal.loop-word-preserved-in-Continue-1
loop-word-preserved-in-Continue-1 c =
    let road = YieldsList-at c.into_iter-word-iterator.ensures.into_iter_gives (YieldsList-from_str_split 44 c.args.part.now (lit< tt) c.split-word-items.ensures.text c.split-word-items.ensures.has_more c.split-word-items.ensures.pattern) in
    let turn = YieldsList-turn road c.loop-word.yielded _ c.loop-word.yielded_by _ _ c.in-Some.word c.in-Some.is c.next.ensures.steps in
    pushed c.args.words.now.items c.loop-word.words.items _ c.loop-word.yielded _ c.in-Some.word turn c.loop-word.invariant c.in_ok-push.ensures.items (grind (arith, nat_tests))

pub loop-word-preserved : goal.loop-word-preserved
loop-word-preserved c =
    let road = YieldsList-at c.into_iter-word-iterator.ensures.into_iter_gives (YieldsList-from_str_split 44 c.args.part.now (lit< tt) c.split-word-items.ensures.text c.split-word-items.ensures.has_more c.split-word-items.ensures.pattern) in
    let turn = YieldsList-turn road c.loop-word.yielded _ c.loop-word.yielded_by _ _ c.in-Some.word c.in-Some.is c.next.ensures.steps in
    passed c.args.words.now.items c.loop-word.words.items c.loop-word.yielded _ c.in-Some.word turn c.loop-word.invariant (grind (arith, nat_tests))

pub returns : goal.returns
returns c =
    let road = YieldsList-at c.into_iter-word-iterator.ensures.into_iter_gives (YieldsList-from_str_split 44 c.args.part.now (lit< tt) c.split-word-items.ensures.text c.split-word-items.ensures.has_more c.split-word-items.ensures.pattern) in
    let end = YieldsList-end road c.loop-word.yielded _ c.loop-word.yielded_by _ _ c.in-None.is c.next.ensures.steps in
    c.loop-word.invariant ∙ all_taken (λ ws. map (λ (word : Bor (List ℕ)). word.now) c.args.words.now.items ++ filter (λ word. nat_lt 0 (length word)) ws) _ _ end.1

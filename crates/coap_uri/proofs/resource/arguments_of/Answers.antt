use Rattle.std.proofs.Common.{◌≡◌, ℕ, length, nat_lt, true, subst, arith}
use Rattle.std.proofs.lemmas.Bool.{lt-ltb}
use Rattle.std.proofs.lemmas.List.Folds.{list_any_at}
use Rattle.std.specs.Global.{Vec}
use Rattle.coap_uri.proofs.resource.arguments_of.Goals as goal

pub returns-then-len-gt-ARGUMENT-clause-long : goal.returns-then-len-gt-ARGUMENT-clause-long
returns-then-len-gt-ARGUMENT-clause-long c =
    let argument = c.argument-item.result in
    let count = c.len.ensures in
    let same = argument.ok.0 in
    let long = c.if-len-gt-ARGUMENT.true in
    list_any_at (λ (a : Vec ℕ). nat_lt 255 (length a.items)) c.args.query.now c.loop-argument.argument-index argument c.loop-argument-test.true
    (subst (λ (a : Vec ℕ). nat_lt 255 (length a.items) ≡ true) c.argument-item.is (lt-ltb 255 (length argument.items) (omega (arith, count, same, long))))

use Rattle.std.proofs.Common.{ap, ◌∙◌, arith}
use Rattle.fc_tools.specs.Digests.{digest_text}
use Rattle.fc_tools.proofs.Digesting.{digested, too_long}
use Rattle.fc_tools.proofs.digest.write_digest.Goals as goal

pub returns-then-len-gt-LONGEST_IMAGE-clause-fault : goal.returns-then-len-gt-LONGEST_IMAGE-clause-fault
returns-then-len-gt-LONGEST_IMAGE-clause-fault g c =
    too_long (g.R.Read.remaining c.args.input.now) (g.W.Write.contents c.args.out.now) c.in-Ok.image.items c.len.result c.in-Ok.ensures (c.len.ensures ∙ c.in-Ok.image.ok.0) c.if-len-gt-LONGEST_IMAGE.true

pub returns-in-Ok-write_line-clause-written : goal.returns-in-Ok-write_line-clause-written
returns-in-Ok-write_line-clause-written g c =
    digested (g.R.Read.remaining c.args.input.now) (g.W.Write.contents c.args.out.now) (g.W.Write.contents c.write_line.new.out) c.in-Ok.image.items c.deref-2.result.now c.len.result c.in-Ok.ensures
    (c.len.ensures ∙ c.in-Ok.image.ok.0) (let few = c.if-len-gt-LONGEST_IMAGE.false in omega (arith, few)) (c.deref-2.ensures ∙ c.in_ok-text.ensures ∙ ap digest_text c.deref.ensures.value) c.in-Ok-write_line.ensures

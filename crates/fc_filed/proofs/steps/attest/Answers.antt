use Rattle.std.proofs.Common.{ℕ, refl, subst, arith}
use Rattle.atomic_table.specs.Table.{keeps}
use Rattle.fc_server.specs.States.{ServerState}
use Rattle.fc_filed.specs.Books.{HasServerHistory}
use Rattle.fc_filed.proofs.Rule.{held_reads, seen_by}
use Rattle.fc_filed.proofs.steps.attest.Goals as goal

pub load-requires : goal.load-requires
load-requires g c =
    let v = c.args.seat.now.me.0 in
    let key = c.args.words.now.shared.key in (
      c.requires.table,
      (let s = c.requires.size in omega arith),
      λ s h n at fits. (
        v,
        keeps,
        tt,
        held_reads key s.words s.views _ v h at 0,
        (
          refl,
          subst (λ (b : ServerState). HasServerHistory g.J.ServerName.first_job b v) c.requires.key.1
              (subst (λ (k : ℕ). HasServerHistory k key.first v) c.requires.key.0 (seen_by key s.words s.views _ v h at)),
        ),
      ),
    )

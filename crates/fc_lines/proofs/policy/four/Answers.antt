use Rattle.std.proofs.Common.{[], ◌∷◌}
use Rattle.fc_lines.proofs.Networks.{none_first, none_later}
use Rattle.fc_lines.proofs.policy.four.Goals as goal

pub returns-in_err-network : goal.returns-in_err-network
returns-in_err-network c =
    rw c.from_residual.ensures (none_first c.args.a.now (c.args.b.now ∷ c.args.c.now ∷ c.args.d.now ∷ []) c.in_err-network.ensures)

pub returns-in_err-network-2 : goal.returns-in_err-network-2
returns-in_err-network-2 c =
    rw c.from_residual-in_err-network-2.ensures (none_later c.args.a.now (c.args.b.now ∷ c.args.c.now ∷ c.args.d.now ∷ [])
    (none_first c.args.b.now (c.args.c.now ∷ c.args.d.now ∷ []) c.in_err-network-2.ensures))

pub returns-in_err-network-3 : goal.returns-in_err-network-3
returns-in_err-network-3 c =
    rw c.from_residual-in_err-network-3.ensures (none_later c.args.a.now (c.args.b.now ∷ c.args.c.now ∷ c.args.d.now ∷ [])
    (none_later c.args.b.now (c.args.c.now ∷ c.args.d.now ∷ []) (none_first c.args.c.now (c.args.d.now ∷ []) c.in_err-network-3.ensures)))

pub returns-in_err-network-4 : goal.returns-in_err-network-4
returns-in_err-network-4 c =
    rw c.from_residual-in_err-network-4.ensures (none_later c.args.a.now (c.args.b.now ∷ c.args.c.now ∷ c.args.d.now ∷ [])
    (none_later c.args.b.now (c.args.c.now ∷ c.args.d.now ∷ []) (none_later c.args.c.now (c.args.d.now ∷ []) (none_first c.args.d.now [] c.in_err-network-4.ensures))))

use Rattle.std.proofs.Common.{Some, ap, inl, subst, sym}
use Rattle.fc_fetch.specs.Asking.{IsAskedBy, IsAskedFrom}
use Rattle.fc_fetch.proofs.asking.ask_by.Goals as goal

pub returns-in-None-clause-asked : goal.returns-in-None-clause-asked
returns-in-None-clause-asked g c =
    subst (λ body. IsAskedFrom body (λ known. IsAskedBy g.C.Connector.connected g.C.Connector.drawn g.C.Server.Peer.went g.C.Server.Peer.came g.C.Server.Peer.is_error g.C.Server.Peer.called
    c.args.asking.now known (g.W.Write.contents c.args.console.now.out) (g.W.Write.contents c.answer_to.new.console.out) c.answer_to.result) (g.I.Read.remaining c.args.input.now) c.answer_to.result)
    (sym c.in-None.is)
    (subst (λ known. IsAskedBy g.C.Connector.connected g.C.Connector.drawn g.C.Server.Peer.went g.C.Server.Peer.came g.C.Server.Peer.is_error g.C.Server.Peer.called c.args.asking.now known (g.W.Write.contents c.args.console.now.out) (g.W.Write.contents c.answer_to.new.console.out) c.answer_to.result) (ap Some c.as_slice.ensures) c.answer_to.ensures)

pub returns-in-Text-clause-asked : goal.returns-in-Text-clause-asked
returns-in-Text-clause-asked g c =
    subst (λ body. IsAskedFrom body (λ known. IsAskedBy g.C.Connector.connected g.C.Connector.drawn g.C.Server.Peer.went g.C.Server.Peer.came g.C.Server.Peer.is_error g.C.Server.Peer.called
    c.args.asking.now known (g.W.Write.contents c.args.console.now.out) (g.W.Write.contents c.answer_to-in-Text.new.console.out) c.answer_to-in-Text.result) (g.I.Read.remaining c.args.input.now)
    c.answer_to-in-Text.result) (sym c.in-Text.is)
    (subst (λ known. IsAskedBy g.C.Connector.connected g.C.Connector.drawn g.C.Server.Peer.went g.C.Server.Peer.came g.C.Server.Peer.is_error g.C.Server.Peer.called c.args.asking.now known (g.W.Write.contents c.args.console.now.out) (g.W.Write.contents c.answer_to-in-Text.new.console.out) c.answer_to-in-Text.result) (ap Some c.as_bytes.ensures.value) c.answer_to-in-Text.ensures)

pub returns-in-Ok-clause-asked : goal.returns-in-Ok-clause-asked
returns-in-Ok-clause-asked g c =
    subst (λ body. IsAskedFrom body (λ known. IsAskedBy g.C.Connector.connected g.C.Connector.drawn g.C.Server.Peer.went g.C.Server.Peer.came g.C.Server.Peer.is_error g.C.Server.Peer.called
    c.args.asking.now known (g.W.Write.contents c.args.console.now.out) (g.W.Write.contents c.answer_to-in-Ok.new.console.out) c.answer_to-in-Ok.result) (g.I.Read.remaining c.args.input.now)
    c.answer_to-in-Ok.result) (sym c.in-File.is) (inl (_, c.answer_to-in-Ok.ensures))

use Rattle.std.proofs.Common.{Bool, subst, sym}
use Rattle.std.specs.Option.{option_to_list}
use Rattle.fc_front.specs.Receiving.{emission_if}
use Rattle.fc_receive.proofs.Traffic.{none_sent}
use Rattle.fc_receive.specs.Traffic.{Sends}
use Rattle.fc_receive.proofs.rounds.send_if.Goals as goal

pub returns-then-sent : goal.returns-then-sent
returns-then-sent g c = subst (λ (b : Bool). Sends g.K.Sink.went (option_to_list (emission_if b c.args.emission.now)) c.args.replied.now c.send.new.replied) (sym c.if-sent.true) c.send.ensures

pub returns-else-sent : goal.returns-else-sent
returns-else-sent g c = subst (λ (b : Bool). Sends g.K.Sink.went (option_to_list (emission_if b c.args.emission.now)) c.args.replied.now c.args.replied.now) (sym c.if-sent.false) (none_sent g.K.Sink.went c.args.replied.now)

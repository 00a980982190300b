use Rattle.std.proofs.Common.{◌≡◌, ◌∙◌, Bool, true, false, Some, None, ap, refl, sym}
use Rattle.fc_front.specs.Receiving.{emission_if}
use Rattle.fc_server.specs.Ingresses.{is_reply}
use Rattle.fc_receive.proofs.Traffic.{none_sent}
use Rattle.fc_receive.proofs.rounds.handle.Goals as goal

pub returns-then-is_reply : goal.returns-then-is_reply
returns-then-is_reply g c =
    let reply = c.handle-handled.new.reply in
    let is : is_reply c.handle-handled.result ≡ true = sym c.is_reply.ensures ∙ c.if-is_reply.true in (
      Some reply,
      record { borrow = c.args.bytes; bytes_are = refl; handled = c.handle-handled.result; reply = reply; handles = c.handle-handled.ensures; sent_is = sym (ap (λ (b : Bool). emission_if b reply) is) },
      c.send.ensures,
    )

pub returns-else-is_reply : goal.returns-else-is_reply
returns-else-is_reply g c =
    let reply = c.handle-handled.new.reply in
    let is : is_reply c.handle-handled.result ≡ false = sym c.is_reply.ensures ∙ c.if-is_reply.false in (
      None,
      record { borrow = c.args.bytes; bytes_are = refl; handled = c.handle-handled.result; reply = reply; handles = c.handle-handled.ensures; sent_is = sym (ap (λ (b : Bool). emission_if b reply) is) },
      none_sent g.K.Sink.went c.args.replied.now,
    )

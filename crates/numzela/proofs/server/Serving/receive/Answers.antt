use Rattle.std.proofs.Common.{◌≡◌, ℕ, Bool, List, subst}
use Rattle.std.specs.Borrow.{Bor}
use Rattle.coap_msg.specs.declared.types.Emission.{Emission}
use Rattle.coap_msg.specs.declared.types.Endpoint.{Endpoint}
use Rattle.fc_front.specs.Exchanges.{advanced}
use Rattle.fc_front.specs.Receiving.{delivered, emission_if}
use Rattle.fc_front.specs.declared.front.Handled.{Handled}
use Rattle.fc_server.specs.SingleThread.{HandlesAlone}
use Rattle.fc_server.specs.Ingresses.{is_reply}
use Rattle.fc_server.specs.Serving.{Handles}
use Rattle.fc_server.specs.States.{ServerState}
use Rattle.fc_server.specs.declared.alone.SingleThread.{SingleThread}
use Rattle.fc_server.specs.declared.alone.Handed.{Handed}
use Rattle.numzela.specs.Servers.{Writes}
use Rattle.numzela.proofs.server.Serving.receive.Goals as goal

-- a server that got readings handles a datagram as its engine does with these readings
handles_with : (now random : ℕ) (readings : List ℕ) (to : Endpoint) (bytes : Bor (List ℕ)) (old mid new : SingleThread) (handled : Handled) (reply : Emission)
    → mid.engine ≡ old.engine → mid.handed ≡ record { readings = readings; random = random } → HandlesAlone now to bytes mid new handled reply
    → Handles readings now to bytes (delivered (advanced old.engine.front now) to bytes.now) old.engine new.engine (emission_if (is_reply handled) reply)
handles_with now random readings to bytes old mid new handled reply same handed handles =
    subst (λ (s : ServerState). Handles readings now to bytes (delivered (advanced s.front now) to bytes.now) s new.engine (emission_if (is_reply handled) reply)) same
    (subst (λ (h : Handed). Handles h.readings now to bytes (delivered (advanced mid.engine.front now) to bytes.now) mid.engine new.engine (emission_if (is_reply handled) reply))
    handed handles.0)

pub returns-clause-received : goal.returns-clause-received
returns-clause-received c = record {
  sent = emission_if (is_reply c.handle-handled.result) c.handle-handled.new.reply;
  handles = handles_with c.args.now 0 c.args.readings.now (record { ip = c.args.from.now.address; port = c.args.from.now.port }) c.args.bytes
      c.args.self.now.alone c.set_handed.new.self c.handle-handled.new.self c.handle-handled.result c.handle-handled.new.reply
      c.set_handed.ensures.engine c.set_handed.ensures.handed c.handle-handled.ensures;
  writes = subst (λ (b : Bool). Writes c.write_if.result (emission_if b c.handle-handled.new.reply) c.write_if.new.out) c.is_reply.ensures c.write_if.ensures.writes;
}

-- Responses and emissions, as the arguments and results of calls.
use Rattle.std.specs.Prelude.{◌≡◌, None, ℕ}
use Rattle.coap_opts.specs.declared.reply.ReplyOptions.{ReplyOptions}
use Rattle.arrayvec.specs.ArrayVec.{ArrayVec}
use Rattle.coap_msg.specs.declared.types.Emission.{Emission}
use Rattle.coap_reply.specs.Responses.{Envelope}

-- the options name no block.
pub record HasNoBlock (options : ReplyOptions) : Type 0 where
  pub block2 : options.block2 ≡ None
  pub block1 : options.block1 ≡ None

-- a datagram to the endpoint of an envelope.
abbrev pub to_peer : Envelope → ArrayVec ℕ → Emission
to_peer e bytes = record { to = e.to; bytes = bytes }

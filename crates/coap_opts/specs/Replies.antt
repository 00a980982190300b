-- A response as a message.
use Rattle.std.specs.Prelude.{ℕ, List, ◌++◌}
use Rattle.std.specs.Int.{w64, to_be_bytes}
use Rattle.std.specs.Option.{option_map}
use Rattle.coap_msg.specs.Wire.{Message}
use Rattle.coap_msg.specs.Writing.{optional}
use Rattle.coap_opts.specs.declared.number.TheConstants as option
use Rattle.coap_opts.specs.declared.reply.ReplyOptions.{ReplyOptions}
use Rattle.coap_opts.specs.declared.reply.Reply.{Reply}
use Rattle.coap_opts.specs.Values.{block_bytes, uint_bytes}

-- the options of a response in the order of their numbers, each present if it has a value.
abbrev pub reply_options : ReplyOptions → List (ℕ × List ℕ)
reply_options r =
    (((optional option.ETAG (option_map (to_be_bytes w64) r.etag)
    ++ optional option.OBSERVE (option_map uint_bytes r.observe))
    ++ optional option.CONTENT_FORMAT (option_map uint_bytes r.content_format))
    ++ optional option.BLOCK2 (option_map block_bytes r.block2))
    ++ optional option.BLOCK1 (option_map block_bytes r.block1)

-- a response as a message.
abbrev pub reply_message : Reply → Message
reply_message r = record { kind = r.kind; code = r.code.byte; id = r.id; token = r.token.now; options = reply_options r.options; payload = r.payload.now }

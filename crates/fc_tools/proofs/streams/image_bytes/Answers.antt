use Rattle.std.proofs.Common.{ap}
use Rattle.fc_tools.proofs.Digesting.{read_whole}
use Rattle.fc_tools.proofs.streams.image_bytes.Goals as goal

pub returns : goal.returns
returns g c =
    read_whole c.take-input.result.limit _ (g.R.Read.remaining c.args.input.now) c.new-image.result.items c.read_to_end.new.buf.items c.take-input.ensures.limit (ap (λ r. g.R.Read.remaining r.now) (c.take-input.ensures.inner)) c.new-image.ensures.items
    c.in_ok-read_to_end.ensures.bytes

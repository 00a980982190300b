-- Gauges of a front: how much it holds at a time, with its limits.
use Rattle.std.specs.Prelude.{ℕ, length, max}
use Rattle.coap_block.specs.Uploads.{live}
use Rattle.coap_dedup.specs.Exchanges.{places_of}
use Rattle.fc_front.specs.Exchanges.{FrontState, advanced}
use Rattle.fc_front.specs.declared.gauges.FrontGauges.{FrontGauges}

-- the exchanges within their lifetime at a time, and the transfers in progress then, each with the
-- limit. An earlier time counts as the front's own.
abbrev pub gauges_at : ℕ → FrontState → FrontGauges
gauges_at now f = record {
  exchanges = length (advanced f now).held;
  most_exchanges = places_of f.limits;
  transfers = length (live (max f.now now) f.transfers);
  most_transfers = 16;
}

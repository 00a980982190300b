-- The added payloads, and the transfers after them (RFC 7959, section 2.5).
use Rattle.std.specs.Prelude.{ℕ, List, [], ◌∷◌, Option}
use Rattle.coap_msg.specs.declared.types.Endpoint.{Endpoint}
use Rattle.coap_block.specs.declared.transfer.Transfer.{Transfer}
use Rattle.coap_opts.specs.Values.{Place}
use Rattle.coap_block.specs.Uploads.{after_add}

-- an addition: a payload with its time, its endpoint and slot, and its block, if it has one.
pub record Addition : Type 0 where
  pub at : ℕ
  pub endpoint : Endpoint
  pub slot : ℕ
  pub block : Option Place
  pub payload : List ℕ

abbrev pub after_addition : Addition → List Transfer → List Transfer
after_addition a held = after_add held a.at a.endpoint a.slot a.block a.payload

-- the transfers after these additions, the latest first.
abbrev pub transfers : List Addition → List Transfer
transfers [] = []
transfers (a ∷ h) = after_addition a (transfers h)

-- Predicates for the laws about the checks of a request.
use Rattle.std.specs.Prelude.{◌≡◌, ◌≢◌, ◌⊎◌, ℕ, ◌<◌, ◌≤◌, false, length, IfSome, None, Option, Some}
use Rattle.coap_msg.specs.Wire.{Message}
use Rattle.coap_msg.specs.declared.types.MessageType.TheVariants.{Confirmable, NonConfirmable}
use Rattle.coap_opts.specs.declared.served.Row.{Row}
use Rattle.coap_opts.specs.Recognition.{has_unknown_critical}
use Rattle.coap_opts.specs.Values.{Place}
use Rattle.coap_opts.specs.Verdict.{block_in, query, values}
use Rattle.std.specs.Prelude.{[]}

-- the row allows an option with a value of `count` bytes in a message with this code: the length is
-- legal, the code is that of the row's only method, if it has one, and unless the option is
-- repeatable, the option before has another number (RFC 7252, sections 5.4.3 and 5.4.5).
pub record IsAllowed (r : Row) (code : ℕ) (before : Option ℕ) (count : ℕ) : Type 0 where
  pub least : r.least ≤ count
  pub greatest : count ≤ r.greatest
  pub method : IfSome r.only (λ method. code ≡ method.byte)
  pub first : r.repeatable ≡ false → before ≢ Some r.number

-- a message is a request: it is confirmable or non-confirmable, and its code has class 0 and isn't
-- 0.00 (RFC 7252, section 4.1).
pub record IsRequest (m : Message) : Type 0 where
  pub kind : (m.kind ≡ Confirmable) ⊎ (m.kind ≡ NonConfirmable)
  pub some : 0 < m.code
  pub class : m.code < 32

-- the message has a Proxy-Uri or a Proxy-Scheme.
abbrev pub NamesProxy : Message → Type 0
NamesProxy m = (values 35 m ≢ []) ⊎ (values 39 m ≢ [])

-- the message passes the checks of its options: it names no proxy, and each critical option is
-- recognised.
pub record PassesOptions (m : Message) : Type 0 where
  pub no_proxy : NamesProxy m → ⊥
  pub known : has_unknown_critical m.code None m.options ≡ false

-- Block1 or Block2 has the reserved size, 7, or the query is longer than 64 bytes.
abbrev pub HasBadValue : Message → Type 0
HasBadValue m = ((b : Place) × (block_in 27 m ≡ Some b) × (b.szx ≡ 7)) ⊎ (((b : Place) × (block_in 23 m ≡ Some b) × (b.szx ≡ 7)) ⊎ (64 < length (query m)))

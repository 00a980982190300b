-- The keys by which exchanges are found, and their order.
use Rattle.std.specs.Prelude.{◌≡◌, ℕ, ◌<◌, ◌+◌, ◌*◌, ◌/◌, ◌%◌, ◌==◌, Bool, List, [], ◌∷◌}
use Rattle.std.specs.Int.{from_be_bytes, w32}
use Rattle.std.specs.declared.cmp.Ordering.{Ordering}
use Rattle.std.specs.Ordering.{nat_cmp, on}
use Rattle.coap_msg.specs.declared.types.Endpoint.{Endpoint}
use Rattle.coap_dedup.specs.declared.key.Key.{Key}

-- an address as a number of 32 bits.
abbrev pub address_number : List ℕ → ℕ
address_number ip = from_be_bytes w32 ip

-- the address has four bytes.
pub record AreBytes (ip : List ℕ) : Type 0 where
  pub a : ℕ
  pub b : ℕ
  pub c : ℕ
  pub d : ℕ
  pub ip_is : ip ≡ a ∷ b ∷ c ∷ d ∷ []
  pub fit : (a < 256) × (b < 256) × (c < 256) × (d < 256)

-- the endpoint and the message ID fit their types: four bytes, and two numbers of 16 bits.
pub record IsPeer (to : Endpoint) (id : ℕ) : Type 0 where
  pub bytes : AreBytes to.ip
  pub port_fits : to.port < 65536
  pub id_fits : id < 65536

-- the key of a request: the address in the high 32 bits, then 16 bits of the port, then 16 bits of
-- the message ID.
abbrev pub key_of : Endpoint → ℕ → Key
key_of to id = record { number = address_number to.ip * 4294967296 + to.port * 65536 + id }

-- the four bytes of an address, from its number; the inverse of `address_number`.
abbrev pub address_bytes : ℕ → List ℕ
address_bytes n = (n / 16777216) ∷ (n / 65536 % 256) ∷ (n / 256 % 256) ∷ (n % 256) ∷ []

abbrev pub endpoint_of : Key → Endpoint
endpoint_of k = record { ip = address_bytes (k.number / 4294967296); port = k.number / 65536 % 65536 }

abbrev pub id_of : Key → ℕ
id_of k = k.number % 65536

-- the least key that a request of an address can have.
abbrev pub first_key : List ℕ → Key
first_key ip = record { number = address_number ip * 4294967296 }

-- the key is that of a request from this address.
abbrev pub is_key_at : List ℕ → Key → Bool
is_key_at ip k = k.number / 4294967296 == address_number ip

-- keys are ordered by address, then by port, then by message ID.
abbrev pub key_cmp : Key → Key → Ordering
key_cmp = on (λ k. k.number) nat_cmp

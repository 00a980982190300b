-- The initial state of a server, from the configuration that C passes.
use Rattle.std.specs.Prelude.{ℕ, ◌&&◌, Bool, true, List, [], ◌∷◌, nat_le, if◌then◌else◌, ◌==◌}
use Rattle.fc_front.specs.declared.policy.Network.{Network}
use Rattle.fc_front.specs.Policies.{any_address}
use Rattle.fc_server.specs.declared.server.Begin.{Begin}
use Rattle.numzela.specs.declared.config.Config.{Config}
use Rattle.numzela.specs.declared.config.Subnet.{Subnet}

-- a prefix has at most 32 bits.
abbrev pub is_prefix : Subnet → Bool
is_prefix s = nat_le s.prefix 32

-- each prefix has at most 32 bits.
abbrev pub are_prefixes : List Subnet → Bool
are_prefixes [] = true
are_prefixes (s ∷ []) = is_prefix s
are_prefixes (s ∷ ss) = is_prefix s && are_prefixes ss

-- each field is in its range.
abbrev pub is_valid : Config → Bool
is_valid c =
    nat_le c.manager_count 4 && nat_le c.exchanges 65536 && nat_le c.confirm_after 86400000 && nat_le c.first_serial 9223372036854775807
    && are_prefixes c.managers

-- the value, or the default if the value is 0.
abbrev pub or_default : ℕ → ℕ → ℕ
or_default value default = if value == 0 then default else value

-- the network of a subnet.
abbrev pub network_for : Subnet → Network
network_for s = record { ip = s.address; bits = s.prefix }

-- the four networks of managers. If no manager is given, any address may change programs. Otherwise
-- the last manager that is given is repeated until there are four.
abbrev pub four_of : ℕ → Network → Network → Network → Network → List Network
four_of count a b c d =
    if count == 0 then any_address ∷ any_address ∷ any_address ∷ any_address ∷ []
    else (if count == 1 then a ∷ a ∷ a ∷ a ∷ []
    else (if count == 2 then a ∷ b ∷ b ∷ b ∷ []
    else (if count == 3 then a ∷ b ∷ c ∷ c ∷ [] else a ∷ b ∷ c ∷ d ∷ [])))

-- the networks of the managers, by their count.
abbrev pub managers_for : ℕ → List Subnet → List Network
managers_for count (a ∷ b ∷ c ∷ d ∷ []) = four_of count (network_for a) (network_for b) (network_for c) (network_for d)
managers_for count other = []

-- the initial state of a server: the configuration's serial, message ID and policy, with defaults.
abbrev pub begin_for : Config → Begin
begin_for c = record {
  serial = c.first_serial;
  id = c.first_id;
  policy = record {
    managers = managers_for c.manager_count c.managers;
    limits = record { exchanges = or_default c.exchanges 1024; share = or_default c.share 65536 };
    confirm_after = or_default c.confirm_after 86400000;
  };
}

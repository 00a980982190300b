-- The policy of a server: allow list, table limits, and confirmable notifications.
use Rattle.std.specs.Prelude.{ℕ, ◌-◌, ◌/◌, ◌^◌, ◌==◌, ◌||◌, not, Bool, true, false, List, [], ◌∷◌}
use Rattle.std.specs.List.{list_any}
use Rattle.coap_msg.specs.declared.types.Endpoint.{Endpoint}
use Rattle.coap_opts.specs.declared.request.Action.{Action}
use Rattle.coap_opts.specs.declared.request.Action.TheVariants as actions
use Rattle.coap_dedup.specs.Keys.{address_number}
use Rattle.fc_front.specs.declared.policy.Network.{Network}
use Rattle.fc_front.specs.declared.policy.Policy.{Policy}

-- whether the address begins with the network's bits.
abbrev pub is_in : List ℕ → Network → Bool
is_in ip n = address_number ip / 2 ^ (32 - n.bits) == address_number n.ip / 2 ^ (32 - n.bits)

-- whether an endpoint's address is in one of these networks.
abbrev pub is_manager : List Network → Endpoint → Bool
is_manager managers to = list_any (is_in to.ip) managers

-- whether the action changes slot N's program: a PUT or a DELETE on /p/N.
abbrev pub changes_program : Action → Bool
changes_program (actions.Install n) = true
changes_program (actions.Remove n) = true
changes_program other = false

-- whether an endpoint is allowed an action: managers are allowed each action, other endpoints only
-- actions that change no program.
abbrev pub is_allowed : List Network → Endpoint → Action → Bool
is_allowed managers to action = not (changes_program action) || is_manager managers to

-- the network of all addresses.
abbrev pub any_address : Network
any_address = record { ip = 0 ∷ 0 ∷ 0 ∷ 0 ∷ []; bits = 0 }

-- the default policy. Each address is a manager's. Up to 1,024 exchanges are stored, and all of
-- them may belong to one address. A notification is confirmable after 24 hours, in ms.
abbrev pub default_policy : Policy
default_policy = record {
  managers = any_address ∷ any_address ∷ any_address ∷ any_address ∷ [];
  limits = record { exchanges = 1024; share = 65536 };
  confirm_after = 86400000;
}

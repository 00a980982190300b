-- Definitions for the laws of a policy.
use Rattle.std.specs.Prelude.{◌≡◌, ◌⊎◌, ℕ, Bool, true, false, List, [], ◌∷◌, Option, None}
use Rattle.coap_msg.specs.Wire.{Message}
use Rattle.coap_msg.specs.declared.types.Emission.{Emission}
use Rattle.coap_dedup.specs.Exchanges.{Exchange, is_at}
use Rattle.fc_ticket.specs.declared.job.Ask.{Ask}
use Rattle.fc_ticket.specs.declared.job.Ask.TheVariants.{Install, Remove}
use Rattle.fc_ticket.specs.declared.job.Job.{Job}
use Rattle.fc_core.specs.declared.event.Event.{Event}
use Rattle.fc_front.specs.declared.policy.Network.{Network}
use Rattle.fc_core.specs.History.{Seen}
use Rattle.fc_front.specs.Policies.{is_manager}
use Rattle.fc_laws.specs.ExchangeLaws.{bare_by}

-- whether the action installs a program or removes one.
abbrev pub asks_for_change : Ask → Bool
asks_for_change (Install image initial) = true
asks_for_change Remove = true
asks_for_change other = false

-- a job that installs or removes a program belongs to a manager's endpoint.
abbrev pub IsManaged : List Network → Job → Type 0
IsManaged managers j = asks_for_change j.ask ≡ true → is_manager managers j.origin.endpoint ≡ true

-- the response to a request above its address's share. A confirmable request is answered 5.03
-- (Service Unavailable), whose byte is 163, in an Acknowledgement; any other gets no response.
abbrev pub over_share_emits : Bool → Seen → Event → Message → Option Emission
over_share_emits true s e m = bare_by s e m 163
over_share_emits false s e m = None

-- the address of an exchange is one of these addresses.
abbrev pub IsAmong : List (List ℕ) → Exchange → Type 0
IsAmong [] e = ⊥
IsAmong (ip ∷ ips) e = (is_at ip e ≡ true) ⊎ IsAmong ips e

-- the address of each of these exchanges is one of these addresses.
abbrev pub AreAmong : List (List ℕ) → List Exchange → Type 0
AreAmong ips [] = Unit {0}
AreAmong ips (e ∷ es) = IsAmong ips e × AreAmong ips es

-- an address is one of these addresses.
abbrev pub IsOneOf : List ℕ → List (List ℕ) → Type 0
IsOneOf own [] = ⊥
IsOneOf own (ip ∷ ips) = (ip ≡ own) ⊎ IsOneOf own ips

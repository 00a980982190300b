-- The jobs that a single-threaded server shows to a witness of its answers.
use Rattle.std.specs.Prelude.{◌≡◌, Option}
use Rattle.coap_msg.specs.declared.types.Emission.{Emission}
use Rattle.fc_front.specs.declared.by_value.Delivered.{Delivered}
use Rattle.fc_front.specs.declared.by_value.Delivered.TheVariants.{Job as Brings}
use Rattle.fc_ticket.specs.declared.job.Job.{Job}

-- the job of a delivery was shown once, with the response to send for it, if there is one. A
-- delivery without a job shows nothing.
abbrev pub IsShown : {W : Type 0} → (Job → Option Emission → W → W → Type 0) → Delivered → Option Emission → W → W → Type 0
IsShown Shown (Brings job) sent old new = Shown job sent old new
IsShown Shown other sent old new = new ≡ old

-- The record of an answered job, by what the job asks for.
use Rattle.std.proofs.Common.{◌≡◌, ℕ, List, None, Option, Some, ap, refl, subst, sym, ◌∙◌}
use Rattle.coap_msg.specs.declared.types.Emission.{Emission}
use Rattle.fc_backend.specs.declared.call_log.CallLog.{CallLog}
use Rattle.fc_record.specs.ProgramRequests.{Requested, change_in}
use Rattle.fc_record.specs.Recording.{IsRecorded, IsRecordedFor, RecordsRequest}
use Rattle.fc_ticket.specs.declared.job.Ask.{Ask}
use Rattle.fc_ticket.specs.declared.job.Ask.TheVariants.{Run, Install, Remove, Describe, Discover}
use Rattle.fc_ticket.specs.declared.job.InitialVars.{InitialVars}
use Rattle.fc_ticket.specs.declared.job.Job.{Job}

module _ (Recorded : Requested → CallLog → CallLog → Type 0) (job : Job) (sent : Option Emission) (before after : CallLog) where
  pub recorded_install : (image : List ℕ) (initial : InitialVars) → job.ask ≡ Install (record { items = image }) initial → IsRecorded Recorded job sent before after → RecordsRequest Recorded job sent before after
  recorded_install image initial is recorded = subst (λ (ask : Ask). IsRecordedFor Recorded ask job sent before after) is recorded

  pub recorded_removal : job.ask ≡ Remove → IsRecorded Recorded job sent before after → RecordsRequest Recorded job sent before after
  recorded_removal is recorded = subst (λ (ask : Ask). IsRecordedFor Recorded ask job sent before after) is recorded

  -- a job that installs nothing and removes nothing isn't recorded.
  pub recorded_nothing : (ask : Ask) → ((image : List ℕ) (initial : InitialVars) → ask ≡ Install (record { items = image }) initial → ⊥) → (ask ≡ Remove → ⊥) → IsRecordedFor Recorded ask job sent before after → after ≡ before
  recorded_nothing (Run request) no_install no_removal recorded = recorded
  recorded_nothing (Install body initial) no_install no_removal recorded = absurd (no_install body.items initial refl)
  recorded_nothing Remove no_install no_removal recorded = absurd (no_removal refl)
  recorded_nothing Describe no_install no_removal recorded = recorded
  recorded_nothing Discover no_install no_removal recorded = recorded

  -- the record has the image that the job asks for.
  pub image_is : (image : Option (List ℕ)) → change_in job.ask ≡ Some image → (r : RecordsRequest Recorded job sent before after) → r.change.image ≡ image
  image_is image is r = cc (sym r.is.order ∙ is)

-- The steps taken so far, with the datagrams that were printed.
use Rattle.std.proofs.Common.{◌≡◌, ℕ, ◌+◌, List, [], append-nil, Option, Some, None, arith, refl, sym, subst}
use Rattle.std.specs.Io.KnownBytes.{Appends}
use Rattle.std.specs.Option.{option_to_list}
use Rattle.std.specs.Prelude.{flat_map}
use Rattle.std.proofs.KnownBytes.{Appends-nil, Appends-trans}
use Rattle.std.proofs.lemmas.Grind.{flat_map-append}
use Rattle.coap_msg.specs.declared.types.Emission.{Emission}
use Rattle.fc_lines.specs.Emissions.{printed}
use Rattle.fc_server.proofs.FlushingSteps.{Steps, next_step}
use Rattle.fc_service.specs.Playing.{output_of}
use Rattle.fc_server.specs.Ingresses.{IngressCalls}
use Rattle.fc_server.specs.Flushing.{AreStepsTo, IsStepBy, Moves, FlushingStep, sent_in_step, sent_in_steps}
use Rattle.fc_server.specs.declared.flush.Flushing.{Flushing}

-- the text printed for the datagram that one step sent, if it sent one, is that step's output.
pub printed_of : (out : Option Emission) → flat_map printed (option_to_list out) ≡ output_of out
printed_of None = refl
printed_of (Some e) = append-nil (printed e)

module _ {S : Type 0} (calls : IngressCalls S) where
  -- if the steps so far sent no datagram, nothing was printed so far.
  pub none_printed : (now : ℕ) (old new : S) (place : Flushing) (a : Option (List ℕ))
      → ((steps : List FlushingStep) × AreStepsTo calls now steps old new place × (sent_in_steps steps ≡ [])) → Steps calls (λ es. Appends a a (flat_map printed es)) 0 now old new place
  none_printed now old new place a w = (w.0, w.1, omega arith, subst (λ (es : List Emission). Appends a a (flat_map printed es)) (sym w.2) (Appends-nil a))

  pub one_printed : (taken now : ℕ) (old mid new : S) (from to : Flushing) (a b c : Option (List ℕ)) (out : Option Emission) → Steps calls (λ es. Appends a b (flat_map printed es)) taken now old mid from
      → ((step : FlushingStep) × IsStepBy calls now step mid new × (sent_in_step step ≡ out) × Moves from step to)
      → Appends b c (output_of out) → Steps calls (λ es. Appends a c (flat_map printed es)) (taken + 1) now old new to
  one_printed taken now old mid new from to a b c out w x prints =
      next_step calls (λ es. Appends a b (flat_map printed es)) (λ es. Appends a c (flat_map printed es)) taken now old mid new from to out w x
      (λ es v. subst (Appends a c) (sym (flat_map-append printed es (option_to_list out)))
      (Appends-trans a b c (flat_map printed es) (flat_map printed (option_to_list out)) v (subst (Appends b c) (sym (printed_of out)) prints)))

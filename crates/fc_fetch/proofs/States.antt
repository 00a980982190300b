-- The rendering of a state of several blocks.
use Rattle.std.proofs.Common.{◌≡◌, ℕ, true, List, length, Option, refl, sym, subst}
use Rattle.coap_msg.specs.Wire.{Message}
use Rattle.coap_observer.specs.Completions.{AreOutcomes, IsCompletion, IsStateEnd, end_of, state_from}
use Rattle.coap_client.specs.Fetching.{State}
use Rattle.coap_client.specs.PeerCalls.{PeerCall}
use Rattle.coap_observer.specs.Representations.{begun}
use Rattle.coap_client.specs.Transmissions.{MakesCalls}
use Rattle.coap_observer.specs.declared.joining.Completion.{Completion}
use Rattle.coap_observer.specs.declared.observing.Observer.{Observer}
use Rattle.coap_observer.specs.declared.watch.Observation.{Observation}
use Rattle.coap_client.proofs.Transmitting.{Calls, does_of}
use Rattle.fc_fetch.specs.Observing.{BeginsRest, IsOverAtRest, IsOverBy, IsRenderedBy, IsRenderingOf, IsStateRequested}
use Rattle.fc_fetch.specs.Rendering.{Blocks, has_further}
use Rattle.fc_fetch.specs.declared.rendering.Rendered.{Rendered}
use Rattle.fc_fetch.proofs.Timing.{state_requested}

module _ (went came : List ℕ → Type 0) (told : ℕ → Type 0) (o : Observer) (seconds : Option ℕ) (start first next rest : ℕ) (from : State) (m : Message) (old new : Observation) (buffer : List ℕ)
    (result : Completion) (before between after : Calls) where
  pub rendering_of : (c : IsCompletion went came told (MakesCalls before between) o first next from old new buffer result) → begun m ≡ from → has_further m ≡ true
      → IsRenderingOf went came told o old m (Blocks first old c.outcomes (end_of buffer result))
  rendering_of c begins further = (
    refl,
    (
      further,
      (
        subst (λ s. AreOutcomes went came told o old first s c.outcomes) (sym begins) c.are,
        subst (λ s. IsStateEnd (state_from s c.outcomes) (length c.outcomes) (end_of buffer result)) (sym begins) c.ends,
      ),
    ),
  )

  pub rendered_calls : (c : IsCompletion went came told (MakesCalls before between) o first next from old new buffer result) → begun m ≡ from → MakesCalls between after (BeginsRest seconds start rest)
      → (effect : Rendered) → ((calls : List PeerCall) → (rest ≡ 0 → IsOverAtRest calls) → IsOverBy effect calls)
      → MakesCalls before after (λ calls. IsRenderedBy o seconds start m (Blocks first old c.outcomes (end_of buffer result)) calls × IsOverBy effect calls)
  rendered_calls c begins rests effect turns =
      does_of before after (λ calls. IsStateRequested o seconds start first from c.outcomes (end_of buffer result) calls × (rest ≡ 0 → IsOverAtRest calls))
      (λ calls. IsRenderedBy o seconds start m (Blocks first old c.outcomes (end_of buffer result)) calls × IsOverBy effect calls)
      (state_requested o seconds start first rest from c.outcomes (end_of buffer result) before between after c.called rests)
      (λ calls h. (subst (λ s. IsStateRequested o seconds start first s c.outcomes (end_of buffer result) calls) (sym begins) h.0, turns calls h.1))

  pub unwritten_calls : (c : IsCompletion went came told (MakesCalls before between) o first next from old new buffer result) → begun m ≡ from → MakesCalls between after (BeginsRest seconds start rest)
      → MakesCalls before after (IsRenderedBy o seconds start m (Blocks first old c.outcomes (end_of buffer result)))
  unwritten_calls c begins rests =
      does_of before after (λ calls. IsStateRequested o seconds start first from c.outcomes (end_of buffer result) calls × (rest ≡ 0 → IsOverAtRest calls))
      (IsRenderedBy o seconds start m (Blocks first old c.outcomes (end_of buffer result)))
      (state_requested o seconds start first rest from c.outcomes (end_of buffer result) before between after c.called rests)
      (λ calls h. subst (λ s. IsStateRequested o seconds start first s c.outcomes (end_of buffer result) calls) (sym begins) h.0)

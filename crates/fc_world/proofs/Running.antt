-- The emissions and the state after each event of a list, and after the whole list.
use Rattle.std.proofs.Common.{◌≡◌, ℕ, ◌+◌, ◌<◌, ◌≤◌, List, [], ◌∷◌, ◌++◌, Option, length, take, get_or, refl, sym, ap, ◌∙◌, subst, arith, length-append, length-take}
use Rattle.std.proofs.lemmas.List.{take_all, take_more}
use Rattle.coap_msg.specs.declared.types.Emission.{Emission}
use Rattle.fc_registry.proofs.Rings.{rings_begin, rings_continue, rings_follow}
use Rattle.fc_registry.specs.Changes.{Change, after_changes}
use Rattle.fc_registry.specs.Laws.{RingBegins}
use Rattle.fc_registry.specs.Record.{IsChain, IsRing}
use Rattle.fc_registry.specs.Restored.{restored_slot}
use Rattle.fc_registry.specs.Shards.{slot_in_shards}
use Rattle.fc_registry.specs.Slots.{Shard, new_slot}
use Rattle.fc_registry.specs.Starts.{CanRestore, RingContinues}
use Rattle.fc_store.specs.Stored.{StoredSlot, StoredSlots}
use Rattle.fc_core.specs.declared.event.Event.{Event}
use Rattle.fc_front.specs.declared.policy.Policy.{Policy}
use Rattle.fc_server.specs.States.{begin_of}
use Rattle.fc_server.specs.declared.server.Begin.{Begin}
use Rattle.fc_core.specs.History.{BeginsWith, Entry, History, Then, did, history_after, seen, slot_at}
use Rattle.fc_core.specs.Legal.{AllMean, IsLegal}
use Rattle.fc_core.specs.declared.stage.Task.{Task}
use Rattle.fc_server.specs.Agreement.{Agrees, Parts}
use Rattle.fc_server.specs.Serving.{Serves, with_tasks}
use Rattle.fc_server.specs.States.{ServerState}
use Rattle.fc_server.specs.Steps.{Step}
use Rattle.fc_world.specs.Runs.{EndsWith}

-- `os` and `w` are the emissions and the state after the first `i` events of a list, where history
-- `h` is that of the server before.
pub record RunsTo (h : History) (es : List Event) (i : ℕ) (os : List (Option Emission)) (w : Parts) : Type 0 where
  pub long : length os ≡ i
  pub legal : IsLegal (history_after h (take i es) os)
  pub means : AllMean (history_after h (take i es) os)
  pub agrees : Agrees (seen (history_after h (take i es) os)) w
  pub stored : (seen (history_after h (take i es) os)).stored ≡ (seen h).stored

-- a server without tasks and emissions is in the state after no event.
pub starts : (h : History) (es : List Event) (os : List (Option Emission)) (s : ServerState) (tasks : List Task) → os ≡ [] → Serves h s [] → tasks ≡ [] → RunsTo h es 0 os (with_tasks s tasks)
starts h es os s tasks fresh v none =
    let started : RunsTo h es 0 [] (with_tasks s []) = record { long = refl; legal = v.legal; means = v.means; agrees = v.agrees; stored = refl } in
    let later : RunsTo h es 0 [] (with_tasks s tasks) = subst (λ (ts : List Task). RunsTo h es 0 [] (with_tasks s ts)) (sym none) started in
    subst (λ (xs : List (Option Emission)). RunsTo h es 0 xs (with_tasks s tasks)) (sym fresh) later

-- if events and emissions are equally many, one more of each extends their history by one entry.
history_snoc : (h : History) (es : List Event) (os : List (Option Emission)) (e : Event) (o : Option Emission) → length es ≡ length os → history_after h (es ++ e ∷ []) (os ++ o ∷ []) ≡ Then (history_after h es os) (did e o)
history_snoc h [] [] e o l = refl
history_snoc h [] (p ∷ os) e o l = absurd (omega (arith, l))
history_snoc h (f ∷ es) [] e o l = absurd (omega (arith, l))
history_snoc h (f ∷ es) (p ∷ os) e o l = history_snoc (Then h (did f p)) es os e o (omega (arith, l))

-- if event `i` is executed after the first `i` events, the new state is that after `i + 1` events.
pub runs_on : (h : History) (es : List Event) (i : ℕ) (d : Event) (os later : List (Option Emission)) (o : Option Emission) (old new : Parts) → i < length es → RunsTo h es i os old → later ≡ os ++ o ∷ [] → Step (get_or es i d) o new (seen (history_after h (take i es) os)) → RunsTo h es (i + 1) later new
unfolding seen
runs_on h es i d os later o old new lt r pushed s =
    let entry : Entry = did (get_or es i d) o in
    let grows : history_after h (take (i + 1) es) later ≡ Then (history_after h (take i es) os) entry =
    (λ k. history_after h (take_more es i d lt k) (pushed k)) ∙ history_snoc h (take i es) os (get_or es i d) o (length-take i es ∙ omega (arith, r.long)) in
    record {
      long = ap length pushed ∙ (length-append os (o ∷ []) ∙ ap (λ (k : ℕ). k + 1) r.long);
      legal = subst IsLegal (sym grows) (s.emits, r.legal);
      means = subst AllMean (sym grows) (s.means, r.means);
      agrees = subst (λ (g : History). Agrees (seen g) new) (sym grows) s.agrees;
      stored = ap (λ (g : History). (seen g).stored) grows ∙ r.stored;
    }

pub has_run : {h : History} {es : List Event} {i : ℕ} {os : List (Option Emission)} {w : Parts} → RunsTo h es i os w → i ≤ length es → length es ≤ i → EndsWith h es os w.shards
has_run {h} {es} {i} {os} {w} r within past =
    let whole : take i es ≡ es = take_all i es past in
    let agrees : Agrees (seen (history_after h es os)) w = subst (λ (t : List Event). Agrees (seen (history_after h t os)) w) whole r.agrees in
    let stored : (seen (history_after h es os)).stored ≡ (seen h).stored = subst (λ (t : List Event). (seen (history_after h t os)).stored ≡ (seen h).stored) whole r.stored in
    record {
      count = r.long ∙ omega (arith, within, past);
      legal = subst (λ (t : List Event). IsLegal (history_after h t os)) whole r.legal;
      means = subst (λ (t : List Event). AllMean (history_after h t os)) whole r.means;
      agrees = agrees.shards;
      stored = stored;
      chain = λ n. subst (λ (k : StoredSlots). IsChain (restored_slot (k n)) ((seen (history_after h es os)).changes n)) stored (agrees.sound.chain n);
    }

-- ---- the rings at the end

module _ (b : Begin) (es : List Event) (os : List (Option Emission)) (shards : List Shard) (run : EndsWith (begin_of b) es os shards) (n : ℕ) (lt : n < 64) where
  abbrev changes : List Change
  changes = (seen (history_after (begin_of b) es os)).changes n

  pub chain_from : IsChain (new_slot b.serial) changes
  unfolding seen
  chain_from = run.chain n

  slot_from : slot_in_shards shards n ≡ after_changes (new_slot b.serial) changes
  unfolding seen
  slot_from = run.agrees.slot n lt ∙ ap (λ (k : StoredSlots). after_changes (restored_slot (k n)) changes) run.stored

  pub ring_from : IsRing (slot_in_shards shards n)
  ring_from = subst IsRing (sym slot_from) (rings_follow b.serial changes chain_from)

  pub begins_from : RingBegins b.serial changes (slot_in_shards shards n)
  begins_from = subst (RingBegins b.serial changes) (sym slot_from) (rings_begin b.serial changes chain_from)

module _ (stored : StoredSlots) (id : ℕ) (policy : Policy) (es : List Event) (os : List (Option Emission)) (shards : List Shard) (run : EndsWith (BeginsWith stored id policy) es os shards) (n : ℕ) (lt : n < 64) (can : CanRestore (stored n)) where
  abbrev changes_over : List Change
  changes_over = (seen (history_after (BeginsWith stored id policy) es os)).changes n

  pub chain_over : IsChain (restored_slot (stored n)) changes_over
  unfolding seen
  chain_over = run.chain n

  slot_over : slot_in_shards shards n ≡ after_changes (restored_slot (stored n)) changes_over
  unfolding seen
  slot_over = run.agrees.slot n lt ∙ ap (λ (k : StoredSlots). after_changes (restored_slot (k n)) changes_over) run.stored

  pub continues_over : RingContinues (restored_slot (stored n)) changes_over (slot_in_shards shards n)
  continues_over = subst (RingContinues (restored_slot (stored n)) changes_over) (sym slot_over) (rings_continue (stored n) changes_over can chain_over)

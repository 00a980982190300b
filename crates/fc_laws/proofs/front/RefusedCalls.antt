-- Effects of a call that is refused.
use Rattle.std.proofs.Common.{◌≡◌, ℕ, ◌≤◌, List, [], ◌∷◌, ◌++◌, Bool, true, false, Option, Some, None, refl, sym, ap, ◌∙◌, subst, ◌⊎◌, inl, inr, ⊎_elim, if◌then◌else◌}
use Rattle.std.specs.Prelude.{◌==◌, is_some, nat_lt}
use Rattle.std.specs.Option.{option_map}
use Rattle.std.proofs.lemmas.Bool.{le-ltb, ne_eqb}
use Rattle.std.proofs.lemmas.List.{append-nil}
use Rattle.coap_dedup.specs.Exchanges.{Exchange}
use Rattle.coap_msg.specs.declared.types.Emission.{Emission}
use Rattle.fc_kinds.specs.Meaning.{Program}
use Rattle.fc_verify.specs.Accepted.{Judgement, Accepts, Breaks, Untypable}
use Rattle.fc_verify.specs.Judged.{judged}
use Rattle.fc_observe.specs.declared.entry.Entry.{Entry as ObserverEntry}
use Rattle.fc_observe.specs.declared.entry.Turn.{Turn}
use Rattle.fc_observe.specs.Calls.{ObserverCall, Advance, observers}
use Rattle.fc_observe.specs.Observers.{ObserverList, list_at_time, entry_out, is_missing, must_confirm_turn}
use Rattle.fc_observe.specs.Views.{interest_of}
use Rattle.fc_ticket.specs.declared.job.InitialVars.{InitialVars}
use Rattle.fc_registry.specs.Calls.{clear_by, commits, is_out_at, mark_missing_calls, outcome_by, put_by}
use Rattle.fc_ticket.specs.Runs.{initial_vars_of}
use Rattle.fc_registry.specs.Changes.{Change}
use Rattle.fc_ticket.specs.Notes.{note_to, observer_told, told_calls}
use Rattle.fc_ticket.specs.Tickets.{Present, Ticket}
use Rattle.fc_registry.specs.Slots.{last_serial}
use Rattle.fc_core.specs.declared.event.Event.{Event}
use Rattle.fc_core.specs.declared.event.Event.TheVariants.{Answer, Commit, Fresh, Install, Note, Receipt, Refuse, Remove, Take}
use Rattle.fc_core.specs.Stage.{Stage}
use Rattle.fc_core.specs.Stage.{ToAnswer, ToCommit, ToDescribe, ToInstall, ToRemove, ToTake, ToTell}
use Rattle.fc_core.specs.TurnStage as turns
use Rattle.fc_front.specs.Heads.{published}
use Rattle.fc_core.specs.History.{Entry, Seen, additions_by, and_then, answered_in, at_front, calls_named, changes_after, did, exchanges_by, job, inputs, stage, tasks_brought, tasks_moved, watch, words_seen, at_shard, calls_by}
use Rattle.fc_core.specs.Laws.{slot_of}
use Rattle.fc_core.specs.Transitions.{Effect, Inputs, call_at, call_if, install_if, effect_of, names, transition}
use Rattle.fc_core.specs.Stages.{content_at, image_of, is_refusable}
use Rattle.fc_core.specs.Steps.{Commits, Installs, RefusesChange, Removes}
use Rattle.fc_laws.specs.RefusalLaws.{HasNoId, HasNoTicket, IsRefusedCall, IsStaleNote, IsStaleSnapshot, LeavesAllButStage, NotAccepted, NotCommitted, NotDescribed, NotInstalled, NotRemoved, NotSaved, NotSent, NothingTaken}
use Rattle.fc_laws.specs.TurnLaws.{time_at}

-- ---- a transition that changes nothing

-- the calls on the slot's observers are none, or only pass a time.
data IsIdle (calls : List ObserverCall) : Type 0 where
  Nothing : (is : calls ≡ []) → IsIdle calls
  Time : (at : ℕ) (is : calls ≡ Advance at ∷ []) → IsIdle calls

record IsStill (m : Effect) : Type 0 where
  changes : m.changes ≡ []
  calls : IsIdle m.calls
  raises : m.raises ≡ None

changes_still : (b : Bool) (cs own : List Change) → cs ≡ [] → (if b then cs ++ own else own) ≡ own
changes_still true cs own is = ap (λ (x : List Change). x ++ own) is
changes_still false cs own is = refl

-- the calls leave the observers of slot n unchanged, except their time.
abbrev AreLeft : ℕ → ℕ → List ObserverCall → List ObserverCall → Type 0
AreLeft n confirm_after own calls =
    observers n confirm_after calls ≡ record (observers n confirm_after own) { time = (observers n confirm_after calls).time }

observers_still : (b : Bool) (cs own : List ObserverCall) (n confirm_after : ℕ) → IsIdle cs → AreLeft n confirm_after own ((if b then cs else []) ++ own)
observers_still true cs own n confirm_after (Nothing is) = subst (λ (x : List ObserverCall). AreLeft n confirm_after own (x ++ own)) (sym is) refl
observers_still true cs own n confirm_after (Time at is) = subst (λ (x : List ObserverCall). AreLeft n confirm_after own (x ++ own)) (sym is) refl
observers_still false cs own n confirm_after q = refl

-- the event names job k. Its only effect on the front is the time, and perhaps a draw of a message
-- ID.
record IsOf (k : ℕ) (e : Event) (o : Option Emission) (s : Seen) : Type 0 where
  named : names e ≡ Some k
  brought : tasks_brought e s ≡ []
  calm : (n : ℕ) → calls_by (at_shard e) s n ≡ []
  added : additions_by (at_front e) s ≡ []
  kept : exchanges_by (at_front e) o s ≡ s.exchanges

left : (k : ℕ) (e : Event) (o : Option Emission) (s : Seen) → IsOf k e o s → IsStill (transition e (inputs s k)) → LeavesAllButStage k s (and_then (did e o) s)
left k e o s of still = record {
  slots = record {
    stored = refl;
    slots = λ n.
        ap (λ (x : Option ℕ). changes_after x e s n) of.named
        ∙ changes_still (slot_of s k == n) (transition e (inputs s k)).changes (s.changes n) still.changes;
    words = ap (λ (x : Option ℕ). words_seen x e s) of.named ∙ ap (λ (x : Option ℕ). published x (slot_of s k) s.words) still.raises;
  };
  at = (transition e (inputs s k)).stage;
  tasks =
      ap (λ (x : Option ℕ). tasks_moved x e s ++ tasks_brought e s) of.named
      ∙ (ap (λ ts. tasks_moved (Some k) e s ++ ts) of.brought ∙ append-nil (tasks_moved (Some k) e s));
  observers = λ n.
      subst (AreLeft n s.policy.confirm_after (s.calls n))
      (sym (ap (λ (x : Option ℕ). calls_named x e s n ++ (calls_by (at_shard e) s n ++ s.calls n)) of.named
      ∙ ap (λ (x : List ObserverCall). calls_named (Some k) e s n ++ (x ++ s.calls n)) (of.calm n)))
      (observers_still (slot_of s k == n) (transition e (inputs s k)).calls (s.calls n) n s.policy.confirm_after still.calls);
  front = record { exchanges = of.kept; additions = ap (λ xs. xs ++ s.additions) of.added };
}

-- ---- the transitions of refused calls

-- the transition of an event, for a job at this stage.
abbrev effect_at : Event → Inputs → Stage → Effect
effect_at e s x = effect_of e s (call_at e s x)

uncommitted : (k now count : ℕ) (t : Ticket) (s : Inputs) (c b : Bool) → (c ≡ false) ⊎ (b ≡ false)
    → IsStill (effect_of (Commit k now) s (Some (Commits count t (commits (outcome_by true c b) t s.slot.serial s.around.watch).answer)))
uncommitted k now count t s false b w = record { changes = refl; calls = Nothing refl; raises = refl }
uncommitted k now count t s true false w = record { changes = refl; calls = Nothing refl; raises = refl }
uncommitted k now count t s true true (inl is) = absurd (cc is)
uncommitted k now count t s true true (inr is) = absurd (cc is)

unaccepted : (k : ℕ) (s : Inputs) (memory : Bool) (v : InitialVars) (j : Judgement) → ((p : Program) → j ≡ Accepts p → ⊥)
    → IsStill (effect_of (Install k memory) s (Some (install_if memory v j s.slot)))
unaccepted k s false v j why = record { changes = refl; calls = Nothing refl; raises = refl }
unaccepted k s true v (Accepts p) why = absurd (why p refl)
unaccepted k s true v (Breaks rule slot) why = record { changes = refl; calls = Nothing refl; raises = refl }
unaccepted k s true v Untypable why = record { changes = refl; calls = Nothing refl; raises = refl }

at_end : (k : ℕ) (s : Inputs) (p : Program) (v : InitialVars) (b : Bool) → b ≡ false → IsStill (effect_of (Install k true) s (Some (Installs p v (put_by b s.slot p v).answer)))
at_end k s p v true is = absurd (cc is)
at_end k s p v false is = record { changes = refl; calls = Nothing refl; raises = refl }

uninstalled : (k : ℕ) (s : Inputs) (memory : Bool) (v : InitialVars) (j : Judgement) → (memory ≡ false) ⊎ (last_serial ≤ s.slot.serial)
    → IsStill (effect_of (Install k memory) s (Some (install_if memory v j s.slot)))
uninstalled k s false v j why = record { changes = refl; calls = Nothing refl; raises = refl }
uninstalled k s true v (Accepts p) (inl is) = absurd (cc is)
uninstalled k s true v (Accepts p) (inr last) = at_end k s p v (nat_lt s.slot.serial last_serial) (le-ltb s.slot.serial last_serial last)
uninstalled k s true v (Breaks rule slot) why = record { changes = refl; calls = Nothing refl; raises = refl }
uninstalled k s true v Untypable why = record { changes = refl; calls = Nothing refl; raises = refl }

unremoved : (k serial : ℕ) (s : Inputs) (b : Bool) (o : Option Present) → (o ≡ None) ⊎ (b ≡ false)
    → IsStill (effect_of (Remove k) s (Some (Removes (clear_by b serial o).answer)))
unremoved k serial s b None why = record { changes = refl; calls = Nothing refl; raises = refl }
unremoved k serial s false (Some p) why = record { changes = refl; calls = Nothing refl; raises = refl }
unremoved k serial s true (Some p) (inl is) = absurd (cc is)
unremoved k serial s true (Some p) (inr is) = absurd (cc is)

unsaved : (k : ℕ) (s : Inputs) (x : Stage) (b : Bool) → IsStill (effect_of (Refuse k) s (call_if b (RefusesChange x)))
unsaved k s x true = record { changes = refl; calls = Nothing refl; raises = refl }
unsaved k s x false = record { changes = refl; calls = Nothing refl; raises = refl }

present_missed : (b : Bool) (turn : Turn) (p : Present) → mark_missing_calls b turn (Some p) ≡ []
present_missed true turn p = refl
present_missed false turn p = refl

-- if a lease isn't active any more, no observer is notified.
none_if : (b : Bool) (o : Option ObserverEntry) → o ≡ None → (if b then option_map interest_of o else None) ≡ None
none_if true o is = ap (option_map interest_of) is
none_if false o is = refl

none_told : (found : Option Ticket) (turn : Turn) (w : ObserverList) → entry_out turn w ≡ None → observer_told found turn w ≡ None
none_told None turn w stale = none_if (is_missing turn w) (entry_out turn w) stale
none_told (Some t) turn w stale = ap (option_map interest_of) stale

unanswered : (b : Bool) (number : ℕ) (o : Option Emission) (xs : List Exchange) → o ≡ None → (if b then answered_in number o xs else xs) ≡ xs
unanswered true number o xs is = ap (λ (x : Option Emission). answered_in number x xs) is
unanswered false number o xs is = refl

-- ---- each refused call

module _ (k : ℕ) (o : Option Emission) (s : Seen) where
  -- if the transition at the job's stage changes nothing else, the event leaves all but the stage
  -- of the job unchanged.
  at_stage : (e : Event) (x : Stage) → IsOf k e o s → stage s k ≡ x → IsStill (effect_at e (inputs s k) x) → LeavesAllButStage k s (and_then (did e o) s)
  at_stage e x of at still = left k e o s of (subst (λ (y : Stage). IsStill (effect_at e (inputs s k) y)) (sym at) still)

  by_call : (e : Event) → IsRefusedCall s k e o → LeavesAllButStage k s (and_then (did e o) s)
  by_call e (NothingTaken count memory readings is at why) = subst (λ (x : Event). LeavesAllButStage k s (and_then (did x o) s)) (sym is)
      (at_stage (Take k memory readings) (ToTake count) (record { named = refl; brought = refl; calm = λ n. refl; added = refl; kept = refl }) at
      (record { changes = refl; calls = Nothing refl; raises = refl }))
  by_call e (NotCommitted now count t is at wanted why) = subst (λ (x : Event). LeavesAllButStage k s (and_then (did x o) s)) (sym is)
      (at_stage (Commit k now) (ToCommit count t) (record { named = refl; brought = refl; calm = λ n. refl; added = refl; kept = refl }) at
      (subst
      (λ (b : Bool). IsStill (effect_of (Commit k now) (inputs s k) (Some (Commits count t
      (commits (outcome_by b ((inputs s k).slot.serial == t.serial) (nat_lt (inputs s k).slot.serial last_serial)) t (inputs s k).slot.serial
      (inputs s k).around.watch).answer))))
      (sym wanted)
      (uncommitted k now count t (inputs s k) ((inputs s k).slot.serial == t.serial) (nat_lt (inputs s k).slot.serial last_serial)
      (⊎_elim (λ ne. inl (ne_eqb (inputs s k).slot.serial t.serial ne)) (λ last. inr (le-ltb (inputs s k).slot.serial last_serial last)) why))))
  by_call e (NotAccepted memory is at why) = subst (λ (x : Event). LeavesAllButStage k s (and_then (did x o) s)) (sym is)
      (at_stage (Install k memory) ToInstall (record { named = refl; brought = refl; calm = λ n. refl; added = refl; kept = refl }) at
      (unaccepted k (inputs s k) memory (initial_vars_of (job s k).ask) (judged (image_of (job s k).ask)) why))
  by_call e (NotInstalled memory is at why) = subst (λ (x : Event). LeavesAllButStage k s (and_then (did x o) s)) (sym is)
      (at_stage (Install k memory) ToInstall (record { named = refl; brought = refl; calm = λ n. refl; added = refl; kept = refl }) at
      (uninstalled k (inputs s k) memory (initial_vars_of (job s k).ask) (judged (image_of (job s k).ask)) why))
  by_call e (NotRemoved is at why) = subst (λ (x : Event). LeavesAllButStage k s (and_then (did x o) s)) (sym is)
      (at_stage (Remove k) ToRemove (record { named = refl; brought = refl; calm = λ n. refl; added = refl; kept = refl }) at
      (unremoved k (inputs s k).slot.serial (inputs s k) (nat_lt (inputs s k).slot.serial last_serial) (inputs s k).slot.present
      (⊎_elim (λ empty. inl empty) (λ last. inr (le-ltb (inputs s k).slot.serial last_serial last)) why)))
  by_call e (NotSaved is may) = subst (λ (x : Event). LeavesAllButStage k s (and_then (did x o) s)) (sym is)
      (at_stage (Refuse k) (stage s k) (record { named = refl; brought = refl; calm = λ n. refl; added = refl; kept = refl }) refl
      (unsaved k (inputs s k) (stage s k) (is_refusable (stage s k))))
  by_call e (NotDescribed is at empty) = subst (λ (x : Event). LeavesAllButStage k s (and_then (did x o) s)) (sym is)
      (at_stage (Receipt k) ToDescribe (record { named = refl; brought = refl; calm = λ n. refl; added = refl; kept = refl }) at
      (record { changes = refl; calls = Nothing refl; raises = refl }))
  by_call e (NotSent now content is at none) = subst (λ (x : Event). LeavesAllButStage k s (and_then (did x o) s)) (sym is)
      (at_stage (Answer k now) (ToAnswer content)
      (record {
        named = refl;
        brought = refl;
        calm = λ n. refl;
        added = refl;
        kept = unanswered (is_some (content_at (stage s k))) (job s k).origin.opening.number o s.exchanges none;
      })
      at
      (record { changes = refl; calls = Nothing refl; raises = refl }))
  by_call e (HasNoId now turn found is at none) = subst (λ (x : Event). LeavesAllButStage k s (and_then (did x o) s)) (sym is)
      (at_stage (Fresh k now) (ToTell turn (turns.ToDraw found)) (record { named = refl; brought = refl; calm = λ n. refl; added = refl; kept = refl }) at
      (record { changes = refl; calls = Nothing refl; raises = refl }))
  by_call e (HasNoTicket turn readings p is at found) = subst (λ (x : Event). LeavesAllButStage k s (and_then (did x o) s)) (sym is)
      (at_stage (Take k false readings) (ToTell turn turns.ToTake) (record { named = refl; brought = refl; calm = λ n. refl; added = refl; kept = refl }) at
      (record {
        changes = refl;
        calls = let now = (inputs s k).around.time in let out = is_out_at turn now (inputs s k).around.watch in
            Time now (ap (λ (x : Option Present). mark_missing_calls out turn x ++ Advance now ∷ []) found
            ∙ ap (λ (x : List ObserverCall). x ++ Advance now ∷ []) (present_missed out turn p));
        raises = refl;
      }))
  by_call e (IsStaleSnapshot turn memory readings is at stale) = subst (λ (x : Event). LeavesAllButStage k s (and_then (did x o) s)) (sym is)
      (at_stage (Take k memory readings) (ToTell turn turns.ToTake) (record { named = refl; brought = refl; calm = λ n. refl; added = refl; kept = refl }) at
      (record {
        changes = refl;
        calls = let now = (inputs s k).around.time in
            Time now (ap (λ (x : Option ObserverEntry). mark_missing_calls (is_some x) turn (inputs s k).slot.present ++ Advance now ∷ []) stale);
        raises = refl;
      }))
  by_call e (IsStaleNote now random id turn found is at stale) = subst (λ (x : Event). LeavesAllButStage k s (and_then (did x o) s)) (sym is)
      (at_stage (Note k now random) (ToTell turn (turns.ToNote found id))
      (record { named = refl; brought = refl; calm = λ n. refl; added = refl; kept = refl }) at
      (record {
        changes = refl;
        calls = let now_at = time_at s k now in let w = list_at_time now_at (watch s (slot_of s k)) in
            Time now_at (ap (λ (x : Option Emission). told_calls turn id random now_at found x ++ Advance now_at ∷ [])
            (ap (option_map (note_to id (must_confirm_turn turn w) found)) (none_told found turn w stale)));
        raises = refl;
      }))

pub refused_call_left : (r : Entry) (s : Seen) (k : ℕ) → IsRefusedCall s k r.event r.emitted → LeavesAllButStage k s (and_then r s)
refused_call_left r s k w = by_call k r.emitted s r.event w

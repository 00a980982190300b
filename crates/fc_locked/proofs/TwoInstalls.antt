-- Two installs of two threads in slot 13 of a server have two serials.
use Rattle.std.proofs.Common.{◌≡◌, ◌⊎◌, ℕ, Bool, List, [], ◌∷◌, Option, None, lit<, refl, subst, ⊎_elim, inl, inr}
use Rattle.fc_front.specs.declared.policy.Policy.{Policy}
use Rattle.fc_kinds.specs.Meaning.{Program}
use Rattle.fc_ticket.specs.declared.job.Job.{Job}
use Rattle.fc_registry.specs.declared.shard.Made.{Made}
use Rattle.fc_registry.specs.declared.shard.Made.TheVariants.{Raised}
use Rattle.fc_registry.specs.Calls.{install_in}
use Rattle.fc_ticket.specs.Runs.{initial_vars_of}
use Rattle.fc_registry.specs.Changes.{after_changes}
use Rattle.fc_registry.specs.Restored.{empty_at, restored_slot}
use Rattle.fc_registry.specs.Shards.{shard_at}
use Rattle.fc_registry.specs.Slots.{Shard, slot_in, with_slot}
use Rattle.fc_store.specs.Stored.{StoredProgram, StoredSlot, StoredSlots}
use Rattle.fc_calls.specs.Doings.{InstallsTo}
use Rattle.fc_calls.specs.Logged.{InstallsProgram}
use Rattle.fc_server.specs.States.{ServerState, first_server, server_over}
use Rattle.fc_linear.specs.Operations.{Logged, Operation, ShardDoes, is_shard, part_of}
use Rattle.fc_store.specs.Recovery.{Save}
use Rattle.fc_filed.specs.declared.entry.FiledEntry.{FiledEntry}
use Rattle.fc_filed.specs.Entries.{OperationsLead, shard_entries}
use Rattle.fc_locked.specs.declared.closed.ClosedServer.{ClosedServer}
use Rattle.fc_backend.specs.Logs.{TrackedLog}
use Rattle.fc_backend.specs.RightTracks.{filed_in}
use Rattle.fc_locked.specs.OneOrder.{HaveOneOrder}
use Rattle.fc_locked.proofs.TwoDraws.{two_orders}

-- an install in this slot, whichever job it is for.
abbrev InstallsAt : ℕ → Job → Program → Shard → Made → Shard → Type 0
InstallsAt slot job program before made after =
    let called = install_in (slot_in before slot) program (initial_vars_of job.ask) in
    (made ≡ called.answer) × (after ≡ with_slot before slot (after_changes (slot_in before slot) called.changes))

-- two installs in slot 13 of this shard, one after the other, have these serials.
abbrev HaveSerials : ℕ → ℕ → Shard → Type 0
HaveSerials first second s = (a b : ℕ) (c d : Bool) (one other : Job) (p q : Program) (m end : Shard)
    → InstallsAt 13 one p s (Raised a c) m → InstallsAt 13 other q m (Raised b d) end → (a ≡ first) × (b ≡ second)

-- slot 13 is stored at this serial, with any program or none.
abbrev IsStoredAt : ℕ → Option StoredProgram → StoredSlots → Type 0
IsStoredAt serial program stored = stored 13 ≡ record { serial = serial; program = program }

module _ (stored : StoredSlots) (id : ℕ) (policy : Policy) where
  after_one : (one other : Job) (p q : Program) (a b : ℕ) (c d : Bool) (m end : Shard)
      → InstallsAt 13 one p (shard_at (server_over stored id policy).shards 5) (Raised a c) m → InstallsAt 13 other q m (Raised b d) end
      → let slot = restored_slot (stored 13) in
      let made = install_in slot p (initial_vars_of one.ask) in
      (Raised a c ≡ made.answer) × (Raised b d ≡ (install_in (after_changes slot made.changes) q (initial_vars_of other.ask)).answer)
  after_one one other p q a b c d m end x y = (x.0, subst (λ (s : Shard). Raised b d ≡ (install_in (slot_in s 13) q (initial_vars_of other.ask)).answer) x.1 y.0)

  eight_and_nine : (o : Option StoredProgram) → IsStoredAt 7 o stored → HaveSerials 8 9 (shard_at (server_over stored id policy).shards 5)
  eight_and_nine o is a b c d one other p q m end x y =
      let both = subst (λ (k : StoredSlot).
      (Raised a c ≡ (install_in (restored_slot k) p (initial_vars_of one.ask)).answer)
      × (Raised b d ≡ (install_in (after_changes (restored_slot k) (install_in (restored_slot k) p (initial_vars_of one.ask)).changes) q (initial_vars_of other.ask)).answer))
      is (after_one one other p q a b c d m end x y) in
      (cc both.0, cc both.1)

  six_and_seven : (o : Option StoredProgram) → IsStoredAt 5 o stored → HaveSerials 6 7 (shard_at (server_over stored id policy).shards 5)
  six_and_seven o is a b c d one other p q m end x y =
      let both = subst (λ (k : StoredSlot).
      (Raised a c ≡ (install_in (restored_slot k) p (initial_vars_of one.ask)).answer)
      × (Raised b d ≡ (install_in (after_changes (restored_slot k) (install_in (restored_slot k) p (initial_vars_of one.ask)).changes) q (initial_vars_of other.ask)).answer))
      is (after_one one other p q a b c d m end x y) in
      (cc both.0, cc both.1)

module _ (first : ServerState) (m n : ℕ) (serials : HaveSerials m n (shard_at first.shards 5)) where
  in_order : (a b : ℕ) (c d : Bool) (one other : Job) (p q : Program) → one.origin.slot ≡ 13 → other.origin.slot ≡ 13 → (x y : FiledEntry) (end : Shard) → x.operation ≡ Logged (InstallsProgram one p (Raised a c)) → y.operation ≡ Logged (InstallsProgram other q (Raised b d))
      → OperationsLead ShardDoes (x ∷ y ∷ []) (shard_at first.shards 5) end → (a ≡ m) × (b ≡ n)
  in_order a b c d one other p q slot also x y end x_is y_is leads =
      let s = shard_at first.shards 5 in
      let rest = leads.2 in
      let made : InstallsTo one p s (Raised a c) leads.0 = subst (λ (o : Operation). ShardDoes o s leads.0) x_is leads.1 in
      let then : InstallsTo other q leads.0 (Raised b d) rest.0 = subst (λ (o : Operation). ShardDoes o leads.0 rest.0) y_is rest.1 in
      serials a b c d one other p q leads.0 rest.0
      (subst (λ (k : ℕ). InstallsAt k one p s (Raised a c) leads.0) slot made)
      (subst (λ (k : ℕ). InstallsAt k other q leads.0 (Raised b d) rest.0) also then)

  serials_of_two : (one other : TrackedLog) (job also : Job) (p q : Program) (j k a b : ℕ) (c d : Bool) (v w : Option Save) (closed : ClosedServer) → job.origin.slot ≡ 13 → also.origin.slot ≡ 13
      → HaveOneOrder first (one ∷ other ∷ []) closed
      → shard_entries 5 (filed_in one) ≡ record { who = one.who; job = j; operation = Logged (InstallsProgram job p (Raised a c)); save = v } ∷ []
      → shard_entries 5 (filed_in other) ≡ record { who = other.who; job = k; operation = Logged (InstallsProgram also q (Raised b d)); save = w } ∷ []
      → ((a ≡ m) × (b ≡ n)) ⊎ ((a ≡ n) × (b ≡ m))
  serials_of_two one other job also p q j k a b c d v w closed slot same h is then =
      let x : FiledEntry = record { who = one.who; job = j; operation = Logged (InstallsProgram job p (Raised a c)); save = v } in
      let y : FiledEntry = record { who = other.who; job = k; operation = Logged (InstallsProgram also q (Raised b d)); save = w } in
      let s = shard_at first.shards 5 in
      let end = shard_at closed.shards 5 in
      let led = h.shards_led 5 (lit< tt) in
      ⊎_elim
      (λ (e : shard_entries 5 h.calls ≡ x ∷ y ∷ []).
      inl (in_order a b c d job also p q slot same x y end refl refl (subst (λ (es : List FiledEntry). OperationsLead ShardDoes es s end) e led)))
      (λ (e : shard_entries 5 h.calls ≡ y ∷ x ∷ []).
      let r = in_order b a d c also job q p same slot y x end refl refl (subst (λ (es : List FiledEntry). OperationsLead ShardDoes es s end) e led) in
      inr (r.1, r.0))
      (two_orders (λ (e : FiledEntry). is_shard 5 (part_of e.operation)) first one other closed x y h is then)

pub two_serials : (policy : Policy) (id : ℕ) (one other : TrackedLog) (job also : Job) (p q : Program) (j k a b : ℕ) (c d : Bool) (v w : Option Save) (closed : ClosedServer) → job.origin.slot ≡ 13 → also.origin.slot ≡ 13
    → HaveOneOrder (first_server (record { serial = 7; id = id; policy = policy })) (one ∷ other ∷ []) closed
    → shard_entries 5 (filed_in one) ≡ record { who = one.who; job = j; operation = Logged (InstallsProgram job p (Raised a c)); save = v } ∷ []
    → shard_entries 5 (filed_in other) ≡ record { who = other.who; job = k; operation = Logged (InstallsProgram also q (Raised b d)); save = w } ∷ []
    → ((a ≡ 8) × (b ≡ 9)) ⊎ ((a ≡ 9) × (b ≡ 8))
two_serials policy id = serials_of_two (first_server (record { serial = 7; id = id; policy = policy })) 8 9 (eight_and_nine (empty_at 7) id policy None refl)

pub stored_serials : (stored : StoredSlots) (o : Option StoredProgram) (policy : Policy) (id : ℕ) → IsStoredAt 5 o stored
    → (one other : TrackedLog) (job also : Job) (p q : Program) (j k a b : ℕ) (c d : Bool) (v w : Option Save) (closed : ClosedServer) → job.origin.slot ≡ 13 → also.origin.slot ≡ 13
    → HaveOneOrder (server_over stored id policy) (one ∷ other ∷ []) closed
    → shard_entries 5 (filed_in one) ≡ record { who = one.who; job = j; operation = Logged (InstallsProgram job p (Raised a c)); save = v } ∷ []
    → shard_entries 5 (filed_in other) ≡ record { who = other.who; job = k; operation = Logged (InstallsProgram also q (Raised b d)); save = w } ∷ []
    → ((a ≡ 6) × (b ≡ 7)) ⊎ ((a ≡ 7) × (b ≡ 6))
stored_serials stored o policy id is = serials_of_two (server_over stored id policy) 6 7 (six_and_seven stored id policy o is)

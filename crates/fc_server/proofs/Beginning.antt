-- At the beginning nothing has happened, and each slot is in its stored state.
use Rattle.std.proofs.Common.{◌≡◌, ℕ, zero, suc, ◌+◌, ◌*◌, ◌<◌, ◌≤◌, ◌/◌, ◌%◌, [], ◌∷◌, ◌++◌, List, length, map, replicate, get_or, refl, sym, ap, ◌∙◌, subst, arith, ⊎_elim, length-append}
use Rattle.std.proofs.lemmas.Bool.{cases_lt}
use Rattle.std.proofs.lemmas.List.{get_or_append_left}
use Rattle.std.proofs.lemmas.List.Elements.{All-nil}
use Rattle.std.proofs.lemmas.List.FromFn.{get_or-map-range_with_len, length-map-range_with_len}
use Rattle.std.proofs.Math.Seq.{get_or-append_seam}
use Rattle.fc_registry.specs.Restored.{empty_at, restored_slot}
use Rattle.fc_registry.specs.Shards.{AreShards, first_shards, no_shard, shard_at, slot_in_shards}
use Rattle.fc_registry.specs.Slots.{Shard, Slot, slot_in, new_slot}
use Rattle.fc_registry.specs.Starts.{shard_over, shards_over}
use Rattle.fc_registry.specs.Watches.{new_watches, watch_at}
use Rattle.fc_observe.specs.Observers.{ObserverList, no_observers}
use Rattle.fc_store.specs.Stored.{StoredSlots}
use Rattle.fc_core.specs.History.{Begins, BeginsWith, begun, seen}
use Rattle.fc_core.specs.Fits.{FitsSlot}
use Rattle.fc_front.specs.Heads.{first_word, first_words, no_words}
use Rattle.fc_front.specs.Exchanges.{first_front}
use Rattle.fc_front.specs.declared.policy.Policy.{Policy}
use Rattle.fc_core.proofs.Calling.{EntryWithin}
use Rattle.fc_server.specs.Agreement.{ShardsAgree}
use Rattle.fc_server.specs.Serving.{IsFirstServer, Serves}
use Rattle.fc_server.specs.States.{CanBeginWith, ServerState}

module _ (slots : ℕ → Slot) (confirm_after : ℕ) where
  new_at : (i : ℕ) → i < 8 → shard_at (shards_over slots confirm_after) i ≡ shard_over slots confirm_after i
  new_at i lt = get_or-map-range_with_len (shard_over slots confirm_after) 0 8 i i no_shard lt (omega arith)

  slots_new : (n : ℕ) → n < 64 → slot_in_shards (shards_over slots confirm_after) n ≡ slots n
  slots_new n lt =
      let number : 8 * (n / 8) + n % 8 ≡ n = omega arith in
      ap (λ (x : Shard). slot_in x n) (new_at (n % 8) (omega arith))
      ∙ (get_or-map-range_with_len (λ (k : ℕ). slots (8 * k + n % 8)) 0 8 (n / 8) (n / 8) (new_slot 0) (omega (arith, lt)) (omega arith)
      ∙ ap slots number)

length-new_watches : (i confirm_after n : ℕ) → length (new_watches i confirm_after n) ≡ n
length-new_watches i confirm_after zero = refl
length-new_watches i confirm_after (suc n) = let e = length-new_watches i confirm_after n in length-append (new_watches i confirm_after n) (no_observers (8 * n + i) confirm_after ∷ []) ∙ omega (arith, e)

-- each place of a new shard has no observers.
new_watch : (i confirm_after n k : ℕ) → k < n → get_or (new_watches i confirm_after n) k (no_observers 0 0) ≡ no_observers (8 * k + i) confirm_after
new_watch i confirm_after zero k lt = absurd (omega arith)
new_watch i confirm_after (suc n) k lt =
    let len = length-new_watches i confirm_after n in
    ⊎_elim
    (λ (low : k < n). get_or_append_left (new_watches i confirm_after n) (no_observers (8 * n + i) confirm_after ∷ []) (no_observers 0 0) k (omega (arith, len)) ∙ new_watch i confirm_after n k low)
    (λ (high : n ≤ k).
    let e : k ≡ length (new_watches i confirm_after n) = omega (arith, len) in
    ap (λ (j : ℕ). get_or (new_watches i confirm_after n ++ no_observers (8 * n + i) confirm_after ∷ []) j (no_observers 0 0)) e ∙ (get_or-append_seam (new_watches i confirm_after n) (no_observers (8 * n + i) confirm_after) [] (no_observers 0 0) ∙ ap (λ (j : ℕ). no_observers (8 * j + i) confirm_after) (sym (e ∙ len))))
    (cases_lt k n)

new_are_shards : (slots : ℕ → Slot) (confirm_after : ℕ) → AreShards (shards_over slots confirm_after)
new_are_shards slots confirm_after = record {
  count = refl;
  index = λ s lt. ap (λ (x : Shard). x.index) (new_at slots confirm_after s lt);
  size = λ s lt. ap (λ (x : Shard). length x.slots) (new_at slots confirm_after s lt);
  watched = λ s lt. ap (λ (x : Shard). length x.watches) (new_at slots confirm_after s lt) ∙ length-new_watches s confirm_after 8;
}

confirms_after : (slots : ℕ → Slot) (confirm_after i : ℕ) → i < 8 → map (λ (w : ObserverList). w.confirm_after) (shard_at (shards_over slots confirm_after) i).watches ≡ replicate 8 confirm_after
confirms_after slots confirm_after i lt = ap (λ (x : Shard). map (λ (w : ObserverList). w.confirm_after) x.watches) (new_at slots confirm_after i lt)

-- a server can begin with restored shards and their head words.
pub can_begin : (stored : StoredSlots) (confirm_after : ℕ) (s : ServerState) → s.shards ≡ shards_over (λ n. restored_slot (stored n)) confirm_after → s.words ≡ first_words (λ n. restored_slot (stored n)) → CanBeginWith s
can_begin stored confirm_after s shards words =
    let slots : ℕ → Slot = λ n. restored_slot (stored n) in
    record {
      shards = subst AreShards (sym shards) (new_are_shards slots confirm_after);
      confirms = λ i lt. subst (λ (xs : List Shard). map (λ (w : ObserverList). w.confirm_after) (shard_at xs i).watches ≡ replicate 8 (watch_at (shard_at xs 0) 0).confirm_after) (sym shards) (confirms_after slots confirm_after i lt);
      words = ap (λ (ws : List ℕ). length ws) words ∙ length-map-range_with_len (λ (n : ℕ). first_word (slots n)) 0 64;
    }

shards_begin : (stored : StoredSlots) (id : ℕ) (policy : Policy) → ShardsAgree (begun stored id policy) (shards_over (λ n. restored_slot (stored n)) policy.confirm_after)
shards_begin stored id policy =
    let slots : ℕ → Slot = λ n. restored_slot (stored n) in
    let after : ℕ = policy.confirm_after in
    record {
      are = new_are_shards slots after;
      slot = slots_new slots after;
      now = λ s lt. ap (λ (x : Shard). x.now) (new_at slots after s lt);
      watch = λ i k low lt. ap (λ (x : Shard). watch_at x k) (new_at slots after i low) ∙ new_watch i after 8 k lt;
    }

pub begins_with : (stored : StoredSlots) (id : ℕ) (policy : Policy) (s : ServerState) → s.front ≡ first_front policy id → s.shards ≡ shards_over (λ n. restored_slot (stored n)) policy.confirm_after
    → s.words ≡ first_words (λ n. restored_slot (stored n)) → ((n : ℕ) → FitsSlot (restored_slot (stored n)).present) → Serves (BeginsWith stored id policy) s []
unfolding seen
begins_with stored id policy s front shards words fits = record {
  legal = tt;
  means = tt;
  agrees = record {
    front = front;
    tasks = refl;
    words = words;
    shards = subst (ShardsAgree (begun stored id policy)) (sym shards) (shards_begin stored id policy);
    sound = record { chain = λ n. tt; within = λ k. (omega arith, tt); stages = λ k. tt; watched = λ n. All-nil EntryWithin };
    safe = record { slots = fits };
  };
}

-- the first shards are the new ones of empty slots.
empty_shards_are_new : (serial confirm_after : ℕ) → first_shards serial confirm_after ≡ shards_over (λ n. restored_slot (empty_at serial n)) confirm_after
empty_shards_are_new serial confirm_after = refl

empty_words : (serial : ℕ) → no_words ≡ first_words (λ n. restored_slot (empty_at serial n))
empty_words serial = refl

pub begins : (serial id : ℕ) (policy : Policy) (s : ServerState) → s.front ≡ first_front policy id → s.shards ≡ first_shards serial policy.confirm_after → s.words ≡ no_words → Serves (Begins serial id policy) s []
begins serial id policy s front shards words =
    begins_with (empty_at serial) id policy s front (shards ∙ empty_shards_are_new serial policy.confirm_after) (words ∙ empty_words serial) (λ n. tt)

-- restored slots and their head words are the first state of a server.
pub first_with : (stored : StoredSlots) (id : ℕ) (policy : Policy) (s : ServerState) → s.front ≡ first_front policy id → s.shards ≡ shards_over (λ n. restored_slot (stored n)) policy.confirm_after
    → s.words ≡ first_words (λ n. restored_slot (stored n)) → ((n : ℕ) → FitsSlot (restored_slot (stored n)).present) → IsFirstServer s
first_with stored id policy s front shards words fits =
    record { can = can_begin stored policy.confirm_after s shards words; history = BeginsWith stored id policy; serves = begins_with stored id policy s front shards words fits }

-- so are empty slots.
pub first_empty : (serial id : ℕ) (policy : Policy) (s : ServerState) → s.front ≡ first_front policy id → s.shards ≡ first_shards serial policy.confirm_after → s.words ≡ no_words → IsFirstServer s
first_empty serial id policy s front shards words =
    first_with (empty_at serial) id policy s front (shards ∙ empty_shards_are_new serial policy.confirm_after) (words ∙ empty_words serial) (λ n. tt)

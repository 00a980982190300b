-- Tracks that are each right make a log that is right by parts and by jobs.
use Rattle.std.proofs.Common.{◌≡◌, ◌≢◌, ◌⊎◌, ℕ, ◌+◌, ◌-◌, ◌<◌, ◌≤◌, Bool, true, false, List, [], ◌∷◌, Option, Some, None, refl, sym, ap, ◌∙◌, subst, ⊎_elim, inl, inr, arith}
use Rattle.std.specs.Prelude.{◌==◌, ◌||◌, ◌&&◌, if◌then◌else◌}
use Rattle.std.specs.List.{filter}
use Rattle.std.proofs.lemmas.Bool.Decides.{nat_tests}
use Rattle.fc_book.specs.declared.view.Track.{Track}
use Rattle.fc_book.specs.declared.view.BookView.{BookView}
use Rattle.fc_book.specs.Tracks.{AreOn, HasKey, is_on, on}
use Rattle.fc_core.specs.History.{History}
use Rattle.fc_registry.specs.Shards.{shard_at}
use Rattle.fc_server.specs.Serving.{Serves}
use Rattle.fc_server.specs.States.{ServerState}
use Rattle.fc_linear.specs.Operations.{FrontDoes, LogEntry, Operation, ServerPart, FrontPart, ShardPart, WordsPart, NoPart, ShardDoes, WordsDo, is_front, is_shard, is_words, part_of}
use Rattle.fc_linear.specs.Parts.{BringsItsJob, HaveNextNumbers, IsHistoryOf, LeadInOrder, RightByParts, bringing, concerns, history_on, AllOfServer}
use Rattle.fc_linear.proofs.Ordered.{whole}
use Rattle.fc_filed.specs.declared.entry.FiledEntry.{FiledEntry}
use Rattle.fc_store.specs.Recovery.{Save}
use Rattle.fc_filed.specs.Entries.{AreKeyed, ChangesWords, IsKeyed, OperationsLead, also_key, entry_keys, is_of_job, log_entry, log_of, part_key}
use Rattle.fc_filed.specs.Books.{HasServerHistory, IsRightForJob}
use Rattle.fc_filed.specs.Tracked.{AreTracksRight, HasTrackOf, LeadsPart, OwnsAll}
use Rattle.fc_filed.proofs.Keyed.{part_of_keyed}
use Rattle.fc_filed.proofs.Sent.{same_or_not}
use Rattle.fc_filed.proofs.Leading.{heads_log, lead_log}

not_same : (m n : ℕ) → m ≢ n → (m == n) ≡ false
not_same m n d = grind (d, arith, nat_tests)

next_same : (m n : ℕ) → (m == n) ≡ (m + 1 == n + 1)
next_same m n = grind (arith, nat_tests)

or_none : (b c d : Bool) → c ≡ false → d ≡ false → b ≡ (b || (c || d))
or_none true c d x y = refl
or_none false c d x y = rw (x, y) refl

or_last : (a b c : Bool) → a ≡ false → b ≡ false → c ≡ (a || (b || c))
or_last a b c x y = rw (x, y) refl

or_twice : (b c : Bool) → (b || (b || c)) ≡ (b || c)
or_twice true c = refl
or_twice false c = refl

-- only the store's track has entries by their save.
pub without_save : (part k : ℕ) (save : Option Save) (rest : Bool) → k ≢ 9 → ((part == k) || ((also_key part save == k) || rest)) ≡ ((part == k) || rest)
without_save part k None rest other = or_twice (part == k) rest
without_save part k (Some save) rest other = ap (λ (b : Bool). (part == k) || (b || rest)) (not_same 9 k (λ e. other (sym e)))

-- operations on the front's track belong to the front, and those on a shard's track to the shard.
front_key : (p : ServerPart) (who : ℕ) → 10 ≤ who → is_front p ≡ (part_key who p == 0)
front_key FrontPart who le = refl
front_key (ShardPart i) who le = sym (not_same (i + 1) 0 (λ e. absurd (omega (arith, e))))
front_key WordsPart who le = sym (not_same who 0 (λ e. absurd (omega (arith, e, le))))
front_key NoPart who le = sym (not_same who 0 (λ e. absurd (omega (arith, e, le))))

shard_key : (p : ServerPart) (i who : ℕ) → i < 8 → 10 ≤ who → is_shard i p ≡ (part_key who p == i + 1)
shard_key FrontPart i who low le = sym (not_same 0 (i + 1) (λ e. absurd (omega (arith, e))))
shard_key (ShardPart j) i who low le = next_same j i
shard_key WordsPart i who low le = sym (not_same who (i + 1) (λ e. absurd (omega (arith, e, le, low))))
shard_key NoPart i who low le = sym (not_same who (i + 1) (λ e. absurd (omega (arith, e, le, low))))

pub job_low : (first_job : ℕ) (e : FiledEntry) (b : Bool) → is_of_job e.operation ≡ b → IsKeyed first_job e → 10 ≤ e.job
job_low first_job e true is k = let le = k.job is in let low = k.who.0 in let high = k.who.1 in omega (arith, le, low, high)
job_low first_job e false is k = let same = k.none is in let low = k.who.0 in omega (arith, same, low)

by_number : (first_job j k : ℕ) (b : Bool) → (b ≡ true → first_job ≤ j) → (b ≡ false → j < first_job) → (b && (j - first_job == k)) ≡ (j == first_job + k)
by_number first_job j k true le lt = let h : first_job ≤ j = le refl in grind (h, arith, nat_tests)
by_number first_job j k false le lt = let h : j < first_job = lt refl in sym (not_same j (first_job + k) (λ e. absurd (omega (arith, e, h))))

module _ (first_job : ℕ) where
  pub on_front_track : (e : FiledEntry) → IsKeyed first_job e → is_front (part_of e.operation) ≡ is_on entry_keys 0 e
  on_front_track e k =
      let low = job_low first_job e (is_of_job e.operation) refl k in
      let who = k.who.0 in
      front_key (part_of e.operation) e.who who
      ∙ (or_none (part_key e.who (part_of e.operation) == 0) (e.who == 0) (e.job == 0) (not_same e.who 0 (λ z. absurd (omega (arith, z, who)))) (not_same e.job 0 (λ z. absurd (omega (arith, z, low))))
      ∙ sym (without_save (part_key e.who (part_of e.operation)) 0 e.save ((e.who == 0) || (e.job == 0)) (λ z. absurd (omega (arith, z)))))

  pub on_shard_track : (i : ℕ) → i < 8 → (e : FiledEntry) → IsKeyed first_job e → is_shard i (part_of e.operation) ≡ is_on entry_keys (i + 1) e
  on_shard_track i lt e k =
      let low = job_low first_job e (is_of_job e.operation) refl k in
      let who = k.who.0 in
      shard_key (part_of e.operation) i e.who lt who
      ∙ (or_none (part_key e.who (part_of e.operation) == i + 1) (e.who == i + 1) (e.job == i + 1) (not_same e.who (i + 1) (λ z. absurd (omega (arith, z, lt, who)))) (not_same e.job (i + 1) (λ z. absurd (omega (arith, z, lt, low))))
      ∙ sym (without_save (part_key e.who (part_of e.operation)) (i + 1) e.save ((e.who == i + 1) || (e.job == i + 1)) (λ z. absurd (omega (arith, z, lt)))))

  on_job_track : (n : ℕ) (e : FiledEntry) → IsKeyed first_job e → concerns n (log_entry first_job e) ≡ is_on entry_keys (first_job + n) e
  on_job_track n e k =
      let part = part_of_keyed first_job e k in
      let high = k.who.1 in
      by_number first_job e.job n (is_of_job e.operation) k.job (λ f. let same = k.none f in omega (arith, same, high))
      ∙ (or_last (part_key e.who (part_of e.operation) == first_job + n) (e.who == first_job + n) (e.job == first_job + n)
      (not_same (part_key e.who (part_of e.operation)) (first_job + n) (λ z. absurd (omega (arith, z, part)))) (not_same e.who (first_job + n) (λ z. absurd (omega (arith, z, high))))
      ∙ sym (without_save (part_key e.who (part_of e.operation)) (first_job + n) e.save ((e.who == first_job + n) || (e.job == first_job + n)) (λ z. absurd (let low = k.who.0 in omega (arith, z, high, low)))))

  kept_by : (b c : Bool) (x : LogEntry) (e : FiledEntry) (xs : List LogEntry) (es : List FiledEntry) → b ≡ c → x ≡ log_entry first_job e → xs ≡ log_of first_job es → (if b then x ∷ xs else xs) ≡ log_of first_job (if c then e ∷ es else es)
  kept_by b true x e xs es is same rest = rw is (λ i. same i ∷ rest i)
  kept_by b false x e xs es is same rest = rw is rest

  filtered : (p : LogEntry → Bool) (q : FiledEntry → Bool) (log : List FiledEntry) → ((e : FiledEntry) → IsKeyed first_job e → p (log_entry first_job e) ≡ q e) → AreKeyed first_job log → filter p (log_of first_job log) ≡ log_of first_job (filter q log)
  filtered p q [] same k = refl
  filtered p q (e ∷ es) same k = kept_by (p (log_entry first_job e)) (q e) (log_entry first_job e) e (filter p (log_of first_job es)) (filter q es) (same e k.0) refl (filtered p q es same k.1)

  all_of_server : (log : List FiledEntry) → AreKeyed first_job log → AllOfServer (log_of first_job log)
  all_of_server [] k = tt
  all_of_server (e ∷ es) k = (k.0.of_server, all_of_server es k.1)

  pub tracks_are_right : (log : List FiledEntry) (first end : ServerState) → AreTracksRight first_job log first end → RightByParts end first [] (log_of first_job log)
  tracks_are_right log first end t = record {
    front = subst (λ (l : List LogEntry). LeadInOrder FrontDoes l first.front end.front) (sym (filtered (λ e. is_front (part_of e.operation)) (is_on entry_keys 0) log on_front_track t.keyed)) (lead_log FrontDoes first_job (on entry_keys 0 log) first.front end.front t.front);
    shards = λ i lt. subst (λ (l : List LogEntry). LeadInOrder ShardDoes l (shard_at first.shards i) (shard_at end.shards i)) (sym (filtered (λ e. is_shard i (part_of e.operation)) (is_on entry_keys (i + 1)) log (on_shard_track i lt) t.keyed))
        (lead_log ShardDoes first_job (on entry_keys (i + 1) log) (shard_at first.shards i) (shard_at end.shards i) (t.shards i lt));
    words = subst (λ (l : List LogEntry). LeadInOrder WordsDo l first.words end.words) (sym (filtered (λ e. is_words (part_of e.operation)) (λ e. is_words (part_of e.operation)) log (λ e k. refl) t.keyed)) (heads_log first_job log first.words end.words t.heads);
    jobs = λ k lt. absurd (omega (arith, lt));
    to_come = λ k le. subst BringsItsJob (sym (filtered (concerns k) (is_on entry_keys (first_job + k)) log (on_job_track k) t.keyed)) (t.jobs k);
    numbered = t.numbered;
    of_server = all_of_server log t.keyed;
  }

pub tracks_make_history : (first_job : ℕ) (log : List FiledEntry) (h : History) (first end : ServerState) → Serves h first [] → AreTracksRight first_job log first end → IsHistoryOf (history_on h (log_of first_job log)) end
tracks_make_history first_job log h first end serves t = whole (log_of first_job log) h first end serves (tracks_are_right first_job log first end t)

-- ---- an owner of all tracks

track_is : (log entries : List FiledEntry) (ts : List (Track FiledEntry)) (k : ℕ) → AreOn entry_keys log ts → HasTrackOf k entries ts → entries ≡ on entry_keys k log
track_is log entries [] k a h = absurd h
track_is log entries (t ∷ ts) k a (inl x) = sym x.1 ∙ (a.0 ∙ ap (λ (j : ℕ). on entry_keys j log) x.0)
track_is log entries (t ∷ ts) k a (inr x) = track_is log entries ts k a.1 x

has_or_not : (ts : List (Track FiledEntry)) (k : ℕ) → ((entries : List FiledEntry) × HasTrackOf k entries ts) ⊎ (HasKey k ts → ⊥)
has_or_not [] k = inr (λ h. h)
has_or_not (t ∷ ts) k = ⊎_elim
    (λ (e : t.key ≡ k). inl (t.entries, inl (e, refl)))
    (λ (n : t.key ≢ k). ⊎_elim
    (λ (x : (entries : List FiledEntry) × HasTrackOf k entries ts). inl (x.0, inr x.1))
    (λ (no : HasKey k ts → ⊥). inr (λ h. ⊎_elim (λ (e : t.key ≡ k). n e) (λ (x : HasKey k ts). no x) h))
    (has_or_not ts k))
    (same_or_not t.key k)

module _ (first_job : ℕ) (v : BookView FiledEntry) (first end : ServerState) (h : HasServerHistory first_job first v) (all : OwnsAll first_job v first end) where
  part_leads : {S : Type 0} (Does : Operation → S → S → Type 0) (k : ℕ) (x y : S) → LeadsPart Does k v.own x y → OperationsLead Does (on entry_keys k h.log) x y
  part_leads Does k x y l = subst (λ (es : List FiledEntry). OperationsLead Does es x y) (track_is h.log l.entries v.own k h.is.own l.has) l.leads

  job_right : (k : ℕ) → first_job ≤ k → IsRightForJob first_job (on entry_keys k h.log)
  job_right k le = ⊎_elim
      (λ (x : (entries : List FiledEntry) × HasTrackOf k entries v.own). subst (λ (es : List FiledEntry). IsRightForJob first_job es) (track_is h.log x.0 v.own k h.is.own x.1) (all.jobs k x.0 le x.1))
      (λ (no : HasKey k v.own → ⊥). h.sent all.threads k le no)
      (has_or_not v.own k)

pub attested_make_history : (first_job : ℕ) (before : History) (first end : ServerState) (v : BookView FiledEntry) (h : HasServerHistory first_job first v) → Serves before first []
    → end.words ≡ h.words → HaveNextNumbers 0 (bringing (log_of first_job h.log)) → OwnsAll first_job v first end
    → IsHistoryOf (history_on before (log_of first_job h.log)) end
attested_make_history first_job before first end v h serves words numbered all = tracks_make_history first_job h.log before first end serves (record {
  front = part_leads first_job v first end h all FrontDoes 0 first.front end.front all.front;
  shards = λ i low. part_leads first_job v first end h all ShardDoes (i + 1) (shard_at first.shards i) (shard_at end.shards i) (all.shards i low);
  heads = subst (λ (ws : List ℕ). OperationsLead ChangesWords h.log first.words ws) (sym words) h.heads;
  jobs = λ k. job_right first_job v first end h all (first_job + k) (omega arith);
  numbered = numbered;
  keyed = h.keyed;
})

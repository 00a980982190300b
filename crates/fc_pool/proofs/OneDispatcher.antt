-- Only the dispatcher of a server with workers delivers datagrams.
use Rattle.std.proofs.Common.{◌≡◌, ◌∙◌, ◌⊎◌, ℕ, Bool, true, false, if◌then◌else◌, List, [], ◌∷◌, ◌++◌, map, Some, refl, sym, ap, subst, inl, inr, arith}
use Rattle.std.specs.Prelude.{◌==◌, slice_index_or}
use Rattle.std.specs.List.{All, Any}
use Rattle.std.proofs.lemmas.Bool.Decides.{nat_tests}
use Rattle.std.proofs.lemmas.List.Elements.{All-cons, All-head, All-nil, All-pop, All-tail}
use Rattle.fc_book.specs.Tracks.{entries_at}
use Rattle.fc_filed.specs.Entries.{entries_by}
use Rattle.fc_filed.specs.declared.entry.FiledEntry.{FiledEntry}
use Rattle.fc_server.specs.States.{ServerState}
use Rattle.fc_workers.specs.Views.{WorkerView, FilesCalls}
use Rattle.fc_workers.specs.Deliveries.{Delivery, deliveries_in, delivery_by}
use Rattle.fc_backend.specs.Logs.{TrackedLog, IsNewLog}
use Rattle.fc_backend.specs.RightTracks.{filed_in}
use Rattle.fc_locked.specs.OneOrder.{HaveOneOrder, logs_of}
use Rattle.fc_backend.specs.Statistics.{new_share, Share}
use Rattle.fc_workers.specs.Shares.{AreSharesOf, IsShareOf}
use Rattle.fc_workers.specs.Workers.{WorkerSeed}
use Rattle.fc_locked.specs.declared.closed.ClosedServer.{ClosedServer}
use Rattle.fc_workers.proofs.Deliveries.{turns_worked}
use Rattle.fc_locked.proofs.LegalOrder.{found}
use Rattle.fc_pool.proofs.Pools.{each_share, of_all}
use Rattle.fc_workers.proofs.Seats.{all_of_map}

-- ---- what holds of each thread's entries holds of all

-- each entry is by a thread with one of these logs.
abbrev HasCaller : List TrackedLog → FiledEntry → Type 0
HasCaller logs e = Any (λ (log : TrackedLog). log.who ≡ e.who) logs

module _ (P : FiledEntry → Type 0) where
  -- it holds of each entry of thread t.
  abbrev HaveBy : ℕ → List FiledEntry → Type 0
  HaveBy t [] = Unit {0}
  HaveBy t (e ∷ es) = (e.who ≡ t → P e) × HaveBy t es

  first_by : (b : Bool) (t : ℕ) (e : FiledEntry) (us : List FiledEntry) → (e.who == t) ≡ b
      → All P (if b then e ∷ us else us) → (e.who ≡ t → P e) × All P us
  first_by true t e us is all = (λ same. All-head P e us all, All-tail P e us all)
  first_by false t e us is all = (
    λ same.
        (let on : (e.who == t) ≡ true = grind (same, arith, nat_tests) in
        absurd (cc (sym on ∙ is))),
    all,
  )

  each_by : (t : ℕ) (es : List FiledEntry) → All P (entries_by t es) → HaveBy t es
  each_by t [] all = tt
  each_by t (e ∷ es) all =
      let first = first_by (e.who == t) t e (entries_by t es) refl all in
      (first.0, each_by t es first.1)

  every : (logs : List TrackedLog) (es : List FiledEntry) → All (HasCaller logs) es
      → ((t : ℕ) → Any (λ (log : TrackedLog). log.who ≡ t) logs → HaveBy t es) → All P es
  every logs [] callers per = All-nil P
  every logs (e ∷ es) callers per = All-cons P e es
      ((per e.who (All-head (HasCaller logs) e es callers)).0 refl)
      (every logs es (All-tail (HasCaller logs) e es callers) (λ t a. (per t a).1))

-- ---- entries without a delivery

abbrev HasNone : FiledEntry → Type 0
HasNone e = delivery_by e.operation ≡ []

both_none : (xs ys : List Delivery) → xs ++ ys ≡ [] → (xs ≡ []) × (ys ≡ [])
both_none [] ys is = (refl, is)
both_none (x ∷ xs) ys is = absurd (cc is)

none_in : (es : List FiledEntry) → deliveries_in es ≡ [] → All HasNone es
none_in [] is = All-nil HasNone
none_in (e ∷ es) is =
    let none = both_none (delivery_by e.operation) (deliveries_in es) is in
    All-cons HasNone e es none.0 (none_in es none.1)

module _ (who : ℕ) where
  -- the entry is by thread `who`, or has no delivery.
  abbrev IsByOrNone : FiledEntry → Type 0
  IsByOrNone e = (e.who ≡ who) ⊎ HasNone e

  own_by : (es : List FiledEntry) → HaveBy IsByOrNone who es
  own_by [] = tt
  own_by (e ∷ es) = (λ same. inl same, own_by es)

  none_by : (t : ℕ) (es : List FiledEntry) → deliveries_in (entries_by t es) ≡ []
      → HaveBy IsByOrNone t es
  none_by t es none =
      each_by IsByOrNone t es (λ i d lt. inr (none_in (entries_by t es) none i d lt))

  one_more : (b : Bool) (e : FiledEntry) (es : List FiledEntry) → (e.who == who) ≡ b → IsByOrNone e
      → deliveries_in (entries_by who es) ≡ deliveries_in es
      → deliveries_in (if b then e ∷ entries_by who es else entries_by who es)
      ≡ deliveries_in (e ∷ es)
  one_more true e es is by rest =
      ap (λ (ds : List Delivery). delivery_by e.operation ++ ds) rest
  one_more false e es is (inl same) rest =
      let on : (e.who == who) ≡ true = grind (same, arith, nat_tests) in absurd (cc (sym on ∙ is))
  one_more false e es is (inr none) rest =
      rest ∙ sym (ap (λ (ds : List Delivery). ds ++ deliveries_in es) none)

  all_by : (es : List FiledEntry) → All IsByOrNone es
      → deliveries_in (entries_by who es) ≡ deliveries_in es
  all_by [] all = refl
  all_by (e ∷ es) all = one_more (e.who == who) e es refl (All-head IsByOrNone e es all)
      (all_by es (All-tail IsByOrNone e es all))

-- ---- the threads of a server

module _ {T : Type 0} (first_job : ℕ) (s : WorkerView T) (files : FilesCalls s)
    (seats : List (WorkerSeed T)) (shares : List (Share T))
    (new : All (λ (seat : WorkerSeed T). IsNewLog seat.log) seats)
    (worked : AreSharesOf first_job s seats shares) where
  -- a worker has delivered nothing.
  abbrev HasNoneFiled : Share T → Type 0
  HasNoneFiled share = deliveries_in (filed_in share.log) ≡ []

  none_filed : (seat : WorkerSeed T) (share : Share T) → IsNewLog seat.log
      → IsShareOf first_job s seat share → HasNoneFiled share
  none_filed seat share fresh is =
      let who : ℕ = seat.log.who in
      let kept = turns_worked who s files first_job is.own.key.1 is.ended.jobs
      (new_share seat.got seat.tallies seat.log) share is.ended.turns
      (record { is = refl; low = is.own.key.0; own = is.own.own }) in
      ap (λ (n : ℕ). deliveries_in (entries_at n share.log.tracks.own)) kept.0.is
      ∙ (kept.1 ∙ ap deliveries_in (fresh who))

  none_worked : All HasNoneFiled shares
  none_worked = each_share first_job s files HasNoneFiled none_filed seats shares new worked

  module _ (first : ServerState) (own : Share T) (closed : ClosedServer)
      (order : HaveOneOrder first (logs_of shares own) closed) where
    -- the thread filed exactly its calls in the one order.
    abbrev IsFiled : TrackedLog → Type 0
    IsFiled log = filed_in log ≡ entries_by log.who order.calls

    abbrev workers : List TrackedLog
    workers = map (λ (share : Share T). share.log) shares

    all_filed : All IsFiled workers × IsFiled own.log
    all_filed = All-pop IsFiled (logs_of shares own) workers (Some own.log) refl order.own

    shares_filed : All (λ (share : Share T). IsFiled share.log) shares
    shares_filed = all_of_map IsFiled (λ (share : Share T). share.log) shares all_filed.0

    abbrev HasOwn : FiledEntry → Type 0
    HasOwn = IsByOrNone own.log.who

    -- each entry of the thread is by the dispatcher, or has no delivery.
    abbrev HasOwnOnly : TrackedLog → Type 0
    HasOwnOnly log = HaveBy HasOwn log.who order.calls

    threads_have : All HasOwnOnly (logs_of shares own)
    threads_have = of_all shares own HasOwnOnly
        (λ i d lt. none_by own.log.who (slice_index_or shares i d).log.who order.calls
        (ap deliveries_in (sym (shares_filed i d lt)) ∙ none_worked i d lt))
        (own_by own.log.who order.calls)

    thread_has : (t : ℕ) → Any (λ (log : TrackedLog). log.who ≡ t) (logs_of shares own)
        → HaveBy HasOwn t order.calls
    thread_has t a =
        subst (λ (n : ℕ). HaveBy HasOwn n order.calls) a.4
        (found (λ (log : TrackedLog). log.who ≡ t) HasOwnOnly (logs_of shares own) threads_have a)

    -- the dispatcher's deliveries are all.
    pub dispatcher_delivers : deliveries_in order.calls ≡ deliveries_in (filed_in own.log)
    dispatcher_delivers =
        sym (ap deliveries_in all_filed.1 ∙ all_by own.log.who order.calls
        (every HasOwn (logs_of shares own) order.calls order.callers thread_has))

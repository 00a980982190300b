-- The further blocks of a state, one after the other.
use Rattle.std.proofs.Common.{◌≡◌, ◌+◌, ◌%◌, ℕ, suc, max, inl, inr, List, [], ◌∷◌, ◌++◌, length, Some, None, Ok, refl, sym, ap, subst, ◌∙◌, add-one}
use Rattle.coap_msg.specs.Reading.{reading_of}
use Rattle.coap_msg.specs.Wire.{Message}
use Rattle.coap_client.specs.declared.fetcher.FetchFault.{FetchFault}
use Rattle.coap_client.specs.declared.fetcher.FetchFault.TheVariants as fault
use Rattle.coap_observer.specs.declared.joining.Joining.{Joining}
use Rattle.coap_observer.specs.declared.joining.Unfetched.{Unfetched}
use Rattle.coap_observer.specs.declared.joining.Unfetched.TheVariants as unfetched
use Rattle.coap_observer.specs.declared.notice.NotificationClass.TheVariants as notice
use Rattle.coap_observer.specs.declared.observing.Observer.{Observer}
use Rattle.coap_observer.specs.declared.watch.Observation.{Observation}
use Rattle.coap_client.specs.Fetching.{State, Ended, Lost, Outdated, after_reply}
use Rattle.coap_observer.specs.Notices.{IsOwnResponse, notice_after}
use Rattle.coap_observer.specs.Notes.{IsAwaitedBy, IsHandledFrom, IsResponseWith}
use Rattle.coap_client.specs.PeerCalls.{Adds, PeerCall, PeerError, Reads}
use Rattle.coap_observer.specs.Representations.{IsBlockAnswer, IsBlockRejection, IsBlockTransmission, IsFollowingFault, IsNoteFault, state_of}
use Rattle.coap_client.specs.Requests.{block_token}
use Rattle.coap_observer.specs.Completions.{AreBlockRequests, AreOutcomes, BlockOutcome, HasOutcome, IsFollowing, IsLastRequest, IsUnfetchedBy, IsMissingBy, IsBlockOutcome, IsBlockOutstanding, IsSupersededBy, Missing, NamesBlock, OlderNotification, Response, StateEnd, Superseded, block_id, following_id, id_after, next_block_id, reads_in, requests_until, state_from}
use Rattle.coap_client.specs.Transmissions.{AreBehind, MakesCalls}
use Rattle.coap_observer.proofs.ObserverFailing.{unfit_came}
use Rattle.coap_client.proofs.Transmitting.{Calls, both, does, does_both, does_nothing, does_of}

-- a notification that arrived while a block was requested can't be shown.
pub unfit_block : (went came : List ℕ → Type 0) (is_error : PeerError → Type 0) (o : Observer) (n szx id : ℕ) (bytes : List ℕ) (w : Observation) (m : Message) (time : ℕ) (f : FetchFault)
    → IsBlockAnswer went came o n szx id bytes → reading_of bytes ≡ Ok m → IsOwnResponse o.token m → IsNoteFault (notice_after w (max w.at time) m) f → IsFollowingFault came is_error o.token f
unfit_block went came is_error o n szx id bytes w m time fault.Silence a read own h = absurd h
unfit_block went came is_error o n szx id bytes w m time fault.Rejected a read own h = absurd h
unfit_block went came is_error o n szx id bytes w m time fault.Malformed a read own h = absurd h
unfit_block went came is_error o n szx id bytes w m time fault.Changed a read own h = absurd h
unfit_block went came is_error o n szx id bytes w m time fault.Part a read own h =
    let same : m ≡ a.message = cc (read, a.handled.read_is) in
    λ other. unfit_came went came o.token bytes w m (max w.at time) _ other (record { message = a.message; handled = a.handled; own = subst (IsOwnResponse o.token) same own }) read refl h
unfit_block went came is_error o n szx id bytes w m time (fault.Socket error) a read own h = absurd h
unfit_block went came is_error o n szx id bytes w m time (fault.Memory error) a read own h = tt

-- ---- one message

-- the response to the request.
pub response_outcome : (went came : List ℕ → Type 0) (told : ℕ → Type 0) (o : Observer) (w : Observation) (id : ℕ) (old : Joining) (bytes : List ℕ) (m : Message) (now : Calls) (state : State)
    → IsBlockAnswer went came o old.number old.szx id bytes → reading_of bytes ≡ Ok m → (IsOwnResponse o.token m → ⊥) → after_reply 0 m (state_of old) ≡ state
    → HasOutcome went came told (MakesCalls now now) o w id old bytes state
response_outcome went came told o w id old bytes m now state a read other leads =
    let same : a.message ≡ m = cc (read, a.handled.read_is) in
    let own : IsResponseWith (block_token id) id m = elim (subst (IsAwaitedBy o.token (block_token id) id) same a.own) as (λ _. IsResponseWith (block_token id) id m) [
      | inl response ↦ response
      | inr notification ↦ absurd (other notification)
    ] in
    record {
      outcome = Response m;
      is = record { asked = a.asked; bytes = bytes; handled = subst (IsHandledFrom went came bytes) same a.handled; own = own };
      read_is = read;
      leads = leads;
      called = does_nothing now (λ calls. calls ≡ []) refl;
    }

-- a notification that isn't newer.
pub older_outcome : (went came : List ℕ → Type 0) (told : ℕ → Type 0) (o : Observer) (w : Observation) (id : ℕ) (old : Joining) (bytes : List ℕ) (m : Message) (time : ℕ) (before after : Calls)
    → IsBlockAnswer went came o old.number old.szx id bytes → reading_of bytes ≡ Ok m → IsOwnResponse o.token m → told time → notice_after w (max w.at time) m ≡ notice.Older
    → Adds before after (Reads time ∷ []) → HasOutcome went came told (MakesCalls before after) o w id old bytes (state_of old)
older_outcome went came told o w id old bytes m time before after a read own is_time older reads =
    let same : a.message ≡ m = cc (read, a.handled.read_is) in
    record {
      outcome = OlderNotification m time;
      is = record { bytes = bytes; handled = subst (IsHandledFrom went came bytes) same a.handled; own = own; told_is = is_time; older = older };
      read_is = read;
      leads = refl;
      called = does before after (λ calls. calls ≡ Reads time ∷ []) (Reads time ∷ []) reads refl;
    }

-- ---- the requests so far

-- requests had these outcomes, which lead from one state to another. The next message ID is `next`.
pub record HasRequested (went came : List ℕ → Type 0) (told : ℕ → Type 0) (Makes : (List PeerCall → Type 0) → Type 0) (o : Observer) (w : Observation) (first next count : ℕ)
    (from to : State) : Type 0 where
  pub outcomes : List BlockOutcome
  pub are : AreOutcomes went came told o w first from outcomes
  pub leads : state_from from outcomes ≡ to
  pub next_is : next ≡ next_block_id o first outcomes
  pub count_is : length outcomes ≡ count
  pub called : Makes (AreBlockRequests o first from outcomes)

-- no request so far.
pub requests_nothing : (went came : List ℕ → Type 0) (told : ℕ → Type 0) (o : Observer) (w : Observation) (first : ℕ) (from : State) (now : Calls)
    → HasRequested went came told (MakesCalls now now) o w first first 0 from from
requests_nothing went came told o w first from now =
    record { outcomes = []; are = tt; leads = refl; next_is = refl; count_is = refl; called = does_nothing now (AreBlockRequests o first from []) refl }

-- an outcome adds its block to the state.
adds_outcome : (x : BlockOutcome) (xs : List BlockOutcome) (from middle : State) → state_from from xs ≡ middle → state_from from (x ∷ xs) ≡ state_from middle (x ∷ [])
adds_outcome (Response r) xs from middle leads = ap (after_reply 0 r) leads
adds_outcome (OlderNotification m time) xs from middle leads = leads

module _ (went came : List ℕ → Type 0) (told : ℕ → Type 0) (o : Observer) (w : Observation) (first next count id : ℕ) (from : State) (old : Joining) (before between : Calls) where
  -- the ID of the next request.
  id_follows : (h : HasRequested went came told (MakesCalls before between) o w first next count from (state_of old)) → id ≡ block_id o next → id ≡ following_id o first h.outcomes
  id_follows h is = is ∙ ap (block_id o) h.next_is

  -- a property of the next request.
  named : (h : HasRequested went came told (MakesCalls before between) o w first next count from (state_of old)) (P : ℕ → ℕ → ℕ → Type 0) → id ≡ block_id o next → P id old.number old.szx
      → NamesBlock (state_from from h.outcomes) (P (following_id o first h.outcomes))
  named h P is p =
      subst (λ s. NamesBlock s (P (following_id o first h.outcomes))) (sym h.leads)
      (subst (λ (x : ℕ). P x old.number old.szx) (id_follows h is) p)

  -- one more outcome.
  pub one_outcome : (asked after : Calls) (bytes : List ℕ) (to : State) → HasRequested went came told (MakesCalls before between) o w first next count from (state_of old) → id ≡ block_id o next
      → MakesCalls between asked (IsBlockTransmission o old.number old.szx id (Some bytes)) → HasOutcome went came told (MakesCalls asked after) o w id old bytes to
      → HasRequested went came told (MakesCalls before after) o w first ((id + 1) % 65536) (count + 1) from to
  one_outcome asked after bytes to h is transmitted x = record {
    outcomes = x.outcome ∷ h.outcomes;
    are = (h.are, named h (λ i. IsBlockOutcome went came told o w i x.outcome) is x.is);
    leads = adds_outcome x.outcome h.outcomes from (state_of old) h.leads ∙ x.leads;
    next_is = ap (λ (i : ℕ). (i + 1) % 65536) (id_follows h is);
    count_is = ap suc h.count_is ∙ sym (add-one count);
    called =
        does_both before between after (AreBlockRequests o first from h.outcomes) (AreBehind (IsBlockTransmission o old.number old.szx id (Some bytes)) (λ calls. calls ≡ reads_in x.outcome))
        (AreBlockRequests o first from (x.outcome ∷ h.outcomes)) h.called
        (both between asked after (IsBlockTransmission o old.number old.szx id (Some bytes)) (λ calls. calls ≡ reads_in x.outcome) transmitted x.called)
        (λ older newer a b. record {
          older = older;
          before = a;
          answer = bytes;
          read_is = x.read_is;
          last = b.older;
          transmission = named h (λ i n szx. IsBlockTransmission o n szx i (Some bytes) b.older) is b.first;
          is = ap (λ (y : List PeerCall). y ++ older) (b.is ∙ ap (λ (y : List PeerCall). y ++ b.older) b.then);
        });
  }

  -- the last request.
  last_request : (after : Calls) (h : HasRequested went came told (MakesCalls before between) o w first next count from (state_of old)) (end : StateEnd) (P : ℕ → List PeerCall → ℕ → ℕ → Type 0)
      → id ≡ block_id o next
      → ((calls : List PeerCall) → NamesBlock (state_from from h.outcomes) (P (following_id o first h.outcomes) calls) → IsLastRequest o (following_id o first h.outcomes) (state_from from h.outcomes) end calls)
      → MakesCalls between after (λ calls. P id calls old.number old.szx) → MakesCalls before after (IsFollowing o first from h.outcomes end)
  last_request after h end P is turns other =
      both before between after (AreBlockRequests o first from h.outcomes) (IsLastRequest o (following_id o first h.outcomes) (state_from from h.outcomes) end) h.called
      (does_of between after (λ calls. P id calls old.number old.szx) (IsLastRequest o (following_id o first h.outcomes) (state_from from h.outcomes) end) other
      (λ calls p. turns calls (named h (λ i n szx. P i calls n szx) is p)))

  -- the request has no response.
  pub silent : (after : Calls) (h : HasRequested went came told (MakesCalls before between) o w first next count from (state_of old)) → id ≡ block_id o next
      → MakesCalls between after (IsBlockTransmission o old.number old.szx id None) → MakesCalls before after (IsFollowing o first from h.outcomes (Missing unfetched.Silence))
  silent after h is other = last_request after h (Missing unfetched.Silence) (λ i calls n szx. IsBlockTransmission o n szx i None calls) is (λ calls p. p) other

  -- it is rejected.
  pub rejected : (after : Calls) (h : HasRequested went came told (MakesCalls before between) o w first next count from (state_of old)) → id ≡ block_id o next
      → MakesCalls between after (IsBlockRejection o old.number old.szx id) → MakesCalls before after (IsFollowing o first from h.outcomes (Missing unfetched.Rejected))
  rejected after h is other = last_request after h (Missing unfetched.Rejected) (λ i calls n szx. IsBlockRejection o n szx i calls) is (λ calls p. p) other

  -- a newer notification arrives.
  pub overtaken : (asked after : Calls) (bytes : List ℕ) (time : ℕ) (h : HasRequested went came told (MakesCalls before between) o w first next count from (state_of old)) → id ≡ block_id o next
      → MakesCalls between asked (IsBlockTransmission o old.number old.szx id (Some bytes)) → MakesCalls asked after (λ calls. calls ≡ Reads time ∷ [])
      → MakesCalls before after (IsFollowing o first from h.outcomes (Superseded bytes time))
  overtaken asked after bytes time h is transmitted reads =
      last_request after h (Superseded bytes time) (λ i calls n szx. IsSupersededBy o i bytes time calls n szx) is (λ calls p. p)
      (does_both between asked after (IsBlockTransmission o old.number old.szx id (Some bytes)) (λ calls. calls ≡ Reads time ∷ []) (λ calls. IsSupersededBy o id bytes time calls old.number old.szx) transmitted reads
      (λ older newer a b. record { older = older; transmission = a; is = ap (λ (y : List PeerCall). y ++ older) b }))

  -- a request is outstanding.
  pub outstanding : (h : HasRequested went came told (MakesCalls before between) o w first next count from (state_of old)) → IsBlockOutstanding (state_from from h.outcomes)
  outstanding h = subst IsBlockOutstanding (sym h.leads) tt

-- no request follows.
pub no_more : (o : Observer) (first : ℕ) (from : State) (xs : List BlockOutcome) (end : StateEnd) (before after : Calls) → MakesCalls before after (AreBlockRequests o first from xs)
    → ((calls : List PeerCall) → calls ≡ [] → IsLastRequest o (following_id o first xs) (state_from from xs) end calls) → MakesCalls before after (IsFollowing o first from xs end)
no_more o first from xs end before after one ends =
    both before after after (AreBlockRequests o first from xs) (IsLastRequest o (following_id o first xs) (state_from from xs) end) one (does_nothing after _ (ends [] refl))

-- ---- the end of the state

-- the requests so far end the state for this reason, and no request follows.
pub record IsMissingFrom (went came : List ℕ → Type 0) (told : ℕ → Type 0) (Makes : (List PeerCall → Type 0) → Type 0) (o : Observer) (w : Observation) (first next count : ℕ) (from : State)
    (cause : Unfetched) : Type 0 where
  pub outcomes : List BlockOutcome
  pub are : AreOutcomes went came told o w first from outcomes
  pub missing : IsUnfetchedBy (state_from from outcomes) (length outcomes) cause
  pub requests_are : requests_until (Missing cause) (length outcomes) ≡ count
  pub next_is : next ≡ next_block_id o first outcomes
  pub called : Makes (AreBlockRequests o first from outcomes)
  pub ends : (calls : List PeerCall) → calls ≡ [] → IsLastRequest o (following_id o first outcomes) (state_from from outcomes) (Missing cause) calls
  pub next_same : next_block_id o first outcomes ≡ id_after o first outcomes (Missing cause)

-- the last response is the reason why the further blocks can't be fetched.
pub missing : (went came : List ℕ → Type 0) (told : ℕ → Type 0) (Makes : (List PeerCall → Type 0) → Type 0) (o : Observer) (w : Observation) (first next count : ℕ) (from : State) (cause : Unfetched)
    (Leads : State → Type 0) → ((to : State) → Leads to → HasRequested went came told Makes o w first next count from to) → IsMissingBy cause Leads
    → IsMissingFrom went came told Makes o w first next count from cause
missing went came told Makes o w first next count from unfetched.Silence Leads requests h = absurd h
missing went came told Makes o w first next count from unfetched.Rejected Leads requests h = absurd h
missing went came told Makes o w first next count from (unfetched.Refused code) Leads requests h =
    let r = requests (Ended code.byte h.1.0) h.1.1 in
    record { outcomes = r.outcomes; are = r.are; next_is = r.next_is; called = r.called; missing = (h.0, (h.1.0, r.leads)); requests_are = r.count_is; ends = λ calls none. none; next_same = refl }
missing went came told Makes o w first next count from unfetched.Changed Leads requests h =
    let r = requests Outdated h in
    record { outcomes = r.outcomes; are = r.are; next_is = r.next_is; called = r.called; missing = r.leads; requests_are = r.count_is; ends = λ calls none. none; next_same = refl }
missing went came told Makes o w first next count from unfetched.Malformed Leads requests h =
    let r = requests Lost h in
    record { outcomes = r.outcomes; are = r.are; next_is = r.next_is; called = r.called; missing = r.leads; requests_are = r.count_is; ends = λ calls none. none; next_same = refl }
missing went came told Makes o w first next count from unfetched.TooMany Leads requests h = absurd h

-- the code of an end.
pub code_of : (code same : ℕ) (body other : List ℕ) → Ended code body ≡ Ended same other → code ≡ same
code_of code same body other is = ap code_in is
  where
    code_in : State → ℕ
    code_in (Ended x b) = x
    code_in other = code

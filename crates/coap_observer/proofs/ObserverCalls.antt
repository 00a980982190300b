-- The calls of an observer.
use Rattle.std.proofs.Common.{◌≡◌, ◌≤◌, ◌⊎◌, ◌+◌, ◌^◌, ℕ, zero, suc, max, inl, inr, Bool, true, false, List, [], ◌∷◌, ◌++◌, Ok, Option, Some, None, refl, sym, subst, ap, ◌∙◌, append_assoc, arith}
use Rattle.coap_msg.specs.Reading.{reading_of}
use Rattle.coap_msg.specs.Wire.{Message}
use Rattle.coap_observer.specs.declared.notice.NotificationClass.{NotificationClass}
use Rattle.coap_observer.specs.declared.notice.NotificationClass.TheVariants.{Older}
use Rattle.coap_client.specs.declared.transmission.ReplyClass.{ReplyClass}
use Rattle.coap_client.specs.declared.transmission.ReplyClass.TheVariants.{Reply, Separate, Repeat, Acknowledged, Rejected, Other}
use Rattle.coap_observer.specs.declared.watch.Observation.{Observation}
use Rattle.coap_client.specs.Handled.{IsReadAs}
use Rattle.coap_client.specs.Listening.{ArePassedOver, EndsOn, IsOver, IsPassedOver, acknowledges, is_passed_over}
use Rattle.coap_observer.specs.Notes.{HasArrived, HasOwnResponse, IsAcknowledgementOf, IsAwaitedBy, IsResponseWith, TellsRequest}
use Rattle.coap_observer.specs.Notices.{IsOwnResponse, notice_after}
use Rattle.coap_observer.specs.ObserverCalls.{AcknowledgesNotification, AreObserverSteps, AwaitsNotification, Dated, IsDatedRegistration, IsAcknowledgedLeaving, IsNoNotification, IsNoticed, IsObservation, IsObserverStep, IsObserving, IsOlderNotification, IsPassedOverLeaving, IsPassedOverWatching, dates}
use Rattle.coap_client.specs.PeerCalls.{Adds, PeerCall, Reads, Receives, Waits}
use Rattle.coap_client.specs.Replies.{IsReset}
use Rattle.coap_observer.specs.declared.observing.Observer.{Observer}
use Rattle.coap_client.specs.Transmissions.{MakesCalls}
use Rattle.coap_client.proofs.Transmitting.{Calls, Passes, does, does_both, does_nothing, does_of, does_then, passed}

suc_left : (k j : ℕ) → suc (k + j) ≡ suc k + j
suc_left k j = omega arith

-- if a datagram is skipped while a request is outstanding, nothing is sent after it.
pub passed_quietly : (token own : List ℕ) (id : ℕ) (awaited : Bool) (bytes : List ℕ) (handled : ReplyClass) (now : Calls) → TellsRequest token own id bytes handled → is_passed_over awaited handled ≡ true
    → MakesCalls now now (IsPassedOver (TellsRequest token own id) awaited bytes)
passed_quietly token own id awaited bytes Reply now told over = absurd (cc over)
passed_quietly token own id awaited bytes Separate now told over = absurd told.holds
passed_quietly token own id awaited bytes Repeat now told over = absurd told.holds
passed_quietly token own id awaited bytes Acknowledged now told over = passed (TellsRequest token own id) awaited bytes Acknowledged now now told over (λ calls h. h)
passed_quietly token own id awaited bytes Rejected now told over = absurd (cc over)
passed_quietly token own id awaited bytes Other now told over = passed (TellsRequest token own id) awaited bytes Other now now told over (λ calls h. h)

-- if a datagram ends the wait, and is neither an acknowledgement nor a rejection, it is a response
-- or a notification.
pub arrived : (came : List ℕ → Type 0) (token own : List ℕ) (id : ℕ) (awaited : Bool) (bytes : List ℕ) (handled : ReplyClass) → came bytes → TellsRequest token own id bytes handled
    → is_passed_over awaited handled ≡ false → (handled ≡ Acknowledged → ⊥) → (handled ≡ Rejected → ⊥) → HasArrived came (IsAwaitedBy token own id) bytes
arrived came token own id awaited bytes Reply came_is told ends acknowledged rejected = record { message = told.message; came_is = came_is; read_is = told.read_is; holds = told.holds }
arrived came token own id awaited bytes Separate came_is told ends acknowledged rejected = absurd told.holds
arrived came token own id awaited bytes Repeat came_is told ends acknowledged rejected = absurd told.holds
arrived came token own id awaited bytes Acknowledged came_is told ends acknowledged rejected = absurd (acknowledged refl)
arrived came token own id awaited bytes Rejected came_is told ends acknowledged rejected = absurd (rejected refl)
arrived came token own id awaited bytes Other came_is told ends acknowledged rejected = absurd (cc ends)

-- what a registration waits for, a response or a notification, is a response with the observer's
-- token.
pub own_response : (token : List ℕ) (id : ℕ) (m : Message) → IsAwaitedBy token token id m → IsResponseWith token id m
own_response token id m (inl response) = response
own_response token id m (inr notification) = inr notification

-- if the calls after a notification acknowledge it, the notification is acknowledged as required.
pub acknowledged : (token bytes : List ℕ) (before after : Calls) → IsReadAs bytes (IsOwnResponse token) → Adds before after (acknowledges bytes)
    → MakesCalls before after (AcknowledgesNotification token bytes)
acknowledged token bytes before after own adds = does before after (AcknowledgesNotification token bytes) (acknowledges bytes) adds (inl (own, refl))

pub unacknowledged : (token bytes : List ℕ) (now : Calls) → (IsReadAs bytes (IsOwnResponse token) → ⊥) → MakesCalls now now (AcknowledgesNotification token bytes)
unacknowledged token bytes now other = does now now (AcknowledgesNotification token bytes) [] (λ calls h. h) (inr (other, refl))

-- if a datagram neither acknowledges nor rejects the deregistration, and a notification is
-- acknowledged, the datagram is skipped.
pub passed_leaving : (token : List ℕ) (id : ℕ) (bytes : List ℕ) (before after : Calls) → (IsReadAs bytes (IsAcknowledgementOf id) → ⊥) → (IsReadAs bytes (IsReset id) → ⊥)
    → MakesCalls before after (AcknowledgesNotification token bytes) → MakesCalls before after (IsPassedOverLeaving token id bytes)
passed_leaving token id bytes before after acknowledges_it rejects one =
    does_of before after (AcknowledgesNotification token bytes) (IsPassedOverLeaving token id bytes) one
    (λ sent h. record { acknowledged = acknowledges_it; rejected = rejects; notification = h })

pub left : (token : List ℕ) (id : ℕ) (bytes : List ℕ) (before after : Calls) → IsReadAs bytes (IsAcknowledgementOf id)
    → MakesCalls before after (EndsOn (IsPassedOverLeaving token id) bytes) → MakesCalls before after (IsAcknowledgedLeaving token id)
left token id bytes before after own one =
    does_of before after (EndsOn (IsPassedOverLeaving token id) bytes) (IsAcknowledgedLeaving token id) one (λ calls h. record { bytes = bytes; acknowledges_it = own; ends = h })

-- ---- notifications

pub no_notification : (token bytes : List ℕ) (now : Calls) → (IsReadAs bytes (IsOwnResponse token) → ⊥) → MakesCalls now now (IsNoNotification token bytes)
no_notification token bytes now other = does now now (IsNoNotification token bytes) [] (λ calls h. h) (other, refl)

-- the wait ended on a notification, which was acknowledged if it is confirmable.
pub record EndsAcknowledged (passes : Passes) (bytes : List ℕ) (calls : List PeerCall) : Type 0 where
  pub handled : List PeerCall
  pub ends : EndsOn passes bytes handled
  pub is : calls ≡ acknowledges bytes ++ handled

-- if a wait ended on a notification, it was acknowledged, and the clock was read, then it is
-- noticed as in `IsNoticed`.
pub noticed : (token : List ℕ) (passes : Passes) (bytes : List ℕ) (time : ℕ) (before between acknowledged after : Calls) → IsReadAs bytes (IsOwnResponse token)
    → MakesCalls before between (EndsOn passes bytes) → Adds between acknowledged (acknowledges bytes) → Adds acknowledged after (Reads time ∷ [])
    → MakesCalls before after (IsNoticed token passes bytes time)
noticed token passes bytes time before between acknowledged after own one adds reads =
    does_then before acknowledged after (EndsAcknowledged passes bytes) (IsNoticed token passes bytes time) (Reads time ∷ [])
    (does_then before between acknowledged (EndsOn passes bytes) (EndsAcknowledged passes bytes) (acknowledges bytes) one adds (λ handled h. record { handled = handled; ends = h; is = refl })) reads
    (λ calls h. record { own = own; handled = h.handled; ends = h.ends; is = ap (λ (x : List PeerCall). Reads time ∷ x) h.is })

-- if n datagrams were skipped, and then m more, m + n datagrams were skipped.
passed_behind : (other passes : Passes) → ((bytes : List ℕ) (sent : List PeerCall) → other bytes sent → passes bytes sent) → (m n : ℕ) (newer older : List PeerCall)
    → ArePassedOver other m newer → ArePassedOver passes n older → ArePassedOver passes (m + n) (newer ++ older)
passed_behind other passes turns zero n newer older none are =
    subst (λ k. ArePassedOver passes k (newer ++ older)) (omega arith) (subst (λ (x : List PeerCall). ArePassedOver passes n (x ++ older)) (sym none) are)
passed_behind other passes turns (suc m) n newer older one are =
    subst (λ k. ArePassedOver passes k (newer ++ older)) (suc_left m n) (record {
      older = one.older ++ older;
      before = passed_behind other passes turns m n one.older older one.before are;
      bytes = one.bytes;
      sent = one.sent;
      passed = turns one.bytes one.sent one.passed;
      is = ap (λ (x : List PeerCall). x ++ older) one.is ∙ append_assoc one.sent (Receives (Some one.bytes) ∷ one.older) older;
    })

-- at least `least` datagrams were skipped.
pub record HasPassed (passes : Passes) (least : ℕ) (calls : List PeerCall) : Type 0 where
  pub n : ℕ
  pub many : least ≤ n
  pub are : ArePassedOver passes n calls

pub none_passed : (passes : Passes) (now : Calls) → MakesCalls now now (HasPassed passes 0)
none_passed passes now = does_nothing now (HasPassed passes 0) (record { n = 0; many = omega arith; are = refl })

pub enough_passed : (passes : Passes) (least : ℕ) (before after : Calls) → 2 ^ 64 ≤ least + 1 → MakesCalls before after (HasPassed passes least) → MakesCalls before after (IsOver passes)
enough_passed passes least before after full one =
    does_of before after (HasPassed passes least) (IsOver passes) one
    (λ handled h. record { n = h.n; older = handled; before = h.are; is = inr (refl, (let m = h.many in omega (arith, m, full))) })

awaits_behind : (token : List ℕ) (other passes : Passes) → ((bytes : List ℕ) (sent : List PeerCall) → other bytes sent → passes bytes sent) → (least : ℕ) (older newer : List PeerCall) (answer : Option Dated)
    → HasPassed passes least older → AwaitsNotification token other answer newer → AwaitsNotification token passes answer (newer ++ older)
awaits_behind token other passes turns least older newer None a b = record {
  n = b.n + a.n;
  older = b.older ++ older;
  before = passed_behind other passes turns b.n a.n b.older older b.before a.are;
  is = elim b.is as (λ _. (newer ++ older ≡ Receives None ∷ b.older ++ older) ⊎ ((newer ++ older ≡ b.older ++ older) × (2 ^ 64 ≤ b.n + a.n + 1))) [
    | inl timed ↦ inl (ap (λ (x : List PeerCall). x ++ older) timed)
    | inr full ↦ inr (ap (λ (x : List PeerCall). x ++ older) full.0, (let m = full.1 in omega (arith, m)))
  ];
}
awaits_behind token other passes turns least older newer (Some (bytes, time)) a b =
    let ends = b.ends in
    record {
      own = b.own;
      handled = b.handled ++ older;
      ends = record {
        n = ends.n + a.n;
        older = ends.older ++ older;
        before = passed_behind other passes turns ends.n a.n ends.older older ends.before a.are;
        is = ap (λ (x : List PeerCall). x ++ older) ends.is;
      };
      is = ap (λ (x : List PeerCall). x ++ older) b.is ∙ append_assoc (dates bytes time) b.handled older;
    }

watching : (told : ℕ → Type 0) (token : List ℕ) (w : Observation) (bytes : List ℕ) (sent : List PeerCall) → IsNoNotification token bytes sent → IsPassedOverWatching told token w bytes sent
watching told token w bytes sent none = inr none

-- if datagrams were skipped, and then a notification arrived or the wait was over, all these calls
-- are those of one wait.
pub awaits_next : (told : ℕ → Type 0) (token : List ℕ) (w : Observation) (least : ℕ) (answer : Option Dated) (before between after : Calls)
    → MakesCalls before between (HasPassed (IsPassedOverWatching told token w) least) → MakesCalls between after (AwaitsNotification token (IsNoNotification token) answer)
    → MakesCalls before after (AwaitsNotification token (IsPassedOverWatching told token w) answer)
awaits_next told token w least answer before between after one other =
    let passes = IsPassedOverWatching told token w in
    does_both before between after (HasPassed passes least) (AwaitsNotification token (IsNoNotification token) answer) (AwaitsNotification token passes answer) one other
    (λ older newer a b. awaits_behind token (IsNoNotification token) passes (watching told token w) least older newer answer a b)

-- if the next notification isn't to be shown, it is one more skipped datagram.
pub older_passed : (told : ℕ → Type 0) (token : List ℕ) (w : Observation) (least : ℕ) (bytes : List ℕ) (time : ℕ) (before between after : Calls)
    → IsOlderNotification told token w bytes (dates bytes time) → MakesCalls before between (HasPassed (IsPassedOverWatching told token w) least)
    → MakesCalls between after (AwaitsNotification token (IsNoNotification token) (Some (bytes, time)))
    → MakesCalls before after (HasPassed (IsPassedOverWatching told token w) (least + 1))
older_passed told token w least bytes time before between after is_older one other =
    let passes = IsPassedOverWatching told token w in
    does_both before between after (HasPassed passes least) (IsNoticed token (IsNoNotification token) bytes time) (HasPassed passes (least + 1)) one other
    (λ older newer a b.
    let ends = b.ends in
    let many : least ≤ a.n = a.many in
    record {
      n = suc (ends.n + a.n);
      many = omega (arith, many);
      are = record {
        older = ends.older ++ older;
        before = passed_behind (IsNoNotification token) passes (watching told token w) ends.n a.n ends.older older ends.before a.are;
        bytes = bytes;
        sent = dates bytes time;
        passed = inl is_older;
        is = ap (λ (x : List PeerCall). x ++ older) b.is ∙ append_assoc (dates bytes time) b.handled older ∙ ap (λ (x : List PeerCall). dates bytes time ++ (x ++ older)) ends.is;
      };
    })

-- if a notification that arrived is classified as `Older`, it is skipped as an older notification.
pub is_older : (went came : List ℕ → Type 0) (told : ℕ → Type 0) (token bytes : List ℕ) (w now : Observation) (m : Message) (time at : ℕ) (notice : NotificationClass) → HasOwnResponse went came token bytes
    → reading_of bytes ≡ Ok m → told time → now ≡ w → at ≡ max now.at time → notice ≡ notice_after now at m → notice ≡ Older → IsOlderNotification told token w bytes (dates bytes time)
is_older went came told token bytes w now m time at notice own read told_is same is_at is older =
    let spelled : own.message ≡ m = cc (own.handled.read_is, read) in
    record {
      message = m;
      read_is = read;
      own = subst (IsOwnResponse token) spelled own.own;
      time = time;
      told_is = told_is;
      older = subst (λ (x : Observation). notice_after x (max x.at time) m ≡ Older) same (subst (λ (x : ℕ). notice_after now x m ≡ Older) is_at (sym is ∙ older));
      sent_is = refl;
    }

-- ---- a registered observer

one_more_step : (token : List ℕ) (older step : List PeerCall) → IsObserverStep token step → IsObserving token older → IsObserving token (step ++ older)
one_more_step token older step is_step steps = (suc steps.0, record { older = older; before = steps.1; step = step; is_step = is_step; is = refl })

-- if a registered observer begins a wait, its calls are still those of a registered observer.
pub waiting_step : (token : List ℕ) (seconds : ℕ) (older : List PeerCall) → IsObserving token older → IsObserving token (Waits seconds ∷ older)
waiting_step token seconds older steps = one_more_step token older (Waits seconds ∷ []) (inl (seconds, refl)) steps

-- if a registered observer reads the clock, its calls are still those of a registered observer.
pub reading_step : (token : List ℕ) (time : ℕ) (older : List PeerCall) → IsObserving token older → IsObserving token (Reads time ∷ older)
reading_step token time older steps = one_more_step token older (Reads time ∷ []) (inr (inr (inl (time, refl)))) steps

-- if a datagram arrives, and a notification is acknowledged, the calls are still those of a
-- registered observer.
step_of : (token bytes : List ℕ) (sent older : List PeerCall) → AcknowledgesNotification token bytes sent → IsObserving token older → IsObserving token (sent ++ Receives (Some bytes) ∷ older)
step_of token bytes sent older acknowledged steps =
    subst (IsObserving token) (append_assoc sent (Receives (Some bytes) ∷ []) older)
    (one_more_step token older (sent ++ Receives (Some bytes) ∷ []) (inr (inr (inr (record { bytes = bytes; sent = sent; acknowledged = acknowledged; is = refl })))) steps)

-- if a notification arrives, is acknowledged, and the clock is read, the calls are still those of a
-- registered observer.
dated_step : (token bytes : List ℕ) (time : ℕ) (older : List PeerCall) → IsReadAs bytes (IsOwnResponse token) → IsObserving token older
    → IsObserving token (dates bytes time ++ Receives (Some bytes) ∷ older)
dated_step token bytes time older own steps = reading_step token time (acknowledges bytes ++ Receives (Some bytes) ∷ older) (step_of token bytes (acknowledges bytes) older (inl (own, refl)) steps)

watched : (told : ℕ → Type 0) (token : List ℕ) (w : Observation) (bytes : List ℕ) (sent older : List PeerCall) → IsPassedOverWatching told token w bytes sent → IsObserving token older
    → IsObserving token (sent ++ Receives (Some bytes) ∷ older)
watched told token w bytes sent older (inl n) steps =
    subst (λ (x : List PeerCall). IsObserving token (x ++ Receives (Some bytes) ∷ older)) (sym n.sent_is)
    (dated_step token bytes n.time older (record { message = n.message; read_is = n.read_is; holds = n.own }) steps)
watched told token w bytes sent older (inr none) steps = step_of token bytes sent older (inr none) steps

passed_steps : (told : ℕ → Type 0) (token : List ℕ) (w : Observation) (n : ℕ) (calls : List PeerCall) → ArePassedOver (IsPassedOverWatching told token w) n calls → IsObserving token calls
passed_steps told token w zero calls none = (0, none)
passed_steps told token w (suc n) calls one =
    subst (IsObserving token) (sym one.is) (watched told token w one.bytes one.sent one.older one.passed (passed_steps told token w n one.older one.before))

pub awaited_steps : (told : ℕ → Type 0) (token : List ℕ) (w : Observation) (answer : Option Dated) (calls : List PeerCall) → AwaitsNotification token (IsPassedOverWatching told token w) answer calls
    → IsObserving token calls
awaited_steps told token w None calls o =
    let steps = passed_steps told token w o.n o.older o.before in
    elim o.is as (λ _. IsObserving token calls) [
      | inl timed ↦ subst (IsObserving token) (sym timed) (one_more_step token o.older (Receives None ∷ []) (inr (inl refl)) steps)
      | inr full ↦ subst (IsObserving token) (sym full.0) steps
    ]
awaited_steps told token w (Some (bytes, time)) calls x =
    let ends = x.ends in
    let steps = passed_steps told token w ends.n ends.older ends.before in
    subst (IsObserving token) (sym (x.is ∙ ap (λ (l : List PeerCall). dates bytes time ++ l) ends.is)) (dated_step token bytes time ends.older x.own steps)

steps_behind : (token : List ℕ) (m n : ℕ) (newer older : List PeerCall) → AreObserverSteps token m newer → AreObserverSteps token n older → AreObserverSteps token (m + n) (newer ++ older)
steps_behind token zero n newer older none are =
    subst (λ k. AreObserverSteps token k (newer ++ older)) (omega arith) (subst (λ (x : List PeerCall). AreObserverSteps token n (x ++ older)) (sym none) are)
steps_behind token (suc m) n newer older one are =
    subst (λ k. AreObserverSteps token k (newer ++ older)) (suc_left m n) (record {
      older = one.older ++ older;
      before = steps_behind token m n one.older older one.before are;
      step = one.step;
      is_step = one.is_step;
      is = ap (λ (x : List PeerCall). x ++ older) one.is ∙ append_assoc one.step one.older older;
    })

pub observed : (token : List ℕ) (newer older : List PeerCall) → IsObserving token newer → IsObserving token older → IsObserving token (newer ++ older)
observed token newer older a b = (a.0 + b.0, steps_behind token a.0 b.0 newer older a.1 b.1)

-- no calls are those of a registered observer.
pub observes_nothing : (token : List ℕ) (now : Calls) → MakesCalls now now (IsObserving token)
observes_nothing token now = does_nothing now (IsObserving token) (0, refl)

-- if a registered observer awaits a notification, its calls are still those of a registered
-- observer.
pub awaits_observing : (told : ℕ → Type 0) (token : List ℕ) (w : Observation) (answer : Option Dated) (before between after : Calls) → MakesCalls before between (IsObserving token)
    → MakesCalls between after (AwaitsNotification token (IsPassedOverWatching told token w) answer) → MakesCalls before after (IsObserving token)
awaits_observing told token w answer before between after one other =
    does_both before between after (IsObserving token) (AwaitsNotification token (IsPassedOverWatching told token w) answer) (IsObserving token) one other
    (λ older newer a b. observed token newer older (awaited_steps told token w answer newer b) a)

-- if a wait begins after calls of a registered observer, all are calls of a registered observer.
pub waits_observing : (token : List ℕ) (seconds : ℕ) (before between after : Calls) → MakesCalls before between (IsObserving token) → Adds between after (Waits seconds ∷ [])
    → MakesCalls before after (IsObserving token)
waits_observing token seconds before between after one adds =
    does_then before between after (IsObserving token) (IsObserving token) (Waits seconds ∷ []) one adds
    (λ older steps. waiting_step token seconds older steps)

-- after the registration and a reading of the clock, the calls are those of an observation.
pub registered : (o : Observer) (before after : Calls) → MakesCalls before after (IsDatedRegistration o) → MakesCalls before after (IsObservation o)
registered o before after one =
    does_of before after (IsDatedRegistration o) (IsObservation o) one (λ calls a. record { older = calls; first = a; newer = []; then = (0, refl); is = refl })

pub observes : (o : Observer) (before between after : Calls) → MakesCalls before between (IsObservation o) → MakesCalls between after (IsObserving o.token) → MakesCalls before after (IsObservation o)
observes o before between after one other =
    does_both before between after (IsObservation o) (IsObserving o.token) (IsObservation o) one other
    (λ older newer a b. record {
      older = a.older;
      first = a.first;
      newer = newer ++ a.newer;
      then = observed o.token newer a.newer b a.then;
      is = ap (λ (x : List PeerCall). newer ++ x) a.is ∙ sym (append_assoc newer a.newer a.older);
    })

pub observes_waiting : (o : Observer) (seconds : ℕ) (before between after : Calls) → MakesCalls before between (IsObservation o) → Adds between after (Waits seconds ∷ [])
    → MakesCalls before after (IsObservation o)
observes_waiting o seconds before between after one adds =
    observes o before between after one (waits_observing o.token seconds between between after (observes_nothing o.token between) adds)

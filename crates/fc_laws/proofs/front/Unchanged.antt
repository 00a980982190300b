-- Effects of a refusal.
use Rattle.std.proofs.Common.{◌≡◌, ℕ, ◌≤◌, List, [], ◌∷◌, ◌++◌, map, cond, not, Bool, true, false, Option, Some, None, Ok, Err, refl, sym, ap, ◌∙◌, subst, max, arith}
use Rattle.std.specs.Prelude.{filter, find}
use Rattle.std.specs.Borrow.{Bor}
use Rattle.std.specs.Option.{option_map}
use Rattle.std.proofs.lemmas.List.{append-nil}
use Rattle.coap_msg.specs.declared.types.Bad.TheVariants as bad
use Rattle.coap_msg.specs.declared.types.Emission.{Emission}
use Rattle.coap_msg.specs.declared.types.Endpoint.{Endpoint}
use Rattle.coap_msg.specs.Wire.{Message}
use Rattle.coap_opts.specs.Values.{Place}
use Rattle.coap_opts.specs.Verdict.{Asked, Verdict, IsSilent, verdict}
use Rattle.coap_block.specs.declared.transfer.Transfer.{Transfer}
use Rattle.coap_block.specs.Transfers.{transfers}
use Rattle.coap_block.specs.UnderWay.{bytes_held}
use Rattle.coap_block.specs.Uploads.{Add, Continues, IsWhole, IsIncomplete, IsBadLength, IsTooLarge, IsFull, add_of, after_add, after_block, body_among, is_transfer_of, is_under_way, kept_transfer, live, others, same_key, unless_more}
use Rattle.coap_reply.specs.Responses.{bare, settled_by}
use Rattle.fc_laws.specs.BodyLaws.{Asks, RespondsNowBy}
use Rattle.fc_core.specs.declared.event.Event.{Event}
use Rattle.fc_core.specs.declared.event.Event.TheVariants.{Deliver}
use Rattle.fc_laws.specs.ExchangeLaws.{ExceedsShare, FindsNoExchange, IsOpening}
use Rattle.fc_core.specs.History.{Entry, Seen, and_then, did, exchanges_received, front_at, received_at}
use Rattle.fc_front.specs.Receiving.{Received, Full, Ignored, Rejected, Immediate, Silenced, Unanswered, add_in, added_by, brought, is_confirmable, next_opening, over_share, received_added, received_as, slot_asked}
use Rattle.fc_laws.specs.RefusalLaws.{ByCode, FindsNoRoom, InSilence, IsAboveShare, IsNoMessage, IsNoRequest, IsRefusedByCheck, IsRejected, IsTurnedDown, LeavesAll, LeavesAllButExchange, LeavesAllButTransfer, sender}
use Rattle.fc_laws.specs.ReplyLaws.{Refuses, Rejects}
use Rattle.fc_core.specs.Stages.{new_task}
use Rattle.fc_laws.proofs.front.Bodies.{requests_add}
use Rattle.fc_laws.proofs.front.BlockCauses.{responding_waits}
use Rattle.fc_laws.proofs.front.Refusing.{refused_brings, refused_is, rejected_is}
use Rattle.fc_laws.proofs.front.Repeats.{new_as, opening_is, received_of, requests_open}
use Rattle.fc_laws.proofs.front.Room.{full_is, over_is}

-- ---- messages that are turned down

-- a classified datagram without an effect.
abbrev IsNothing : Received → Type 0
IsNothing Ignored = Unit {0}
IsNothing (Rejected id) = Unit {0}
IsNothing (Full m) = Unit {0}
IsNothing Unanswered = Unit {0}
IsNothing other = ⊥

module _ (s : Seen) (now : ℕ) (to : Endpoint) (bytes : Bor (List ℕ)) (o : Option Emission) where
  nothing_opened : (x : Received) → IsNothing x → exchanges_received x to o s now ≡ s.exchanges
  nothing_opened Ignored w = append-nil s.exchanges
  nothing_opened (Rejected id) w = append-nil s.exchanges
  nothing_opened (Full m) w = append-nil s.exchanges
  nothing_opened Unanswered w = append-nil s.exchanges
  nothing_opened other w = absurd w

  nothing_brought : (x : Received) → IsNothing x → s.tasks ++ map new_task (brought x (next_opening (front_at s now)) to) ≡ s.tasks
  nothing_brought Ignored w = append-nil s.tasks
  nothing_brought (Rejected id) w = append-nil s.tasks
  nothing_brought (Full m) w = append-nil s.tasks
  nothing_brought Unanswered w = append-nil s.tasks
  nothing_brought other w = absurd w

  nothing_added : (x : Received) → IsNothing x → added_by x (max s.time now) to ++ s.additions ≡ s.additions
  nothing_added Ignored w = refl
  nothing_added (Rejected id) w = refl
  nothing_added (Full m) w = refl
  nothing_added Unanswered w = refl
  nothing_added other w = absurd w

  left_by : (x : Received) → received_at s now to bytes.now ≡ x → IsNothing x → LeavesAll s (and_then (did (Deliver now to bytes) o) s)
  left_by x is w = record {
    slots = record { stored = refl; slots = λ n. refl; words = refl };
    jobs = record {
      tasks = ap (λ (y : Received). s.tasks ++ map new_task (brought y (next_opening (front_at s now)) to)) is ∙ nothing_brought x w;
      observers = λ n. refl;
    };
    front = record {
      exchanges = ap (λ (y : Received). exchanges_received y to o s now) is ∙ nothing_opened x w;
      additions = ap (λ (y : Received). added_by y (max s.time now) to ++ s.additions) is ∙ nothing_added x w;
    };
  }

rejected_left : (e : Event) (o : Option Emission) (s : Seen) (to : Endpoint) (id : ℕ) → Rejects e to id → LeavesAll s (and_then (did e o) s)
rejected_left (Deliver now from bytes) o s to id w = left_by s now from bytes o (Rejected id) (rejected_is s now from bytes.now id w.1) tt
rejected_left other o s to id w = absurd w

crowded_left : (e : Event) (o : Option Emission) (s : Seen) (m : Message) → FindsNoExchange s e m → LeavesAll s (and_then (did e o) s)
crowded_left (Deliver now to bytes) o s m w = left_by s now to bytes o (Full m) (full_is s now to bytes.now m w) tt
crowded_left other o s m w = absurd w

over_nothing : (c : Bool) (m : Message) → IsNothing (over_share c m)
over_nothing true m = tt
over_nothing false m = tt

pub over_left : (e : Event) (o : Option Emission) (s : Seen) (m : Message) → ExceedsShare s e m → LeavesAll s (and_then (did e o) s)
over_left (Deliver now to bytes) o s m w =
    left_by s now to bytes o (over_share (is_confirmable m.kind) m) (over_is s now to bytes.now m w) (over_nothing (is_confirmable m.kind) m)
over_left other o s m w = absurd w

turned_by : (e : Event) (o : Option Emission) (s : Seen) → IsTurnedDown s e → LeavesAll s (and_then (did e o) s)
turned_by e o s (IsNoMessage now to bytes is read) =
    subst (λ (x : Event). LeavesAll s (and_then (did x o) s)) (sym is) (left_by s now to bytes o Ignored
    (received_of (front_at s now) to bytes.now (Err bad.Ignore) read) tt)
turned_by e o s (IsNoRequest now to bytes m is read ignored) =
    subst (λ (x : Event). LeavesAll s (and_then (did x o) s)) (sym is) (left_by s now to bytes o Ignored
    (received_of (front_at s now) to bytes.now (Ok m) read ∙ ap (λ (v : Verdict). received_as (front_at s now) to m v) ignored) tt)
turned_by e o s (IsRejected to id w) = rejected_left e o s to id w
turned_by e o s (FindsNoRoom m w) = crowded_left e o s m w
turned_by e o s (IsAboveShare m w) = over_left e o s m w

pub turned_down_left : (r : Entry) (s : Seen) → IsTurnedDown s r.event → LeavesAll s (and_then r s)
turned_down_left r s w = turned_by r.event r.emitted s w

-- ---- requests that a check refuses

code_left : (e : Event) (o : Option Emission) (s : Seen) (m : Message) (answer : ℕ) → Refuses s e m answer → LeavesAllButExchange (did e o) s
code_left (Deliver now to bytes) o s m answer w = record {
  slots = record { stored = refl; slots = λ n. refl; words = refl };
  jobs = record { tasks = refused_brings (did (Deliver now to bytes) o) s m answer w; observers = λ n. refl };
  exchange = requests_open (did (Deliver now to bytes) o) s w.opens;
  additions = ap (λ (y : Received). added_by y (max s.time now) to ++ s.additions) (refused_is s now to bytes.now m answer w);
}
code_left other o s m answer w = absurd w

silence_left : (o : Option Emission) (s : Seen) (now : ℕ) (to : Endpoint) (bytes : Bor (List ℕ)) (w : IsOpening s now to bytes.now)
    → verdict w.message ≡ IsSilent → LeavesAllButExchange (did (Deliver now to bytes) o) s
silence_left o s now to bytes w silent =
    let is : received_at s now to bytes.now ≡ Silenced w.message = opening_is s now to bytes.now w
    ∙ ap (λ (v : Verdict). new_as (front_at s now) to v w.message) silent in
    record {
      slots = record { stored = refl; slots = λ n. refl; words = refl };
      jobs = record {
        tasks = ap (λ (y : Received). s.tasks ++ map new_task (brought y (next_opening (front_at s now)) to)) is ∙ append-nil s.tasks;
        observers = λ n. refl;
      };
      exchange = requests_open (did (Deliver now to bytes) o) s w;
      additions = ap (λ (y : Received). added_by y (max s.time now) to ++ s.additions) is;
    }

check_by : (e : Event) (o : Option Emission) (s : Seen) → IsRefusedByCheck s e → LeavesAllButExchange (did e o) s
check_by e o s (ByCode m answer w) = code_left e o s m answer w
check_by e o s (InSilence now to bytes is opens silent) = subst (λ (x : Event). LeavesAllButExchange (did x o) s) (sym is)
    (silence_left o s now to bytes opens silent)

pub refused_left : (r : Entry) (s : Seen) → IsRefusedByCheck s r.event → LeavesAllButExchange r s
refused_left r s w = check_by r.event r.emitted s w

-- ---- a block that is refused

-- if the transfers that don't pass a test have no transfer of a key, neither have those without the
-- first one, which doesn't pass.
gone_by : (p q : Transfer → Bool) (x : Transfer) (fs : List Transfer) (b c : Bool) → p x ≡ b → q x ≡ c → find p (filter q fs) ≡ None
    → find p (filter q (cond (not b) (x ∷ fs) fs)) ≡ None
gone_by p q x fs true c is its none = none
gone_by p q x fs false true is its none = ap (λ (d : Bool). find p (cond d (x ∷ filter q fs) (filter q fs))) its
    ∙ (ap (λ (d : Bool). cond d (Some x) (find p (filter q fs))) is ∙ none)
gone_by p q x fs false false is its none = ap (λ (d : Bool). find p (cond d (x ∷ filter q fs) (filter q fs))) its ∙ none

none_of_key : (to : Endpoint) (n at : ℕ) (held : List Transfer) → find (is_transfer_of to n) (live at (others to n held)) ≡ None
none_of_key to n at [] = refl
none_of_key to n at (x ∷ held) = gone_by (is_transfer_of to n) (is_under_way at) x (others to n held) (is_transfer_of to n x)
    (is_under_way at x) refl refl (none_of_key to n at held)

nothing_kept : (more : Bool) (at : ℕ) (to : Endpoint) (n : ℕ) (x : Add) → (unless_more more x ≡ Continues → ⊥) → kept_transfer more at to n x ≡ []
nothing_kept true at to n (IsWhole body) not_on = absurd (not_on refl)
nothing_kept false at to n (IsWhole body) not_on = refl
nothing_kept true at to n Continues not_on = refl
nothing_kept false at to n Continues not_on = refl
nothing_kept true at to n IsIncomplete not_on = refl
nothing_kept false at to n IsIncomplete not_on = refl
nothing_kept true at to n IsBadLength not_on = refl
nothing_kept false at to n IsBadLength not_on = refl
nothing_kept true at to n IsTooLarge not_on = refl
nothing_kept false at to n IsTooLarge not_on = refl
nothing_kept true at to n IsFull not_on = refl
nothing_kept false at to n IsFull not_on = refl

-- the options of the response that is sent immediately.
abbrev settled_options : Received → List (ℕ × List ℕ)
settled_options (Immediate m q response) = response.options
settled_options other = []

abbrev block1_of : Option Place → List (ℕ × List ℕ)
block1_of p = (settled_by 95 p).options

-- a block that is answered by a code alone wasn't accepted with more blocks to follow.
not_continued : (x : Add) (m : Message) (q : Asked) (b : Place) (answer : ℕ) → q.block1 ≡ Some b → received_added x m q ≡ Immediate m q (bare answer)
    → x ≡ Continues → ⊥
not_continued x m q b answer block is on =
    let at : received_added Continues m q ≡ Immediate m q (bare answer) = subst (λ (y : Add). received_added y m q ≡ Immediate m q (bare answer)) on is in
    let opts : block1_of q.block1 ≡ [] = ap settled_options at in
    let some : block1_of (Some b) ≡ [] = subst (λ (p : Option Place). block1_of p ≡ []) block opts in
    absurd (cc some)

module _ (s : Seen) (now : ℕ) (to : Endpoint) (bytes : Bor (List ℕ)) (o : Option Emission) (m : Message) (q : Asked) (b : Place) (answer : ℕ)
    (w : Asks s (Deliver now to bytes) m q) (block : q.block1 ≡ Some b) (is : RespondsNowBy s (Deliver now to bytes) m q answer) where
  abbrev at : ℕ
  at = max s.time now

  abbrev n : ℕ
  n = slot_asked q.action

  abbrev held : List Transfer
  held = transfers s.additions

  -- the transfers after the event are those after the request's block.
  after_is : transfers (and_then (did (Deliver now to bytes) o) s).additions ≡ after_block held at to n b q.payload
  after_is =
      ap transfers (requests_add (did (Deliver now to bytes) o) s m q w)
      ∙ ap (λ (p : Option Place). after_add held at to n p q.payload) block

  stops : unless_more b.more (body_among (live at held) to n b q.payload) ≡ Continues → ⊥
  stops on = not_continued (add_in (front_at s now) to q) m q b answer block is (ap (λ (p : Option Place). add_of held at to n p q.payload) block ∙ on)

  left_is : after_block held at to n b q.payload ≡ others to n (live at held)
  left_is =
      ap (λ (l : List Transfer). others to n (live at held) ++ l) (nothing_kept b.more at to n (body_among (live at held) to n b q.payload) stops)
      ∙ append-nil (others to n (live at held))

  pub block_gone : bytes_held at to n (transfers (and_then (did (Deliver now to bytes) o) s).additions) ≡ None
  block_gone =
      ap (bytes_held at to n) (after_is ∙ left_is)
      ∙ ap (option_map (λ (t : Transfer). t.body.items)) (none_of_key to n at (live at held))

  -- if each block leaves the transfers of other endpoints and slots unchanged, the event leaves all
  -- but one transfer unchanged.
  pub block_left : ((from : Endpoint) (k : ℕ) → same_key to n from k ≡ false → find (is_transfer_of from k)
      (live at (after_block held at to n b q.payload)) ≡ find (is_transfer_of from k) (live at held))
      → LeavesAllButTransfer (did (Deliver now to bytes) o) s to n
  block_left rest = record {
    slots = record { stored = refl; slots = λ k. refl; words = refl };
    jobs = record { tasks = responding_waits (Deliver now to bytes) o s m q answer w is; observers = λ k. refl };
    exchange = requests_open (did (Deliver now to bytes) o) s w.opens;
    gone = block_gone;
    others = λ from k other. ap (bytes_held at from k) after_is ∙ ap (option_map (λ (t : Transfer). t.body.items)) (rest from k other);
  }

-- each block leaves the transfers of other endpoints and slots unchanged.
abbrev pub LeavesOthers : Type 0
LeavesOthers = (held : List Transfer) (at now : ℕ) (from to : Endpoint) (m n : ℕ) (b : Place) (bytes : List ℕ) → at ≤ now → same_key from m to n ≡ false
    → find (is_transfer_of to n) (live now (after_block held at from m b bytes)) ≡ find (is_transfer_of to n) (live now held)

pub blocks_left : LeavesOthers → (e : Event) (o : Option Emission) (s : Seen) (m : Message) (q : Asked) (b : Place) (answer : ℕ) → Asks s e m q
    → q.block1 ≡ Some b → RespondsNowBy s e m q answer → LeavesAllButTransfer (did e o) s (sender e) (slot_asked q.action)
blocks_left rest (Deliver now to bytes) o s m q b answer w block is = block_left s now to bytes o m q b answer w block is
    (λ from k other. rest (transfers s.additions) (max s.time now) (max s.time now) to from (slot_asked q.action) k b q.payload (omega arith) other)
blocks_left rest other o s m q b answer w block is = absurd w

-- The requests of an observer, and the classification of the responses to them (RFC 7641).
use Rattle.std.specs.Prelude.{◌≡◌, ℕ, ◌+◌, ◌-◌, ◌&&◌, ◌||◌, Bool, true, false, is_some, not, nat_eq, nat_lt, nat_le, filter, if◌then◌else◌, List, [], ◌∷◌, ◌++◌, length, Option, Some, None}
use Rattle.std.specs.List.{list_any}
use Rattle.coap_msg.specs.Windows.{within_window}
use Rattle.coap_msg.specs.Wire.{Message}
use Rattle.coap_msg.specs.Values.{values_in}
use Rattle.coap_msg.specs.declared.types.MessageType.TheVariants.{Acknowledgement, Confirmable}
use Rattle.coap_opts.specs.Fields.{method_code}
use Rattle.coap_opts.specs.Values.{uint_bytes, uint_value}
use Rattle.coap_opts.specs.declared.number.TheConstants as option
use Rattle.coap_opts.specs.declared.request.Method.TheVariants.{Get}
use Rattle.coap_client.specs.declared.client_request.ClientRequest.{ClientRequest}
use Rattle.coap_observer.specs.declared.notice.ObserveOption.{ObserveOption}
use Rattle.coap_observer.specs.declared.notice.ObserveOption.TheVariants.{Register, Deregister}
use Rattle.coap_observer.specs.declared.notice.NotificationClass.{NotificationClass}
use Rattle.coap_observer.specs.declared.notice.NotificationClass.TheVariants.{State, Older, Last, Malformed}
use Rattle.coap_client.specs.declared.reply.Next.{Next}
use Rattle.coap_client.specs.declared.reply.Next.TheVariants as next
use Rattle.coap_observer.specs.declared.watch.ShownMark.{ShownMark}
use Rattle.coap_observer.specs.declared.watch.Observation.{Observation}
use Rattle.coap_client.specs.Parts.{largest_szx, resource_options}
use Rattle.coap_client.specs.Paths.{slices_in}
use Rattle.coap_client.specs.Replies.{begins_exchange, first_or_none, is_response, is_success, is_understood, next_of_answer}

-- the value of the Observe option: 0 registers, and 1 deregisters (RFC 7641, section 2).
abbrev pub observe_value : ObserveOption → ℕ
observe_value Register = 0
observe_value Deregister = 1

-- the GET with a token that registers or deregisters an observer of a client request's resource
-- (RFC 7641, sections 3.1 and 3.6).
abbrev pub observe_request : ClientRequest → ObserveOption → List ℕ → ℕ → Message
observe_request e interest token id = record {
  kind = Confirmable;
  code = method_code Get;
  id = id;
  token = token;
  options = (option.OBSERVE, uint_bytes (observe_value interest)) ∷ resource_options (slices_in e.target.path.segments.items) (slices_in e.target.query.items);
  payload = [];
}

-- the message is the piggybacked response to the request with this message ID and token (RFC 7252,
-- section 5.2.1).
pub record IsReplyWith (token : List ℕ) (id : ℕ) (m : Message) : Type 0 where
  pub kind : m.kind ≡ Acknowledgement
  pub id_is : m.id ≡ id
  pub token_is : m.token ≡ token
  pub response : is_response m.code ≡ true

-- the message is a separate response to a request with this token; each notification is such a
-- response (RFC 7641, section 1.2).
pub record IsOwnResponse (token : List ℕ) (m : Message) : Type 0 where
  pub kind : begins_exchange m.kind ≡ true
  pub token_is : m.token ≡ token
  pub response : is_response m.code ≡ true

-- the sequence number of a state: the value of Observe, of at most 3 bytes (RFC 7641, sections 2
-- and 3.4).
abbrev pub sequence_in : Option (List ℕ) → Option ℕ
sequence_in None = None
sequence_in (Some value) = if nat_le (length value) 3 then Some (uint_value value) else None

abbrev pub sequence_of : Message → Option ℕ
sequence_of m = sequence_in (first_or_none (values_in option.OBSERVE m.options))

-- the state of sequence number v2, which arrived at t2, is newer than the state of v1, which
-- arrived at t1; times are in milliseconds (RFC 7641, section 3.4).
abbrev pub is_newer : ℕ → ℕ → ℕ → ℕ → Bool
is_newer v1 t1 v2 t2 =
    (nat_lt v1 v2 && nat_lt (v2 - v1) 8388608) || ((nat_lt v2 v1 && nat_lt 8388608 (v1 - v2)) || nat_lt (t1 + 128000) t2)

-- by this next step, no block follows.
abbrev pub is_last_part : Next → Bool
is_last_part next.Last = true
is_last_part other = false

-- by this next step, more blocks follow.
abbrev pub is_first_part : Next → Bool
is_first_part (next.Ask part) = true
is_first_part other = false

-- the message is a success, and is the first of several blocks (RFC 7959, section 2.4).
abbrev pub begins_blocks : Message → Bool
begins_blocks m = is_understood m && (is_first_part (next_of_answer 0 largest_szx m) && is_success m.code)

-- the message is the first of several blocks of a state: it has a sequence number (RFC 7641,
-- section 3.4; RFC 7959, section 2.6).
abbrev pub begins_state : Message → Bool
begins_state m = begins_blocks m && is_some (sequence_of m)

-- the message can be shown: no critical option is unknown or repeated, and the message is whole by
-- itself or begins a state. The other blocks of that state can be requested (RFC 7959, sections 2.4
-- and 2.6).
abbrev pub can_be_shown : Message → Bool
can_be_shown m = (is_understood m && is_last_part (next_of_answer 0 largest_szx m)) || begins_state m

-- the message is a success without a sequence number, and is the first of several blocks. So the
-- server doesn't notify the client (RFC 7641, section 4.1; RFC 7959, section 2.6).
abbrev pub is_unobserved : Message → Bool
is_unobserved m = begins_blocks m && not (is_some (sequence_of m))

-- a success with a sequence number is a state, and more may follow. A success without one is the
-- last response, as is an error (RFC 7641, sections 3.2 and 4.2).
abbrev pub by_sequence : Option ℕ → NotificationClass
by_sequence None = Last
by_sequence (Some v) = State v

abbrev pub by_success : Message → NotificationClass
by_success m = if is_success m.code then by_sequence (sequence_of m) else Last

abbrev pub notice_of : Message → NotificationClass
notice_of m = if can_be_shown m then by_success m else Malformed

-- a message with this message ID was shown less than 247 s before `at`. So a message that arrives
-- at `at` with that ID is a duplicate (RFC 7252, section 4.5).
abbrev pub is_shown_again : List ShownMark → ℕ → ℕ → Bool
is_shown_again marks id at = list_any (λ k. nat_eq k.id id && within_window at k.at) marks

-- the classification of a separate response at this time, given the observation so far.
abbrev pub by_age : Observation → ℕ → NotificationClass → NotificationClass
by_age w at (State v) = if is_newer w.sequence w.at v at then State v else Older
by_age w at other = other

abbrev pub notice_after : Observation → ℕ → Message → NotificationClass
notice_after w at m = if is_shown_again w.marks.items m.id at then Older else by_age w at (notice_of m)

abbrev pub mark : ℕ → ℕ → ShownMark
mark id at = record { id = id; at = at }

-- the marks after the first message shown: one mark if the message is a separate response.
abbrev pub first_marks : Message → ℕ → List ShownMark
first_marks m at = if begins_exchange m.kind then mark m.id at ∷ [] else []

-- the marks that are less than 247 s old at this time, followed by one for this message ID.
abbrev pub marked : List ShownMark → ℕ → ℕ → List ShownMark
marked marks id at = filter (λ k. within_window at k.at) marks ++ mark id at ∷ []

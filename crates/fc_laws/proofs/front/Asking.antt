-- A job that a delivered message makes has the fields of that message's request.
use Rattle.std.proofs.Common.{◌≡◌, ◌≢◌, ℕ, ◌+◌, ◌<◌, ◌≤◌, Bool, true, false, List, [], ◌∷◌, ◌++◌, length, map, Option, Some, None, Ok, refl, sym, ap, ◌∙◌, subst, arith, max, if◌then◌else◌}
use Rattle.std.specs.Prelude.{◌↔◌, ◌==◌, ◌||◌, codes, if◌then◌else◌, nat_lt}
use Rattle.std.specs.List.{flat_map, join_by}
use Rattle.std.specs.Str.{bytes_eq}
use Rattle.std.proofs.lemmas.Slice.Eq.{bytes_eq-Decides}
use Rattle.std.proofs.lemmas.Bool.{le-ltb, ne_eqb}
use Rattle.std.proofs.lemmas.List.{append-nil, append_cancel_left}
use Rattle.coap_msg.specs.declared.types.Endpoint.{Endpoint}
use Rattle.coap_msg.specs.declared.types.MessageType.{MessageType}
use Rattle.coap_msg.specs.declared.types.MessageType.TheVariants.{Confirmable, NonConfirmable, Acknowledgement, Reset}
use Rattle.coap_msg.specs.Reading.{reading_of}
use Rattle.coap_msg.specs.Wire.{Message}
use Rattle.coap_opts.specs.declared.number.TheConstants as option
use Rattle.coap_opts.specs.declared.request.Method.{Method}
use Rattle.coap_opts.specs.declared.request.Method.TheVariants as methods
use Rattle.coap_opts.specs.declared.request.Resource.{Resource}
use Rattle.coap_opts.specs.declared.request.Resource.TheVariants as resources
use Rattle.coap_opts.specs.Fields.{IsMadeOf, method_code, IsResource, path_of, method_in, IsBlockFor}
use Rattle.coap_opts.specs.Path.{method_of, resource_of}
use Rattle.coap_opts.specs.Values.{Place}
use Rattle.coap_opts.specs.declared.request.Action.{Action}
use Rattle.coap_opts.specs.declared.request.Action.TheVariants as actions
use Rattle.coap_opts.specs.Served.{action_of, resource_in}
use Rattle.coap_opts.specs.Verdict.{Asked, Verdict, IsAsked, IsRefused, IsSilent, IsReset, IsSignal, IsIgnored, block_in, etags, number_in, observe_at, query, values, verdict}
use Rattle.coap_opts.proofs.Paths.{path_named}
use Rattle.coap_opts.proofs.Rows.{code_is}
use Rattle.coap_opts.proofs.Within.{action_served, asked_made, asked_within}
use Rattle.coap_dedup.specs.Exchanges.{Look, IsNew, IsBusy, IsAgain, IsSilent as IsAnsweredNon, IsFull as IsTableFull, IsOverShare}
use Rattle.coap_block.specs.Uploads.{Add, Continues, IsWhole, IsIncomplete, IsBadLength, IsTooLarge, IsFull, add_of}
use Rattle.fc_help.specs.declared.request.Method.{Method as Verb}
use Rattle.fc_help.specs.declared.request.Method.TheVariants.{Get, Post}
use Rattle.fc_ticket.specs.Runs.{initial_vars_of}
use Rattle.fc_ticket.specs.declared.job.Ask.TheVariants.{Run, Install, Remove, Describe, Discover}
use Rattle.fc_ticket.specs.declared.job.Job.{Job}
use Rattle.fc_ticket.specs.declared.job.Opening.{Opening}
use Rattle.fc_ticket.specs.declared.job.InitialVars.TheVariants.{Kept, Zeros}
use Rattle.fc_core.specs.declared.event.Event.{Event}
use Rattle.fc_core.specs.declared.event.Event.TheVariants.{Deliver}
use Rattle.fc_core.specs.declared.stage.Task.{Task}
use Rattle.fc_laws.specs.AskLaws.{BringsJob, IsPlain, Requests, core_path, program_path, request_in, run_path}
use Rattle.fc_laws.specs.BodyLaws.{Asks, asked_at}
use Rattle.fc_front.specs.Exchanges.{FrontState}
use Rattle.fc_core.specs.History.{Entry, Seen, front_at, received_at, no_task, tasks_brought, tasks_moved}
use Rattle.fc_front.specs.Policies.{is_allowed}
use Rattle.fc_front.specs.Receiving.{Received, Opened, Refused, Silenced, add_in, ask_by, brought, etags_by, is_confirmable, job_of, look_in, looked, named_block, next_opening, observes, over_share, received, received_added, received_as, request_asked, request_received, slot_asked, slot_of_resource, received_if, initial_vars_by}
use Rattle.fc_core.specs.Stages.{new_task}
use Rattle.fc_core.specs.Transitions.{names}
use Rattle.fc_laws.proofs.front.Bodies.{anew_is}
use Rattle.fc_laws.proofs.front.Repeats.{received_of}

-- ---- the request of a job

abbrev head_job : List Task → Job
head_job [] = no_task.job
head_job (t ∷ ts) = t.job

one_job : (l : List Job) (j : Job) → map new_task l ≡ new_task j ∷ [] → l ≡ j ∷ []
one_job [] j e = absurd (cc e)
one_job (x ∷ []) j e = ap (λ (y : Job). y ∷ []) (ap head_job e)
one_job (x ∷ y ∷ l) j e = absurd (cc e)

-- the classified message opens an exchange and makes this job.
record IsOpened (x : Received) (o : Opening) (to : Endpoint) (j : Job) : Type 0 where
  message : Message
  asked : Asked
  body : List ℕ
  opened : x ≡ Opened message asked body
  is : j ≡ job_of o to message asked body

abbrev first_job : List Job → Job
first_job [] = no_task.job
first_job (j ∷ js) = j

opened_by_job : (x : Received) (o : Opening) (to : Endpoint) (j : Job) → brought x o to ≡ j ∷ [] → IsOpened x o to j
opened_by_job (Opened m r body) o to j e = record { message = m; asked = r; body = body; opened = refl; is = sym (ap first_job e) }
opened_by_job other o to j e = absurd (cc e)

over_opened : (c : Bool) (m first : Message) (r : Asked) (body : List ℕ) → over_share c m ≡ Opened first r body → ⊥
over_opened true m first r body e = cc e
over_opened false m first r body e = cc e

looked_opened : (l : Look) (m first : Message) (new : Received) (r : Asked) (body : List ℕ) → looked l m new ≡ Opened first r body → new ≡ Opened first r body
looked_opened IsNew m first new r body e = e
looked_opened IsBusy m first new r body e = absurd (cc e)
looked_opened IsAnsweredNon m first new r body e = absurd (cc e)
looked_opened (IsAgain bytes) m first new r body e = absurd (cc e)
looked_opened IsTableFull m first new r body e = absurd (cc e)
looked_opened IsOverShare m first new r body e = absurd (over_opened (is_confirmable m.kind) m first r body e)

-- the message is a request that is served with this body, and its endpoint is allowed to send it.
record IsCarriedOut (f : FrontState) (to : Endpoint) (m : Message) (v : Verdict) (first : Message) (r : Asked) (body : List ℕ) : Type 0 where
  message : m ≡ first
  asks : v ≡ IsAsked r
  allowed : is_allowed f.managers to r.action ≡ true
  whole : add_in f to r ≡ IsWhole body

added_opened : (f : FrontState) (to : Endpoint) (x : Add) (m first : Message) (q r : Asked) (body : List ℕ) → is_allowed f.managers to q.action ≡ true → add_in f to q ≡ x → received_added x m q ≡ Opened first r body → IsCarriedOut f to m (IsAsked q) first r body
added_opened f to (IsWhole bytes) m first q r body allowed is e =
    let same : q ≡ r = cc e in
    let bodies : bytes ≡ body = cc e in
    record { message = cc e; asks = ap IsAsked same; allowed = subst (λ (y : Asked). is_allowed f.managers to y.action ≡ true) same allowed; whole = subst (λ (y : Asked). add_in f to y ≡ IsWhole body) same (is ∙ ap IsWhole bodies) }
added_opened f to Continues m first q r body allowed is e = absurd (cc e)
added_opened f to IsIncomplete m first q r body allowed is e = absurd (cc e)
added_opened f to IsBadLength m first q r body allowed is e = absurd (cc e)
added_opened f to IsTooLarge m first q r body allowed is e = absurd (cc e)
added_opened f to IsFull m first q r body allowed is e = absurd (cc e)

refused_opened : (f : FrontState) (to : Endpoint) (m first : Message) (v : Verdict) (answer : ℕ) (r : Asked) (body : List ℕ) → Refused m answer ≡ Opened first r body → IsCarriedOut f to m v first r body
refused_opened f to m first v answer r body e = absurd (cc e)

silent_opened : (f : FrontState) (to : Endpoint) (m first : Message) (v : Verdict) (r : Asked) (body : List ℕ) → Silenced m ≡ Opened first r body → IsCarriedOut f to m v first r body
silent_opened f to m first v r body e = absurd (cc e)

asked_opened : (f : FrontState) (to : Endpoint) (b : Bool) (m first : Message) (q r : Asked) (body : List ℕ) → is_allowed f.managers to q.action ≡ b → received_if b f to m q ≡ Opened first r body → IsCarriedOut f to m (IsAsked q) first r body
asked_opened f to true m first q r body allowed e = added_opened f to (add_in f to q) m first q r body allowed refl e
asked_opened f to false m first q r body allowed e = absurd (cc e)

carried_out : (f : FrontState) (to : Endpoint) (m : Message) (v : Verdict) (first : Message) (r : Asked) (body : List ℕ) → received_as f to m v ≡ Opened first r body → IsCarriedOut f to m v first r body
carried_out f to m (IsAsked q) first r body e = asked_opened f to (is_allowed f.managers to q.action) m first q r body refl (looked_opened (look_in f to m) m first (request_received f to m q) r body e)
carried_out f to m (IsRefused answer) first r body e = refused_opened f to m first (IsRefused answer) answer r body (looked_opened (look_in f to m) m first (Refused m answer) r body e)
carried_out f to m IsSilent first r body e = silent_opened f to m first IsSilent r body (looked_opened (look_in f to m) m first (Silenced m) r body e)
carried_out f to m IsReset first r body e = absurd (cc e)
carried_out f to m (IsSignal reset) first r body e = absurd (cc e)
carried_out f to m IsIgnored first r body e = absurd (cc e)

-- the job is that of the message's request, with the complete body of the request.
pub record IsJobOf (f : FrontState) (to : Endpoint) (m : Message) (j : Job) : Type 0 where
  pub asked : Asked
  pub body : List ℕ
  pub asks : verdict m ≡ IsAsked asked
  pub allowed : is_allowed f.managers to asked.action ≡ true
  pub whole : add_in f to asked ≡ IsWhole body
  pub is : j ≡ job_of (next_opening f) to m asked body

job_received : (f : FrontState) (to : Endpoint) (bytes : List ℕ) (m : Message) (j : Job) → reading_of bytes ≡ Ok m → brought (received f to bytes) (next_opening f) to ≡ j ∷ [] → IsJobOf f to m j
job_received f to bytes m j read e =
    let o = opened_by_job (received f to bytes) (next_opening f) to j e in
    let c = carried_out f to m (verdict m) o.message o.asked o.body (sym (received_of f to bytes (Ok m) read) ∙ o.opened) in
    record { asked = o.asked; body = o.body; asks = c.asks; allowed = c.allowed; whole = c.whole; is = subst (λ (x : Message). j ≡ job_of (next_opening f) to x o.asked o.body) (sym c.message) o.is }

pub brought_is : (r : Entry) (s : Seen) (from : Endpoint) (m : Message) (j : Job) (b : BringsJob r s from m j) → brought (received_at s b.now from b.bytes.now) (next_opening (front_at s b.now)) from ≡ j ∷ []
brought_is r s from m j b =
    let brings : Event → Type 0 = λ e. tasks_moved (names e) e s ++ tasks_brought e s ≡ s.tasks ++ (new_task j ∷ []) in
    let front = front_at s b.now in
    let new = brought (received front from b.bytes.now) (next_opening front) from in
    one_job new j (append_cancel_left s.tasks (map new_task new) (new_task j ∷ []) (subst brings b.delivers b.comes))

pub job_brought : (r : Entry) (s : Seen) (from : Endpoint) (m : Message) (j : Job) (b : BringsJob r s from m j) → IsJobOf (front_at s b.now) from m j
job_brought r s from m j b = job_received (front_at s b.now) from b.bytes.now m j b.read (brought_is r s from m j b)

-- ---- by code and path

method_by : (m : Message) (r : Asked) (code : ℕ) (method : Method) → IsMadeOf m r → m.code ≡ code → method_of code ≡ Some method → method_in r.action ≡ method
method_by m r code method made c is = let same : Some (method_in r.action) ≡ Some method = sym made.method_is ∙ (ap method_of c ∙ is) in cc same

resource_by : (m : Message) (r : Asked) (at : Resource) → IsMadeOf m r → values option.URI_PATH m ≡ path_of at → IsResource at → resource_in r.action ≡ at
resource_by m r at made p within = let same : Some (resource_in r.action) ≡ Some at = sym made.resource_is ∙ (ap resource_of p ∙ path_named at within) in cc same

-- the request of a job is made from the fields of the job's message.
fields_of : (f : FrontState) (to : Endpoint) (m : Message) (j : Job) (w : IsJobOf f to m j) → IsMadeOf m w.asked
fields_of f to m j w = asked_made m w.asked w.asks

-- the action of a served request is that of its code and its path.
action_by : (m : Message) (r : Asked) (code : ℕ) (method : Method) (at : Resource) (action : Action) → IsMadeOf m r → m.code ≡ code → method_of code ≡ Some method → values option.URI_PATH m ≡ path_of at → IsResource at → action_of at method ≡ Some action → r.action ≡ action
action_by m r code method at action made c is p within served =
    let same : Some r.action ≡ Some action = sym (action_served r.action) ∙ ((λ i. action_of (resource_by m r at made p within i) (method_by m r code method made c is i)) ∙ served) in
    cc same

asks_by : (f : FrontState) (to : Endpoint) (m : Message) (j : Job) (w : IsJobOf f to m j) (action : Action) → w.asked.action ≡ action → j.ask ≡ ask_by action w.asked w.body
asks_by f to m j w action e = ap (λ (x : Job). x.ask) w.is ∙ (λ i. ask_by (e i) w.asked w.body)

asked_is : (m : Message) (r : Asked) (method : Verb) (n : ℕ) → IsMadeOf m r → request_asked method n r ≡ request_in method n m
asked_is m r method n made = λ i. record { method = method; slot = n; content_format = (made.request_is i).content_format; query = (made.request_is i).query; payload = (made.request_is i).payload }

pub gets : (r : Entry) (s : Seen) (from : Endpoint) (m : Message) (j : Job) (n : ℕ) → n < 64 → BringsJob r s from m j → Requests m 1 (run_path n) → j.ask ≡ Run (request_in Get n m)
gets r s from m j n lt b q =
    let w = job_brought r s from m j b in
    let fields = fields_of (front_at s b.now) from m j w in
    asks_by (front_at s b.now) from m j w (actions.Get n) (action_by m w.asked 1 methods.Get (resources.Run n) (actions.Get n) fields q.code_is refl q.path_is lt refl) ∙ ap Run (asked_is m w.asked Get n fields)

pub posts : (r : Entry) (s : Seen) (from : Endpoint) (m : Message) (j : Job) (n : ℕ) → n < 64 → BringsJob r s from m j → Requests m 2 (run_path n) → j.ask ≡ Run (request_in Post n m)
posts r s from m j n lt b q =
    let w = job_brought r s from m j b in
    let fields = fields_of (front_at s b.now) from m j w in
    asks_by (front_at s b.now) from m j w (actions.Post n) (action_by m w.asked 2 methods.Post (resources.Run n) (actions.Post n) fields q.code_is refl q.path_is lt refl) ∙ ap Run (asked_is m w.asked Post n fields)

whole_is : (b : Bool) (bytes body : List ℕ) → (if b then IsTooLarge else IsWhole bytes) ≡ IsWhole body → body ≡ bytes
whole_is true bytes body e = absurd (cc e)
whole_is false bytes body e = cc e

-- the body of a request without a block is the request's payload.
body_is : (f : FrontState) (to : Endpoint) (r : Asked) (body : List ℕ) → r.block1 ≡ None → add_in f to r ≡ IsWhole body → body ≡ r.payload
body_is f to r body none e =
    whole_is (nat_lt 8208 (0 + length r.payload)) r.payload body (subst (λ (b : Option Place). add_of f.transfers f.now to (slot_asked r.action) b r.payload ≡ IsWhole body) none e)

pub puts : (r : Entry) (s : Seen) (from : Endpoint) (m : Message) (j : Job) (n : ℕ) → n < 64 → BringsJob r s from m j → Requests m 3 (program_path n) → block_in option.BLOCK1 m ≡ None
    → j.ask ≡ Install (record { items = m.payload }) (initial_vars_by (query m))
puts r s from m j n lt b q none =
    let w = job_brought r s from m j b in
    let fields = fields_of (front_at s b.now) from m j w in
    let whole : w.body ≡ m.payload = body_is (front_at s b.now) from w.asked w.body (ap (λ (x : Asked). x.block1) fields.request_is ∙ none) w.whole ∙ ap (λ (x : Asked). x.payload) fields.request_is in
    asks_by (front_at s b.now) from m j w (actions.Install n) (action_by m w.asked 3 methods.Put (resources.Program n) (actions.Install n) fields q.code_is refl q.path_is lt refl)
    ∙ (λ i. Install (record { items = whole i }) (initial_vars_by (fields.request_is i).query))

-- ---- whether a PUT keeps the variables

-- the query of a PUT determines what happens to the variables, whatever the PUT's body.
put_variables : (r : Entry) (s : Seen) (from : Endpoint) (m : Message) (j : Job) (n : ℕ) → n < 64 → BringsJob r s from m j → Requests m 3 (program_path n)
    → initial_vars_of j.ask ≡ initial_vars_by (query m)
put_variables r s from m j n lt b q =
    let w = job_brought r s from m j b in
    let fields = fields_of (front_at s b.now) from m j w in
    ap initial_vars_of (asks_by (front_at s b.now) from m j w (actions.Install n) (action_by m w.asked 3 methods.Put (resources.Program n) (actions.Install n) fields q.code_is refl q.path_is lt refl))
    ∙ ap (λ (x : Asked). initial_vars_by x.query) fields.request_is

zeroed_if : (b : Bool) → (b ≡ true → ⊥) → (if b then Kept else Zeros) ≡ Zeros
zeroed_if true differs = absurd (differs refl)
zeroed_if false differs = refl

zeroed_by : (query : List ℕ) → (query ≡ codes "keep" → ⊥) → initial_vars_by query ≡ Zeros
zeroed_by query differs = zeroed_if (bytes_eq query (codes "keep")) (λ e. differs ((bytes_eq-Decides query (codes "keep")).0 e))

-- whether a `&` is among these bytes.
abbrev has_ampersand : List ℕ → Bool
has_ampersand [] = false
has_ampersand (b ∷ bytes) = (b == 38) || has_ampersand bytes

either_true : (a b : Bool) → b ≡ true → (a || b) ≡ true
either_true true b e = refl
either_true false b e = e

among : (before after : List ℕ) → has_ampersand (before ++ (38 ∷ after)) ≡ true
among [] after = refl
among (b ∷ before) after = either_true (b == 38) (has_ampersand (before ++ (38 ∷ after))) (among before after)

no_ampersand : (before after : List ℕ) → before ++ (38 ∷ after) ≡ codes "keep" → ⊥
no_ampersand before after e = let clash : true ≡ false = sym (among before after) ∙ ap has_ampersand e in cc clash

-- if query options joined by `&` make `keep`, there is only one option, and it is `keep`.
joined_keep : (values : List (List ℕ)) → join_by (λ v. v) (codes "&") values ≡ codes "keep" → values ≡ codes "keep" ∷ []
joined_keep [] e = absurd (cc e)
joined_keep (value ∷ []) e = ap (λ (v : List ℕ). v ∷ []) (sym (append-nil value) ∙ e)
joined_keep (value ∷ next ∷ more) e = absurd (no_ampersand value (next ++ flat_map (λ (v : List ℕ). codes "&" ++ v) more) e)

pub keeps : (r : Entry) (s : Seen) (from : Endpoint) (m : Message) (j : Job) (n : ℕ) → n < 64 → BringsJob r s from m j → Requests m 3 (program_path n)
    → values option.URI_QUERY m ≡ codes "keep" ∷ [] → initial_vars_of j.ask ≡ Kept
keeps r s from m j n lt b q only = put_variables r s from m j n lt b q ∙ ap (λ (values : List (List ℕ)). initial_vars_by (join_by (λ v. v) (codes "&") values)) only

pub keeps_not : (r : Entry) (s : Seen) (from : Endpoint) (m : Message) (j : Job) (n : ℕ) → n < 64 → BringsJob r s from m j → Requests m 3 (program_path n)
    → values option.URI_QUERY m ≢ codes "keep" ∷ [] → initial_vars_of j.ask ≡ Zeros
keeps_not r s from m j n lt b q other = put_variables r s from m j n lt b q ∙ zeroed_by (query m) (λ is. other (joined_keep (values option.URI_QUERY m) is))

pub deletes : (r : Entry) (s : Seen) (from : Endpoint) (m : Message) (j : Job) (n : ℕ) → n < 64 → BringsJob r s from m j → Requests m 4 (program_path n) → j.ask ≡ Remove
deletes r s from m j n lt b q =
    let w = job_brought r s from m j b in
    let fields = fields_of (front_at s b.now) from m j w in
    asks_by (front_at s b.now) from m j w (actions.Remove n) (action_by m w.asked 4 methods.Delete (resources.Program n) (actions.Remove n) fields q.code_is refl q.path_is lt refl)

pub describes : (r : Entry) (s : Seen) (from : Endpoint) (m : Message) (j : Job) (n : ℕ) → n < 64 → BringsJob r s from m j → Requests m 1 (program_path n) → j.ask ≡ Describe
describes r s from m j n lt b q =
    let w = job_brought r s from m j b in
    let fields = fields_of (front_at s b.now) from m j w in
    asks_by (front_at s b.now) from m j w (actions.Describe n) (action_by m w.asked 1 methods.Get (resources.Program n) (actions.Describe n) fields q.code_is refl q.path_is lt refl)

pub lists : (r : Entry) (s : Seen) (from : Endpoint) (m : Message) (j : Job) → BringsJob r s from m j → Requests m 1 core_path → j.ask ≡ Discover
lists r s from m j b q =
    let w = job_brought r s from m j b in
    let fields = fields_of (front_at s b.now) from m j w in
    asks_by (front_at s b.now) from m j w actions.Discover (action_by m w.asked 1 methods.Get resources.Core actions.Discover fields q.code_is refl q.path_is tt refl)

four_codes : (method : Method) → (1 ≤ method_code method) × (method_code method ≤ 4)
four_codes methods.Get = (omega arith, omega arith)
four_codes methods.Post = (omega arith, omega arith)
four_codes methods.Put = (omega arith, omega arith)
four_codes methods.Delete = (omega arith, omega arith)

pub of_four_codes : (r : Entry) (s : Seen) (from : Endpoint) (m : Message) (j : Job) → BringsJob r s from m j → (1 ≤ m.code) × (m.code ≤ 4)
of_four_codes r s from m j b =
    let w = job_brought r s from m j b in
    subst (λ (code : ℕ). (1 ≤ code) × (code ≤ 4)) (sym (code_is m.code (method_in w.asked.action) (fields_of (front_at s b.now) from m j w).method_is)) (four_codes (method_in w.asked.action))

-- ---- of the message

pub endpoint_is : (r : Entry) (s : Seen) (from : Endpoint) (m : Message) (j : Job) → BringsJob r s from m j → j.origin.endpoint ≡ from
endpoint_is r s from m j b = ap (λ (x : Job). x.origin.endpoint) (job_brought r s from m j b).is

pub id_is : (r : Entry) (s : Seen) (from : Endpoint) (m : Message) (j : Job) → BringsJob r s from m j → j.origin.id ≡ m.id
id_is r s from m j b = ap (λ (x : Job). x.origin.id) (job_brought r s from m j b).is

pub token_is : (r : Entry) (s : Seen) (from : Endpoint) (m : Message) (j : Job) → BringsJob r s from m j → j.token.items ≡ m.token
token_is r s from m j b = ap (λ (x : Job). x.token.items) (job_brought r s from m j b).is

pub turn_is : (r : Entry) (s : Seen) (from : Endpoint) (m : Message) (j : Job) → BringsJob r s from m j → j.turn ≡ None
turn_is r s from m j b = ap (λ (x : Job). x.turn) (job_brought r s from m j b).is

pub exchange_is : (r : Entry) (s : Seen) (from : Endpoint) (m : Message) (j : Job) (b : BringsJob r s from m j) → j.origin.opening ≡ record { number = length s.exchanges; at = max s.time b.now }
exchange_is r s from m j b = ap (λ (x : Job). x.origin.opening) (job_brought r s from m j b).is

slot_is : (r : Entry) (s : Seen) (from : Endpoint) (m : Message) (j : Job) (at : Resource) → BringsJob r s from m j → values option.URI_PATH m ≡ path_of at → IsResource at → j.origin.slot ≡ slot_of_resource at
slot_is r s from m j at b p within =
    let w = job_brought r s from m j b in
    ap (λ (x : Job). x.origin.slot) w.is ∙ ap slot_of_resource (resource_by m w.asked at (fields_of (front_at s b.now) from m j w) p within)

pub run_slot_is : (r : Entry) (s : Seen) (from : Endpoint) (m : Message) (j : Job) (code n : ℕ) → n < 64 → BringsJob r s from m j → Requests m code (run_path n) → j.origin.slot ≡ n
run_slot_is r s from m j code n lt b q = slot_is r s from m j (resources.Run n) b q.path_is lt

pub program_slot_is : (r : Entry) (s : Seen) (from : Endpoint) (m : Message) (j : Job) (code n : ℕ) → n < 64 → BringsJob r s from m j → Requests m code (program_path n) → j.origin.slot ≡ n
program_slot_is r s from m j code n lt b q = slot_is r s from m j (resources.Program n) b q.path_is lt

kind_is : (k : MessageType) → (is_confirmable k ≡ true) ↔ (k ≡ Confirmable)
kind_is Confirmable = (λ e. refl, λ e. refl)
kind_is NonConfirmable = (λ e. absurd (cc e), λ e. absurd (cc e))
kind_is Acknowledgement = (λ e. absurd (cc e), λ e. absurd (cc e))
kind_is Reset = (λ e. absurd (cc e), λ e. absurd (cc e))

pub confirmable_is : (r : Entry) (s : Seen) (from : Endpoint) (m : Message) (j : Job) → BringsJob r s from m j → (j.confirmable ≡ true) ↔ (m.kind ≡ Confirmable)
confirmable_is r s from m j b =
    let same = ap (λ (x : Job). x.confirmable) (job_brought r s from m j b).is in
    let kind = kind_is m.kind in
    (λ e. kind.0 (sym same ∙ e), λ e. same ∙ kind.1 e)

-- ---- by options

no_block : (wanted method : Method) (block : Option Place) → IsBlockFor wanted method block → method ≢ wanted → block ≡ None
no_block wanted method None w differs = refl
no_block wanted method (Some place) w differs = absurd (differs w.0)

named_first : (sent : Option Place) → named_block sent None ≡ sent
named_first None = refl
named_first (Some place) = refl

pub block2_is : (r : Entry) (s : Seen) (from : Endpoint) (m : Message) (j : Job) → BringsJob r s from m j → m.code ≡ 1 → j.block ≡ block_in option.BLOCK2 m
block2_is r s from m j b c =
    let w = job_brought r s from m j b in
    let fields = fields_of (front_at s b.now) from m j w in
    let method = method_by m w.asked 1 methods.Get fields c refl in
    let none = no_block methods.Put (method_in w.asked.action) w.asked.block1 (asked_within m w.asked w.asks).block1 (λ e. let same : methods.Get ≡ methods.Put = sym method ∙ e in absurd (cc same)) in
    ap (λ (x : Job). x.block) w.is ∙ (ap (λ (x : Option Place). named_block x w.asked.block2) none ∙ ap (λ (x : Asked). x.block2) fields.request_is)

pub block1_is : (r : Entry) (s : Seen) (from : Endpoint) (m : Message) (j : Job) → BringsJob r s from m j → m.code ≡ 3 → j.block ≡ block_in option.BLOCK1 m
block1_is r s from m j b c =
    let w = job_brought r s from m j b in
    let fields = fields_of (front_at s b.now) from m j w in
    let method = method_by m w.asked 3 methods.Put fields c refl in
    let none = no_block methods.Get (method_in w.asked.action) w.asked.block2 (asked_within m w.asked w.asks).block2 (λ e. let same : methods.Put ≡ methods.Get = sym method ∙ e in absurd (cc same)) in
    ap (λ (x : Job). x.block) w.is ∙ (ap (λ (x : Option Place). named_block w.asked.block1 x) none ∙ (named_first w.asked.block1 ∙ ap (λ (x : Asked). x.block1) fields.request_is))

pub no_block_is : (r : Entry) (s : Seen) (from : Endpoint) (m : Message) (j : Job) → BringsJob r s from m j → m.code ≢ 1 → m.code ≢ 3 → j.block ≡ None
no_block_is r s from m j b not_get not_put =
    let w = job_brought r s from m j b in
    let fields = fields_of (front_at s b.now) from m j w in
    let within = asked_within m w.asked w.asks in
    let code = code_is m.code (method_in w.asked.action) fields.method_is in
    let first = no_block methods.Put (method_in w.asked.action) w.asked.block1 within.block1 (λ e. not_put (code ∙ ap method_code e)) in
    let second = no_block methods.Get (method_in w.asked.action) w.asked.block2 within.block2 (λ e. not_get (code ∙ ap method_code e)) in
    ap (λ (x : Job). x.block) w.is ∙ (λ i. named_block (first i) (second i))

-- the resource isn't that of a run.
abbrev IsElsewhere : Resource → Type 0
IsElsewhere (resources.Run n) = ⊥
IsElsewhere other = Unit {0}

elsewhere : (at : Resource) (n : ℕ) → IsElsewhere at → at ≡ resources.Run n → ⊥
elsewhere (resources.Run m) n w e = w
elsewhere (resources.Program m) n w e = cc e
elsewhere resources.Core n w e = cc e

-- the Observe of a request to run a program has the value of its option.
observed_by : (action : Action) (n : ℕ) (value : Option ℕ) → resource_in action ≡ resources.Run n → observe_at action value ≡ value
observed_by (actions.Get k) n value e = refl
observed_by (actions.Post k) n value e = refl
observed_by other n value e = absurd (elsewhere (resource_in other) n tt e)

pub observe_is : (r : Entry) (s : Seen) (from : Endpoint) (m : Message) (j : Job) (code n : ℕ) → n < 64 → BringsJob r s from m j → Requests m code (run_path n) → j.observe ≡ number_in option.OBSERVE m
observe_is r s from m j code n lt b q =
    let w = job_brought r s from m j b in
    let fields = fields_of (front_at s b.now) from m j w in
    ap (λ (x : Job). x.observe) w.is ∙ (ap (λ (x : Asked). x.observe) fields.request_is ∙ observed_by w.asked.action n (number_in option.OBSERVE m) (resource_by m w.asked (resources.Run n) fields q.path_is lt))

neither : (value : ℕ) → Some value ≢ Some 0 → Some value ≢ Some 1 → (value == 0) || (value == 1) ≡ false
neither value first second = λ i. ne_eqb value 0 (λ e. first (ap Some e)) i || ne_eqb value 1 (λ e. second (ap Some e)) i

plain_by : (action : Action) (value : Option ℕ) → value ≢ Some 0 → value ≢ Some 1 → observes (observe_at action value) ≡ false
plain_by (actions.Get n) None first second = refl
plain_by (actions.Get n) (Some value) first second = neither value first second
plain_by (actions.Post n) None first second = refl
plain_by (actions.Post n) (Some value) first second = neither value first second
plain_by other value first second = refl

pub etags_are : (r : Entry) (s : Seen) (from : Endpoint) (m : Message) (j : Job) → BringsJob r s from m j → IsPlain m → j.etags.items ≡ etags m
etags_are r s from m j b plain =
    let w = job_brought r s from m j b in
    let fields = fields_of (front_at s b.now) from m j w in
    let neither = ap (λ (x : Asked). observes x.observe) fields.request_is ∙ plain_by w.asked.action (number_in option.OBSERVE m) plain.no_registration plain.no_cancellation in
    ap (λ (x : Job). x.etags.items) w.is ∙ (λ i. etags_by (neither i) (fields.request_is i).etags)

-- a job whose message registers or cancels has no ETags.
no_etags : (r : Entry) (s : Seen) (from : Endpoint) (m : Message) (j : Job) (n value : ℕ) → n < 64 → BringsJob r s from m j → values option.URI_PATH m ≡ run_path n → number_in option.OBSERVE m ≡ Some value → observes (Some value) ≡ true → j.etags.items ≡ []
no_etags r s from m j n value lt b p is counts =
    let w = job_brought r s from m j b in
    let fields = fields_of (front_at s b.now) from m j w in
    let at = resource_by m w.asked (resources.Run n) fields p lt in
    ap (λ (x : Job). x.etags.items) w.is
    ∙ ap (λ (x : Bool). etags_by x w.asked.etags) (ap observes (ap (λ (x : Asked). x.observe) fields.request_is ∙ (observed_by w.asked.action n (number_in option.OBSERVE m) at ∙ is)) ∙ counts)

pub registers : (r : Entry) (s : Seen) (from : Endpoint) (m : Message) (j : Job) (code n : ℕ) → n < 64 → BringsJob r s from m j → Requests m code (run_path n) → number_in option.OBSERVE m ≡ Some 0 → j.etags.items ≡ []
registers r s from m j code n lt b q is = no_etags r s from m j n 0 lt b q.path_is is refl

pub cancels : (r : Entry) (s : Seen) (from : Endpoint) (m : Message) (j : Job) (code n : ℕ) → n < 64 → BringsJob r s from m j → Requests m code (run_path n) → number_in option.OBSERVE m ≡ Some 1 → j.etags.items ≡ []
cancels r s from m j code n lt b q is = no_etags r s from m j n 1 lt b q.path_is is refl

-- ---- a job arrives

payload_whole : (s : Seen) (now : ℕ) (to : Endpoint) (m : Message) (q : Asked) → q.block1 ≡ None → length q.payload ≤ 1024 → asked_at s now to m q ≡ Opened m q q.payload
payload_whole s now to m q none short =
    let front = front_at s now in
    ap (λ (b : Option Place). received_added (add_of front.transfers front.now to (slot_asked q.action) b q.payload) m q) none
    ∙ ap (λ (b : Bool). received_added (if b then IsTooLarge else IsWhole q.payload) m q) (le-ltb 8208 (0 + length q.payload) (omega (arith, short)))

comes_by : (e : Event) (s : Seen) (m : Message) (q : Asked) → Asks s e m q → q.block1 ≡ None → length q.payload ≤ 1024 → (r : Entry) → r.event ≡ e → (from : Endpoint) × (j : Job) × BringsJob r s from m j
comes_by (Deliver now to bytes) s m q w none short r is =
    let o = next_opening (front_at s now) in
    let comes : Event → Type 0 = λ e. tasks_moved (names e) e s ++ tasks_brought e s ≡ s.tasks ++ (new_task (job_of o to m q q.payload) ∷ []) in (
      to,
      job_of o to m q q.payload,
      record {
        now = now;
        bytes = bytes;
        delivers = is;
        read = w.read;
        comes = subst comes (sym is) (ap (λ (x : Received). s.tasks ++ map new_task (brought x o to)) (anew_is s now to bytes.now m q w ∙ payload_whole s now to m q none short));
      },
    )
comes_by other s m q w none short r is = absurd w

asked_of : (s : Seen) (e : Event) (m : Message) (q : Asked) → Asks s e m q → verdict m ≡ IsAsked q
asked_of s (Deliver now to bytes) m q w = w.asks
asked_of s other m q w = absurd w

pub jobs_come : (r : Entry) (s : Seen) (m : Message) (q : Asked) → Asks s r.event m q → block_in option.BLOCK1 m ≡ None → (from : Endpoint) × (j : Job) × BringsJob r s from m j
jobs_come r s m q w none =
    let asks = asked_of s r.event m q w in
    let fields = asked_made m q asks in
    comes_by r.event s m q w (ap (λ (x : Asked). x.block1) fields.request_is ∙ none) (subst (λ (bytes : List ℕ). length bytes ≤ 1024) (sym (ap (λ (x : Asked). x.payload) fields.request_is)) (asked_within m q asks).short) r refl

-- The limits of an accepted request, and the code of a refusal.
use Rattle.std.proofs.Common.{◌≡◌, ◌≢◌, ℕ, ◌<◌, ◌≤◌, ◌==◌, ◌&&◌, ◌||◌, List, [], ◌∷◌, Bool, true, false, if◌then◌else◌, nat_lt, nat_le, length, map, take, Option, Some, None, IfSome, refl, sym, ap, subst, ◌∙◌, arith}
use Rattle.std.specs.List.{filter}
use Rattle.std.specs.Option.{option_map}
use Rattle.std.proofs.lemmas.List.{length-take}
use Rattle.std.proofs.lemmas.Bool.{ltb-false, leb-true, eqb-false, and_parts}
use Rattle.coap_msg.specs.Wire.{Message}
use Rattle.coap_msg.specs.Reading.{◌>>=◌}
use Rattle.coap_msg.specs.declared.types.MessageType.{MessageType}
use Rattle.coap_msg.specs.declared.types.MessageType.TheVariants as kind
use Rattle.coap_msg.specs.declared.code.TheConstants.Code.{GET, PUT, BAD_OPTION}
use Rattle.coap_opts.specs.declared.number.TheConstants as option
use Rattle.coap_opts.specs.declared.request.Method.{Method}
use Rattle.coap_opts.specs.declared.request.Method.TheVariants.{Get, Put}
use Rattle.coap_opts.specs.declared.request.Resource.{Resource}
use Rattle.coap_opts.specs.declared.request.Resource.TheVariants.{Run, Program, Core}
use Rattle.coap_opts.specs.declared.request.Action.{Action}
use Rattle.coap_opts.specs.declared.request.Action.TheVariants as actions
use Rattle.coap_opts.specs.Path.{method_of}
use Rattle.coap_opts.specs.Values.{Place, place_in, uint_value}
use Rattle.coap_opts.specs.Verdict.{Asked, IsAsked, IsRefused, IsSilent, IsReset, IsSignal, IsIgnored, Verdict, asked, accepted, resource, verdict, verdict_by, request_verdict, verdict_by_check, refusal_verdict, refusal_code, action, checks, asked_with, first_failing, first_of, is_request, is_reserved, has_bad_value, query, values, etags, observe_at}
use Rattle.coap_opts.specs.Classified.{IsErrorCode}
use Rattle.coap_opts.specs.Fields.{IsMadeOf, method_in, IsAskedWithin, IsBlockFor, is_get}
use Rattle.coap_opts.specs.Served.{action_of, resource_in}
use Rattle.coap_opts.proofs.Known.{block1_in_put, block2_in_get, etag_in_get, observe_in_get}
use Rattle.coap_opts.proofs.Paths.{path_only}

-- ---- the request's fields come from the message

-- the resource and the method of an action
abbrev row_of : Action → Resource × Method
row_of found = (resource_in found, method_in found)

-- this resource and this method, for any action
abbrev row_at : Resource → Method → Action → Resource × Method
row_at at method found = (at, method)

-- if a resource serves a method, the action has this resource and this method
rows_agree : (at : Resource) (method : Method) → option_map row_of (action_of at method) ≡ option_map (row_at at method) (action_of at method)
rows_agree (Run n) Get = refl
rows_agree (Program n) Get = refl
rows_agree Core Get = refl
rows_agree at other = refl

-- if a resource serves a method by an action, they are the action's resource and its method
pub action_only : (at : Resource) (method : Method) (found : Action) → action_of at method ≡ Some found → (at ≡ resource_in found) × (method ≡ method_in found)
action_only at method found h =
    let same = subst (λ (o : Option Action). option_map row_of o ≡ option_map (row_at at method) o) h (rows_agree at method) in
    let pair : row_at at method found ≡ row_of found = cc same in
    (ap (λ (p : Resource × Method). p.0) pair, ap (λ (p : Resource × Method). p.1) pair)

pub action_served : (action : Action) → action_of (resource_in action) (method_in action) ≡ Some action
action_served (actions.Get n) = refl
action_served other = refl

-- the message's code has the action's method, and its path names the action's resource
record IsActionOf (m : Message) (action : Action) : Type 0 where
  method : method_of m.code ≡ Some (method_in action)
  resource : resource m ≡ Some (resource_in action)

action_by : (m : Message) (method : Option Method) (at : Option Resource) (found : Action) → method_of m.code ≡ method → resource m ≡ at →
    (method >>= λ method. at >>= λ at. action_of at method) ≡ Some found → IsActionOf m found
action_by m None at found e f h = absurd (cc h)
action_by m (Some method) None found e f h = absurd (cc h)
action_by m (Some method) (Some at) found e f h =
    let only = action_only at method found h in
    record { method = e ∙ ap Some only.1; resource = f ∙ ap Some only.0 }

made_by : (m : Message) (r : Asked) (found : Option Action) → action m ≡ found → (found >>= λ action. Some (asked_with action m)) ≡ Some r → IsMadeOf m r
made_by m r None e h = absurd (cc h)
made_by m r (Some found) e h =
    let same : asked_with found m ≡ r = cc h in
    let parts = action_by m (method_of m.code) (resource m) found refl refl e in
    subst (λ q. IsMadeOf m q) same (record {
      method_is = parts.method;
      resource_is = parts.resource;
      path_is = (path_only (values option.URI_PATH m) (resource_in found) parts.resource).0;
      query_is = refl;
      content_format_is = refl;
      etags_are = refl;
      observe_is = refl;
      block1_is = refl;
      block2_is = refl;
      payload_is = refl;
      request_is = refl;
    })

made_of : (m : Message) (r : Asked) → asked m ≡ Some r → IsMadeOf m r
unfolding asked
made_of m r h = made_by m r (action m) refl h

-- ---- no check fails

-- no check of the list fails
abbrev AllPass : List (Bool × ℕ) → Type 0
AllPass [] = Unit {0}
AllPass ((fails, answer) ∷ more) = (fails ≡ false) × AllPass more

pass_by : (fails : Bool) (answer : ℕ) (more : List (Bool × ℕ)) → (first_failing more ≡ None → AllPass more) → (if fails then Some answer else first_failing more) ≡ None → (fails ≡ false) × AllPass more
pass_by true answer more ih h = absurd (cc h)
pass_by false answer more ih h = (refl, ih h)

all_pass : (tests : List (Bool × ℕ)) → first_failing tests ≡ None → AllPass tests
all_pass [] h = tt
all_pass ((fails, answer) ∷ more) h = pass_by fails answer more (all_pass more) h

record IsPassed (m : Message) : Type 0 where
  values_are_good : has_bad_value m ≡ false
  payload : nat_lt 1024 (length m.payload) ≡ false

passed : (m : Message) → refusal_code m ≡ None → IsPassed m
unfolding refusal_code
passed m h =
    let behind_path = (all_pass (checks m) h).1.1.1.1 in
    record { values_are_good = behind_path.1.0; payload = behind_path.1.1.0 }

-- ---- the fields

method_is : (m : Message) (method found : Method) (wanted : ℕ) → method_of m.code ≡ Some method → m.code ≡ wanted → method_of wanted ≡ Some found → method ≡ found
method_is m method found wanted e c f = let same : Some method ≡ Some found = sym e ∙ (ap method_of c ∙ f) in cc same

good_size : (b : Place) → b.szx < 8 → is_reserved (Some b) ≡ false → b.szx < 7
good_size b lt h = let not_seven : b.szx ≢ 7 = eqb-false b.szx 7 h in omega arith

block_by : (wanted method : Method) (value : Option (List ℕ)) → is_reserved (option_map place_in value) ≡ false → ((v : List ℕ) → value ≡ Some v → method ≡ wanted) → IsBlockFor wanted method (option_map place_in value)
block_by wanted method None g h = tt
block_by wanted method (Some v) g h = (h v refl, good_size (place_in v) (omega arith) g)

or_false : (a b : Bool) → a || b ≡ false → (a ≡ false) × (b ≡ false)
or_false true b h = absurd (cc h)
or_false false b h = (refl, h)

observe_by : (action : Action) (value : Option (List ℕ)) → ((v : List ℕ) → value ≡ Some v → method_in action ≡ Get) → IfSome (observe_at action (option_map uint_value value)) (λ n. is_get action ≡ true)
observe_by (actions.Get n) None h = tt
observe_by (actions.Get n) (Some v) h = refl
observe_by (actions.Post n) None h = tt
observe_by (actions.Post n) (Some v) h = absurd (cc (h v refl))
observe_by other value h = tt

no_tags : (method : Method) (tags : List (List ℕ)) → ((v : List ℕ) → first_of tags ≡ Some v → method ≡ Get) → method ≢ Get → take 4 (map uint_value (filter (λ v. length v == 8) tags)) ≡ []
no_tags method [] h n = refl
no_tags method (v ∷ tags) h n = absurd (n (h v refl))

at_most : (count : ℕ) (xs : List ℕ) → length (take count xs) ≤ count
at_most count xs = omega (arith, length-take count xs)

fields_within : (m : Message) (r : Asked) → IsMadeOf m r → IsPassed m → IsAskedWithin m r
fields_within m r made p =
    let method = method_in r.action in
    let good = or_false _ _ p.values_are_good in
    let sizes = or_false _ _ good.0 in
    let in_get : m.code ≡ GET.byte → method ≡ Get = λ c. method_is m method Get GET.byte made.method_is c refl in
    let in_put : m.code ≡ PUT.byte → method ≡ Put = λ c. method_is m method Put PUT.byte made.method_is c refl in
    let etags_are : r.etags ≡ etags m = ap (λ (q : Asked). q.etags) made.request_is in
    record {
      method = made.method_is;
      resource = (path_only (values option.URI_PATH m) (resource_in r.action) made.resource_is).1;
      served = action_served r.action;
      query = rw made.query_is (ltb-false 64 (length (query m)) good.1);
      etags = rw made.etags_are (at_most 4 _);
      etags_in_get = λ n. made.etags_are ∙ no_tags method (values option.ETAG m) (λ v h. in_get (etag_in_get m v h)) n;
      observe = rw made.observe_is (observe_by r.action (first_of (values option.OBSERVE m)) (λ v h. in_get (observe_in_get m v h)));
      block1 = rw made.block1_is (block_by Put method (first_of (values option.BLOCK1 m)) sizes.0 (λ v h. in_put (block1_in_put m v h)));
      block2 = rw made.block2_is (block_by Get method (first_of (values option.BLOCK2 m)) sizes.1 (λ v h. in_get (block2_in_get m v h)));
      payload_is = made.payload_is;
      short = ltb-false 1024 (length m.payload) p.payload;
    }

-- ---- refusals

abbrev is_error : ℕ → Bool
is_error answer = nat_le 128 answer && nat_le answer 191

abbrev are_errors : List (Bool × ℕ) → Bool
are_errors [] = true
are_errors ((fails, answer) ∷ more) = is_error answer && are_errors more

failing_by : (fails : Bool) (first answer : ℕ) (more : List (Bool × ℕ)) → is_error first ≡ true → (first_failing more ≡ Some answer → is_error answer ≡ true) →
    (if fails then Some first else first_failing more) ≡ Some answer → is_error answer ≡ true
failing_by true first answer more e ih h = let same : first ≡ answer = cc h in ap is_error (sym same) ∙ e
failing_by false first answer more e ih h = ih h

failing_is_error : (tests : List (Bool × ℕ)) (answer : ℕ) → are_errors tests ≡ true → first_failing tests ≡ Some answer → is_error answer ≡ true
failing_is_error [] answer e h = absurd (cc h)
failing_is_error ((fails, first) ∷ more) answer e h =
    let both = and_parts _ _ e in
    failing_by fails first answer more both.0 (failing_is_error more answer both.1) h

refusal_is_error : (m : Message) (answer : ℕ) → refusal_code m ≡ Some answer → IsErrorCode answer
unfolding refusal_code
refusal_is_error m answer h =
    let parts = and_parts _ _ (failing_is_error (checks m) answer refl h) in
    record { at_least = leb-true 128 answer parts.0; at_most = leb-true answer 191 parts.1 }

-- ---- from the verdict

-- the limits of a verdict: an accepted request's fields come from its message and are within their
-- limits; a refusal has the code of an error
abbrev IsWithin : Message → Verdict → Type 0
IsWithin m (IsAsked r) = IsMadeOf m r × IsAskedWithin m r
IsWithin m (IsRefused answer) = IsErrorCode answer
IsWithin m _ = Unit {0}

if_within : (m : Message) (b : Bool) (v w : Verdict) → IsWithin m v → IsWithin m w → IsWithin m (if b then v else w)
if_within m true v w p q = p
if_within m false v w p q = q

refused_by : (m : Message) (k : MessageType) (answer : ℕ) → IsErrorCode answer → IsWithin m (refusal_verdict k answer)
refused_by m kind.NonConfirmable answer h = if_within m (answer == BAD_OPTION.byte) IsSilent (IsRefused answer) tt h
refused_by m kind.Confirmable answer h = h
refused_by m kind.Acknowledgement answer h = h
refused_by m kind.Reset answer h = h

accepted_by : (m : Message) (r : Option Asked) → asked m ≡ r → IsPassed m → IsWithin m (accepted r)
accepted_by m None e p = tt
accepted_by m (Some r) e p = let made = made_of m r e in (made, fields_within m r made p)

judged_within : (m : Message) (o : Option ℕ) → refusal_code m ≡ o → IsWithin m (verdict_by_check m o)
judged_within m (Some answer) e = refused_by m m.kind answer (refusal_is_error m answer e)
judged_within m None e = accepted_by m (asked m) refl (passed m e)

kind_within : (m : Message) (k : MessageType) → IsWithin m (verdict_by k m)
kind_within m kind.Confirmable = if_within m (is_request m.code) (request_verdict m) IsReset (judged_within m _ refl) tt
kind_within m kind.NonConfirmable = if_within m (is_request m.code) (request_verdict m) IsIgnored (judged_within m _ refl) tt
kind_within m kind.Acknowledgement = if_within m (m.code == 0) (IsSignal false) IsIgnored tt tt
kind_within m kind.Reset = if_within m (m.code == 0) (IsSignal true) IsIgnored tt tt

within : (m : Message) → IsWithin m (verdict m)
unfolding verdict
within m = kind_within m m.kind

pub asked_within : (m : Message) (r : Asked) → verdict m ≡ IsAsked r → IsAskedWithin m r
asked_within m r h = let P : Verdict → Type 0 = λ v. IsWithin m v in (subst P h (within m)).1

pub asked_made : (m : Message) (r : Asked) → verdict m ≡ IsAsked r → IsMadeOf m r
asked_made m r h = let P : Verdict → Type 0 = λ v. IsWithin m v in (subst P h (within m)).0

pub refused_within : (m : Message) (answer : ℕ) → verdict m ≡ IsRefused answer → IsErrorCode answer
refused_within m answer h = let P : Verdict → Type 0 = λ v. IsWithin m v in subst P h (within m)

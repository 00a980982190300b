-- The code of the first check that fails, once the checks before it have passed.
use Rattle.std.proofs.Common.{◌≡◌, ℕ, ◌||◌, Bool, true, false, nat_lt, length, List, [], Option, Some, None, refl, sym, ◌∙◌}
use Rattle.std.proofs.lemmas.Bool.{lt-ltb, le-ltb}
use Rattle.coap_msg.specs.Wire.{Message}
use Rattle.coap_opts.specs.declared.request.Method.{Method}
use Rattle.coap_opts.specs.declared.request.Resource.{Resource}
use Rattle.coap_opts.specs.declared.request.Action.{Action}
use Rattle.coap_opts.specs.Path.{method_of}
use Rattle.coap_opts.specs.Served.{action_of}
use Rattle.coap_opts.specs.Recognition.{has_unknown_critical}
use Rattle.coap_opts.specs.Verdict.{asked, block_in, asked_with, has, resource, names_proxy, query, is_reserved, has_bad_value, refusal_code}
use Rattle.coap_opts.specs.Classified.{IsKnown, IsServedAt}
use Rattle.coap_opts.specs.Collected.{IsCollected, IsQueryBy, resource_with}
use Rattle.coap_opts.specs.Firsts.{first_at}
use Rattle.coap_opts.specs.declared.collector.Collected.{Collected}
use Rattle.coap_opts.specs.Values.{Place, place_in}
use Rattle.std.specs.Option.{option_map}

pub proxy_fails : (m : Message) → names_proxy m ≡ true → refusal_code m ≡ Some 165
unfolding refusal_code
proxy_fails m p = rw p refl

pub unknown_fails : (m : Message) → names_proxy m ≡ false → has_unknown_critical m.code None m.options ≡ true → refusal_code m ≡ Some 130
unfolding refusal_code
unknown_fails m p u = rw (p, u) refl

pub method_fails : (m : Message) → IsKnown m → method_of m.code ≡ None → refusal_code m ≡ Some 133
unfolding refusal_code
method_fails m k e = rw (k.no_proxy, k.no_unknown, e) refl

pub path_fails : (m : Message) (method : Method) → IsKnown m → method_of m.code ≡ Some method → resource m ≡ None → refusal_code m ≡ Some 132
unfolding refusal_code
path_fails m method k e r = rw (k.no_proxy, k.no_unknown, e, r) refl

pub service_fails : (m : Message) (method : Method) (at : Resource) → IsKnown m → method_of m.code ≡ Some method → resource m ≡ Some at → action_of at method ≡ None → refusal_code m ≡ Some 133
unfolding refusal_code
service_fails m method at k e r s = rw (k.no_proxy, k.no_unknown, e, r, s) refl

pub value_fails : (m : Message) (method : Method) (at : Resource) (action : Action) → IsServedAt m method at action → has_bad_value m ≡ true → refusal_code m ≡ Some 128
unfolding refusal_code
value_fails m method at action s b = rw (s.known.no_proxy, s.known.no_unknown, s.method_is, s.resource_is, s.served, b) refl

pub payload_fails : (m : Message) (method : Method) (at : Resource) (action : Action) → IsServedAt m method at action → has_bad_value m ≡ false → nat_lt 1024 (length m.payload) ≡ true → refusal_code m ≡ Some 141
unfolding refusal_code
payload_fails m method at action s b p = rw (s.known.no_proxy, s.known.no_unknown, s.method_is, s.resource_is, s.served, b, p) refl

pub none_fails : (m : Message) (method : Method) (at : Resource) (action : Action) → IsServedAt m method at action → has_bad_value m ≡ false → nat_lt 1024 (length m.payload) ≡ false → refusal_code m ≡ None
unfolding refusal_code
none_fails m method at action s b p = rw (s.known.no_proxy, s.known.no_unknown, s.method_is, s.resource_is, s.served, b, p) refl

-- ---- from the collected options

pub collected_proxy : (m : Message) (g : Collected) → IsCollected m g → names_proxy m ≡ (has (first_at g.firsts 35) || has (first_at g.firsts 39))
collected_proxy m g h = rw (h.firsts 35, h.firsts 39) refl

pub known_by : (m : Message) (g : Collected) → IsCollected m g → (has (first_at g.firsts 35) || has (first_at g.firsts 39)) ≡ false → has_unknown_critical m.code None m.options ≡ false → IsKnown m
known_by m g h p u = record { no_proxy = collected_proxy m g h ∙ p; no_unknown = u }

long_by : (b : Bool) (items all : List ℕ) → IsQueryBy b items all → nat_lt 64 (length all) ≡ b
long_by true items all h = lt-ltb 64 (length all) h
long_by false items all h = rw (sym h.0) (le-ltb 64 (length items) h.1)

pub collected_served : (m : Message) (g : Collected) (method : Method) (at : Resource) (action : Action) → IsCollected m g → IsKnown m → method_of m.code ≡ Some method → resource_with g.path [] ≡ Some at →
    action_of at method ≡ Some action → IsServedAt m method at action
collected_served m g method at action h k e r s = record { known = k; method_is = e; resource_is = sym h.path ∙ r; served = s }

pub collected_bad : (m : Message) (g : Collected) → IsCollected m g → (first second : Option Place) → first ≡ option_map place_in (first_at g.firsts 27) → second ≡ option_map place_in (first_at g.firsts 23) →
    has_bad_value m ≡ ((is_reserved first || is_reserved second) || g.query.is_long)
collected_bad m g h first second a b = rw (a, b, h.firsts 27, h.firsts 23, long_by _ _ _ h.query) refl

or_right : (a b : Bool) → a || b ≡ false → b ≡ false
or_right true b h = absurd (cc h)
or_right false b h = h

query_by : (b : Bool) (items all : List ℕ) → IsQueryBy b items all → nat_lt 64 (length all) ≡ false → items ≡ all
query_by true items all h e = absurd (cc (sym (lt-ltb 64 (length all) h) ∙ e))
query_by false items all h e = h.0

pub collected_query : (m : Message) (g : Collected) → IsCollected m g → has_bad_value m ≡ false → g.query.items.items ≡ query m
collected_query m g h e = query_by _ _ _ h.query (or_right (is_reserved (block_in 27 m) || is_reserved (block_in 23 m)) _ e)

-- if a message passed the checks up to its path, it has a request with its fields
pub asked_is : (m : Message) (method : Method) (at : Resource) (action : Action) → IsServedAt m method at action → asked m ≡ Some (asked_with action m)
unfolding asked
asked_is m method at action s = rw (s.method_is, s.resource_is, s.served) refl

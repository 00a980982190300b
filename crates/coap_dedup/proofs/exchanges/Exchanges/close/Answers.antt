use Rattle.std.proofs.Common.{◌≡◌, ◌∙◌, ap, sym, set, subst, Option, length, List, map, ◌-◌, ◌%◌, ℕ, true, arith}
use Rattle.std.specs.List.{list_any}
use Rattle.std.specs.Option.{MatchOption}
use Rattle.coap_dedup.specs.declared.exchange.Opened.{Opened}
use Rattle.coap_dedup.specs.declared.exchange.StoredResponse.{StoredResponse}
use Rattle.coap_dedup.specs.Exchanges.{Table}
use Rattle.coap_dedup.specs.Calls.{answered, closing, is_open}
use Rattle.coap_dedup.specs.Views.{IsGone, IsNumbered, as_exchange}
use Rattle.coap_dedup.proofs.Places.{none_answered, none_held, none_open, numbered_from, one_answered, one_open, too_old}
use Rattle.coap_dedup.proofs.exchanges.Exchanges.close.Goals as goal

pub returns-in-Some-clause-closed : goal.returns-in-Some-clause-closed
returns-in-Some-clause-closed c =
    let os = c.self.inside.requests.items in
    let a = c.self.invariant.0.arrived in
    let numbered : IsNumbered os c.self.inside.opened c.args.opening c.in-Some.opened = search c.in-Some.ensures in
    let i = length os - (c.self.inside.opened - c.args.opening) in
    let place = numbered_from c.self.inside.opened c.self.inside.now c.args.opening os c.in-Some.opened numbered a in
    let one = one_open a.first 0 c.self.inside.now c.args.now i c.self.inside.answers os c.in-Some.opened numbered.place (sym c.is_live.ensures ∙ c.if-is_live.true) a.order in
    let found : list_any (is_open c.args.now c.args.opening) (map (as_exchange c.self.inside.answers) os) ≡ true = ap (λ (n : ℕ). list_any (is_open c.args.now n) (map (as_exchange c.self.inside.answers) os)) (sym place) ∙ one in
    sym (ap (λ (t : Table). closing (list_any (is_open c.args.now c.args.opening) t.held)) (sym c.self.view_is) ∙ ap closing found)

pub returns-in-Some-clause-after : goal.returns-in-Some-clause-after
returns-in-Some-clause-after c =
    let os = c.self.inside.requests.items in
    let a = c.self.invariant.0.arrived in
    let numbered : IsNumbered os c.self.inside.opened c.args.opening c.in-Some.opened = search c.in-Some.ensures in
    let i = length os - (c.self.inside.opened - c.args.opening) in
    let place = numbered_from c.self.inside.opened c.self.inside.now c.args.opening os c.in-Some.opened numbered a in
    let kept = c.self.inside.answers in
    let k : StoredResponse = record { answered = true; bytes = c.args.bytes.now } in
    let one = one_answered a.first 0 c.self.inside.now c.args.now i kept c.args.bytes.now os c.in-Some.opened (let few = c.self.invariant.0.few in let places = c.self.invariant.0.places in omega (arith, few, places)) numbered.place (sym c.is_live.ensures ∙ c.if-is_live.true) a.order in
    let held : map (as_exchange c.keep.new.self) os ≡ map (answered c.args.now c.args.opening c.args.bytes.now) (map (as_exchange kept) os) =
    ap (λ (l : List StoredResponse). map (as_exchange l) os) c.keep.ensures
    ∙ (ap (λ (n : ℕ). map (as_exchange (set kept (n % length kept) k)) os) (sym place)
    ∙ (one ∙ ap (λ (n : ℕ). map (answered c.args.now n c.args.bytes.now) (map (as_exchange kept) os)) place)) in
    (λ j. record { limits = c.self.inside.limits; now = c.self.inside.now; opened = c.self.inside.opened; held = held j }) ∙ ap (λ (t : Table). record { limits = t.limits; now = t.now; opened = t.opened; held = map (answered c.args.now c.args.opening c.args.bytes.now) t.held }) c.self.view_is

pub returns-in_default-clause-closed : goal.returns-in_default-clause-closed
returns-in_default-clause-closed c =
    let os = c.self.inside.requests.items in
    let a = c.self.invariant.0.arrived in
    let none = too_old c.self.inside.opened c.self.inside.now c.args.now c.args.opening os c.in-Some.opened (search c.in-Some.ensures) (sym c.is_live.ensures ∙ c.if-is_live.false) a in
    sym (ap (λ (t : Table). closing (list_any (is_open c.args.now c.args.opening) t.held)) (sym c.self.view_is) ∙ ap closing (none_open a.first 0 c.self.inside.now c.args.now c.args.opening c.self.inside.answers os a.order none))

pub returns-in_default-clause-after : goal.returns-in_default-clause-after
returns-in_default-clause-after c =
    let os = c.self.inside.requests.items in
    let a = c.self.invariant.0.arrived in
    let none = too_old c.self.inside.opened c.self.inside.now c.args.now c.args.opening os c.in-Some.opened (search c.in-Some.ensures) (sym c.is_live.ensures ∙ c.if-is_live.false) a in
    sym c.self.view_is ∙ (λ i. record { limits = c.self.inside.limits; now = c.self.inside.now; opened = c.self.inside.opened; held = sym (none_answered a.first 0 c.self.inside.now c.args.now c.args.opening c.args.bytes.now c.self.inside.answers os a.order none) i }) ∙ ap (λ (t : Table). record { limits = t.limits; now = t.now; opened = t.opened; held = map (answered c.args.now c.args.opening c.args.bytes.now) t.held }) c.self.view_is

pub returns-in_default-2-clause-closed : goal.returns-in_default-2-clause-closed
returns-in_default-2-clause-closed c =
    let os = c.self.inside.requests.items in
    let a = c.self.invariant.0.arrived in
    let none = none_held c.self.inside.opened c.self.inside.now c.args.now c.args.opening os (subst (λ (o : Option Opened). MatchOption o (IsGone os c.self.inside.opened c.args.opening) (IsNumbered os c.self.inside.opened c.args.opening)) c.in_default.is c.numbered.ensures) a in
    sym (ap (λ (t : Table). closing (list_any (is_open c.args.now c.args.opening) t.held)) (sym c.self.view_is) ∙ ap closing (none_open a.first 0 c.self.inside.now c.args.now c.args.opening c.self.inside.answers os a.order none))

pub returns-in_default-2-clause-after : goal.returns-in_default-2-clause-after
returns-in_default-2-clause-after c =
    let os = c.self.inside.requests.items in
    let a = c.self.invariant.0.arrived in
    let none = none_held c.self.inside.opened c.self.inside.now c.args.now c.args.opening os (subst (λ (o : Option Opened). MatchOption o (IsGone os c.self.inside.opened c.args.opening) (IsNumbered os c.self.inside.opened c.args.opening)) c.in_default.is c.numbered.ensures) a in
    sym c.self.view_is ∙ (λ i. record { limits = c.self.inside.limits; now = c.self.inside.now; opened = c.self.inside.opened; held = sym (none_answered a.first 0 c.self.inside.now c.args.now c.args.opening c.args.bytes.now c.self.inside.answers os a.order none) i }) ∙ ap (λ (t : Table). record { limits = t.limits; now = t.now; opened = t.opened; held = map (answered c.args.now c.args.opening c.args.bytes.now) t.held }) c.self.view_is

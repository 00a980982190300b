-- The registrations that are entered, and the places of their entries.
use Rattle.std.proofs.Common.{◌≡◌, ℕ, ◌<◌, ◌≤◌, [], ◌∷◌, ◌++◌, length, Bool, true, false, List, Option, cond, refl, sym, ap, ◌∙◌, subst, arith}
use Rattle.std.specs.Prelude.{nat_lt, not, if◌then◌else◌}
use Rattle.std.specs.List.{Any, list_any}
use Rattle.std.proofs.lemmas.Bool.{false_from_ne_true, ltb-true, lt-ltb}
use Rattle.std.proofs.lemmas.List.Elements.{filter-append}
use Rattle.std.proofs.lemmas.List.Quantifiers.{Any-push}
use Rattle.arrayvec.specs.ArrayVec.{ArrayVec}
use Rattle.coap_msg.specs.declared.types.Endpoint.{Endpoint}
use Rattle.fc_help.specs.Request.{Request}
use Rattle.fc_observe.specs.declared.entry.Entry.{Entry}
use Rattle.fc_observe.specs.declared.observers.Registered.{Registered}
use Rattle.fc_observe.specs.declared.observers.Registered.TheVariants.{Entered, Full}
use Rattle.fc_observe.specs.Entries.{is_entry_of, new_entry}
use Rattle.fc_observe.specs.Laws.{IsRegistrationOf, StandsLast}
use Rattle.fc_observe.specs.Observers.{ObserverList, entered_by, registered, registration, registration_by, with_held, without_those}
use Rattle.fc_observe.proofs.First.{or_false, some_passes}

-- if no entry passes the test, the list without those that pass is the same list
all_stay : (p : Entry → Bool) (os : List Entry) → list_any p os ≡ false → without_those p os ≡ os
all_stay p [] none = refl
all_stay p (o ∷ os) none =
    let parts = or_false (p o) (list_any p os) none in
    ap (λ (b : Bool). cond (not b) (o ∷ without_those p os) (without_those p os)) parts.0 ∙ ap (λ (l : List Entry). o ∷ l) (all_stay p os parts.1)

others_stay : (p : Entry → Bool) (before after : List Entry) (o : Entry) → p o ≡ true → list_any p before ≡ false → list_any p after ≡ false → without_those p (before ++ o ∷ after) ≡ before ++ after
others_stay p before after o is b a =
    filter-append (λ x. not (p x)) before (o ∷ after)
    ∙ ap (λ (l : List Entry). l ++ without_those p (o ∷ after)) (all_stay p before b)
    ∙ ap (λ (l : List Entry). before ++ l) (ap (λ (y : Bool). cond (not y) (o ∷ without_those p after) (without_those p after)) is ∙ all_stay p after a)

module _ (to : Endpoint) (token : ArrayVec ℕ) (request : Request) (szx : Option ℕ) (serial : ℕ) (t : ObserverList) where
  abbrev own : Entry
  own = new_entry t.time to token request szx serial

  abbrev IsIn : Registered → Type 0
  IsIn r = Any (IsRegistrationOf to token request szx serial) (entered_by r to token.items own t.held)

  last : Any (IsRegistrationOf to token request szx serial) (without_those (is_entry_of to token.items) t.held ++ own ∷ [])
  last = Any-push (IsRegistrationOf to token request szx serial) (without_those (is_entry_of to token.items) t.held) own (refl, refl, refl)

  in_by : (known room : Bool) → list_any (is_entry_of to token.items) t.held ≡ known → nat_lt (length t.held) 32 ≡ room → nat_lt (length t.held) 32 ≡ true → IsIn (registration to token.items t)
  in_by true room is has fits = subst (λ (b : Bool). IsIn (registration_by b (length t.held))) (sym is) last
  in_by false true is has fits = subst (λ (b : Bool). IsIn (registration_by b (length t.held))) (sym is) (subst (λ (b : Bool). IsIn (if b then Entered else Full)) (sym has) last)
  in_by false false is has fits = absurd (cc (has, fits))

  pub has_room : length t.held < 32 → Any (IsRegistrationOf to token request szx serial) (registered to token request szx serial t).held
  has_room few = in_by (list_any (is_entry_of to token.items) t.held) (nat_lt (length t.held) 32) refl refl (lt-ltb (length t.held) 32 few)

  pub is_renewed : list_any (is_entry_of to token.items) t.held ≡ true → Any (IsRegistrationOf to token request szx serial) (registered to token request szx serial t).held
  is_renewed known = subst (λ (b : Bool). IsIn (registration_by b (length t.held))) (sym known) last

  pub is_full : 32 ≤ length t.held → list_any (is_entry_of to token.items) t.held ≡ false → registered to token request szx serial t ≡ t
  is_full many unknown =
      let none : nat_lt (length t.held) 32 ≡ false = false_from_ne_true (nat_lt (length t.held) 32) (λ e. let lt = ltb-true (length t.held) 32 e in absurd (omega (arith, lt, many))) in
      ap (λ (b : Bool). with_held (entered_by (registration_by b (length t.held)) to token.items own t.held) t) unknown
      ∙ ap (λ (b : Bool). with_held (entered_by (if b then Entered else Full) to token.items own t.held) t) none

  abbrev is_known : Entry → Bool
  is_known = is_entry_of to token.items

  -- the registration's entry is the last in the list, after these other entries
  abbrev IsLast : List Entry → Type 0
  IsLast others = StandsLast others (IsRegistrationOf to token request szx serial) (registered to token request szx serial t).held

  pub new_is_last : length t.held < 32 → list_any (is_entry_of to token.items) t.held ≡ false → IsLast t.held
  new_is_last few none = (
    own,
    (refl, refl, refl),
    ap (λ (b : Bool). entered_by (registration_by b (length t.held)) to token.items own t.held) none
        ∙ ap (λ (b : Bool). entered_by (if b then Entered else Full) to token.items own t.held) (lt-ltb (length t.held) 32 few)
        ∙ ap (λ (l : List Entry). l ++ own ∷ []) (all_stay is_known t.held none),
  )

  pub renewed_is_last : (before after : List Entry) (old : Entry) → t.held ≡ before ++ old ∷ after → is_entry_of to token.items old ≡ true
      → list_any (is_entry_of to token.items) before ≡ false → list_any (is_entry_of to token.items) after ≡ false → IsLast (before ++ after)
  renewed_is_last before after old held is b a = (
    own,
    (refl, refl, refl),
    ap (λ (y : Bool). entered_by (registration_by y (length t.held)) to token.items own t.held) (ap (list_any is_known) held ∙ some_passes is_known before old after is)
        ∙ ap (λ (l : List Entry). without_those is_known l ++ own ∷ []) held
        ∙ ap (λ (l : List Entry). l ++ own ∷ []) (others_stay is_known before after old is b a),
  )

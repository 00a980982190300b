-- The recognised options of a message, collected in one pass. Each part of the collection is stated
-- by its result after the values that are left are collected too.
use Rattle.std.specs.Prelude.{◌≡◌, ℕ, ◌-◌, ◌<◌, ◌≤◌, ◌==◌, Bool, true, false, List, [], ◌∷◌, ◌++◌, length, take, map, Option, None, codes}
use Rattle.std.specs.List.{filter, flat_map, join_by}
use Rattle.coap_msg.specs.Wire.{Message}
use Rattle.coap_opts.specs.declared.number.TheConstants as option
use Rattle.coap_opts.specs.declared.collector.Segments.{Segments}
use Rattle.coap_opts.specs.declared.collector.Segments.TheVariants.{Empty, One, Two, More}
use Rattle.coap_opts.specs.declared.collector.JoinedQuery.{JoinedQuery}
use Rattle.coap_opts.specs.declared.collector.Collected.{Collected}
use Rattle.coap_opts.specs.declared.request.Resource.{Resource}
use Rattle.coap_opts.specs.Values.{uint_value}
use Rattle.coap_opts.specs.Path.{resource_of}
use Rattle.coap_opts.specs.Recognition.{values_of}
use Rattle.coap_opts.specs.Firsts.{AreFirsts, cons_if, first_at, first_with}
use Rattle.coap_opts.specs.Verdict.{first_of, values, query, etags}

-- ---- each part of the collection, with the values of its option number that are left

-- the resource that the stored segments and then the segments that are left name together.
abbrev pub resource_with : Segments → List (List ℕ) → Option Resource
resource_with Empty left = resource_of left
resource_with (One first) left = resource_of (first.now ∷ left)
resource_with (Two first second) left = resource_of (first.now ∷ second.now ∷ left)
resource_with More left = None

-- the integers that the values with a length of eight bytes represent.
abbrev pub eights : List (List ℕ) → List ℕ
eights values = map uint_value (filter (λ v. length v == 8) values)

-- the stored ETags and then those that are left, at most four in all.
abbrev pub tags_with : List ℕ → List (List ℕ) → List ℕ
tags_with tags left = tags ++ take (4 - length tags) (eights left)

-- the stored values and then those that are left, joined by `&`, are `all`, or `all` is too long.
-- The first test says whether it is too long, the second whether a value is stored.
abbrev pub IsJoinedBy : Bool → Bool → List ℕ → List (List ℕ) → List ℕ → Type 0
IsJoinedBy true begun items left all = 64 < length all
IsJoinedBy false false items left all = (items ≡ []) × (join_by (λ v. v) (codes "&") left ≡ all)
IsJoinedBy false true items left all = (items ++ flat_map (λ (v : List ℕ). codes "&" ++ v) left ≡ all) × (length items ≤ 64)

abbrev pub IsJoined : JoinedQuery → List (List ℕ) → List ℕ → Type 0
IsJoined q left all = IsJoinedBy q.is_long q.is_begun q.items.items left all

-- ---- one more option

-- `new` is `old` with the value of a recognised option stored. For any values that are left, each
-- part of `new` gives the result that this part of `old` gives for `value` and then these values.
pub record IsTaken (old new : Collected) (number : ℕ) (value : List ℕ) : Type 0 where
  pub firsts : (wanted : ℕ) (left : List (List ℕ)) → first_with (first_at old.firsts wanted) (cons_if (number == wanted) value left) ≡ first_with (first_at new.firsts wanted) left
  pub etags : (left : List (List ℕ)) → tags_with old.etags.items (cons_if (number == option.ETAG) value left) ≡ tags_with new.etags.items left
  pub path : (left : List (List ℕ)) → resource_with old.path (cons_if (number == option.URI_PATH) value left) ≡ resource_with new.path left
  pub query : (left : List (List ℕ)) (all : List ℕ) → IsJoined old.query (cons_if (number == option.URI_QUERY) value left) all → IsJoined new.query left all

-- each part of the collection, together with the options that are left, gives the message's value;
-- `before` is the number of the option before these options.
pub record IsUncollected (m : Message) (g : Collected) (before : Option ℕ) (left : List (ℕ × List ℕ)) : Type 0 where
  pub firsts : (number : ℕ) → first_with (first_at g.firsts number) (values_of number m.code before left) ≡ first_of (values number m)
  pub etags : tags_with g.etags.items (values_of option.ETAG m.code before left) ≡ etags m
  pub path : resource_with g.path (values_of option.URI_PATH m.code before left) ≡ resource_of (values option.URI_PATH m)
  pub query : IsJoined g.query (values_of option.URI_QUERY m.code before left) (query m)

-- the query is `all` and has at most 64 bytes, or `all` has more.
abbrev pub IsQueryBy : Bool → List ℕ → List ℕ → Type 0
IsQueryBy true items all = 64 < length all
IsQueryBy false items all = (items ≡ all) × (length items ≤ 64)

abbrev pub IsQuery : JoinedQuery → List ℕ → Type 0
IsQuery q all = IsQueryBy q.is_long q.items.items all

-- each part of the collection is the message's value.
pub record IsCollected (m : Message) (g : Collected) : Type 0 where
  pub firsts : AreFirsts m g.firsts
  pub etags : g.etags.items ≡ etags m
  pub path : resource_with g.path [] ≡ resource_of (values option.URI_PATH m)
  pub query : IsQuery g.query (query m)

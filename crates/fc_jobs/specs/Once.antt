-- The jobs that were sent, and the worker that received each of them.
use Rattle.std.specs.Prelude.{◌≡◌, ℕ, ◌+◌, ◌≤◌, ◌==◌, nat_lt, true, false, cond, List, [], ◌∷◌, length, drop, slice_get, Some}
use mathlib.Core.Option.{some}
use lib.ListN.{get_elem?}
use Rattle.fc_jobs.specs.declared.protocol.Hand.{Hand}
use Rattle.fc_jobs.specs.declared.protocol.Numbered.{Numbered}

module _ {M : Type 0} where
  -- the view of the sender, after it sent these jobs.
  abbrev pub sends_view : List (Numbered M) → Hand M
  sends_view sent = record { sends = true; sent = sent; got = [] }

  -- the view of a worker that received these jobs.
  abbrev pub gets_view : List (Numbered M) → Hand M
  gets_view got = record { sends = false; sent = []; got = got }

  -- the number of occurrences of a number in a list of jobs.
  abbrev pub times : ℕ → List (Numbered M) → ℕ
  times x [] = 0
  times x (i ∷ is) = cond (i.number == x) 1 0 + times x is

  -- the number of occurrences of a number in all lists of received jobs.
  abbrev pub in_all : ℕ → List (Hand M) → ℕ
  in_all x [] = 0
  in_all x (v ∷ vs) = times x v.got + in_all x vs

  -- the numbered job is in the log, at the position of its number.
  abbrev pub StandsIn : List (Numbered M) → Numbered M → Type 0
  StandsIn log i = slice_get log i.number ≡ Some i

  abbrev pub AllStandIn : List (Numbered M) → List (Numbered M) → Type 0
  AllStandIn log [] = Unit {0}
  AllStandIn log (i ∷ is) = StandsIn log i × AllStandIn log is

-- the first jobs of the log were received, each number once in all views. The rest of the log is in
-- the channel, in order.
pub record Once {M : Type 0} (items : List (Numbered M)) (views : List (Hand M)) : Type 0 where
  pub log : List (Numbered M)
  pub taken : ℕ
  pub numbered : (k : ℕ) (i : Numbered M) → slice_get log k ≡ Some i → i.number ≡ k
  pub rest : items ≡ drop taken log
  pub within : taken ≤ length log
  pub sent : (by : ℕ) (v : Hand M) → get_elem? views by ≡ some v → v.sends ≡ true → (by ≡ 0) × (v.sent ≡ log)
  pub got : (by : ℕ) (v : Hand M) → get_elem? views by ≡ some v → AllStandIn log v.got
  pub once : (x : ℕ) → in_all x views ≡ cond (nat_lt x taken) 1 0

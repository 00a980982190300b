-- The beginning of a log that is right by parts and by jobs is right too.
use Rattle.std.proofs.Common.{ℕ, zero, suc, ◌+◌, ◌<◌, List, [], ◌∷◌, ◌++◌, length, refl, subst, lit<, arith}
use Rattle.std.proofs.lemmas.List.Elements.{filter-append}
use Rattle.std.specs.Prelude.{is_some}
use Rattle.fc_registry.specs.Shards.{shard_at}
use Rattle.fc_registry.specs.Slots.{Shard}
use Rattle.fc_core.specs.declared.stage.Task.{Task}
use Rattle.fc_front.specs.Exchanges.{FrontState}
use Rattle.fc_core.specs.History.{task_at}
use Rattle.fc_core.specs.Stages.{new_task}
use Rattle.fc_server.specs.States.{ServerState}
use Rattle.fc_linear.specs.Operations.{Operation, LogEntry, FrontDoes, ShardDoes, WordsDo, is_front, is_words, job_brought, part_of}
use Rattle.fc_linear.specs.Parts.{AllOfServer, BringsItsJob, FollowsStages, HaveNextNumbers, LeadInOrder, RightByParts, bringing, concerns, of_front, of_job, of_shard, of_words}

-- ---- the first entries of a list

-- the state to which the first operations lead a part.
leads_first : {S : Type 0} (Does : Operation → S → S → Type 0) (xs ys : List LogEntry) (s t : S) → LeadInOrder Does (xs ++ ys) s t → (m : S) × LeadInOrder Does xs s m
leads_first Does [] ys s t led = (s, refl)
leads_first Does (x ∷ xs) ys s t led =
    let rest = leads_first Does xs ys led.0 t led.2 in
    (rest.0, (led.0, led.1, rest.1))

follows_first : (xs ys : List LogEntry) (task : Task) → FollowsStages (xs ++ ys) task → FollowsStages xs task
follows_first [] ys task follows = tt
follows_first (x ∷ xs) ys task follows =
    (follows.0, follows.1, follows_first xs ys (record { job = task.job; stage = follows.0 }) follows.2)

brings_first : (xs ys : List LogEntry) → BringsItsJob (xs ++ ys) → BringsItsJob xs
brings_first [] ys brings = tt
brings_first (x ∷ xs) ys brings =
    (brings.0, brings.1, follows_first xs ys (new_task brings.0) brings.2)

numbers_first : (n : ℕ) (xs ys : List LogEntry) → HaveNextNumbers n (xs ++ ys) → HaveNextNumbers n xs
numbers_first n [] ys have = tt
numbers_first n (x ∷ xs) ys have = (have.0, numbers_first (n + 1) xs ys have.1)

of_server_first : (xs ys : List LogEntry) → AllOfServer (xs ++ ys) → AllOfServer xs
of_server_first [] ys all = tt
of_server_first (x ∷ xs) ys all = (all.0, of_server_first xs ys all.1)

-- ---- the first entries of a log

-- the log is right, and leads the server to a state with these shards.
pub record RightWithShards (s : ServerState) (tasks : List Task) (log : List LogEntry) (shards : List Shard) : Type 0 where
  pub front : FrontState
  pub words : List ℕ
  pub right : RightByParts (record { front = front; shards = shards; words = words }) s tasks log

-- if a log is right, so are its first entries. Their operations lead the shards to states of the
-- shards that are known already.
pub first_right : (end s : ServerState) (tasks : List Task) (xs ys : List LogEntry) (shards : List Shard) → RightByParts end s tasks (xs ++ ys)
    → ((i : ℕ) → i < 8 → LeadInOrder ShardDoes (of_shard i xs) (shard_at s.shards i) (shard_at shards i)) → RightWithShards s tasks xs shards
first_right end s tasks xs ys shards right led =
    let front : (m : FrontState) × LeadInOrder FrontDoes (of_front xs) s.front m =
    leads_first FrontDoes (of_front xs) (of_front ys) s.front end.front
    (subst (λ (l : List LogEntry). LeadInOrder FrontDoes l s.front end.front) (filter-append (λ (e : LogEntry). is_front (part_of e.operation)) xs ys) right.front) in
    let words : (m : List ℕ) × LeadInOrder WordsDo (of_words xs) s.words m =
    leads_first WordsDo (of_words xs) (of_words ys) s.words end.words
    (subst (λ (l : List LogEntry). LeadInOrder WordsDo l s.words end.words) (filter-append (λ (e : LogEntry). is_words (part_of e.operation)) xs ys) right.words) in
    record {
      front = front.0;
      words = words.0;
      right = record {
        front = front.1;
        shards = led;
        words = words.1;
        jobs = λ k lt. follows_first (of_job k xs) (of_job k ys) (task_at tasks k) (subst (λ (l : List LogEntry). FollowsStages l (task_at tasks k)) (filter-append (concerns k) xs ys) (right.jobs k lt));
        to_come = λ k le. brings_first (of_job k xs) (of_job k ys) (subst BringsItsJob (filter-append (concerns k) xs ys) (right.to_come k le));
        numbered = numbers_first (length tasks) (bringing xs) (bringing ys) (subst (HaveNextNumbers (length tasks)) (filter-append (λ (e : LogEntry). is_some (job_brought e.operation)) xs ys) right.numbered);
        of_server = of_server_first xs ys right.of_server;
      };
    }

-- ---- eight shards

-- eight shards, each with what is known of it.
pub eight_shards : (P : ℕ → Shard → Type 0) → ((i : ℕ) → i < 8 → (x : Shard) × P i x) → (shards : List Shard) × ((i : ℕ) → i < 8 → P i (shard_at shards i))
eight_shards P each = (shards, at)
  where
    shards : List Shard
    shards = (each 0 (lit< tt)).0 ∷ (each 1 (lit< tt)).0 ∷ (each 2 (lit< tt)).0 ∷ (each 3 (lit< tt)).0 ∷ (each 4 (lit< tt)).0 ∷ (each 5 (lit< tt)).0 ∷ (each 6 (lit< tt)).0 ∷ (each 7 (lit< tt)).0 ∷ []

    at : (i : ℕ) → i < 8 → P i (shard_at shards i)
    at zero low = (each 0 (lit< tt)).1
    at (suc zero) low = (each 1 (lit< tt)).1
    at (suc (suc zero)) low = (each 2 (lit< tt)).1
    at (suc (suc (suc zero))) low = (each 3 (lit< tt)).1
    at (suc (suc (suc (suc zero)))) low = (each 4 (lit< tt)).1
    at (suc (suc (suc (suc (suc zero))))) low = (each 5 (lit< tt)).1
    at (suc (suc (suc (suc (suc (suc zero)))))) low = (each 6 (lit< tt)).1
    at (suc (suc (suc (suc (suc (suc (suc zero))))))) low = (each 7 (lit< tt)).1
    at (suc (suc (suc (suc (suc (suc (suc (suc i)))))))) low = absurd (omega (arith, low))

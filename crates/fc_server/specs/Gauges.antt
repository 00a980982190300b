-- The gauges of a server, the numbers of its slots' observers, and their text.
use Rattle.std.specs.Prelude.{ℕ, zero, suc, ◌/◌, ◌%◌, ◌==◌, List, [], ◌∷◌, ◌++◌, codes, if◌then◌else◌, map, replicate, slice_index_or}
use Rattle.std.specs.Fmt.{decimal}
use Rattle.fc_registry.specs.Shards.{shard_at}
use Rattle.fc_registry.specs.Slots.{Shard}
use Rattle.fc_registry.specs.Watches.{observer_counts}
use Rattle.fc_front.specs.Gauges.{gauges_at}
use Rattle.fc_server.specs.States.{ServerState}
use Rattle.fc_server.specs.declared.gauges.Gauges.{Gauges}
use Rattle.fc_server.specs.declared.observer_counts.ObserverCounts.{ObserverCounts}

-- no slot has an observer.
abbrev pub no_counts : ObserverCounts
no_counts = record { shards = replicate 8 (replicate 8 0) }

-- how many observers slot n has: the shard n mod 8 has it at place n / 8.
abbrev pub observers_of : List (List ℕ) → ℕ → ℕ
observers_of shards n = slice_index_or (slice_index_or shards (n % 8) []) (n / 8) 0

-- a slot and the number of its observers after a space, as ` observers/7=2`. It is empty if the
-- slot has none.
abbrev pub slot_text : ℕ → ℕ → List ℕ
slot_text n count = if count == 0 then [] else codes " observers/" ++ (decimal n ++ (codes "=" ++ decimal count))

-- the texts of the slots below n, in their order.
abbrev pub texts_below : List (List ℕ) → ℕ → List ℕ
texts_below shards zero = []
texts_below shards (suc n) = texts_below shards n ++ slot_text n (observers_of shards n)

-- the text of the numbers of observers: the slots 0 to 63.
abbrev pub observers_text : ObserverCounts → List ℕ
observers_text counts = texts_below counts.shards 64

-- the text of gauges, each with its limit, as ` offloaded=7 exchanges=12/1024 transfers=1/16
-- observers/7=2`.
abbrev pub gauges_text : Gauges → List ℕ
gauges_text g =
    codes " offloaded=" ++ (decimal g.offloaded
    ++ (codes " exchanges=" ++ (decimal g.front.exchanges ++ (codes "/" ++ (decimal g.front.most_exchanges
    ++ (codes " transfers=" ++ (decimal g.front.transfers ++ (codes "/" ++ (decimal g.front.most_transfers ++ observers_text g.observers)))))))))

-- a server holds nothing, with limits of 0, and sent no job to workers.
abbrev pub no_gauges : Gauges
no_gauges = record { offloaded = 0; front = record { exchanges = 0; most_exchanges = 0; transfers = 0; most_transfers = 0 }; observers = no_counts }

-- how many observers each slot of eight shards has.
abbrev pub counts_in : List Shard → ObserverCounts
counts_in shards = record { shards = map (λ n. observer_counts (shard_at shards n)) (0 ∷ 1 ∷ 2 ∷ 3 ∷ 4 ∷ 5 ∷ 6 ∷ 7 ∷ []) }

-- the gauges of a server on one thread at a time. It sends no job to workers.
abbrev pub server_gauges : ℕ → ServerState → Gauges
server_gauges now s = record { offloaded = 0; front = gauges_at now s.front; observers = counts_in s.shards }

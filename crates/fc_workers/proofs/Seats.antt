-- Lists of which one item was popped or pushed, and the logs of worker seeds.
use Rattle.std.proofs.Common.{◌≡◌, ◌∙◌, ℕ, ◌-◌, List, [], ◌∷◌, ◌++◌, length, map, take, ap, subst, sym, arith}
use Rattle.std.specs.Prelude.{reverse}
use Rattle.std.specs.List.{All}
use Rattle.std.proofs.lemmas.List.{append_assoc, get_or-reverse, length-reverse, reverse-append}
use Rattle.std.proofs.lemmas.List.Elements.{All-cons, All-nil, All-push, All-tail, All-take}
use Rattle.fc_backend.specs.Logs.{TrackedLog, IsNewLog}
use Rattle.fc_backend.specs.Statistics.{Share}
use Rattle.fc_workers.specs.Workers.{WorkerSeed}
use Rattle.fc_workers.specs.Views.{WorkerView}
use Rattle.fc_workers.specs.Shares.{IsShareOf}

pub all_popped : {X : Type 0} (P : X → Type 0) (n : ℕ) (xs : List X) {ys : List X} → ys ≡ take n xs → All P xs → All P ys
all_popped {X} P n xs {ys} e all = subst (λ (l : List X). All P l) (sym e) (All-take P n xs all)

pub all_pushed : {X : Type 0} (P : X → Type 0) (xs : List X) {ys : List X} (x : X) → ys ≡ xs ++ x ∷ [] → All P xs → P x → All P ys
all_pushed {X} P xs {ys} x e all here = subst (λ (l : List X). All P l) (sym e) (All-push P xs x all here)

-- moving the last item of xs to the end of another list keeps that list followed by the reverse of
-- xs.
pub moved_last : {X : Type 0} (done xs ys zs : List X) (x : X) → xs ≡ ys ++ x ∷ [] → done ++ reverse xs ≡ zs → (done ++ x ∷ []) ++ reverse ys ≡ zs
moved_last done xs ys zs x is h = append_assoc done (x ∷ []) (reverse ys) ∙ (ap (λ l. done ++ l) (sym (ap reverse is ∙ reverse-append ys (x ∷ []))) ∙ h)

all_reversed : {X : Type 0} (P : X → Type 0) (xs : List X) → All P xs → All P (reverse xs)
all_reversed P xs all k d lt =
    let n = length-reverse xs in
    subst P (sym (get_or-reverse xs k d (omega (arith, lt, n)))) (all (length xs - 1 - k) d (omega (arith, lt, n)))

pub all_of_map : {X Y : Type 0} (P : X → Type 0) (f : Y → X) (ys : List Y) → All P (map f ys) → All (λ (y : Y). P (f y)) ys
all_of_map P f [] all = All-nil (λ y. P (f y))
all_of_map P f (y ∷ ys) all = All-cons (λ z. P (f z)) y ys (all 0 (f y) (omega arith)) (all_of_map P f ys (All-tail P (f y) (map f ys) all))

-- if the logs of the seats are these logs in reverse, and these logs are new, the seats' logs are.
pub new_seats : {T : Type 0} (seats : List (WorkerSeed T)) (logs : List TrackedLog) → map (λ (s : WorkerSeed T). s.log) seats ≡ reverse logs → All IsNewLog logs → All (λ (s : WorkerSeed T). IsNewLog s.log) seats
new_seats {T} seats logs are new = all_of_map IsNewLog (λ (s : WorkerSeed T). s.log) seats (subst (λ (l : List TrackedLog). All IsNewLog l) (sym are) (all_reversed IsNewLog logs new))

-- the statistics of a worker seed are also those of one that equals it.
pub share_at : {T : Type 0} (first_job : ℕ) (s : WorkerView T) (at seat : WorkerSeed T) (share : Share T) → at ≡ seat → IsShareOf first_job s seat share → IsShareOf first_job s at share
share_at first_job s at seat share e is = subst (λ (x : WorkerSeed _). IsShareOf first_job s x share) (sym e) is

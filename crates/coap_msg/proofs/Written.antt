-- Options written one after another.
use Rattle.std.proofs.Common.{◌≡◌, ℕ, suc, ◌+◌, ◌-◌, ◌<◌, ◌≤◌, List, ◌∷◌, ◌++◌, length, drop, get_or, ap, subst, arith, length-append}
use Rattle.std.proofs.Math.Seq.{drop-cons}
use Rattle.std.specs.Borrow.{Bor}
use Rattle.coap_msg.specs.Wire.{AreOptions, option_bytes, options_bytes}
use Rattle.coap_msg.specs.Writing.{options_in}

-- the bytes so far, followed by the options that are left, are the start followed by all options
pub record Written (start : List ℕ) (all : List (ℕ × List ℕ)) (bytes : List ℕ) (before : ℕ) (left : List (ℕ × List ℕ)) : Type 0 where
  pub options : AreOptions before left
  pub items : bytes ++ options_bytes before left ≡ start ++ options_bytes 0 all

room_by : (start : List ℕ) (all : List (ℕ × List ℕ)) (bytes : List ℕ) (before number : ℕ) (value : List ℕ) (rest : List (ℕ × List ℕ)) →
    Written start all bytes before ((number, value) ∷ rest) → length bytes + length (option_bytes (number - before) value) ≤ length start + length (options_bytes 0 all)
room_by start all bytes before number value rest w =
    let own = option_bytes (number - before) value in
    let more = options_bytes number rest in
    omega (arith, ap length w.items, length-append bytes (own ++ more), length-append own more, length-append start (options_bytes 0 all))

-- if the start and all options fit into `limit` bytes, the bytes so far and the next option do
pub room_for : (start : List ℕ) (all : List (ℕ × List ℕ)) (bytes : List ℕ) (before index limit : ℕ) (options : List (ℕ × Bor (List ℕ))) (d : ℕ × Bor (List ℕ)) →
    index < length options → Written start all bytes before (options_in (drop index options)) → length start + length (options_bytes 0 all) ≤ limit →
    length bytes + length (option_bytes ((get_or options index d).0 - before) (get_or options index d).1.now) ≤ limit
room_for start all bytes before index limit options d l w h =
    let o = get_or options index d in
    let first : Written start all bytes before ((o.0, o.1.now) ∷ options_in (drop (suc index) options)) =
    subst (λ os. Written start all bytes before (options_in os)) (drop-cons options index d l) w in
    let room = room_by start all bytes before o.0 o.1.now (options_in (drop (suc index) options)) first in
    omega (arith, h, room)

-- the value of the next option has less than 65,805 bytes
pub short_for : (start : List ℕ) (all : List (ℕ × List ℕ)) (bytes : List ℕ) (before index : ℕ) (options : List (ℕ × Bor (List ℕ))) (d : ℕ × Bor (List ℕ)) →
    index < length options → Written start all bytes before (options_in (drop index options)) → length (get_or options index d).1.now < 65805
short_for start all bytes before index options d l w =
    let o = get_or options index d in
    let first : Written start all bytes before ((o.0, o.1.now) ∷ options_in (drop (suc index) options)) =
    subst (λ os. Written start all bytes before (options_in os)) (drop-cons options index d l) w in
    first.options.0.is_short

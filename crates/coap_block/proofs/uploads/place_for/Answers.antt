use Rattle.std.proofs.Common.{rules, ◌≡◌, ℕ, List, [], ◌∷◌, ◌++◌, length, refl, sym, subst, arith}
use Rattle.coap_block.specs.declared.transfer.Transfer.{Transfer}
use Rattle.coap_block.specs.Places.{IsOwnTransfer}
use Rattle.coap_block.proofs.Places.{none_begun, none_fits, own_begun, own_found}
use Rattle.coap_block.proofs.uploads.place_for.Goals as goal

pub returns-in-Some-clause-place : goal.returns-in-Some-clause-place
returns-in-Some-clause-place c = own_found c.args.held.now.items c.args.endpoint c.args.slot c.args.block c.in-Some.place c.requires.few c.requires.single (search rules)

pub returns-then-number-gt0-clause-place : goal.returns-then-number-gt0-clause-place
returns-then-number-gt0-clause-place c = none_begun c.args.held.now.items c.args.endpoint c.args.slot c.args.block (omega arith) (search rules)

pub returns-then-place-ge-TRANSFERS-clause-place : goal.returns-then-place-ge-TRANSFERS-clause-place
returns-then-place-ge-TRANSFERS-clause-place c = none_fits c.args.held.now.items c.args.endpoint c.args.slot c.args.block (omega arith) (omega arith) (search rules)

pub returns-clause-place : goal.returns-clause-place
returns-clause-place c =
    let own : Transfer = record { endpoint = c.args.endpoint; slot = c.args.slot; at = c.args.now; body = c.new.result } in
    let placed : IsOwnTransfer c.args.held.now.items (c.args.held.now.items ++ own ∷ []) c.args.endpoint c.args.slot c.args.block (length c.args.held.now.items) = own_begun c.args.held.now.items c.args.endpoint c.args.slot c.args.block own (omega arith) (omega arith) (search rules) refl refl in
    let items : c.push_reserved.new.self.items ≡ c.args.held.now.items ++ own ∷ [] = search rules in
    let count : c.len-place.result ≡ length c.args.held.now.items = search rules in
    subst (λ (l : List Transfer). IsOwnTransfer c.args.held.now.items l c.args.endpoint c.args.slot c.args.block c.len-place.result) (sym items)
    (subst (λ (k : ℕ). IsOwnTransfer c.args.held.now.items (c.args.held.now.items ++ own ∷ []) c.args.endpoint c.args.slot c.args.block k) (sym count) placed)

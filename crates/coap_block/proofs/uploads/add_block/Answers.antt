use Rattle.std.proofs.Common.{rules, ◌≡◌, ◌≤◌, Bool, List, length, filter, false, sym, ap, ◌∙◌, subst, arith}
use Rattle.coap_block.specs.declared.transfer.Transfer.{Transfer}
use Rattle.coap_block.specs.Uploads.{IsWhole, is_transfer_of, is_under_way, kept_transfer, unless_more}
use Rattle.coap_block.proofs.Places.{continued_own, ended_own, joined_own, refused_keeps, refused_stays}
use Rattle.coap_block.proofs.Single.{count_left}
use Rattle.coap_block.proofs.uploads.add_block.Goals as goal

pub place_for-requires-clause-single : goal.place_for-requires-clause-single
place_for-requires-clause-single c = λ to n.
    let fewer = count_left (is_transfer_of to n) (is_under_way c.args.now) c.args.held.now.items in
    let one = c.requires.single to n in
    subst (λ (l : List Transfer). length (filter (is_transfer_of to n) l) ≤ 1) (sym c.expire.ensures.held) (omega (arith, fewer, one))

pub index_mut-requires : goal.index_mut-requires
index_mut-requires c = let lt = c.in-Ok.ensures.place.within in search (rules, lt)

pub returns-in-Ok-join-clause-after : goal.returns-in-Ok-join-clause-after
returns-in-Ok-join-clause-after c =
    let among = joined_own c.args.held.now.items _ _ _ _ _ _ c.args.now _ _ _ c.expire.ensures.held c.in-Ok.ensures.place c.index_mut.ensures.value c.in-Ok-join.ensures.joined in
    c.move_last.ensures.held c.join.new.transfer
    ∙ continued_own c.args.held.now.items _ _ _ _ _ _ c.args.now _ _ c.join.new.transfer c.expire.ensures.held c.in-Ok.ensures.place c.index_mut.ensures.value among (search rules) c.join.ensures.endpoint c.join.ensures.slot
    c.join.ensures.at

pub returns-in-Ok-2-clause-added : goal.returns-in-Ok-2-clause-added
returns-in-Ok-2-clause-added c =
    let among = joined_own c.args.held.now.items _ _ _ _ _ _ c.args.now _ _ _ c.expire.ensures.held c.in-Ok.ensures.place c.index_mut.ensures.value c.in-Ok-join.ensures.joined in
    let last : c.args.block.more ≡ false = search rules in
    let within = c.in-Ok.ensures.place.within in
    let removed : c.remove.result ≡ c.join.new.transfer = search (rules, within) in
    ap (λ (t : Transfer). IsWhole t.body.items) removed ∙ (λ i. unless_more (sym last i) (sym among i))

pub returns-in-Ok-2-clause-after : goal.returns-in-Ok-2-clause-after
returns-in-Ok-2-clause-after c =
    let among = joined_own c.args.held.now.items _ _ _ _ _ _ c.args.now _ _ _ c.expire.ensures.held c.in-Ok.ensures.place c.index_mut.ensures.value c.in-Ok-join.ensures.joined in
    let last : c.args.block.more ≡ false = search rules in
    let none = ap (λ (b : Bool). kept_transfer b c.args.now c.args.endpoint c.args.slot (IsWhole c.join.new.transfer.body.items)) last in
    c.remove.ensures.items ∙ ended_own c.args.held.now.items _ _ _ _ _ _ c.args.now _ _ c.join.new.transfer c.expire.ensures.held c.in-Ok.ensures.place among none

pub returns-in-Err-join-clause-added : goal.returns-in-Err-join-clause-added
returns-in-Err-join-clause-added c =
    let among = joined_own c.args.held.now.items _ _ _ _ _ _ c.args.now _ _ _ c.expire.ensures.held c.in-Ok.ensures.place c.index_mut.ensures.value c.in-Err-join.ensures.joined in
    c.refused-in-Err-join.ensures ∙ (sym (refused_stays c.args.block.more c.in-Err-join.refusal) ∙ ap (unless_more c.args.block.more) (sym among))

pub returns-in-Err-join-clause-after : goal.returns-in-Err-join-clause-after
returns-in-Err-join-clause-after c =
    let among = joined_own c.args.held.now.items _ _ _ _ _ _ c.args.now _ _ _ c.expire.ensures.held c.in-Ok.ensures.place c.index_mut.ensures.value c.in-Err-join.ensures.joined in
    c.remove-removed.ensures.items
    ∙ ended_own c.args.held.now.items _ _ _ _ _ _ c.args.now _ _ c.join.new.transfer c.expire.ensures.held c.in-Ok.ensures.place among (refused_keeps c.args.block.more c.args.now c.args.endpoint c.args.slot c.in-Err-join.refusal)

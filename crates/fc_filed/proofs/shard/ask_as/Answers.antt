use Rattle.std.proofs.Common.{◌≡◌, true, refl, sym, subst, ap, ◌∙◌, ⊎_elim}
use Rattle.fc_registry.specs.Slots.{Shard}
use Rattle.fc_linear.specs.Operations.{Operation, ShardDoes}
use Rattle.fc_filed.specs.Parts.{ShardCalls}
use Rattle.fc_filed.specs.Threads.{entry_by}
use Rattle.fc_filed.proofs.Shards.{calls_more}
use Rattle.fc_filed.proofs.shard.ask_as.Goals as goal

pub invariant_of-this : goal.invariant_of-this
invariant_of-this g c =
    let x = c.this.inside.shard in
    let y = c.call-answer.new.shard in
    let answer = c.call-answer.result in
    let room = c.call-answer.new.room in
    let e = entry_by c.args.who c.args.tracks.now (g.X.OperationName.operation answer room) in
    let at = ap (λ (s : ShardCalls). s.shard) (sym c.this.view_is) in
    let right = g.met.C.FiledCall.right c.args.call x answer room y (subst (λ (s : Shard). g.C.FiledCall.is_of c.args.call s) at c.requires.is_of) c.call-answer.ensures.does in
    let named = c.requires.named answer room ∙ ap (λ (s : Shard). g.C.FiledCall.operation s.index c.args.call answer room) at in
    let same = λ (p : g.J.ServerName.persistent ≡ true). ⊎_elim
    (λ none. c.call-answer.ensures.kept none)
    (λ slots. slots ∙ ap (λ (s : Shard). s.slots) at)
    (c.requires.unsaved p answer room y (subst (λ (s : Shard). g.C.ShardCall.does c.args.call s answer room y) (sym at) c.call-answer.ensures.does)) in
    calls_more g.J.ServerName.first g.J.ServerName.persistent g.P.Part.key c.this.inside.track c.file_answer.new.track e x y c.file_answer.ensures.track c.this.invariant
    (record { does = subst (λ (o : Operation). ShardDoes o x y) (sym named) right.does; saved = λ p. same p; unsaved = λ p. refl; refused = λ u e. absurd (right.logged u (sym named ∙ e)) }) c.call-answer.ensures.index c.call-answer.ensures.eight

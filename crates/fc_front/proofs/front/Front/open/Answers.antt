use Rattle.std.proofs.Common.{◌∙◌, ap, refl, sym}
use Rattle.fc_front.specs.Receiving.{Received, after_received, handed_on}
use Rattle.fc_front.proofs.Authorizing.{is_refused}
use Rattle.fc_front.proofs.front.Front.open.Goals as goal

pub returns-in-Refuse-clause-delivered : goal.returns-in-Refuse-clause-delivered
returns-in-Refuse-clause-delivered c =
    let refused = is_refused c.args.self.now c.args.request.now.endpoint c.args.request.now.message.now c.args.asking c.args.request.now.fields.now c.in-Refuse.code _ refl (sym c.authorize.ensures ∙ c.in-Refuse.is) in
    c.respond_now.ensures.handled c.args.job.now ∙ ap (λ (x : Received). handed_on x c.args.self.now c.args.request.now.endpoint) (sym refused)

pub returns-in-Refuse-clause-after : goal.returns-in-Refuse-clause-after
returns-in-Refuse-clause-after c =
    let refused = is_refused c.args.self.now c.args.request.now.endpoint c.args.request.now.message.now c.args.asking c.args.request.now.fields.now c.in-Refuse.code _ refl (sym c.authorize.ensures ∙ c.in-Refuse.is) in
    c.respond_now.ensures.after ∙ ap (λ (x : Received). after_received x c.args.self.now c.args.request.now.endpoint) (sym refused)

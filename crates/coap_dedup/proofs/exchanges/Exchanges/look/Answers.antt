use Rattle.std.proofs.Common.{◌≡◌, ◌∙◌, ap, sym, Option}
use Rattle.std.specs.Prelude.{find}
use Rattle.coap_dedup.specs.declared.exchange.Opened.{Opened}
use Rattle.coap_dedup.specs.declared.exchanges.Looked.{Looked}
use Rattle.coap_dedup.specs.Exchanges.{Table, room_at, is_of, look_at, look_by, repeated_by}
use Rattle.coap_dedup.specs.Calls.{expired}
use Rattle.coap_dedup.specs.Looks.{look_of}
use Rattle.coap_dedup.specs.declared.key.Key.{Key}
use Rattle.coap_dedup.specs.Requests.{has_key}
use Rattle.coap_dedup.proofs.Places.{found_key, found_look, look_seen}
use Rattle.coap_dedup.proofs.exchanges.Exchanges.look.Goals as goal
use Rattle.coap_dedup.proofs.exchanges.Exchanges.look.Goals.{in-Some, in-None}

pub returns-clause-looked : goal.returns-clause-looked
returns-clause-looked c =
    let os = c.self.inside.requests.items in
    let kept = c.self.inside.answers in
    let room = room_at (expired c.args.self.now c.args.now) c.args.endpoint.ip in
    let looks : found_look kept c.find.result room ≡ look_at (expired c.args.self.now c.args.now) c.args.endpoint c.args.id =
    ap (λ (o : Option Opened). found_look kept o room) (c.find.ensures.found ∙ (ap (λ (k : Key). find (has_key k) os) c.new.ensures.key ∙ found_key c.args.endpoint c.args.id os c.new.ensures.peer)) ∙ (sym (look_seen kept c.args.endpoint c.args.id room os) ∙ ap (λ (t : Table). look_by (find (is_of c.args.endpoint c.args.id) t.held) room) (c.self.view_is ∙ c.expire.ensures)) in
    let tells : look_of c.match-find.result room ≡ found_look kept c.find.result room = elim c.match-find.branch [
      | in-Some w ↦
          (let o = w.in-Some.opened in
          ap (λ (l : Looked). look_of l room) w.result-is ∙ (w.repeat.ensures room ∙ (ap (repeated_by o.confirmable) w.get.ensures ∙ ap (λ (x : Option Opened). found_look kept x room) (sym w.in-Some.is))))
      | in-None w ↦
          ap (λ (l : Looked). look_of l room) w.result-is ∙ ap (λ (x : Option Opened). found_look kept x room) (sym w.in-None.is)
    ] in
    tells ∙ looks

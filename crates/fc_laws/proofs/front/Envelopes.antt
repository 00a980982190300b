-- The receiver of an answer.
use Rattle.std.proofs.Common.{◌≡◌, ℕ, Bool, true, false, Option, Some, None, refl, sym, ap, ◌∙◌, subst, max}
use Rattle.coap_msg.specs.declared.types.Emission.{Emission}
use Rattle.coap_msg.specs.declared.types.Endpoint.{Endpoint}
use Rattle.coap_msg.specs.declared.types.MessageType.TheVariants.{Acknowledgement, Confirmable, NonConfirmable}
use Rattle.coap_msg.specs.Wire.{Message}
use Rattle.coap_reply.specs.Responses.{Response, reply_kind, sent_in}
use Rattle.fc_ticket.specs.declared.job.Job.{Job}
use Rattle.fc_core.specs.declared.event.Event.TheVariants.{Answer}
use Rattle.fc_core.specs.Stage.{Stage}
use Rattle.fc_core.specs.Stage.{ToAnswer}
use Rattle.fc_front.specs.Contents.{Content}
use Rattle.fc_front.specs.Exchanges.{FrontState, opening_is_live}
use Rattle.fc_core.specs.History.{Seen, front_at, job, stage}
use Rattle.fc_front.specs.Ids.{free_id, reply_id}
use Rattle.fc_core.specs.Legal.{AnswerEmits, Emits, IsAnswered}
use Rattle.fc_front.specs.Receiving.{is_confirmable, reply_sent, reply_sent_by}
use Rattle.fc_front.specs.Replies.{IsReplyTo}
use Rattle.fc_laws.specs.ReplyLaws.{IsAnswerTo}
use Rattle.fc_core.specs.Stages.{content_at}

-- if an answer is sent, there is a message ID for it, and the answer is a response with this
-- message ID.
replies_by : (live : Bool) (id : Option ℕ) (j : Job) (content : Content) (e : Emission) → IsAnswered live id j content (Some e) → (own : ℕ) × (id ≡ Some own) × IsReplyTo j own content e
replies_by true (Some id) j content e w = (id, refl, w)
replies_by true None j content e w = absurd (cc w)
replies_by false id j content e w = absurd (cc w)

answered_as : (s : Seen) (k now : ℕ) (content : Content) (o : Option Emission) → stage s k ≡ ToAnswer content → Emits s (Answer k now) o → AnswerEmits (Some content) (job s k) (front_at s now) o
answered_as s k now content o is sent = subst (λ (st : Stage). AnswerEmits (content_at st) (job s k) (front_at s now) o) is sent

-- an answer that is sent has the message ID that fits its request, confirmable or not.
replied : (s : Seen) (k now : ℕ) (content : Content) (e : Emission) (c : Bool) → stage s k ≡ ToAnswer content → (job s k).confirmable ≡ c → Emits s (Answer k now) (Some e) → (own : ℕ) × (reply_id c (job s k).origin.id (free_id s.ids (max s.time now)) ≡ Some own) × IsAnswerTo (job s k) content (reply_kind c) own e
replied s k now content e c is confirms sent =
    let j = job s k in
    let w = replies_by (opening_is_live (max s.time now) j.origin.opening) (reply_id j.confirmable j.origin.id (free_id s.ids (max s.time now))) j content e (answered_as s k now content (Some e) is sent) in (
      w.0,
      ap (λ (b : Bool). reply_id b j.origin.id (free_id s.ids (max s.time now))) (sym confirms) ∙ w.1,
      record { response = w.2.response; says = w.2.says; is = w.2.emission_is ∙ ap (λ (b : Bool). sent_in (record { to = j.origin.endpoint; kind = reply_kind b; id = w.0; token = j.token.items }) w.2.response) confirms },
    )

pub acknowledges : (s : Seen) (k now : ℕ) (content : Content) (e : Emission) → stage s k ≡ ToAnswer content → (job s k).confirmable ≡ true → Emits s (Answer k now) (Some e) → IsAnswerTo (job s k) content Acknowledgement (job s k).origin.id e
acknowledges s k now content e is confirms sent =
    let w = replied s k now content e true is confirms sent in
    let own : (job s k).origin.id ≡ w.0 = cc w.1 in
    subst (λ (id : ℕ). IsAnswerTo (job s k) content Acknowledgement id e) (sym own) w.2

pub answers_otherwise : (s : Seen) (k now : ℕ) (content : Content) (e : Emission) → stage s k ≡ ToAnswer content → (job s k).confirmable ≡ false → Emits s (Answer k now) (Some e) → (id : ℕ) × (free_id s.ids (max s.time now) ≡ Some id) × IsAnswerTo (job s k) content NonConfirmable id e
answers_otherwise s k now content e is confirms sent = replied s k now content e false is confirms sent

-- ---- immediately

pub acknowledges_at_once : (f : FrontState) (to : Endpoint) (m : Message) (response : Response) → m.kind ≡ Confirmable → reply_sent f to m response ≡ Some (sent_in (record { to = to; kind = Acknowledgement; id = m.id; token = m.token }) response)
acknowledges_at_once f to m response kind =
    ap (λ (b : Bool). reply_sent_by (reply_id b m.id (free_id f.ids f.now)) to m response) (ap is_confirmable kind)
    ∙ ap (λ (b : Bool). Some (sent_in (record { to = to; kind = reply_kind b; id = m.id; token = m.token }) response)) (ap is_confirmable kind)

pub answers_at_once : (f : FrontState) (to : Endpoint) (m : Message) (response : Response) (id : ℕ) → m.kind ≡ NonConfirmable → free_id f.ids f.now ≡ Some id → reply_sent f to m response ≡ Some (sent_in (record { to = to; kind = NonConfirmable; id = id; token = m.token }) response)
answers_at_once f to m response id kind free =
    ap (λ (b : Bool). reply_sent_by (reply_id b m.id (free_id f.ids f.now)) to m response) (ap is_confirmable kind)
    ∙ (ap (λ (x : Option ℕ). reply_sent_by x to m response) free
    ∙ ap (λ (b : Bool). Some (sent_in (record { to = to; kind = reply_kind b; id = id; token = m.token }) response)) (ap is_confirmable kind))

pub hushed_at_once : (f : FrontState) (to : Endpoint) (m : Message) (response : Response) → m.kind ≡ NonConfirmable → free_id f.ids f.now ≡ None → reply_sent f to m response ≡ None
hushed_at_once f to m response kind free =
    ap (λ (b : Bool). reply_sent_by (reply_id b m.id (free_id f.ids f.now)) to m response) (ap is_confirmable kind)
    ∙ ap (λ (x : Option ℕ). reply_sent_by x to m response) free

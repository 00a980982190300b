-- The response that a job's answer makes (RFC 7252, section 5.2).
use Rattle.std.specs.Prelude.{◌≡◌, ℕ, ◌≤◌, true, false, List, [], ◌∷◌}
use Rattle.arrayvec.specs.ArrayVec.{ArrayVec}
use Rattle.coap_msg.specs.declared.types.Emission.{Emission}
use Rattle.coap_msg.specs.Codes.{code}
use Rattle.coap_opts.specs.declared.number.TheConstants as option
use Rattle.coap_reply.specs.Blocks.{block1, cut_for}
use Rattle.coap_reply.specs.Responses.{Envelope, Response, bare, content, etag, ran_response, reply_kind, sent_in, text}
use Rattle.fc_isa.specs.Rules.{number_of, fault_text}
use Rattle.fc_ticket.specs.Receipts.{receipt_text}
use Rattle.fc_ticket.specs.declared.job.Job.{Job}
use Rattle.fc_ticket.specs.declared.receipt.Receipt.{Receipt}
use Rattle.fc_front.specs.Contents.{Content, Ran, Missing, Unavailable, Made, Rejected, Untyped, Valid, Deleted, Described, Listed}
use Rattle.fc_front.specs.Links.{links_text}

-- the response to an install: the receipt of the program. If the image came in blocks, the response
-- has the last one as Block1.
abbrev pub made_response : ℕ → Job → Receipt → Response
made_response answer j receipt = record { code = answer; options = block1 j.block; payload = receipt_text receipt }

-- Content-Format of `application/link-format` (RFC 7252, section 12.3).
abbrev pub link_format : List (ℕ × List ℕ)
link_format = (option.CONTENT_FORMAT, 40 ∷ []) ∷ []

-- the response to a job is one that the job's answer makes: 2.01 (Created), 2.02 (Deleted), 2.03
-- (Valid), 2.04 (Changed), 2.05 (Content), 4.00 (Bad Request), 4.04 (Not Found), 5.03 (Service
-- Unavailable) or a run's code. A refusal by typing names any rule from 20 to 28, and any slot.
abbrev pub Says : Job → Content → Response → Type 0
Says j (Ran run) r = r ≡ ran_response run.code run.cut run.serial run.observed
Says j Missing r = r ≡ bare (code 4 4)
Says j Unavailable r = r ≡ bare (code 5 3)
Says j (Made receipt true) r = r ≡ made_response (code 2 1) j receipt
Says j (Made receipt false) r = r ≡ made_response (code 2 4) j receipt
Says j (Rejected rule slot) r = r ≡ text (code 4 0) (fault_text (number_of rule) slot)
Says j Untyped r = (number : ℕ) × (slot : ℕ) × (20 ≤ number) × (number ≤ 28) × (r ≡ text (code 4 0) (fault_text number slot))
Says j (Valid serial) r = r ≡ record { code = code 2 3; options = etag serial; payload = [] }
Says j Deleted r = r ≡ bare (code 2 2)
Says j (Described receipt) r = r ≡ content [] (cut_for j.block (receipt_text receipt))
Says j (Listed words) r = r ≡ content link_format (cut_for j.block (links_text words))

-- the header data of a job's response with this message ID.
abbrev pub envelope_of : Job → ℕ → Envelope
envelope_of job id = record { to = job.origin.endpoint; kind = reply_kind job.confirmable; id = id; token = job.token.items }

-- a datagram to the endpoint of a job.
abbrev pub to_job : Job → ArrayVec ℕ → Emission
to_job job bytes = record { to = job.origin.endpoint; bytes = bytes }

-- the emission answers the job with this content and this message ID.
pub record IsReplyTo (job : Job) (id : ℕ) (content : Content) (emission : Emission) : Type 0 where
  pub response : Response
  pub says : Says job content response
  pub emission_is : emission ≡ sent_in (envelope_of job id) response

-- The codes of answers.
use Rattle.std.proofs.Common.{◌≡◌, ℕ, ◌==◌, ◌++◌, Bool, true, false, Option, Some, None, refl, sym, ap, ◌∙◌, if◌then◌else◌, List, []}
use Rattle.std.proofs.lemmas.Bool.{eqb-true}
use Rattle.coap_block.specs.Cuts.{Part, part_bytes}
use Rattle.coap_reply.specs.Blocks.{cut_for}
use Rattle.coap_reply.specs.Responses.{Response, bare, content, etag, observe_option, ran_response, text}
use Rattle.fc_isa.specs.declared.rule.Rule.{Rule}
use Rattle.fc_ticket.specs.Receipts.{receipt_text}
use Rattle.fc_ticket.specs.declared.job.Job.{Job}
use Rattle.fc_ticket.specs.declared.receipt.Receipt.{Receipt}
use Rattle.fc_front.specs.Contents.{Deleted, Described, Listed, Made, Missing, Ran, Rejected, RunAnswer, Unavailable, Untyped, Valid}
use Rattle.fc_front.specs.Links.{links_text}
use Rattle.fc_front.specs.Replies.{Says, link_format}

abbrev response_code : Response → ℕ
response_code r = r.code

pub created_code : (j : Job) (receipt : Receipt) (r : Response) → Says j (Made receipt true) r → r.code ≡ 65
created_code j receipt r e = ap response_code e

pub changed_code : (j : Job) (receipt : Receipt) (r : Response) → Says j (Made receipt false) r → r.code ≡ 68
changed_code j receipt r e = ap response_code e

pub deleted_code : (j : Job) (r : Response) → Says j Deleted r → r.code ≡ 66
deleted_code j r e = ap response_code e

pub valid_code : (j : Job) (serial : ℕ) (r : Response) → Says j (Valid serial) r → r.code ≡ 67
valid_code j serial r e = ap response_code e

pub missing_code : (j : Job) (r : Response) → Says j Missing r → r.code ≡ 132
missing_code j r e = ap response_code e

pub unavailable_code : (j : Job) (r : Response) → Says j Unavailable r → r.code ≡ 163
unavailable_code j r e = ap response_code e

pub rejected_code : (j : Job) (rule : Rule) (slot : ℕ) (r : Response) → Says j (Rejected rule slot) r → r.code ≡ 128
rejected_code j rule slot r e = ap response_code e

pub untyped_code : (j : Job) (r : Response) → Says j Untyped r → r.code ≡ 128
untyped_code j r w = ap response_code w.4

-- ---- contents

pub described_code : (j : Job) (receipt : Receipt) (part : Part) (r : Response) → cut_for j.block (receipt_text receipt) ≡ Some part → Says j (Described receipt) r → r.code ≡ 69
described_code j receipt part r is e = ap response_code e ∙ ap (λ (x : Option Part). (content [] x).code) is

pub described_past_code : (j : Job) (receipt : Receipt) (r : Response) → cut_for j.block (receipt_text receipt) ≡ None → Says j (Described receipt) r → r.code ≡ 128
described_past_code j receipt r is e = ap response_code e ∙ ap (λ (x : Option Part). (content [] x).code) is

pub listed_code : (j : Job) (words : List ℕ) (part : Part) (r : Response) → cut_for j.block (links_text words) ≡ Some part → Says j (Listed words) r → r.code ≡ 69
listed_code j words part r is e = ap response_code e ∙ ap (λ (x : Option Part). (content link_format x).code) is

pub listed_past_code : (j : Job) (words : List ℕ) (r : Response) → cut_for j.block (links_text words) ≡ None → Says j (Listed words) r → r.code ≡ 128
listed_past_code j words r is e = ap response_code e ∙ ap (λ (x : Option Part). (content link_format x).code) is

-- ---- runs

ran_by : (answer serial : ℕ) (observed : Bool) (part : Part) (is_content is_changed : Bool) → (answer == 69) ≡ is_content →
    (if is_content then content (etag serial ++ observe_option observed serial) (Some part) else (if is_changed then text answer (part_bytes (Some part)) else bare answer)).code ≡ answer
ran_by answer serial observed part true is_changed is = sym (eqb-true answer 69 is)
ran_by answer serial observed part false true is = refl
ran_by answer serial observed part false false is = refl

pub ran_code : (j : Job) (run : RunAnswer) (part : Part) (r : Response) → run.cut ≡ Some part → Says j (Ran run) r → r.code ≡ run.code
ran_code j run part r is e =
    ap response_code e
    ∙ (ap (λ (x : Option Part). (ran_response run.code x run.serial run.observed).code) is
    ∙ ran_by run.code run.serial run.observed part (run.code == 69) (run.code == 68) refl)

pub ran_past_code : (j : Job) (run : RunAnswer) (r : Response) → run.cut ≡ None → run.code ≡ 69 → Says j (Ran run) r → r.code ≡ 128
ran_past_code j run r is counts e = ap response_code e ∙ (λ i. (ran_response (counts i) (is i) run.serial run.observed).code)

-- The code of a reply is a success, 4.00, 4.03, 4.04 or 5.00.
use Rattle.std.proofs.Common.{◌≡◌, ℕ, ◌==◌, ◌||◌, Bool, true, false, refl, ap, if◌then◌else◌}
use Rattle.fc_help.specs.declared.request.Method.{Method}
use Rattle.fc_help.specs.declared.request.Method.TheVariants.{Get, Post}
use Rattle.fc_kinds.specs.Meaning.{code_byte, is_answer, reply_code, success_of}
use Rattle.fc_kinds.specs.Runnable.{is_reply_code}

success_known : (m : Method) → is_reply_code m (success_of m) ≡ true
success_known Get = refl
success_known Post = refl

error_known : (m : Method) → is_reply_code m (code_byte 5 0) ≡ true
error_known Get = refl
error_known Post = refl

answer_known : (m : Method) (n : ℕ) (b : Bool) → is_answer m n ≡ b → is_reply_code m (if b then n else code_byte 5 0) ≡ true
answer_known m n true h = ap (λ (x : Bool). x || (n == code_byte 5 0)) h
answer_known m n false h = error_known m

by_test : (m : Method) (n : ℕ) (b : Bool) → is_reply_code m (if b then success_of m else (if is_answer m n then n else code_byte 5 0)) ≡ true
by_test m n true = success_known m
by_test m n false = answer_known m n (is_answer m n) refl

pub all_known : (m : Method) (n : ℕ) → is_reply_code m (reply_code m n) ≡ true
all_known m n = by_test m n (n == 0)

-- The helpers by their numbers and names, their arguments and results, and the size of a reply.
use Rattle.std.specs.Prelude.{ℕ, suc, ℤ, pos, List, [], ◌∷◌, Option, None, slice_get, codes}
use Rattle.fc_help.specs.declared.request.Method.{Method}
use Rattle.fc_help.specs.declared.request.Method.TheVariants.{Get, Post}
use Rattle.fc_help.specs.declared.helper.Helper.{Helper}
use Rattle.fc_help.specs.declared.helper.Helper.TheVariants.{PayloadLen, PayloadByte, VarGet, VarPut, ReplyPut, ReplyByte, Notify}
use Rattle.fc_help.specs.declared.helper.Arguments.{Arguments}
use Rattle.fc_help.specs.declared.helper.Arguments.TheVariants.{NoArgument, OneNumber, TwoNumbers, Bytes}
use Rattle.fc_help.specs.declared.helper.Signature.{Signature}

abbrev pub helpers : List Helper
helpers = PayloadLen ∷ PayloadByte ∷ VarGet ∷ VarPut ∷ ReplyPut ∷ ReplyByte ∷ Notify ∷ []

-- the helper with this number; the helpers are numbered from 1 on.
abbrev pub helper_of : ℤ → Option Helper
helper_of (pos (suc n)) = slice_get helpers n
helper_of other = None

abbrev pub helper_number : Helper → ℤ
helper_number PayloadLen = pos 1
helper_number PayloadByte = pos 2
helper_number VarGet = pos 3
helper_number VarPut = pos 4
helper_number ReplyPut = pos 5
helper_number ReplyByte = pos 6
helper_number Notify = pos 7

-- the name of each helper in a source, in ASCII.
abbrev pub helper_name : Helper → List ℕ
helper_name PayloadLen = codes "payload_len"
helper_name PayloadByte = codes "payload_byte"
helper_name VarGet = codes "var_get"
helper_name VarPut = codes "var_put"
helper_name ReplyPut = codes "reply_put"
helper_name ReplyByte = codes "reply_byte"
helper_name Notify = codes "notify"

abbrev pub signature : Arguments → ℕ → Signature
signature arguments most = record { arguments = arguments; most = most }

-- the arguments of each helper, and the greatest number that it returns.
abbrev pub signature_of : Helper → Signature
signature_of PayloadLen = signature NoArgument 1024
signature_of PayloadByte = signature OneNumber 18446744073709551615
signature_of VarGet = signature OneNumber 18446744073709551615
signature_of VarPut = signature TwoNumbers 1
signature_of ReplyPut = signature Bytes 1
signature_of ReplyByte = signature OneNumber 1
signature_of Notify = signature NoArgument 0

-- the maximum length of a reply, in bytes.
abbrev pub room_of : Method → ℕ
room_of Get = 4096
room_of Post = 1024

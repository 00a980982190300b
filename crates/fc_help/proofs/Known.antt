-- Each helper has its own number, and returns numbers of 64 bits.
use Rattle.std.proofs.Common.{◌≡◌, ℕ, zero, suc, ◌<◌, ◌^◌, ℤ, pos, negsuc, Some, refl, subst, arith}
use Rattle.std.specs.Prelude.{slice_get}
use Rattle.fc_help.specs.declared.helper.Helper.{Helper}
use Rattle.fc_help.specs.declared.helper.Helper.TheVariants.{PayloadLen, PayloadByte, VarGet, VarPut, ReplyPut, ReplyByte, Notify}
use Rattle.fc_help.specs.Helpers.{helpers, helper_of, helper_number, signature_of}

pub named : (helper : Helper) → Some helper ≡ helper_of (helper_number helper)
named PayloadLen = refl
named PayloadByte = refl
named VarGet = refl
named VarPut = refl
named ReplyPut = refl
named ReplyByte = refl
named Notify = refl

-- a number that has a helper is the helper's
pub numbered : (number : ℤ) (helper : Helper) → helper_of number ≡ Some helper → helper_number helper ≡ number
numbered (pos zero) helper e = absurd (cc e)
numbered (pos (suc n)) helper e = listed n helper e
  where
    found : (k : ℕ) (one other : Helper) → helper_number one ≡ pos (suc k) → Some one ≡ Some other → helper_number other ≡ pos (suc k)
    found k one other h g = subst (λ x. helper_number x ≡ pos (suc k)) (cc g) h

    listed : (k : ℕ) (x : Helper) → slice_get helpers k ≡ Some x → helper_number x ≡ pos (suc k)
    listed zero x g = found 0 PayloadLen x refl g
    listed (suc zero) x g = found 1 PayloadByte x refl g
    listed (suc (suc zero)) x g = found 2 VarGet x refl g
    listed (suc (suc (suc zero))) x g = found 3 VarPut x refl g
    listed (suc (suc (suc (suc zero)))) x g = found 4 ReplyPut x refl g
    listed (suc (suc (suc (suc (suc zero))))) x g = found 5 ReplyByte x refl g
    listed (suc (suc (suc (suc (suc (suc zero)))))) x g = found 6 Notify x refl g
    listed (suc (suc (suc (suc (suc (suc (suc k))))))) x g = absurd (cc g)
numbered (negsuc n) helper e = absurd (cc e)

pub most_low : (helper : Helper) → (signature_of helper).most < 2 ^ 64
most_low PayloadLen = omega arith
most_low PayloadByte = omega arith
most_low VarGet = omega arith
most_low VarPut = omega arith
most_low ReplyPut = omega arith
most_low ReplyByte = omega arith
most_low Notify = omega arith

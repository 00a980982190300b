use Rattle.std.proofs.Common.{◌≡◌, ◌&&◌, ◌||◌, Bool, true, false, is_some, not, refl, ap}
use Rattle.coap_client.specs.declared.reply.Next.{Next}
use Rattle.coap_client.specs.declared.reply.Next.TheVariants as next
use Rattle.coap_observer.specs.Notices.{is_first_part, is_last_part, sequence_of}
use Rattle.coap_client.specs.Replies.{is_success, is_understood, next_of_answer}
use Rattle.coap_observer.proofs.laws.several_blocks_without_observe_are_unobserved.Goals as goal

-- the first of several blocks isn't the last.
unlast : (n : Next) → is_first_part n ≡ true → is_last_part n ≡ false
unlast (next.Ask part) h = refl
unlast next.Last h = absurd (cc h)
unlast next.Refused h = refl
unlast next.Stale h = refl
unlast next.Malformed h = refl

-- without a sequence number it isn't the first block of a state either.
unshown : (known : Bool) (n : Next) (success some : Bool) → ((known && (is_first_part n && success)) && not some) ≡ true
    → ((known && is_last_part n) || ((known && (is_first_part n && success)) && some)) ≡ false
unshown false n success some h = absurd (cc h)
unshown true n success true h = by (is_first_part n && success) h
  where
    by : (b : Bool) → (b && false) ≡ true → (is_last_part n || (b && true)) ≡ false
    by true x = absurd (cc x)
    by false x = absurd (cc x)
unshown true n success false h = by (is_first_part n) refl h
  where
    none : (x y : Bool) → x ≡ false → (x || (y && false)) ≡ false
    none x true is = ap (λ (z : Bool). z || false) is
    none x false is = ap (λ (z : Bool). z || false) is

    by : (b : Bool) → is_first_part n ≡ b → ((b && success) && true) ≡ true → (is_last_part n || ((b && success) && false)) ≡ false
    by true is x = none (is_last_part n) (true && success) (unlast n is)
    by false is x = absurd (cc x)

pub returns-clause-unshown : goal.returns-clause-unshown
returns-clause-unshown c = λ m h. unshown (is_understood m) (next_of_answer 0 6 m) (is_success m.code) (is_some (sequence_of m)) h

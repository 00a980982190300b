-- Two lists of receives, or of datagrams passed to a sink, joined; and the counts of the joined
-- list.
use Rattle.std.proofs.Common.{◌≡◌, ℕ, ◌+◌, Bool, true, false, not, List, [], ◌∷◌, ◌++◌, append-nil, append_assoc, add_assoc, add-zero, Option, Some, None, arith, refl, ap, sym, subst, ◌∙◌}
use Rattle.std.specs.Prelude.{IfSome, cond, count_by}
use Rattle.std.proofs.lemmas.List.{map-append}
use Rattle.std.proofs.lemmas.List.Sums.{sum_by-append, sum_by-cons}
use Rattle.coap_msg.specs.declared.types.Emission.{Emission}
use Rattle.fc_backend.specs.Answers.{saturated}
use Rattle.fc_host.specs.Sockets.{Comes, Receive}
use Rattle.fc_pool.specs.Counting.{counted}
use Rattle.fc_receive.specs.Traffic.{AreHanded, Sending, Sends, counted_each, replies_to}
use Rattle.fc_pool.specs.declared.replies.SentReplies.{SentReplies}
use Rattle.fc_pool.specs.declared.replies.Replies.{Replies}
use Rattle.fc_backend.specs.declared.call_log.CallLog.{CallLog}

-- ---- the datagrams received

pub none_came : (a : Option (List Receive)) → Comes a a []
none_came None = tt
none_came (Some known) = ap (λ (l : List Receive). Some l) (sym (append-nil known))

pub more_came : (a b c : Option (List Receive)) (xs ys : List Receive) → Comes a b xs → Comes b c ys → Comes a c (xs ++ ys)
more_came None b c xs ys v w = tt
more_came (Some known) b c xs ys v w =
    let next : c ≡ Some ((known ++ xs) ++ ys) = subst (λ (o : Option (List Receive)). IfSome o (λ (l : List Receive). c ≡ Some (l ++ ys))) v w in
    next ∙ ap (λ (l : List Receive). Some l) (append_assoc known xs ys)

-- ---- the datagrams passed to a sink

pub each_counted : (xs ys : List Sending) (r : Replies) → counted_each (xs ++ ys) r ≡ counted_each ys (counted_each xs r)
each_counted [] ys r = refl
each_counted (x ∷ xs) ys r = each_counted xs ys (counted (Some x.out) r)

module _ (Went : Emission → Bool → CallLog → CallLog → Type 0) where
  pub more_handed : (xs ys : List Sending) (a b c : CallLog) → AreHanded Went xs a b → AreHanded Went ys b c → AreHanded Went (xs ++ ys) a c
  more_handed [] ys a b c v w = subst (λ (l : CallLog). AreHanded Went ys l c) v w
  more_handed (x ∷ xs) ys a b c v w = (v.0, v.1, more_handed xs ys v.0 b c v.2 w)

  pub none_sent : (o : SentReplies) → Sends Went [] o o
  none_sent o = ([], refl, refl, refl)

  pub one_sent : (e : Emission) (out : Bool) (a b : SentReplies) → Went e out a.log b.log → b.replies ≡ counted (Some out) a.replies → Sends Went (e ∷ []) a b
  one_sent e out a b went is = (record { emission = e; out = out } ∷ [], (b.log, went, refl), refl, is)

  pub more_sent : (a b c : SentReplies) (xs ys : List Emission) → Sends Went xs a b → Sends Went ys b c → Sends Went (xs ++ ys) a c
  more_sent a b c xs ys v w = (
    v.0 ++ w.0,
    more_handed v.0 w.0 a.log b.log c.log v.1 w.1,
    map-append (λ (s : Sending). s.emission) v.0 w.0 ∙ (λ i. v.2 i ++ w.2 i),
    w.3 ∙ (ap (counted_each w.0) v.3 ∙ sym (each_counted v.0 w.0 a.replies)),
  )

-- ---- the number of datagrams sent

-- counts of `sent` and `failed` replies; each count stops at 2^64 - 1.
abbrev replies_at : ℕ → ℕ → Replies
replies_at sent failed = record { sent = saturated sent; failed = saturated failed }

once_more : (n : ℕ) → saturated (saturated n + 1) ≡ saturated (n + 1)
once_more n = omega arith

count_one : (out : Bool) (sent failed : ℕ) → counted (Some out) (replies_at sent failed) ≡ replies_at (sent + cond out 1 0) (failed + cond (not out) 1 0)
count_one true sent failed = λ i. record { sent = once_more sent i; failed = saturated (sym (add-zero failed) i) }
count_one false sent failed = λ i. record { sent = saturated (sym (add-zero sent) i); failed = once_more failed i }

count_from : (p : Sending → Bool) (n : ℕ) (s : Sending) (ss : List Sending) → n + cond (p s) 1 0 + count_by p ss ≡ n + count_by p (s ∷ ss)
count_from p n s ss = add_assoc n (cond (p s) 1 0) (count_by p ss) ∙ ap (λ (k : ℕ). n + k) (sym (sum_by-cons (λ x. cond (p x) 1 0) s ss))

counted_at : (ss : List Sending) (sent failed : ℕ) → counted_each ss (replies_at sent failed) ≡ replies_at (sent + count_by (λ s. s.out) ss) (failed + count_by (λ s. not s.out) ss)
counted_at [] sent failed = λ i. replies_at (sym (add-zero sent) i) (sym (add-zero failed) i)
counted_at (s ∷ ss) sent failed =
    ap (counted_each ss) (count_one s.out sent failed)
    ∙ (counted_at ss (sent + cond s.out 1 0) (failed + cond (not s.out) 1 0)
    ∙ λ i. replies_at (count_from (λ x. x.out) sent s ss i) (count_from (λ x. not x.out) failed s ss i))

-- if each sending of the second list is counted after the first list, the counts are those of both.
pub more_replies : (xs ss : List Sending) → counted_each ss (replies_to xs) ≡ replies_to (xs ++ ss)
more_replies xs ss =
    counted_at ss (count_by (λ s. s.out) xs) (count_by (λ s. not s.out) xs)
    ∙ λ i. replies_at (sym (sum_by-append (λ s. cond s.out 1 0) xs ss) i) (sym (sum_by-append (λ s. cond (not s.out) 1 0) xs ss) i)

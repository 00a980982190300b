-- Rounds, one after the other.
use Rattle.std.proofs.Common.{◌≡◌, ℕ, ◌+◌, ◌<◌, ◌≤◌, Bool, List, [], ◌∷◌, length, Option, Some, None, arith, refl, ap, sym, subst, ◌∙◌}
use Rattle.std.specs.Prelude.{false, is_none, min, true}
use Rattle.std.proofs.lemmas.List.{length-append}
use Rattle.std.specs.Option.{option_to_list}
use Rattle.coap_msg.specs.declared.types.Emission.{Emission}
use Rattle.fc_host.specs.Sockets.{Comes, Incoming, Receive}
use Rattle.fc_receive.proofs.Traffic.{more_came, more_replies, more_sent, none_came, none_sent}
use Rattle.fc_pool.specs.Counting.{no_replies}
use Rattle.fc_receive.specs.Handling.{IsHandledBy}
use Rattle.fc_server.specs.Ingresses.{IngressCalls}
use Rattle.fc_receive.specs.Rounds.{EndsByTimer, HasRounds, IsReadIfAny, IsReceivedBy, Round, RoundCalls, WaitsAfter, received_in, round_receives, sendings_in}
use Rattle.fc_server.specs.Flushing.{AreFlushed, AreStepsBy, FlushingStep, sent_in_steps}
use Rattle.fc_receive.specs.Traffic.{Sends, counted_each}
use Rattle.fc_pool.specs.declared.replies.SentReplies.{SentReplies}
use Rattle.fc_backend.specs.declared.call_log.CallLog.{CallLog}

module _ {S : Type 0} (Readies : ℕ → S → S → Type 0) (calls : IngressCalls S) (e : RoundCalls) where
  abbrev Rounds : List Round → Option (List Receive) → Option (List Receive) → S → S → CallLog → SentReplies → Type 0
  Rounds rounds before after old new log replied = HasRounds Readies calls e rounds before after old new log replied

  -- sent replies that were passed on with another log, by a receive of this wait and datagram and
  -- by the next reading of the clock.
  pub record AreAsked (wait : Option ℕ) (received : Option Incoming) (now : ℕ) (old new : SentReplies) : Type 0 where
    pub asked : CallLog
    pub receives : e.received (record { wait = wait; came = received }) old.log asked
    pub time : e.time now asked new.log
    pub kept : new.replies ≡ old.replies

  -- a round ended with these sent replies: the clock was read again, or it wasn't. The next receive
  -- waits so long.
  pub record IsEnded (left : S) (now : ℕ) (idle : Bool) (wait : Option ℕ) (old new : SentReplies) : Type 0 where
    pub ended : Option ℕ
    pub waits : EndsByTimer calls left now ended idle wait
    pub read : IsReadIfAny e.time ended old.log new.log
    pub kept : new.replies ≡ old.replies

  -- rounds in which this number of datagrams was received, no more than the limit, if there is one;
  -- and how long the next receive waits.
  abbrev pub Runs : (limit count : ℕ) → Option ℕ → Option (List Receive) → Option (List Receive) → S → S → SentReplies → Type 0
  Runs limit count wait before after old new replied =
      (rounds : List Round) × ((log : CallLog) × Rounds rounds before after old new log replied) × (0 < limit → (length (received_in rounds) ≡ count) × (count ≤ limit)) × WaitsAfter calls rounds new wait

  pub no_rounds : (limit : ℕ) (came : Option (List Receive)) (s : S) (o : SentReplies) (wait : Option ℕ) → o.replies ≡ no_replies → WaitsAfter calls [] s wait → Runs limit 0 wait came came s s o
  no_rounds limit came s o wait none waits =
      ([], (o.log, record { are_rounds = refl; came = none_came came; called = refl; counted = none }), λ some. (refl, omega arith), waits)

  one_round : (limit count next : ℕ) (wait after_it : Option ℕ) (before mid after : Option (List Receive)) (old last ready answered new : S) (o a b c d : SentReplies) (now : ℕ) (received : Option Incoming)
      → Runs limit count wait before mid old last o → AreAsked wait received now o a
      → Comes mid after (record { wait = wait; came = received } ∷ []) → Readies now last ready
      → ((sent : Option Emission) × IsReceivedBy Readies calls now received ready sent answered × Sends e.went (option_to_list sent) a b)
      → ((steps : List FlushingStep) × AreStepsBy calls now steps answered new × AreFlushed steps × Sends e.went (sent_in_steps steps) b c)
      → (0 < limit → (count + length (option_to_list received) ≡ next) × (next ≤ limit)) → IsEnded new now (is_none received) after_it c d → Runs limit next after_it before after old new d
  one_round limit count next wait after_it before mid after old last ready answered new o a b c d now received w asks came readied x y counts ends =
      let rounds = w.0 in
      let h = w.1.1 in
      let z = more_sent e.went a b c (option_to_list x.0) (sent_in_steps y.0) x.2 y.3 in (
        record { wait = wait; received = received; now = now; sent = x.0; steps = y.0; sendings = z.0; ended = ends.ended } ∷ rounds,
        (
          w.1.0,
          record {
            are_rounds = (last, h.are_rounds, w.3, record { ready = ready; readied = readied; answered = answered; carried_out = x.1; steps = y.1; flushed = y.2; sent = z.2 });
            came = more_came before mid after (round_receives rounds) (record { wait = wait; came = received } ∷ []) h.came came;
            called = (o.log, h.called, record { asked = asks.asked; receives = asks.receives; told = a.log; time = asks.time; passed = c.log; handed = z.1; ends = ends.read });
            counted = ends.kept ∙ (z.3 ∙ (ap (counted_each z.0) (asks.kept ∙ h.counted) ∙ more_replies (sendings_in rounds) z.0));
          },
        ),
        λ some.
            (length-append (received_in rounds) (option_to_list received) ∙ (ap (λ (n : ℕ). n + length (option_to_list received)) (w.2 some).0 ∙ (counts some).0), (counts some).1),
        ends.waits,
      )

  -- one more round, of a datagram, if the limit wasn't reached.
  pub handled_round : (limit count next : ℕ) (wait after_it : Option ℕ) (before mid after : Option (List Receive)) (old last ready handled answered new : S) (o a b c d z : SentReplies) (now : ℕ) (incoming : Incoming)
      → Runs limit count wait before mid old last o → AreAsked wait (Some incoming) now o a
      → Comes mid after (record { wait = wait; came = Some incoming } ∷ []) → Readies now last ready
      → ((sent : Option Emission) × IsHandledBy calls.handles now incoming ready sent handled × Sends e.went (option_to_list sent) a b) → answered ≡ handled → c ≡ b
      → ((steps : List FlushingStep) × AreStepsBy calls now steps answered new × AreFlushed steps × Sends e.went (sent_in_steps steps) c d)
      → (0 < limit → count < limit) → limit ≤ 4294967295 → next ≡ min (count + 1) 4294967295
      → (idle : Bool) → idle ≡ false → IsEnded new now idle after_it d z → Runs limit next after_it before after old new z
  handled_round limit count next wait after_it before mid after old last ready handled answered new o a b c d z now incoming h asks came readied x same counts y below fits is idle busy ends =
      one_round limit count next wait after_it before mid after old last ready answered new o a c d z now (Some incoming) h asks came readied
      (x.0, subst (λ (s : S). IsHandledBy calls.handles now incoming ready x.0 s) (sym same) x.1, subst (λ (o : SentReplies). Sends e.went (option_to_list x.0) a o) (sym counts) x.2) y
      (λ some. let under : count < limit = below some in (omega (arith, under, fits, is), omega (arith, under, fits, is)))
      (subst (λ (b : Bool). IsEnded new now b after_it d z) busy ends)

  -- one more round without a datagram.
  pub passed_round : (limit count next : ℕ) (wait after_it : Option ℕ) (before mid after : Option (List Receive)) (old last ready passed answered new : S) (o a c d z : SentReplies) (now : ℕ)
      → Runs limit count wait before mid old last o → AreAsked wait None now o a
      → Comes mid after (record { wait = wait; came = None } ∷ []) → Readies now last ready → calls.passes now ready passed → answered ≡ passed → c ≡ a
      → ((steps : List FlushingStep) × AreStepsBy calls now steps answered new × AreFlushed steps × Sends e.went (sent_in_steps steps) c d)
      → next ≡ count → (idle : Bool) → idle ≡ true → IsEnded new now idle after_it d z → Runs limit next after_it before after old new z
  passed_round limit count next wait after_it before mid after old last ready passed answered new o a c d z now h asks came readied x same counts y is idle is_idle ends =
      one_round limit count next wait after_it before mid after old last ready answered new o a c d z now None h asks came readied
      (None, (subst (λ (s : S). calls.passes now ready s) (sym same) x, refl), subst (λ (o : SentReplies). Sends e.went [] a o) (sym counts) (none_sent e.went a)) y
      (λ some. (omega (arith, is), omega (arith, is, (h.2 some).1)))
      (subst (λ (b : Bool). IsEnded new now b after_it d z) is_idle ends)

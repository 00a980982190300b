-- Lines that are played, one after the other.
use Rattle.std.proofs.Common.{◌≡◌, ℕ, ◌+◌, length, List, [], ◌∷◌, Option, Some, Result, Ok, Err, OnOk, ap, arith, inl, inr, refl, sym, subst}
use Rattle.fc_cli.specs.Ending.{IsEnding}
use Rattle.fc_cli.specs.Stops.{status_of}
use Rattle.fc_cli.specs.declared.status.Status.{Status}
use Rattle.fc_cli.specs.declared.status.Status.TheVariants.{Bad}
use Rattle.fc_cli.specs.declared.stop.Stop.{Stop}
use Rattle.fc_cli.specs.declared.stop.Stop.TheVariants.{BadLine, Input, Memory, Output}
use Rattle.std.specs.Io.BufRead.{first_piece}
use Rattle.std.specs.Io.Iter.{YieldsKnownPiece}
use Rattle.std.specs.Io.KnownBytes.{Appends, IsAtEnd}
use Rattle.std.proofs.KnownBytes.{Appends-trans}
use Rattle.coap_msg.specs.declared.types.Emission.{Emission}
use Rattle.fc_server.specs.States.{begin_of}
use Rattle.fc_server.specs.declared.server.Begin.{Begin}
use Rattle.fc_help.specs.Region.{no_readings}
use Rattle.fc_lines.specs.declared.line.Line.{Line}
use Rattle.fc_lines.specs.declared.line.Line.TheVariants.{Deliver, Device, Tick}
use Rattle.fc_lines.specs.Lines.{IsLine}
use Rattle.fc_server.specs.Serving.{Serves}
use Rattle.fc_service.specs.SingleThread.{HandsAlone}
use Rattle.fc_server.specs.SingleThread.{alone_calls}
use Rattle.fc_service.specs.Ingresses.{calls_through, waited_calls}
use Rattle.fc_server.specs.Ingresses.{IngressCalls}
use Rattle.fc_backend.specs.Answers.{saturated}
use Rattle.fc_service.specs.Playing.{ArePlayedBy, HasPlayed, IsCarriedOutBy, IsFedByLines, IsHandedBy, IsNextText, IsPlayedBy, IsPlayedOut, PlayedLine, StopsAt, time_of, output_by, output_of, printed_lines, printed_steps}
use Rattle.fc_server.specs.declared.alone.SingleThread.{SingleThread}
use Rattle.fc_server.specs.Flushing.{AreFlushed, AreStepsBy, Asked, Passed, Resent, FlushingStep}

-- if a reader yields the piece before its next line feed, that piece is the reader's next text.
pub next_text : {X E : Type 0} (bytes : X → List ℕ) (byte : ℕ) (had left : Option (List ℕ)) {r : Option (Result X E)} (x : X) {text : List ℕ} → text ≡ bytes x → byte ≡ 10 → r ≡ Some (Ok x) → YieldsKnownPiece bytes (first_piece byte) byte had r left → IsNextText text had left
next_text {X} {E} bytes byte had left x same ten is y = subst (λ (t : List ℕ). IsNextText t had left) (sym same) (subst (λ (b : ℕ). YieldsKnownPiece {E = E} bytes (first_piece b) b had (Some (Ok x)) left) ten (subst (λ (r : Option (Result X E)). YieldsKnownPiece bytes (first_piece byte) byte had r left) is y))

module _ {S : Type 0} (Hands : List ℕ → S → S → Type 0) (calls : IngressCalls S) where
  -- a line was played if its text was parsed, its readings were set, it was executed, and the
  -- server was flushed. The printed text is then the output of the played line.
  pub line_played : (text : List ℕ) (line : Line) (now : ℕ) (old handed mid new : S) (a b c : Option (List ℕ)) → IsLine text line → now ≡ time_of line
      → IsHandedBy Hands calls line old handed
      → ((sent : Option Emission) × IsCarriedOutBy Hands calls line handed sent mid × Appends a b (output_of sent))
      → ((steps : List FlushingStep) × AreStepsBy calls now steps mid new × (AreFlushed steps × Appends b c (printed_steps steps)))
      → (p : PlayedLine) × (p.text ≡ text) × IsPlayedBy Hands calls p old new × Appends a c (output_by p)
  line_played text line now old handed mid new a b c says at hands w x = (
    record { text = text; line = line; sent = w.0; steps = x.0 },
    refl,
    record {
      says = says;
      handed = handed;
      hands = hands;
      answered = mid;
      carried_out = w.1;
      steps = subst (λ (n : ℕ). AreStepsBy calls n x.0 mid new) at x.1;
      flushed = x.2.0;
    },
    Appends-trans a b c (output_of w.0) (printed_steps x.0) w.2 x.2.1,
  )

  -- if lines were played, and the reader's next text was played too, the lines with that one were
  -- played. The number of lines is one more.
  pub plays_on : (first old new : S) (had mid left before now after : Option (List ℕ)) (text : List ℕ) → (h : HasPlayed Hands calls first old had mid before now) → IsNextText text mid left
      → ((p : PlayedLine) × (p.text ≡ text) × IsPlayedBy Hands calls p old new × Appends now after (output_by p))
      → (more : HasPlayed Hands calls first new had left before after) × (length more.lines ≡ length h.lines + 1)
  plays_on first old new had mid left before now after text h next x = (
    record {
      lines = x.0 ∷ h.lines;
      played = (old, h.played, x.2);
      read = (mid, h.read, subst (λ (t : List ℕ). IsNextText t mid left) (sym x.1) next);
      printed = Appends-trans before now after (printed_lines h.lines) (output_by x.0) h.printed x.3;
    },
    omega arith,
  )

  -- if lines were played, and the next line changed nothing and printed nothing, playing stopped at
  -- that next line.
  pub stops_at : (number : ℕ) (first old new : S) (had mid before now after : Option (List ℕ)) → (h : HasPlayed Hands calls first old had mid before now) → new ≡ old → after ≡ now
      → number ≡ saturated (length h.lines + 1) → StopsAt Hands calls number first new had before after
  stops_at number first old new had mid before now after h same unprinted is = record {
    left = mid;
    has = record {
      lines = h.lines;
      played = subst (λ (s : S). ArePlayedBy Hands calls h.lines first s) (sym same) h.played;
      read = h.read;
      printed = subst (λ (o : Option (List ℕ)). Appends before o (printed_lines h.lines)) (sym unprinted) h.printed;
    };
    number_is = is;
  }

-- if all lines of a reader were played on a new single-threaded server, the lines were played out.
pub played_out : {A E : Type 0} (begin : Begin) (first last : SingleThread) (had before after : Option (List ℕ)) (r : Result A E) → Serves (begin_of begin) first.engine [] → first.handed ≡ record { readings = no_readings; random = 0 }
    → OnOk r ((left : Option (List ℕ)) × HasPlayed HandsAlone alone_calls first last had left before after × IsAtEnd left) → OnOk r (IsPlayedOut begin had before after)
played_out begin first last had before after (Ok x) begins handed w = record { first = first; last = last; begins = begins; handed = handed; left = w.0; played = w.1; end = w.2 }
played_out begin first last had before after (Err e) begins handed w = tt

-- ---- calls on the holder of a server are calls on the server
module _ {H S : Type 0} (held : H → S) (HandsIt : List ℕ → H → H → Type 0) (Hands : List ℕ → S → S → Type 0) (hands : (readings : List ℕ) (old new : H) → HandsIt readings old new → Hands readings (held old) (held new)) (calls : IngressCalls S) where
  steps_through : (now : ℕ) (steps : List FlushingStep) (old new : H) → AreStepsBy (calls_through held calls) now steps old new → AreStepsBy calls now steps (held old) (held new)
  steps_through now [] old new same = ap held same
  steps_through now (Resent shard ticked ∷ steps) old new w = (held w.0, w.1, steps_through now steps old w.0 w.2)
  steps_through now (Passed shard ∷ steps) old new w = (held w.0, w.1, steps_through now steps old w.0 w.2)
  steps_through now (Asked shard told ∷ steps) old new w = (held w.0, w.1, steps_through now steps old w.0 w.2)

  handed_through : (line : Line) (old new : H) → IsHandedBy HandsIt (calls_through held calls) line old new → IsHandedBy Hands calls line (held old) (held new)
  handed_through (Deliver now peer bytes) old new same = ap held same
  handed_through (Tick now) old new same = ap held same
  handed_through (Device now readings) old new w = hands readings old new w

  carried_through : (line : Line) (old new : H) (sent : Option Emission) → IsCarriedOutBy HandsIt (calls_through held calls) line old sent new → IsCarriedOutBy Hands calls line (held old) sent (held new)
  carried_through (Deliver now peer bytes) old new sent h = record { borrow = h.borrow; bytes_are = h.bytes_are; handled = h.handled; reply = h.reply; handles = h.handles; sent_is = h.sent_is }
  carried_through (Tick now) old new sent w = w
  carried_through (Device now readings) old new sent w = w

  lines_through : (lines : List PlayedLine) (old new : H) → ArePlayedBy HandsIt (calls_through held calls) lines old new → ArePlayedBy Hands calls lines (held old) (held new)
  lines_through [] old new same = ap held same
  lines_through (p ∷ ps) old new (mid, before, h) = (
    held mid,
    lines_through ps old mid before,
    record {
      says = h.says;
      handed = held h.handed;
      hands = handed_through p.line mid h.handed h.hands;
      answered = held h.answered;
      carried_out = carried_through p.line h.handed h.answered p.sent h.carried_out;
      steps = steps_through (time_of p.line) p.steps h.answered new h.steps;
      flushed = h.flushed;
    },
  )

  pub played_through : (old new : H) (had left before after : Option (List ℕ)) → HasPlayed HandsIt (calls_through held calls) old new had left before after → HasPlayed Hands calls (held old) (held new) had left before after
  played_through old new had left before after h = record { lines = h.lines; played = lines_through h.lines old new h.played; read = h.read; printed = h.printed }

-- if a program ends with the status `Bad`, playing stopped at a bad line.
pub bad_line : (stop : Stop) (status told : Status) → status ≡ status_of stop → IsEnding status told → told ≡ Bad → (number : ℕ) × (stop ≡ BadLine number)
bad_line (BadLine number) status told is ending bad = (number, refl)
bad_line (Input error) status told is (inl same) bad = absurd (cc (is, same, bad))
bad_line (Input error) status told is (inr failed) bad = absurd (cc (failed, bad))
bad_line (Output error) status told is (inl same) bad = absurd (cc (is, same, bad))
bad_line (Output error) status told is (inr failed) bad = absurd (cc (failed, bad))
bad_line (Memory error) status told is (inl same) bad = absurd (cc (is, same, bad))
bad_line (Memory error) status told is (inr failed) bad = absurd (cc (failed, bad))

-- if lines were played on the holder of a server, they were played on the server.
pub fed_by_lines : {A E H S : Type 0} (held : H → S) (HandsIt : List ℕ → H → H → Type 0) → ((readings : List ℕ) (old new : H) → HandsIt readings old new → held new ≡ held old) → (calls : IngressCalls S)
    → (old new : H) (had before after : Option (List ℕ)) (r : Result A E)
    → OnOk r ((left : Option (List ℕ)) × HasPlayed HandsIt (calls_through held (waited_calls calls)) old new had left before after × IsAtEnd left) → OnOk r (IsFedByLines calls had (held old) (held new))
fed_by_lines held HandsIt hands calls old new had before after (Ok x) w =
    record { left = w.0; before = before; after = after; played = played_through held HandsIt (λ readings old new. new ≡ old) hands (waited_calls calls) old new had w.0 before after w.1; end = w.2 }
fed_by_lines held HandsIt hands calls old new had before after (Err e) w = tt

-- Effects of lines, and their output.
use Rattle.std.specs.Prelude.{◌≡◌, ⊤, ℕ, ◌+◌, ◌<◌, List, [], ◌∷◌, ◌++◌, length, flat_map, Option, Some, None, IfSome}
use Rattle.std.specs.Io.BufRead.{DropsThrough, first_piece}
use Rattle.std.specs.Io.KnownBytes.{Appends, IsAtEnd}
use Rattle.coap_msg.specs.declared.types.Emission.{Emission}
use Rattle.fc_locked.specs.declared.closed.ClosedServer.{ClosedServer}
use Rattle.fc_backend.specs.Answers.{saturated}
use Rattle.fc_server.specs.States.{begin_of, first_server}
use Rattle.fc_server.specs.declared.server.Begin.{Begin}
use Rattle.fc_help.specs.Region.{no_readings}
use Rattle.fc_server.specs.Serving.{Serves}
use Rattle.fc_lines.specs.declared.line.Line.{Line}
use Rattle.fc_lines.specs.declared.line.Line.TheVariants.{Deliver, Device, Tick}
use Rattle.fc_lines.specs.Emissions.{peer_endpoint, printed}
use Rattle.fc_lines.specs.Lines.{IsLine}
use Rattle.fc_service.specs.SingleThread.{HandsAlone}
use Rattle.fc_server.specs.SingleThread.{alone_calls}
use Rattle.fc_service.specs.Ingresses.{waited_calls}
use Rattle.fc_receive.specs.Handling.{IsHandledBy}
use Rattle.fc_server.specs.Ingresses.{IngressCalls}
use Rattle.fc_pool.specs.Pooled.{IsFedBeside, locked_view}
use Rattle.fc_server.specs.Flushing.{AreFlushed, AreStepsBy, FlushingStep, sent_in_steps}
use Rattle.fc_server.specs.declared.alone.SingleThread.{SingleThread}
use Rattle.fc_pool.specs.declared.replies.Replies.{Replies}
use Rattle.fc_workers.specs.declared.dispatcher.Offload.{Offload}
use Rattle.fc_locked.specs.SharedStores.{Saving}

-- the text printed for a sent datagram.
abbrev pub output_of : Option Emission → List ℕ
output_of None = []
output_of (Some emission) = printed emission

-- the text printed for the datagrams that steps sent.
abbrev pub printed_steps : List FlushingStep → List ℕ
printed_steps steps = flat_map printed (sent_in_steps steps)

-- a line that was played: its text, its meaning, its immediate response, and the steps that
-- followed.
pub record PlayedLine : Type 0 where
  pub text : List ℕ
  pub line : Line
  pub sent : Option Emission
  pub steps : List FlushingStep

-- the text that a played line printed.
abbrev pub output_by : PlayedLine → List ℕ
output_by p = output_of p.sent ++ printed_steps p.steps

-- the text that lines printed, the oldest first; the list of lines begins with the newest.
abbrev pub printed_lines : List PlayedLine → List ℕ
printed_lines [] = []
printed_lines (p ∷ ps) = printed_lines ps ++ output_by p

abbrev pub time_of : Line → ℕ
time_of (Deliver now peer bytes) = now
time_of (Tick now) = now
time_of (Device now readings) = now

-- ---- the reader

-- a text is the bytes that a reader had before the first line feed, if the reader's bytes are
-- known. The text and the line feed were read.
abbrev pub IsNextText : List ℕ → Option (List ℕ) → Option (List ℕ) → Type 0
IsNextText text had left = IfSome had (λ bytes. (0 < length bytes) × (text ≡ first_piece 10 bytes)) × DropsThrough had left 10

-- the texts of the lines are those that a reader had, up to the bytes that the reader has left.
abbrev pub AreRead : List PlayedLine → Option (List ℕ) → Option (List ℕ) → Type 0
AreRead [] had left = left ≡ had
AreRead (p ∷ ps) had left = (mid : Option (List ℕ)) × AreRead ps had mid × IsNextText p.text mid left

-- ---- a server, by the effects of its calls; the first sets the readings of its jobs
module _ {S : Type 0} (Hands : List ℕ → S → S → Type 0) (calls : IngressCalls S) where
  -- the readings that a line gives are those of the jobs from then on.
  abbrev pub IsHandedBy : Line → S → S → Type 0
  IsHandedBy (Device now readings) old new = Hands readings old new
  IsHandedBy other old new = new ≡ old

  -- a line's datagram was handled, with this immediate response; or time passed.
  abbrev pub IsCarriedOutBy : Line → S → Option Emission → S → Type 0
  IsCarriedOutBy (Deliver now peer bytes) old sent new = IsHandledBy calls.handles now (record { from = peer_endpoint peer; bytes = bytes.items }) old sent new
  IsCarriedOutBy (Tick now) old sent new = calls.passes now old new × (sent ≡ None)
  IsCarriedOutBy (Device now readings) old sent new = calls.passes now old new × (sent ≡ None)

  -- the text has the meaning of the line, and the line was executed. Then notifications that had
  -- timed out were retransmitted, and observers were notified, until no notification was left.
  pub record IsPlayedBy (p : PlayedLine) (old new : S) : Type 0 where
    pub says : IsLine p.text p.line
    pub handed : S
    pub hands : IsHandedBy p.line old handed
    pub answered : S
    pub carried_out : IsCarriedOutBy p.line handed p.sent answered
    pub steps : AreStepsBy calls (time_of p.line) p.steps answered new
    pub flushed : AreFlushed p.steps

  -- lines that were played one after the other, the newest first.
  abbrev pub ArePlayedBy : List PlayedLine → S → S → Type 0
  ArePlayedBy [] old new = new ≡ old
  ArePlayedBy (p ∷ ps) old new = (mid : S) × ArePlayedBy ps old mid × IsPlayedBy p mid new

  -- the next lines that a reader had were played once, in order, and exactly their output was
  -- printed.
  pub record HasPlayed (old new : S) (had left before after : Option (List ℕ)) : Type 0 where
    pub lines : List PlayedLine
    pub played : ArePlayedBy lines old new
    pub read : AreRead lines had left
    pub printed : Appends before after (printed_lines lines)

  -- playing stopped at the line with this number, counted from 1. The lines before it were played,
  -- and exactly their output was printed.
  pub record StopsAt (number : ℕ) (old new : S) (had before after : Option (List ℕ)) : Type 0 where
    pub left : Option (List ℕ)
    pub has : HasPlayed old new had left before after
    pub number_is : number ≡ saturated (length has.lines + 1)

-- ---- a server on one thread

-- all lines of a reader were played on one thread, on a server with this initial state; the
-- server's jobs first got zeros.
pub record IsPlayedOut (begin : Begin) (had before after : Option (List ℕ)) : Type 0 where
  pub first : SingleThread
  pub last : SingleThread
  pub begins : Serves (begin_of begin) first.engine []
  pub handed : first.handed ≡ record { readings = no_readings; random = 0 }
  pub left : Option (List ℕ)
  pub played : HasPlayed HandsAlone alone_calls first last had left before after
  pub end : IsAtEnd left

-- the lines of a reader were played in this way up to a bad line, the one with this number.
pub record IsPlayedUpTo (number : ℕ) (begin : Begin) (had before after : Option (List ℕ)) : Type 0 where
  pub first : SingleThread
  pub last : SingleThread
  pub begins : Serves (begin_of begin) first.engine []
  pub handed : first.handed ≡ record { readings = no_readings; random = 0 }
  pub stops : StopsAt HandsAlone alone_calls number first last had before after

-- ---- a server with workers

-- all lines of a reader were played, from one state of a server to another. Its workers are waited
-- for after each line.
pub record IsFedByLines {S : Type 0} (calls : IngressCalls S) (had : Option (List ℕ)) (first last : S) : Type 0 where
  pub left : Option (List ℕ)
  pub before : Option (List ℕ)
  pub after : Option (List ℕ)
  pub played : HasPlayed (λ readings old new. new ≡ old) (waited_calls calls) first last had left before after
  pub end : IsAtEnd left

-- all lines of a reader were played in this way by a new dispatcher with this number of workers.
-- The dispatcher's server has this initial state, and a store with these saves. It has sent the
-- emissions of its jobs, and the readings of its device are those of the lines; nothing is known of
-- either. No change is recorded.
abbrev pub IsPlayedBeside : Saving → Begin → Offload → ℕ → Option (List ℕ) → Replies → Type 0
IsPlayedBeside Saves begin offload workers had replies =
    (closed : ClosedServer) × IsFedBeside (locked_view (first_server begin) (λ readings before after. ⊤) Saves (λ now before after. ⊤) (λ random. ⊤) (λ call before after. ⊤) (λ change before after. after ≡ before))
    (λ calls lines first last given. IsFedByLines calls lines first last) (first_server begin) (λ shards calls. ⊤) offload workers had (tt {0}) replies closed

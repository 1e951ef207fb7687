-- What a link at a seat sends over any calls.
use Rattle.std.specs.Prelude.{◌≡◌, ℕ, ◌&&◌, nat_le, List, [], ◌∷◌, ◌++◌, length, map, take, if◌then◌else◌}
use Rattle.sms_link.specs.framing.Framing.{joined, longest_frame}
use Rattle.sms_centre_spec.specs.declared.jobs.reply.Reply.{Reply}
use Rattle.sms_centre_spec.specs.declared.jobs.reply.Reply.TheVariants.{Answer, Receipt, Frame, Taken}
use Rattle.smsc_endpoint.specs.declared.link_access.LinkAccess.{LinkAccess}
use Rattle.smsc_endpoint.specs.LinkCalls.{congestion, protocol_error}
use Rattle.smsc_endpoint.specs.LinkRuns.{LinkCall, LinkProgress, LinkStep, started}
use Rattle.smsc_endpoint.specs.LinkRuns.{At, Take, Hear, GiveUp, Send, Put, PutBack, Close, Tell}

-- the progress of a link, the frames that it was given to send, and all octets that were sent
pub record LinkSends : Type 0 where
  pub progress : LinkProgress
  pub given : List (List ℕ)
  pub sent : List ℕ

abbrev pub begun : LinkAccess → LinkSends
begun access = record { progress = started access; given = []; sent = [] }

-- what has no length that a frame has is not sent
abbrev pub frame_given : List ℕ → List (List ℕ)
frame_given octets = if nat_le 1 (length octets) && nat_le (length octets) longest_frame then octets ∷ [] else []

abbrev pub given_by : Reply → List (List ℕ)
given_by (Answer answer) = []
given_by (Receipt end) = []
given_by (Frame octets) = frame_given octets
given_by Taken = []

abbrev pub given_in : LinkCall → List (List ℕ)
given_in (At now) = []
given_in (Take octets) = []
given_in (Hear reply) = given_by reply
given_in GiveUp = []
given_in (Send count) = []
given_in Put = []
given_in PutBack = []
given_in Close = []
given_in Tell = []

-- the octets that a call sends, of those that wait
abbrev pub sent_in : LinkCall → List ℕ → List ℕ
sent_in (At now) octets = []
sent_in (Take arrived) octets = []
sent_in (Hear reply) octets = []
sent_in GiveUp octets = []
sent_in (Send count) octets = if nat_le count (length octets) then take count octets else []
sent_in Put octets = []
sent_in PutBack octets = []
sent_in Close octets = []
sent_in Tell octets = []

-- one call
pub record SendStep (call : LinkCall) (s t : LinkSends) : Type 0 where
  pub step : LinkStep call s.progress t.progress
  pub given : t.given ≡ s.given ++ given_in call
  pub sent : t.sent ≡ s.sent ++ sent_in call s.progress.link.outbox.octets

-- calls one after the other
abbrev pub SendRun : LinkSends → List LinkCall → LinkSends → Type 0
SendRun s [] t = t ≡ s
SendRun s (call ∷ calls) t = (u : LinkSends) × SendStep call s u × SendRun u calls t

-- ---- what is claimed

-- a frame of a link: one that it was given, or one of its own
pub data SaidFrame : Type 0 where
  Given : List ℕ → SaidFrame
  Congestion : SaidFrame
  ProtocolError : SaidFrame

abbrev pub frame_of : SaidFrame → List ℕ
frame_of (Given frame) = frame
frame_of Congestion = congestion
frame_of ProtocolError = protocol_error

abbrev pub given_among : List SaidFrame → List (List ℕ)
given_among [] = []
given_among (Given frame ∷ said) = frame ∷ given_among said
given_among (Congestion ∷ said) = given_among said
given_among (ProtocolError ∷ said) = given_among said

-- What was sent and what waits are frames, each behind its length. Among them are those that were given, in order and each once;
-- every other is a CP-ERROR.
pub record HasSent (s : LinkSends) : Type 0 where
  pub said : List SaidFrame
  pub octets : s.sent ++ s.progress.link.outbox.octets ≡ joined (map frame_of said)
  pub given : given_among said ≡ s.given

-- What a handset reads on its link, and what the centre takes of what it sends.
use Rattle.std.specs.Prelude.{◌≡◌, ℕ, List, [], ◌∷◌, ◌++◌, length, false}
use Rattle.sms_centre_spec.specs.declared.jobs.reply.Reply.{Reply}
use Rattle.smsc_loop.specs.Calls.{Call, Timed, Took, Heard, GaveUp, Noted, Sent, Put, PutBack, octets_sent, octets_taken, replies_taken}
use Rattle.smsc_endpoint.specs.declared.link_access.LinkAccess.{LinkAccess}
use Rattle.smsc_endpoint.specs.LinkRuns.{LinkCall, IsLinkProgress}
use Rattle.smsc_endpoint.specs.LinkRuns.{At, Take, Hear, GiveUp, Send, Put as HandOut, PutBack as HandOutAndBack, Tell}
use Rattle.smsc_endpoint.specs.LinkSends.{HasSent, LinkSends, SendRun, begun, given_by}

-- the call of the link that a call of the loop is, where that went
abbrev pub link_call_of : Call → List LinkCall
link_call_of (Timed now went) = At now ∷ []
link_call_of (Took octets went) = Take octets ∷ []
link_call_of (Heard reply went) = Hear reply ∷ []
link_call_of (GaveUp went) = GiveUp ∷ []
link_call_of (Noted said) = Tell ∷ []
link_call_of (Sent octets) = Send (length octets) ∷ []
link_call_of (Put job) = HandOut ∷ []
link_call_of (PutBack job again went) = HandOutAndBack ∷ []
link_call_of call = []

abbrev pub link_calls_of : List Call → List LinkCall
link_calls_of [] = []
link_calls_of (call ∷ calls) = link_call_of call ++ link_calls_of calls

-- the frames among replies
abbrev pub frames_heard : List Reply → List (List ℕ)
frames_heard [] = []
frames_heard (reply ∷ replies) = given_by reply ++ frames_heard replies

-- These calls of the loop lead a new link so. It took what arrived, was given the frames among the replies of its seat, and sent what was written.
-- What arrived is frames by their lengths: the first names the handset, and each other is one job, in order. What was written, and then
-- what waits, is frames behind their lengths: those that the centre gave, in order and each once, and CP-ERRORs between them.
pub record ReadsLink (access : LinkAccess) (calls : List Call) (s : LinkSends) : Type 0 where
  pub run : SendRun (begun access) (link_calls_of calls) s
  pub arrived : s.progress.arrived ≡ octets_taken calls
  pub given : s.given ≡ frames_heard (replies_taken calls)
  pub sent : s.sent ≡ octets_sent calls
  pub jobs : IsLinkProgress access s.progress
  pub frames : s.progress.link.outbox.is_closed ≡ false → HasSent s

-- So while the link was served without a refusal of memory; behind that nothing was written.
abbrev pub IsLinkRead : LinkAccess → List Call → Type 0
IsLinkRead access calls =
    (one : List Call) × (other : List Call) × (calls ≡ one ++ other) × (octets_sent other ≡ []) × ((s : LinkSends) × ReadsLink access one s)

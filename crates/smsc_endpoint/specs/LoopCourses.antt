-- What the loop does with the session of an application is a course of the session's calls.
use Rattle.std.specs.Prelude.{◌≡◌, ℕ, List, [], ◌∷◌, ◌++◌, length}
use Rattle.smpp_session.specs.declared.account.Account.{Account}
use Rattle.smpp_session.specs.declared.calling.Call.{Call as SessionCall}
use Rattle.smpp_session.specs.declared.calling.Call.TheVariants.{Feed}
use Rattle.smsc_loop.specs.Calls.{Call, Timed, Told, Took, Heard, GaveUp, AskedLink, AskedToLeave, Noted, Sent, Put, PutBack}
use Rattle.smsc_loop.specs.Calls.{octets_sent, octets_taken}
use Rattle.smsc_endpoint.specs.EsmeRuns.{EsmeCall, EsmeProgress, called_all, started}
use Rattle.smsc_endpoint.specs.EsmeRuns.{At, TellFull, Take, Hear, Say, WasSent, Leave, Put as HandOut, PutBack as HandOutAndBack, Tell}
use Rattle.smsc_endpoint.specs.EsmeView.{EsmeView}
use Rattle.smsc_endpoint.specs.Refusing.{no_room, enquire_link}

-- the call of the session that a call of the loop is, where that went
abbrev pub call_of : Call → List EsmeCall
call_of (Timed now went) = At now ∷ []
call_of (Told full) = TellFull full ∷ []
call_of (Took octets went) = Take octets ∷ []
call_of (Heard reply went) = Hear reply ∷ []
call_of (GaveUp went) = Say no_room ∷ []
call_of (AskedLink went) = Say enquire_link ∷ []
call_of (AskedToLeave asked went) = Leave ∷ []
call_of (Noted said) = Tell ∷ []
call_of (Sent octets) = WasSent (length octets) ∷ []
call_of (Put job) = HandOut ∷ []
call_of (PutBack job again went) = HandOutAndBack ∷ []
call_of call = []

abbrev pub calls_of : List Call → List EsmeCall
calls_of [] = []
calls_of (call ∷ calls) = call_of call ++ calls_of calls

-- the octets that calls feed to a session
abbrev pub octets_fed : List SessionCall → List ℕ
octets_fed [] = []
octets_fed (Feed octets ∷ calls) = octets ++ octets_fed calls
octets_fed (call ∷ calls) = octets_fed calls

-- The course of these calls from a progress on leads to this view. The session was fed what arrived, and what was written is what the
-- course counts as sent.
pub record IsCourse (c d : EsmeProgress) (calls : List Call) (e : EsmeView) : Type 0 where
  pub esme : d.esme ≡ e
  pub sent : d.sent ≡ c.sent ++ octets_sent calls
  pub fed : octets_fed d.calls ≡ octets_fed c.calls ++ octets_taken calls

abbrev pub IsCourseOf : List Account → List Call → EsmeView → Type 0
IsCourseOf accounts calls e = IsCourse (started accounts) (called_all (started accounts) (calls_of calls)) calls e

-- Which calls may follow which.
use Rattle.std.specs.Prelude.{◌≡◌, ◌⊎◌, Bool, true, false, [], Option, Some, None, ⊤}
use Rattle.sms_centre_spec.specs.declared.jobs.job.Job.{Job}
use Rattle.sms_centre_spec.specs.declared.jobs.job.Job.TheVariants.{Bound, Unbound, Submit, Query, Cancel, DeliverAnswered, LinkUp, LinkDown, Frame}
use Rattle.smsc_loop.specs.Calls.{Call, Timed, Told, Took, Heard, GaveUp, AskedLink, AskedToLeave, Noted, Sent, Put, PutBack, Left, PutLast, PutOwn, Dropped}
use Rattle.smsc_loop.specs.Calls.{Refused}

pub data Phase : Type 0 where
  -- the connection is served
  Serves : Phase
  -- A call was refused memory, or an answer came that no request waits for: the endpoint can but leave.
  Fails : Phase
  -- The endpoint has left. This last job of it is still to be put.
  Leaves : Option Job → Phase
  -- The last job is put, behind all others of the endpoint.
  Ends : Phase
  -- Behind them the loop has put jobs of its own.
  Asks : Phase

-- the phase behind a call, by whether it went
abbrev pub behind : Bool → Phase → Phase
behind true phase = phase
behind false Serves = Fails
behind false Fails = Fails
behind false (Leaves due) = Leaves due
behind false Ends = Ends
behind false Asks = Asks

-- the connection has not ended
abbrev pub IsHere : Phase → Type 0
IsHere Serves = ⊤
IsHere Fails = ⊤
IsHere (Leaves due) = ⊥
IsHere Ends = ⊥
IsHere Asks = ⊥

abbrev pub HasLeft : Phase → Type 0
HasLeft Serves = ⊥
HasLeft Fails = ⊥
HasLeft (Leaves due) = ⊤
HasLeft Ends = ⊤
HasLeft Asks = ⊤

-- the endpoint hears replies, and its jobs are put
abbrev pub Listens : Phase → Type 0
Listens Serves = ⊤
Listens Fails = ⊥
Listens (Leaves due) = ⊤
Listens Ends = ⊥
Listens Asks = ⊥

-- no job of the endpoint is to be put any more
abbrev pub HasEnded : Phase → Type 0
HasEnded Serves = ⊥
HasEnded Fails = ⊥
HasEnded (Leaves None) = ⊤
HasEnded (Leaves (Some job)) = ⊥
HasEnded Ends = ⊤
HasEnded Asks = ⊤

-- what changes messages
abbrev pub is_change : Job → Bool
is_change (Bound account receives) = false
is_change Unbound = false
is_change (Submit account pdu) = true
is_change (Query account pdu) = false
is_change (Cancel account pdu) = true
is_change (DeliverAnswered id is_accepted) = false
is_change (LinkUp handset) = false
is_change LinkDown = false
is_change (Frame octets) = false

-- Once the endpoint has left, nothing is put that changes messages, since nobody would be answered.
abbrev pub MayPut : Phase → Job → Type 0
MayPut Serves job = ⊤
MayPut Fails job = ⊤
MayPut (Leaves due) job = is_change job ≡ false
MayPut Ends job = ⊤
MayPut Asks job = ⊤

-- whoever puts jobs knows whether it has left
abbrev pub KnowsEnd : Phase → Bool → Type 0
KnowsEnd Serves has_ended = ⊤
KnowsEnd Fails has_ended = ⊤
KnowsEnd (Leaves due) has_ended = has_ended ≡ true
KnowsEnd Ends has_ended = ⊤
KnowsEnd Asks has_ended = ⊤

-- It asks nothing and has an answer.
abbrev pub own_request : Job
own_request = Query 0 []

-- The jobs of the loop. Where the centre has not done the last jobs of the endpoint, the loop puts them again: the session is bound no longer,
-- and the link is no longer.
abbrev pub IsOwn : Job → Type 0
IsOwn job = (job ≡ own_request) ⊎ ((job ≡ Unbound) ⊎ (job ≡ LinkDown))

-- The call may be made in the one phase, and the other follows.
abbrev pub Moves : Call → Phase → Phase → Type 0
Moves (Timed now went) p q = (p ≡ Serves) × (q ≡ behind went p)
Moves (Told full) p q = (p ≡ Serves) × (q ≡ p)
Moves (Took octets went) p q = (p ≡ Serves) × (q ≡ behind went p)
Moves (Heard reply went) p q = Listens p × (q ≡ behind went p)
Moves (GaveUp went) p q = (p ≡ Serves) × (q ≡ behind went p)
Moves (AskedLink went) p q = (p ≡ Serves) × (q ≡ behind went p)
Moves (AskedToLeave asked went) p q = (p ≡ Serves) × (q ≡ behind went p)
Moves (Noted said) p q = q ≡ p
Moves (Sent octets) p q = (p ≡ Serves) × (q ≡ p)
Moves (Put job) p q = Listens p × (q ≡ p) × MayPut p job
Moves (PutBack job again went) p q = Listens p × (q ≡ behind went p)
Moves (Left last) p q = IsHere p × (q ≡ Leaves last)
Moves (PutLast job) p q = (p ≡ Leaves (Some job)) × (q ≡ Ends)
Moves (PutOwn job) p q = HasEnded p × (q ≡ Asks) × IsOwn job
Moves (Dropped reply) p q = HasLeft p × (q ≡ p)
Moves (Refused reply) p q = Listens p × (q ≡ behind false p)

-- How long an endpoint is waited for, in milliseconds (SMPP v3.4 7.2: session_init_timer, response_timer, enquire_link_timer).
use Rattle.std.specs.Prelude.{◌≡◌, ℕ, Bool, true, ◌+◌, ◌-◌, ◌≤◌, nat_lt, Option, Some, None, if◌then◌else◌}
use Rattle.smpp_session.specs.declared.patience.Patience.{Patience}
use Rattle.smpp_session.specs.declared.patience.EndpointState.{EndpointState}
use Rattle.smpp_session.specs.declared.patience.WaitOutcome.{WaitOutcome}
use Rattle.smpp_session.specs.declared.patience.WaitOutcome.TheVariants.{Waits, AsksLink, Silent, Stalled, Unanswered, Inactive, Ordered}

-- less than the limit has passed since that moment
abbrev pub is_within : ℕ → ℕ → ℕ → Bool
is_within limit since now = nat_lt (now - since) limit

-- so too where there is no such moment
abbrev pub is_within_some : ℕ → Option ℕ → ℕ → Bool
is_within_some limit None now = true
is_within_some limit (Some since) now = is_within limit since now

-- Half a minute to say who it is, and five seconds while others wait for the seat.
abbrev pub unknown_limit : Bool → ℕ
unknown_limit others = if others then 5000 else 30000

-- Five minutes of silence, and then a minute for the answer to enquire_link.
abbrev pub silence_of : Option ℕ → ℕ → ℕ → WaitOutcome
silence_of None heard now = if is_within 300000 heard now then Waits else AsksLink
silence_of (Some asked) heard now = if is_within 60000 asked now then Waits else Inactive

-- A deliver_sm has its answer within a minute; silence is looked at in a bound session alone.
abbrev pub known_verdict : Patience → EndpointState → ℕ → WaitOutcome
known_verdict p s now =
    if is_within_some 60000 s.owed now then (if s.is_bound then silence_of p.asked p.heard now else Waits) else Unanswered

-- Ten seconds in which it takes no octet, and five to leave once it is to, before all else.
abbrev pub verdict_of : Patience → EndpointState → ℕ → WaitOutcome
verdict_of p s now =
    if is_within_some 10000 p.stalled now
    then (if is_within_some 5000 p.leaving now
    then (if s.is_known then known_verdict p s now
    else (if is_within (unknown_limit s.others_wait) p.unknown now then Waits else Silent))
    else Ordered)
    else Stalled

-- only the first moment counts
abbrev pub since_first : Option ℕ → ℕ → Option ℕ
since_first None now = Some now
since_first (Some since) now = Some since

-- there was such a moment, and that long ago it was
abbrev pub HasRunOut : ℕ → Option ℕ → ℕ → Type 0
HasRunOut limit since now = (moment : ℕ) × (since ≡ Some moment) × (moment + limit ≤ now)

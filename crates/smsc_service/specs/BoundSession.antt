-- The handsets and sessions of the seats, as a centre that starts again has them.
use Rattle.std.specs.Prelude.{ℕ, ◌||◌, not, List, [], ◌∷◌, ◌++◌, Option, Some, None, Bool, true, false, if◌then◌else◌, bytes_eq, slice_get}
use Rattle.sms_intake.specs.declared.submission.CentreAccount.{CentreAccount}
use Rattle.sms_centre_rows.specs.reports.Receipts.{Session, session_key}
use Rattle.sms_rows.specs.table.Table.{put}
use Rattle.smsc_service.specs.declared.seat_map.LinkSeat.{LinkSeat}
use Rattle.smsc_service.specs.declared.seat_map.BoundSession.{BoundSession}
use Rattle.smsc_service.specs.Numbers.{is_number}

-- ---- handsets, each once

abbrev pub is_among : List ℕ → List (List ℕ) → Bool
is_among number [] = false
is_among number (first ∷ others) = if bytes_eq first number then true else is_among number others

abbrev pub with_number : List ℕ → List (List ℕ) → List (List ℕ)
with_number number numbers = if not (is_number number) || is_among number numbers then numbers else numbers ++ number ∷ []

abbrev pub handsets_from : List (List ℕ) → List LinkSeat → List (List ℕ)
handsets_from numbers [] = numbers
handsets_from numbers (link ∷ links) = handsets_from (with_number link.handset numbers) links

abbrev pub handsets_of : List LinkSeat → List (List ℕ)
handsets_of links = handsets_from [] links

-- ---- sessions, of the accounts that are there

abbrev pub with_session : Option CentreAccount → BoundSession → List Session → List Session
with_session None bound_session sessions = sessions
with_session (Some account) bound_session sessions =
    put session_key (record { number = bound_session.seat; account = account.name; receives = bound_session.receives; unanswered = [] }) sessions

abbrev pub sessions_from : List CentreAccount → List Session → List BoundSession → List Session
sessions_from accounts sessions [] = sessions
sessions_from accounts sessions (bound_session ∷ bound_sessions) =
    sessions_from accounts (with_session (slice_get accounts bound_session.account) bound_session sessions) bound_sessions

abbrev pub sessions_of : List CentreAccount → List BoundSession → List Session
sessions_of accounts bound_sessions = sessions_from accounts [] bound_sessions

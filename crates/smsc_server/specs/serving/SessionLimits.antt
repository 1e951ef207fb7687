-- How many sessions of each account are bound at the seats of a run, and how many may be.
use Rattle.std.specs.Prelude.{ℕ, ◌≤◌, ◌==◌, ◌&&◌, not, nat_lt, suc, List, [], ◌∷◌, Option, Some, None, Bool, true, false, slice_get, slice_set, if◌then◌else◌}
use Rattle.smpp_session.specs.Logins.{is_full}
use Rattle.smsc_server.specs.declared.serving.allowances.Allowance.{Allowance}

-- by the account that is bound at each seat, if there is one
abbrev pub is_of : ℕ → Option ℕ → Bool
is_of account None = false
is_of account (Some bound) = bound == account

abbrev pub count_of : ℕ → List (Option ℕ) → ℕ
count_of account [] = 0
count_of account (bound ∷ seats) = if is_of account bound then suc (count_of account seats) else count_of account seats

-- by the limits of the accounts at their places; one that has none may have a session at each seat
abbrev pub or_seats : Option ℕ → ℕ
or_seats None = 32
or_seats (Some limit) = limit

abbrev pub limit_of : ℕ → List ℕ → ℕ
limit_of account limits = or_seats (slice_get limits account)

-- an account may have more sessions than before
abbrev pub is_fewer : ℕ → Option ℕ → Bool
is_fewer most None = false
is_fewer most (Some limit) = nat_lt limit most

abbrev pub rises : ℕ → ℕ → List ℕ → Bool
rises place most limits = is_fewer most (slice_get limits place)

-- which places there are stays
abbrev pub raised : ℕ → ℕ → List ℕ → List ℕ
raised place most limits = if rises place most limits then slice_set limits place most else limits

-- no account has more sessions than it may have
abbrev pub AreWithin : List ℕ → List (Option ℕ) → Type 0
AreWithin limits seats = (account : ℕ) → count_of account seats ≤ limit_of account limits

-- the account may have one session more
abbrev pub has_room : ℕ → List ℕ → List (Option ℕ) → Bool
has_room account limits seats = nat_lt (count_of account seats) (limit_of account limits)

-- Who is bound once this account, or none, is to be at that seat; an account without room is not.
abbrev pub bound_where : Bool → ℕ → ℕ → List (Option ℕ) → List (Option ℕ)
bound_where room seat account seats = if room then slice_set seats seat (Some account) else seats

abbrev pub bound_at : ℕ → Option ℕ → List ℕ → List (Option ℕ) → List (Option ℕ)
bound_at seat None limits seats = slice_set seats seat None
bound_at seat (Some account) limits seats = bound_where (has_room account limits seats) seat account seats

-- whether it is so
abbrev pub may_be_bound : Option ℕ → List ℕ → List (Option ℕ) → Bool
may_be_bound None limits seats = true
may_be_bound (Some account) limits seats = has_room account limits seats

-- whether an account may have no session, by what the accounts at their places may do
abbrev pub is_barred : Option Allowance → Bool
is_barred None = false
is_barred (Some allowance) = allowance.is_suspended

abbrev pub suspends : ℕ → List Allowance → Bool
suspends account allowed = is_barred (slice_get allowed account)

-- a suspended account may have none more
abbrev pub may_have_more : ℕ → List Bool → List ℕ → List (Option ℕ) → Bool
may_have_more account suspended limits seats = has_room account limits seats && not (is_full account suspended)

-- whether the session that is bound at a seat is of a suspended account
abbrev pub is_suspended : List Bool → Option (Option ℕ) → Bool
is_suspended suspended None = false
is_suspended suspended (Some None) = false
is_suspended suspended (Some (Some account)) = is_full account suspended

abbrev pub is_suspended_at : ℕ → List Bool → List (Option ℕ) → Bool
is_suspended_at seat suspended seats = is_suspended suspended (slice_get seats seat)

-- Those accounts are full, and this one too where it may have none more.
abbrev pub full_where : Bool → ℕ → List Bool → List Bool
full_where room account full = if room then full else slice_set full account true

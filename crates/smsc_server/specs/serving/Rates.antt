-- How many requests of an account are put in a second.
use Rattle.std.specs.Prelude.{ℕ, suc, ◌+◌, ◌/◌, ◌≤◌, ◌==◌, ◌&&◌, nat_lt, List, [], ◌∷◌, Bool, true, false, Option, Some, None, slice_get, slice_set, ⊤}
use Rattle.std.specs.Prelude.{if◌then◌else◌}
use Rattle.sms_centre_spec.specs.declared.jobs.job.Job.{Job}
use Rattle.sms_centre_spec.specs.declared.jobs.job.Job.TheVariants.{Bound, Unbound, Submit, Query, Cancel, DeliverAnswered, LinkUp, LinkDown, Frame}
use Rattle.smsc_server.specs.declared.serving.allowances.Allowance.{Allowance}
use Rattle.smsc_server.specs.declared.serving.rates.Rate.{Rate}

-- the second of a moment, which is in milliseconds
abbrev pub second_of : ℕ → ℕ
second_of now = now / 1000

-- how many were put in that second; the rate knows those of the last second in which one was put
abbrev pub put_in : ℕ → Rate → ℕ
put_in second rate = if nat_lt rate.second second then 0 else rate.put

-- the second whose requests are counted at a moment
abbrev pub second_at : ℕ → Rate → ℕ
second_at now rate = if nat_lt rate.second (second_of now) then second_of now else rate.second

abbrev pub has_place : ℕ → Rate → Bool
has_place now rate = nat_lt (put_in (second_of now) rate) rate.most

abbrev pub one_more : ℕ → Rate → Rate
one_more now rate = record { most = rate.most; second = second_at now rate; put = suc (put_in (second_of now) rate) }

-- behind a request at that moment, which is put where there is a place
abbrev pub after_request : ℕ → Rate → Rate
after_request now rate = if has_place now rate then one_more now rate else rate

-- the rate of the account at a place, where it has one
abbrev pub rate_of : Option (Option Rate) → Option Rate
rate_of None = None
rate_of (Some rate) = rate

-- one without a rate puts as many as it likes
abbrev pub is_admitted : ℕ → Option Rate → Bool
is_admitted now None = true
is_admitted now (Some rate) = has_place now rate

abbrev pub rates_after : ℕ → ℕ → Option Rate → List (Option Rate) → List (Option Rate)
rates_after place now None rates = rates
rates_after place now (Some rate) rates = slice_set rates place (Some (after_request now rate))

abbrev pub new_rate : ℕ → Rate
new_rate most = record { most = most; second = 0; put = 0 }

-- The rate that allows no more than so many a second from now on; without a number there is none. It knows how many were put.
abbrev pub limited : Option ℕ → Option Rate → Option Rate
limited None rate = None
limited (Some most) None = Some (new_rate most)
limited (Some most) (Some rate) = Some (record rate { most = most })

-- what an account is allowed that has put nothing yet
abbrev pub first_rate : Allowance → Option Rate
first_rate allowance = limited allowance.rate None

-- the account at that place is allowed that from now on
abbrev pub limited_at : Option Allowance → ℕ → List (Option Rate) → List (Option Rate)
limited_at None place rates = rates
limited_at (Some allowance) place rates = slice_set rates place (limited allowance.rate (rate_of (slice_get rates place)))

-- From now on each account is allowed what stands at its place; one of which nothing is said keeps what it has.
abbrev pub limited_all : List Allowance → List (Option Rate) → List (Option Rate)
limited_all allowed [] = []
limited_all [] (rate ∷ rates) = rate ∷ rates
limited_all (allowance ∷ allowed) (rate ∷ rates) = limited allowance.rate rate ∷ limited_all allowed rates

-- the account whose request it is; what is no request is of none
abbrev pub account_asking : Job → Option ℕ
account_asking (Bound account receives) = None
account_asking Unbound = None
account_asking (Submit account pdu) = Some account
account_asking (Query account pdu) = Some account
account_asking (Cancel account pdu) = Some account
account_asking (DeliverAnswered id is_accepted) = None
account_asking (LinkUp handset) = None
account_asking LinkDown = None
account_asking (Frame octets) = None

-- ---- over all requests of an account

abbrev pub one_where : Bool → ℕ
one_where true = 1
one_where false = 0

-- how many of the requests of these moments are put and lie in that second
abbrev pub count_put : ℕ → Rate → List ℕ → ℕ
count_put second rate [] = 0
count_put second rate (now ∷ nows) = one_where (has_place now rate && (second_of now == second)) + count_put second (after_request now rate) nows

-- moments that do not go back, the first not before that one
abbrev pub AreInOrder : ℕ → List ℕ → Type 0
AreInOrder from [] = ⊤
AreInOrder from (now ∷ nows) = (from ≤ now) × AreInOrder now nows

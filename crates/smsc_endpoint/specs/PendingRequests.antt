-- The requests of a session that have no answer yet, in the order in which they were passed up.
use Rattle.std.specs.Prelude.{ℕ, ◌-◌, nat_lt, List, [], ◌∷◌, length, Option, Some, None, Bool, true, false, slice_get, slice_set, if◌then◌else◌}
use Rattle.smsc_endpoint.specs.declared.pending.PendingRequest.{PendingRequest}

-- it was handed back, since the centre has too much to do
abbrev pub throttled : PendingRequest → PendingRequest
throttled request = record request { is_throttled = true }

abbrev pub with_throttled : ℕ → List PendingRequest → Option PendingRequest → List PendingRequest
with_throttled place requests None = requests
with_throttled place requests (Some request) = slice_set requests place (throttled request)

abbrev pub throttled_at : ℕ → List PendingRequest → List PendingRequest
throttled_at place requests = with_throttled place requests (slice_get requests place)

-- the latest but so many was handed back
abbrev pub throttled_before : ℕ → List PendingRequest → List PendingRequest
throttled_before behind requests =
    if nat_lt behind (length requests) then throttled_at (length requests - 1 - behind) requests else requests

abbrev pub is_any_request : List PendingRequest → Bool
is_any_request [] = false
is_any_request (request ∷ requests) = true

abbrev pub is_throttled_first : List PendingRequest → Bool
is_throttled_first [] = false
is_throttled_first (request ∷ requests) = request.is_throttled

-- a request that was handed back is no longer with the keeper
abbrev pub left_without : PendingRequest → ℕ → ℕ
left_without request count = if request.is_throttled then count else count - 1

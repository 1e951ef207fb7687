-- At which seats a handset has a link, by the handset that stands at each seat.
use Rattle.std.specs.Prelude.{ℕ, List, Option, None, Some, Bool, false, bytes_eq, slice_get}

abbrev pub is_of : List ℕ → Option (Option (List ℕ)) → Bool
is_of handset None = false
is_of handset (Some None) = false
is_of handset (Some (Some other)) = bytes_eq other handset

abbrev pub is_at : List ℕ → ℕ → List (Option (List ℕ)) → Bool
is_at handset seat links = is_of handset (slice_get links seat)

-- Names and passwords.
use Rattle.std.specs.Prelude.{ℕ, ◌+◌, List, [], ◌∷◌, ◌++◌, Bool, false, Option, Some, None, replicate, slice_get, if◌then◌else◌}
use Rattle.std.specs.Str.{bytes_eq}
use Rattle.sha2.specs.Sha256.{sha256}
use Rattle.smpp_session.specs.declared.account.Account.{Account}
use Rattle.smpp_session.specs.declared.account.Login.{Login}
use Rattle.smpp_session.specs.declared.account.Login.TheVariants.{Known, UnknownName, WrongPassword, Full}
use Rattle.smpp_session.specs.declared.password.Password.{Password}
use Rattle.smpp_session.specs.declared.password.Password.TheVariants.{Plain, Salted}

-- The whole password is an account's own: its octets, or behind the salt those of which the digest was made.
abbrev pub is_own : Password → List ℕ → Bool
is_own (Plain own) password = bytes_eq own password
is_own (Salted salt digest) password = bytes_eq (sha256 (salt ++ password)) digest

-- the first account of that name, counted from a place, if the whole password is its own
abbrev pub login : ℕ → List ℕ → List ℕ → List Account → Login
login place name password [] = UnknownName
login place name password (account ∷ accounts) =
    if bytes_eq account.name name then (if is_own account.password password then Known place else WrongPassword)
    else login (place + 1) name password accounts

-- ---- accounts that are full: as many sessions of them are bound as may be

abbrev pub none_full : List Bool
none_full = replicate 32 false

-- by its place; one beyond the list is not full
abbrev pub is_told : Option Bool → Bool
is_told None = false
is_told (Some full) = full

abbrev pub is_full : ℕ → List Bool → Bool
is_full place full = is_told (slice_get full place)

-- A full account takes no further session. Only who has its password learns so.
abbrev pub admitted : List Bool → Login → Login
admitted full (Known place) = if is_full place full then Full else Known place
admitted full UnknownName = UnknownName
admitted full WrongPassword = WrongPassword
admitted full Full = Full

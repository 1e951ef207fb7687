-- The frame that names the handset of a link.
use Rattle.std.specs.Prelude.{ℕ, ◌==◌, ◌&&◌, nat_le, List, [], ◌∷◌, length, Bool, false, Option, Some, None, if◌then◌else◌}
use Rattle.std.specs.List.{list_all}
use Rattle.std.specs.Str.{bytes_eq}
use Rattle.sms_base.specs.HandsetNumber.{is_decimal}
use Rattle.smsc_loop.specs.declared.note.Note.{Note}
use Rattle.smsc_loop.specs.declared.note.Note.TheVariants.{NoNumber, WrongSecret}
use Rattle.smsc_endpoint.specs.declared.link_access.LinkAccess.{LinkAccess}
use Rattle.smsc_endpoint.specs.declared.link_access.LinkAccess.TheVariants.{Anyone, Secrets}
use Rattle.smsc_endpoint.specs.declared.link_access.LinkSecret.{LinkSecret}

-- one digit in ASCII or more
abbrev pub are_digits : List ℕ → Bool
are_digits octets = nat_le 1 (length octets) && list_all is_decimal octets

-- 1 to 20 of them
abbrev pub is_number : List ℕ → Bool
is_number octets = nat_le (length octets) 20 && are_digits octets

abbrev pub number_of : List ℕ → Option (List ℕ)
number_of octets = if is_number octets then Some octets else None

-- ---- a secret

-- what is before the first space, and what is behind it
abbrev pub before_space : List ℕ → List ℕ
before_space [] = []
before_space (octet ∷ octets) = if octet == 0x20 then [] else octet ∷ before_space octets

abbrev pub behind_space : List ℕ → Option (List ℕ)
behind_space [] = None
behind_space (octet ∷ octets) = if octet == 0x20 then Some octets else behind_space octets

-- this is the secret of the number: of equal numbers the first counts
abbrev pub is_secret_of : List ℕ → List ℕ → List LinkSecret → Bool
is_secret_of number secret [] = false
is_secret_of number secret (own ∷ others) =
    if bytes_eq own.number number then bytes_eq own.secret secret else is_secret_of number secret others

-- an octet and those behind it; 0 behind the last
abbrev pub next_octet : List ℕ → ℕ × List ℕ
next_octet [] = (0, [])
next_octet (octet ∷ octets) = (octet, octets)

-- the number, where its secret was given
abbrev pub number_by : List ℕ → Option (List ℕ) → List LinkSecret → Option (List ℕ)
number_by number None secrets = None
number_by number (Some secret) secrets = if is_secret_of number secret secrets then number_of number else None

-- ---- to whom a link is given

-- The number whose link the first frame is given. Where numbers have secrets, the frame is the number, a space and its secret.
abbrev pub given_by : LinkAccess → List ℕ → Option (List ℕ)
given_by Anyone frame = number_of frame
given_by (Secrets secrets) frame = number_by (before_space frame) (behind_space frame) secrets

-- ---- what an operator is told of one that is given none

abbrev pub without_secret : Option (List ℕ) → Note
without_secret None = NoNumber
without_secret (Some number) = WrongSecret number

abbrev pub refused_by : LinkAccess → List ℕ → Note
refused_by Anyone frame = NoNumber
refused_by (Secrets secrets) frame = without_secret (number_of (before_space frame))

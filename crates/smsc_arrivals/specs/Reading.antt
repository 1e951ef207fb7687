-- What a read gave of what a stream had to give, where it states that.
use Rattle.std.specs.Prelude.{◌≡◌, ℕ, false, List, [], Option}
use Rattle.std.specs.Io.KnownBytes.{Consumes, IsAtEnd, Keeps}
use Rattle.smsc_arrivals.specs.declared.reading.ReadOutcome.{ReadOutcome}
use Rattle.smsc_arrivals.specs.declared.reading.ReadOutcome.TheVariants.{Octets, Nothing, Ended, Lost}
use Rattle.smsc_arrivals.specs.Pieces.{is_mark, octets_of}

-- Where the stream has ended, it has no octet left. Where its connection is lost, it gave none.
abbrev pub HasRead : Option (List ℕ) → Option (List ℕ) → ReadOutcome → Type 0
HasRead before behind (Octets piece) = Consumes before behind (octets_of piece) × (is_mark piece ≡ false)
HasRead before behind Nothing = Keeps before behind
HasRead before behind Ended = Consumes before behind [] × IsAtEnd behind
HasRead before behind Lost = Keeps before behind

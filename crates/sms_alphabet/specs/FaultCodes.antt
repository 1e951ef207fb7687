-- The codes of the faults in reports. Want of memory has none.
use Rattle.std.specs.Prelude.{ℕ, List, Option, Some, None, codes}
use Rattle.sms_alphabet.specs.declared.spelling.SpellingError.{SpellingError}
use Rattle.sms_alphabet.specs.declared.spelling.SpellingError.TheVariants as spelling
use Rattle.sms_alphabet.specs.declared.reading.ReadingError.{ReadingError}
use Rattle.sms_alphabet.specs.declared.reading.ReadingError.TheVariants as reading
use Rattle.sms_alphabet.specs.declared.unpacking.UnpackError.{UnpackError}
use Rattle.sms_alphabet.specs.declared.unpacking.UnpackError.TheVariants as unpacking
use Rattle.sms_alphabet.specs.declared.ucs2.Ucs2Error.{Ucs2Error}
use Rattle.sms_alphabet.specs.declared.ucs2.Ucs2Error.TheVariants as ucs2
use Rattle.sms_alphabet.specs.declared.header_error.HeaderError.{HeaderError}
use Rattle.sms_alphabet.specs.declared.header_error.HeaderError.TheVariants as header

abbrev pub spelling_code : SpellingError → Option (List ℕ)
spelling_code (spelling.NoCode place) = Some (codes "S1")
spelling_code spelling.NoMemory = None

abbrev pub reading_code : ReadingError → Option (List ℕ)
reading_code reading.NotSeptet = Some (codes "S2")
reading_code reading.NoMemory = None

abbrev pub unpack_code : UnpackError → Option (List ℕ)
unpack_code unpacking.TooShort = Some (codes "S3")
unpack_code unpacking.SpareBits = Some (codes "S6")
unpack_code unpacking.NoMemory = None

abbrev pub ucs2_code : Ucs2Error → Option (List ℕ)
ucs2_code ucs2.OddLength = Some (codes "S4")
ucs2_code ucs2.LoneSurrogate = Some (codes "S5")
ucs2_code ucs2.NoMemory = None

abbrev pub header_code : HeaderError → List ℕ
header_code header.Truncated = codes "U1"
header_code header.BadLength = codes "U2"

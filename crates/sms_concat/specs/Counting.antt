-- How many parts a content takes, counted by its whole units: only their sizes count.
use Rattle.std.specs.Prelude.{ℕ, ◌+◌, ◌-◌, List, [], ◌∷◌, length, Bool, Option, Some, None, Result, Ok, Err, nat_lt, nat_le, if◌then◌else◌}
use Rattle.sms_alphabet.specs.declared.scheme.Coding.{Coding}
use Rattle.sms_alphabet.specs.declared.scheme.Coding.TheVariants.{Septets, Ucs2}
use Rattle.sms_alphabet.specs.Ucs2.{octets_for}
use Rattle.sms_base.specs.declared.alphabet.Code.{Code}
use Rattle.sms_base.specs.Alphabet.{code_for, septets_in}
use Rattle.sms_concat.specs.declared.content.Content.{Content}
use Rattle.sms_concat.specs.declared.content.Part.{Part}
use Rattle.sms_concat.specs.declared.split_error.SplitError.{SplitError}
use Rattle.sms_concat.specs.declared.split_error.SplitError.TheVariants.{TooManyParts}
use Rattle.sms_concat.specs.declared.tally.Tally.{Tally}
use Rattle.sms_concat.specs.declared.tally.TextTally.{TextTally}
use Rattle.sms_concat.specs.Splitting.{room}
use Rattle.sms_concat.specs.UserData.{capacity, data_length}

-- how many parts there are, or why there are none
abbrev pub counted : Result (List Part) SplitError → Result ℕ SplitError
counted (Ok parts) = Ok (length parts)
counted (Err fault) = Err fault

abbrev pub content_with : Coding → ℕ → List ℕ → Content
content_with coding dcs units = record { coding = coding; dcs = dcs; units = units }

-- ---- what is left behind each whole unit

abbrev pub tally_begun : Coding → Tally
tally_begun coding = record { room = room coding; alone = capacity coding + 1; parts = 20; piece = room coding }

-- a unit is put into the piece where that has room, else it begins the next
abbrev pub with_unit : ℕ → Tally → Tally
with_unit size t = record {
  room = t.room;
  alone = t.alone - size;
  parts = if nat_le size t.piece then t.parts else t.parts - 1;
  piece = if nat_le size t.piece then t.piece - size else t.room - size;
}

-- all fit one part, or as many as were begun, the present one included
abbrev pub outcome : Tally → Result ℕ SplitError
outcome t = if nat_lt 0 t.alone then Ok 1 else (if nat_lt 0 t.parts then Ok (21 - t.parts) else Err TooManyParts)

-- what a header takes leaves room for them in one part
abbrev pub unit_tally_fits_behind : ℕ → Coding → Tally → Bool
unit_tally_fits_behind header coding t = nat_lt (data_length coding header 0) t.alone

-- ---- the characters of a text, one after the other

-- septets, as long as each character has a code
abbrev pub with_code : Option Code → Option Tally → Option Tally
with_code (Some code) (Some t) = Some (with_unit (length (septets_in code)) t)
with_code (Some code) None = None
with_code None tally = None

abbrev pub with_character : ℕ → TextTally → TextTally
with_character character t = record {
  septets = with_code (code_for character) t.septets;
  ucs2 = with_unit (length (octets_for character)) t.ucs2;
}

abbrev pub with_text : TextTally → List ℕ → TextTally
with_text t [] = t
with_text t (character ∷ text) = with_text (with_character character t) text

abbrev pub text_begun : TextTally
text_begun = record { septets = Some (tally_begun Septets); ucs2 = tally_begun Ucs2 }

abbrev pub either_outcome : Option Tally → Tally → Result ℕ SplitError
either_outcome (Some septets) ucs2 = outcome septets
either_outcome None ucs2 = outcome ucs2

abbrev pub text_outcome : TextTally → Result ℕ SplitError
text_outcome t = either_outcome t.septets t.ucs2

abbrev pub either_fits_behind : ℕ → Option Tally → Tally → Bool
either_fits_behind header (Some septets) ucs2 = unit_tally_fits_behind header Septets septets
either_fits_behind header None ucs2 = unit_tally_fits_behind header Ucs2 ucs2

abbrev pub text_fits_behind : ℕ → TextTally → Bool
text_fits_behind header t = either_fits_behind header t.septets t.ucs2

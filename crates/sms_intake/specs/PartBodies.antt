-- What the parts of a submission carry, and their DELIVERs (3GPP TS 23.040 9.2.2.1, 9.2.3.16, 9.2.3.24).
use Rattle.std.specs.Prelude.{ℕ, length, List, [], ◌∷◌, Bool, true, false, nat_lt, Option, Result, Ok, Err}
use Rattle.sms_alphabet.specs.DataCodingScheme.{coding_of}
use Rattle.sms_base.specs.UtcClock.{stamp_of}
use Rattle.sms_base.specs.declared.wish.Wish.{Wish}
use Rattle.sms_base.specs.declared.wish.Wish.TheVariants.{Nothing, Always, OnFailure}
use Rattle.sms_alphabet.specs.declared.concat_key.ConcatKey.{ConcatKey}
use Rattle.sms_concat.specs.declared.content.Content.{Content}
use Rattle.sms_concat.specs.declared.content.Part.{Part}
use Rattle.sms_concat.specs.declared.content.UserData.{UserData}
use Rattle.sms_concat.specs.declared.split_error.SplitError.{SplitError}
use Rattle.sms_concat.specs.Splitting.{split_of}
use Rattle.sms_concat.specs.UserData.{AreUnits, capacity, header_of, user_data_behind}
use Rattle.sms_tpdu.specs.declared.deliver.Deliver.{Deliver}
use Rattle.sms_tpdu.specs.AddressGrammar.{address_field}
use Rattle.sms_tpdu.specs.TpduGrammar.{deliver_head, deliver_fields}
use Rattle.sms_tpdu.specs.UserDataGrammar.{IsUserData}
use Rattle.sms_intake.specs.declared.submission.SinglePart.{SinglePart}
use Rattle.sms_intake.specs.declared.submission.Submission.{Submission}
use Rattle.sms_intake.specs.declared.submission.Text.{Text}
use Rattle.sms_intake.specs.declared.submission.Text.TheVariants.{Whole, Single}
pub use Rattle.sms_intake.specs.PartTexts.{bodies_of, bodies_under, body_behind, body_of, deliver_octets, deliver_of, deliver_written, is_wish, parts_or_none}
pub use Rattle.sms_intake.specs.PartTexts.{single_of}

-- ---- the parts of a text

-- a content that doesn't fit one part is split under a reference
abbrev pub is_long : Text → Bool
is_long (Whole content) = nat_lt (capacity content.coding) (length content.units)
is_long (Single part) = false

-- a content that the centre splits has units of its coding
abbrev pub HasUnits : Text → Type 0
HasUnits (Whole content) = AreUnits content.coding content.units
HasUnits (Single part) = Unit {0}

-- ---- their DELIVERs

-- its user data is that of its data coding scheme (9.2.3.16, 9.2.3.24)
abbrev pub IsPartData : SinglePart → Type 0
IsPartData body =
    IsUserData (coding_of body.data_coding_scheme) body.header_indicator (record { length = body.length; octets = body.octets })

-- What a submit_sm says, as its octets have it: a content, and the header in front of it.
use Rattle.std.specs.Prelude.{ℕ, length, List, Some}
use Rattle.sms_concat.specs.declared.content.Content.{Content}
use Rattle.sms_concat.specs.Counting.{content_with}
use Rattle.sms_concat.specs.TextContent.{content_of_text}
use Rattle.sms_concat.specs.UserData.{AreUnits, FitsBehind, header_of}
use Rattle.sms_intake.specs.declared.content_form.ContentForm.{ContentForm}
use Rattle.sms_intake.specs.declared.content_form.ContentForm.TheVariants.{Units, Characters}
use Rattle.sms_intake.specs.declared.header_form.HeaderForm.{HeaderForm}
use Rattle.sms_intake.specs.declared.header_form.HeaderForm.TheVariants.{Without, Given, Sar}
use Rattle.sms_intake.specs.declared.submission.Text.{Text}
use Rattle.sms_intake.specs.declared.submission.Text.TheVariants.{Whole, Single}
use Rattle.sms_intake.specs.PartBodies.{body_behind}

-- the octets are its units, or the codes of its characters
abbrev pub content_as : ContentForm → List ℕ → Content
content_as (Units coding dcs) octets = content_with coding dcs octets
content_as Characters octets = content_of_text octets

abbrev pub AreOfForm : ContentForm → List ℕ → Type 0
AreOfForm (Units coding dcs) octets = AreUnits coding octets
AreOfForm Characters octets = Unit {0}

-- behind no header, the header that it has, or that of sar values
abbrev pub text_behind : HeaderForm → Content → Text
text_behind Without content = Whole content
text_behind (Given header key) content = Single (body_behind header key content)
text_behind (Sar key) content = Single (body_behind (header_of (Some key)) (Some key) content)

-- a header leaves room for the content
abbrev pub HasRoomBehind : HeaderForm → Content → Type 0
HasRoomBehind Without content = Unit {0}
HasRoomBehind (Given header key) content = FitsBehind (length header) content
HasRoomBehind (Sar key) content = FitsBehind (length (header_of (Some key))) content

-- The sources that an account may give.
use Rattle.std.specs.Prelude.{ℕ, ◌==◌, ◌&&◌, ◌||◌, not, List, [], ◌∷◌, Bool, true, false, Option, Some, None, bytes_eq, if◌then◌else◌}
use Rattle.std.specs.List.{list_any}
use Rattle.sms_base.specs.AddressKind.{is_name}
use Rattle.sms_base.specs.declared.address.Address.{Address}
use Rattle.sms_intake.specs.declared.allowed_source.AllowedSource.{AllowedSource}
use Rattle.sms_intake.specs.declared.allowed_source.AllowedSource.TheVariants.{Number, Prefix, Name}
use Rattle.sms_intake.specs.declared.submission.CentreAccount.{CentreAccount}

-- the digits begin with those
abbrev pub begins_with : List ℕ → List ℕ → Bool
begins_with [] digits = true
begins_with (wanted ∷ more) [] = false
begins_with (wanted ∷ more) (digit ∷ digits) = (wanted == digit) && begins_with more digits

-- The source is that number, a number that begins so, or that name. A name is no number, whatever its characters are (3GPP TS 23.040 9.1.2.5).
abbrev pub is_source : Address → AllowedSource → Bool
is_source source (Number digits) = not (is_name source.ton) && bytes_eq source.digits digits
is_source source (Prefix digits) = not (is_name source.ton) && begins_with digits source.digits
is_source source (Name name) = is_name source.ton && bytes_eq source.digits name

-- one of an account that names some: its own number is always one
abbrev pub is_one : CentreAccount → Address → Bool
is_one account source = is_source source (Number account.address.digits) || list_any (is_source source) account.sources

abbrev pub names_none : List AllowedSource → Bool
names_none [] = true
names_none (source ∷ sources) = false

-- an account that names none may give any source
abbrev pub allows : CentreAccount → Address → Bool
allows account source = names_none account.sources || is_one account source

-- the source, where there is one and the account may give it
abbrev pub permitted : CentreAccount → Option Address → Option Address
permitted account None = None
permitted account (Some source) = if allows account source then Some source else None

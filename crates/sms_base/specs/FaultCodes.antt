-- The codes of the faults in reports.
use Rattle.std.specs.Prelude.{ℕ, List, codes}
use Rattle.sms_base.specs.declared.address_error.AddressError.{AddressError}
use Rattle.sms_base.specs.declared.address_error.AddressError.TheVariants as address
use Rattle.sms_base.specs.declared.moment.MomentError.{MomentError}
use Rattle.sms_base.specs.declared.moment.MomentError.TheVariants as moment
use Rattle.sms_base.specs.declared.smpp_time.SmppTimeError.{SmppTimeError}
use Rattle.sms_base.specs.declared.smpp_time.SmppTimeError.TheVariants as smpp_time

abbrev pub address_code : AddressError → List ℕ
address_code address.Empty = codes "A1"
address_code address.TooLong = codes "A2"
address_code address.BadDigit = codes "A3"
address_code address.BadName = codes "A4"
address_code address.BadKind = codes "A5"

abbrev pub moment_code : MomentError → List ℕ
moment_code moment.BadTime = codes "M1"

abbrev pub smpp_time_code : SmppTimeError → List ℕ
smpp_time_code smpp_time.BadTime = codes "M2"

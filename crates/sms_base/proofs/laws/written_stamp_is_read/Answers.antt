use Rattle.sms_base.proofs.Stamps.{stamp_is_read}
use Rattle.sms_base.proofs.WrittenStamps.{written_is_stamp}
use Rattle.sms_base.proofs.laws.written_stamp_is_read.Goals as goal

pub returns : goal.returns
returns c = λ octets moment h. stamp_is_read octets moment (written_is_stamp octets moment h)

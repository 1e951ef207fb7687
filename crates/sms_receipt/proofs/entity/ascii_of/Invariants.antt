use Rattle.std.proofs.Common.{◌≡◌, take}
use Rattle.std.specs.Prelude.{map}
use Rattle.sms_receipt.specs.Receipts.{ascii_octet}
use Rattle.sms_receipt.proofs.entity.ascii_of.Given as goal

abbrev pub invariant-loop-character : goal.invariant-loop-character
invariant-loop-character l = l.octets ≡ map ascii_octet (take l.character-index l.digits)

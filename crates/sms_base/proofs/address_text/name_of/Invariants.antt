use Rattle.std.proofs.Common.{length}
use Rattle.std.specs.Str.{chars}
use Rattle.sms_base.proofs.NameWalk.{Named}
use Rattle.sms_base.proofs.address_text.name_of.Given as goal

abbrev pub invariant-loop-character : goal.invariant-loop-character
invariant-loop-character l = Named (chars l.text) l.digits (length l.yielded) l.septets

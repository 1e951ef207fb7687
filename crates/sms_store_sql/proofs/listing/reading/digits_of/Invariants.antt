use Rattle.std.proofs.Common.{length, chars}
use Rattle.sms_store_sql.proofs.listing.Characters.{Gathered}
use Rattle.sms_store_sql.proofs.listing.reading.digits_of.Given as goal

abbrev pub invariant-loop-character : goal.invariant-loop-character
invariant-loop-character l = Gathered (chars l.text) l.digits (length l.yielded)

use Rattle.std.proofs.Common.{string_bytes}
use Rattle.sms_store_sql.proofs.listing.Characters.{Spelled}
use Rattle.sms_store_sql.proofs.listing.reading.text_of.Given as goal

abbrev pub invariant-loop-character : goal.invariant-loop-character
invariant-loop-character l = Spelled l.characters (string_bytes l.text) l.character-index

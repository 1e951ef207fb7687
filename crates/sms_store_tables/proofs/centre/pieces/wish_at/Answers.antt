use Rattle.std.proofs.Common.{rules}
use Rattle.sms_store_tables.specs.centre.Pieces.{wish_word}
use Rattle.sms_store_tables.proofs.centre.PiecesRead.{wish_utf8}
use Rattle.sms_store_tables.proofs.centre.pieces.wish_at.Goals as goal

pub returns-in_err-word-clause-only : goal.returns-in_err-word-clause-only
returns-in_err-word-clause-only c x has = let lacks = c.in_err-word.ensures.only (wish_word x) (wish_utf8 x) has in search (rules, lacks)

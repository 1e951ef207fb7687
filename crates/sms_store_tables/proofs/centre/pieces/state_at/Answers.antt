use Rattle.std.proofs.Common.{rules}
use Rattle.sms_store_tables.specs.centre.Pieces.{state_word}
use Rattle.sms_store_tables.proofs.centre.PiecesRead.{state_utf8}
use Rattle.sms_store_tables.proofs.centre.pieces.state_at.Goals as goal

pub returns-in_err-word-clause-only : goal.returns-in_err-word-clause-only
returns-in_err-word-clause-only c x has = let lacks = c.in_err-word.ensures.only (state_word x) (state_utf8 x) has in search (rules, lacks)

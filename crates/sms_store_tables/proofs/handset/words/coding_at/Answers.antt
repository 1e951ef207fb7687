use Rattle.std.proofs.Common.{rules}
use Rattle.sms_store_tables.specs.handset.Words.{coding_word}
use Rattle.sms_store_tables.proofs.handset.RowsRead.{coding_utf8}
use Rattle.sms_store_tables.proofs.handset.words.coding_at.Goals as goal

pub returns-in_err-word-clause-only : goal.returns-in_err-word-clause-only
returns-in_err-word-clause-only c x has = let lacks = c.in_err-word.ensures.only (coding_word x) (coding_utf8 x) has in search (rules, lacks)

use Rattle.std.proofs.Common.{rules}
use Rattle.sms_store_sql.specs.listing.Meta.{kind_word}
use Rattle.sms_store_sql.proofs.listing.MetaRead.{kind_utf8}
use Rattle.sms_store_sql.proofs.listing.meta.kind_at.Goals as goal

pub returns-in_err-word-clause-only : goal.returns-in_err-word-clause-only
returns-in_err-word-clause-only c kind has = let lacks = c.in_err-word.ensures.only (kind_word kind) (kind_utf8 kind) has in search (rules, lacks)

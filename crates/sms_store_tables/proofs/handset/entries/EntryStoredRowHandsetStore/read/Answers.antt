use Rattle.std.proofs.Common.{rules}
use Rattle.sms_store_tables.proofs.handset.RowsRead.{entry_has}
use Rattle.sms_store_tables.proofs.handset.entries.EntryStoredRowHandsetStore.read.Goals as goal

pub returns-in_err-number-clause-back : goal.returns-in_err-number-clause-back
returns-in_err-number-clause-back c x fits same = let lacks = c.in_err-number.ensures.only x.number fits.number (entry_has _ x.number x.slots x.message same).entry in search (rules, lacks)

pub returns-in_err-slots-clause-back : goal.returns-in_err-slots-clause-back
returns-in_err-slots-clause-back c x fits same = let lacks = c.in_err-slots.ensures.only x.slots fits.slots (entry_has _ x.number x.slots x.message same).slots in search (rules, lacks)

pub returns-in_err-message-clause-back : goal.returns-in_err-message-clause-back
returns-in_err-message-clause-back c x fits same = let lacks = c.in_err-message.ensures.only x fits.message same in search (rules, lacks)

use Rattle.std.proofs.Common.{rules}
use Rattle.sms_store_sql.specs.listing.Columns.{IsOctet, IsWord}
use Rattle.sms_store_tables.proofs.handset.RowsRead.{entry_fits}
use Rattle.sms_store_tables.proofs.handset.entries.EntryStoredRowHandsetStore.write.Goals as goal

pub returns-in-Part-clause-done : goal.returns-in-Part-clause-done
returns-in-Part-clause-done g c clean live inside = rw c.in-Part.is (c.write_part.ensures.done clean live inside)

pub returns-in-Part-clause-fits : goal.returns-in-Part-clause-fits
returns-in-Part-clause-fits g c =
    let number : IsWord c.args.self.now.number = search rules in
    let slots : IsOctet c.args.self.now.slots = search rules in
    entry_fits c.write_part.result c.args.self.now _ c.in-Part.is number slots c.write_part.ensures.fits

-- Accounts, one behind another.
use Rattle.std.specs.Prelude.{List, [], ◌∷◌, Option, Some, None}
use Rattle.std.specs.declared.alloc.Global.{Global}
use Rattle.std.specs.declared.sync.Arc.{Arc}
use Rattle.sms_centre_reports.specs.declared.open_reports.accounts.AccountReceipts.{AccountReceipts}
use Rattle.sms_centre_reports.specs.open_reports.OpenReports.{AccountOf}

abbrev pub accounts_of : Option (Arc AccountReceipts Global) → List AccountOf
accounts_of None = []
accounts_of (Some a) = record { name = a.value.name.value; receipts = a.value.receipts } ∷ a.value.next

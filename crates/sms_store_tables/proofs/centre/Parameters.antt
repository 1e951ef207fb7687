-- Parameters of a text: what there may be, and what they are bound to.
use Rattle.std.proofs.Common.{◌≡◌, refl}
use Rattle.sqlite.specs.Values.{bound_value}
use Rattle.sms_store_tables.specs.centre.Pieces.{account_of, mark_of, kind_reference, kind_tpdu}
use Rattle.sms_store_tables.specs.centre.Types.{Originator, Application, Handset, ReportKind, Receipt, Status, Unsent}

pub bound_account : (o : Originator) → bound_value (account_of o) ≡ account_of o
bound_account (Application account) = refl
bound_account (Handset reference) = refl

pub bound_mark : (o : Originator) → bound_value (mark_of o) ≡ mark_of o
bound_mark (Application account) = refl
bound_mark (Handset reference) = refl

pub bound_reference : (k : ReportKind) → bound_value (kind_reference k) ≡ kind_reference k
bound_reference Receipt = refl
bound_reference (Status reference tpdu) = refl
bound_reference Unsent = refl

pub bound_tpdu : (k : ReportKind) → bound_value (kind_tpdu k) ≡ kind_tpdu k
bound_tpdu Receipt = refl
bound_tpdu (Status reference tpdu) = refl
bound_tpdu Unsent = refl

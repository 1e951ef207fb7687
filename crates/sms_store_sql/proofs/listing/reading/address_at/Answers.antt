use Rattle.std.proofs.Common.{rules}
use Rattle.sms_base.specs.AddressKind.{type_number}
use Rattle.sms_store_sql.proofs.listing.Columns.{ton_octet}
use Rattle.sms_store_sql.proofs.listing.reading.address_at.Goals as goal

pub returns-in_err-number-clause-only : goal.returns-in_err-number-clause-only
returns-in_err-number-clause-only c a stored ton npi text =
    let lacks = c.in_err-number.ensures.only (type_number a.ton) (ton_octet a.ton) ton in
    search (rules, lacks)

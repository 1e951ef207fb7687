use Rattle.std.proofs.Common.{◌≡◌, ◌∙◌, true, ap, bytes_eq, codes, rules, sym}
use Rattle.sms_store_sql.specs.listing.Columns.{text_in}
use Rattle.sms_store_tables.specs.handset.EntryList.{row_columns}
use Rattle.sms_store_tables.specs.handset.Types.{Message}
use Rattle.sms_store_tables.proofs.handset.RowsRead.{as_joined, as_part, entry_has, kind_of, kind_utf8, octets_of}
use Rattle.sms_store_tables.proofs.handset.entries.message_at.Goals as goal

pub returns-in_err-kind-clause-only : goal.returns-in_err-kind-clause-only
returns-in_err-kind-clause-only c e stored same =
    let lacks = c.in_err-kind.ensures.only (kind_of e.message) (kind_utf8 e.message) (entry_has _ e.number e.slots e.message same).kind in
    search (rules, lacks)

pub returns-in_err-tpdu-clause-only : goal.returns-in_err-tpdu-clause-only
returns-in_err-tpdu-clause-only c e stored same =
    let lacks = c.in_err-tpdu.ensures.only (octets_of e.message) (entry_has _ e.number e.slots e.message same).octets in
    search (rules, lacks)

pub returns-then-eq-2-clause-only : goal.returns-then-eq-2-clause-only
returns-then-eq-2-clause-only c e stored same =
    let has = entry_has _ e.number e.slots e.message same in
    let spelled = c.in_ok-kind.ensures.value ∙ ap text_in has.kind.is in
    let word : bytes_eq (kind_of e.message) (codes "part") ≡ true = ap (λ w. bytes_eq w (codes "part")) (sym spelled) ∙ sym c.eq-2.ensures ∙ c.if-eq-2.true in
    let it = as_part e.message word stored in
    c.part_at.ensures.only e.number e.slots it.group it.part it.tpdu it.stored
    (same ∙ ap (λ (m : Message). row_columns (record { number = e.number; slots = e.slots; message = m })) it.is)

pub returns-then-eq-3-clause-only : goal.returns-then-eq-3-clause-only
returns-then-eq-3-clause-only c e stored same =
    let has = entry_has _ e.number e.slots e.message same in
    let spelled = c.in_ok-kind.ensures.value ∙ ap text_in has.kind.is in
    let word : bytes_eq (kind_of e.message) (codes "joined") ≡ true = ap (λ w. bytes_eq w (codes "joined")) (sym spelled) ∙ sym c.eq-3.ensures ∙ c.if-eq-3.true in
    let it = as_joined e.message word stored in
    c.joined_at.ensures.only e.number e.slots it.source it.content it.stored
    (same ∙ ap (λ (m : Message). row_columns (record { number = e.number; slots = e.slots; message = m })) it.is)

use Rattle.std.proofs.Common.{◌≡◌, ◌∙◌, ◌+◌, true, ap, bytes_eq, codes, rules, sym}
use Rattle.sms_store_sql.specs.listing.Columns.{text_in}
use Rattle.sms_store_tables.specs.centre.Pieces.{kind_word}
use Rattle.sms_store_tables.proofs.centre.PiecesRead.{by_status, kind_utf8, with_tpdu}
use Rattle.sms_store_tables.proofs.centre.pieces.report_kind_at.Goals as goal

pub returns-in_err-word-clause-only : goal.returns-in_err-word-clause-only
returns-in_err-word-clause-only c kind stored word reference tpdu =
    let lacks = c.in_err-word.ensures.only (kind_word kind) (kind_utf8 kind) word in
    search (rules, lacks)

pub returns-in_err-reference-clause-only : goal.returns-in_err-reference-clause-only
returns-in_err-reference-clause-only c kind stored word reference tpdu =
    let spelled = c.in_ok-word.ensures.value ∙ ap text_in word.is in
    let status : bytes_eq (kind_word kind) (codes "status") ≡ true = ap (λ w. bytes_eq w (codes "status")) (sym spelled) ∙ sym c.eq-2.ensures ∙ c.if-eq-2.true in
    let it = by_status c.args.row.now (c.args.at + 1) kind status stored reference in
    let lacks = c.in_err-reference.ensures.only it.0 it.1 it.2 in
    search (rules, lacks)

pub returns-in_err-tpdu-clause-only : goal.returns-in_err-tpdu-clause-only
returns-in_err-tpdu-clause-only c kind stored word reference tpdu =
    let spelled = c.in_ok-word.ensures.value ∙ ap text_in word.is in
    let status : bytes_eq (kind_word kind) (codes "status") ≡ true = ap (λ w. bytes_eq w (codes "status")) (sym spelled) ∙ sym c.eq-2.ensures ∙ c.if-eq-2.true in
    let it = with_tpdu c.args.row.now (c.args.at + 2) kind status tpdu in
    let lacks = c.in_err-tpdu.ensures.only it.0 it.1 in
    search (rules, lacks)

-- References none of which was given after a moment.
use Rattle.std.proofs.Common.{◌≡◌, ℕ, ◌<◌, List, [], ◌∷◌, false, refl, ◌∙◌, ap, arith, ⊎_elim}
use Rattle.std.proofs.lemmas.Bool.{cases_eq, lt-leb}
use Rattle.sms_rows.specs.table.Table.{row_at}
use Rattle.sms_rows.proofs.table.Tables.{row_behind, row_here}
use Rattle.sms_centre_rows.specs.declared.waiting.reference.ReferenceRow.{ReferenceRow}
use Rattle.sms_centre_rows.specs.waiting.Keys.{reference_key}
use Rattle.sms_centre_rows.specs.waiting.References.{is_late}
use Rattle.sms_centre_queue.specs.queue.Given.{AllGivenBy}

-- what is asked is later
pub none_late : (latest now n : ℕ) (rows : List ReferenceRow) → AllGivenBy latest rows → latest < now → is_late now (row_at reference_key n rows) ≡ false
none_late latest now n [] by later = refl
none_late latest now n (r ∷ rows) by later = ⊎_elim
    (λ (e : reference_key r ≡ n). ap (is_late now) (row_here reference_key n r rows e) ∙ lt-leb now r.last (omega (arith, by.0, later)))
    (λ (e : reference_key r ≡ n → ⊥). ap (is_late now) (row_behind reference_key n r rows e) ∙ none_late latest now n rows by.1 later)
    (cases_eq (reference_key r) n)

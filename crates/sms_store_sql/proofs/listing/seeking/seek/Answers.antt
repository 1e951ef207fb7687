use Rattle.std.proofs.Common.{inl, rules, [], ◌∷◌, filter, sym, subst, IsPermutation}
use Rattle.sqlite.proofs.Callers.{IsPlain}
use Rattle.sqlite.specs.Listing.{understood}
use Rattle.sms_store_sql.specs.listing.Columns.{number}
use Rattle.sms_store_sql.proofs.listing.Steps.{if_ok}
use Rattle.sms_store_sql.proofs.listing.Found.{shown_unchanged, keeps_if, rises_by}
use Rattle.sms_store_sql.proofs.listing.OneRow.{has}
use Rattle.sms_store_sql.proofs.listing.Sought.{seeks_rows, rises_among}
use Rattle.sms_store_sql.proofs.listing.Refused.{of_memory, of_memory_alone}
use Rattle.sms_store_sql.proofs.listing.seeking.seek.Goals as goal

pub returns-clause-found : goal.returns-clause-found
returns-clause-found g c clean ours =
    let list = g.T.StoredRow.list in
    let row = g.T.SoughtRow in
    let by = g.met.T.SoughtRow.is_sought in
    let shown = c.in_ok-rows.ensures.ok clean in
    let plain = subst (λ s. IsPlain (understood s row.sought)) (sym ours) by.alone in
    let kept = shown_unchanged row.sought (number c.args.number ∷ []) _ _ _ plain shown in
    let made = rw c.deref.ensures.value at c.in_ok-rows_of.ensures.found in
    if_ok c.in_order.result (λ sorted h. (
      kept,
      λ xs held.
          let found = seeks_rows list g.met.T.StoredRow.is_list row.mark row.sought row.tests by c.args.number _ _ _ ours shown xs held in
          let read = made found.0 found.3 found.1 in
          let mine = has row.mark c.args.number in
          h (filter mine xs) (subst (λ items. IsPermutation items (filter mine xs)) (sym read) found.2) (rises_by list.key g.T.Row.key g.met.T.StoredRow.one_key (filter mine xs) (rises_among list.key mine xs held.rises)),
    )) c.in_order.ensures.sorted

pub returns-in_err-rows_of-clause-uncommitted : goal.returns-in_err-rows_of-clause-uncommitted
returns-in_err-rows_of-clause-uncommitted g c clean ours =
    let text = g.T.SoughtRow.sought in
    let plain = subst (λ s. IsPlain (understood s text)) (sym ours) g.met.T.SoughtRow.is_sought.alone in
    keeps_if _ _ (inl (shown_unchanged text (number c.args.number ∷ []) _ _ _ plain (c.in_ok-rows.ensures.ok clean)))

pub returns-clause-uncommitted : goal.returns-clause-uncommitted
returns-clause-uncommitted g c clean ours =
    let text = g.T.SoughtRow.sought in
    let plain = subst (λ s. IsPlain (understood s text)) (sym ours) g.met.T.SoughtRow.is_sought.alone in
    keeps_if _ _ (inl (shown_unchanged text (number c.args.number ∷ []) _ _ _ plain (c.in_ok-rows.ensures.ok clean)))

pub returns-in_err-rows_of-clause-back : goal.returns-in_err-rows_of-clause-back
returns-in_err-rows_of-clause-back g c clean ours xs held =
    let list = g.T.StoredRow.list in
    let row = g.T.SoughtRow in
    let shown = c.in_ok-rows.ensures.ok clean in
    let found = seeks_rows list g.met.T.StoredRow.is_list row.mark row.sought row.tests g.met.T.SoughtRow.is_sought c.args.number _ _ _ ours shown xs held in
    let lacks = (rw c.deref.ensures.value at c.in_err-rows_of.ensures.back) found.0 found.3 found.1 in
    let none = of_memory _ lacks in
    search (rules, none)

pub returns-clause-back : goal.returns-clause-back
returns-clause-back g c clean ours xs held = of_memory_alone c.in_order.result c.in_order.ensures.only

pub returns-in_err-rows-clause-uncommitted : goal.returns-in_err-rows-clause-uncommitted
returns-in_err-rows-clause-uncommitted g c clean ours =
    c.query_mark.ensures.uncommitted clean (subst (λ s. IsPlain (understood s g.T.SoughtRow.sought)) (sym ours) g.met.T.SoughtRow.is_sought.alone)

pub returns-in_err-rows-clause-back : goal.returns-in_err-rows-clause-back
returns-in_err-rows-clause-back g c clean ours xs held =
    let none = c.in_err-rows.ensures.back clean (subst (λ s. IsPlain (understood s g.T.SoughtRow.sought)) (sym ours) g.met.T.SoughtRow.is_sought.alone) in
    search (rules, none)

use Rattle.std.proofs.Common.{inl, [], rules, sym, subst}
use Rattle.sqlite.proofs.Callers.{IsPlain}
use Rattle.sqlite.specs.Listing.{understood}
use Rattle.sms_store_sql.proofs.listing.Found.{finds, shown_unchanged, keeps_if, keeps_if_refused}
use Rattle.sms_store_sql.proofs.listing.Refused.{of_query}
use Rattle.sms_store_sql.proofs.listing.loading.load_columns.Goals as goal

pub returns-clause-found : goal.returns-clause-found
returns-clause-found g c clean ours =
    let list = g.T.StoredRow.list in
    let is = g.met.T.StoredRow.is_list in
    let shown = rw c.table-table.ensures.select at (c.in_ok-rows.ensures.ok clean) in
    let plain = subst (λ s. IsPlain (understood s list.table.select)) (sym ours) is.selects_alone in (
      shown_unchanged list.table.select [] _ _ _ plain shown,
      λ xs held. let found = finds list is _ _ _ ours shown xs held in (found.0, found.1, found.2),
    )

pub returns-in_err-rows-clause-uncommitted : goal.returns-in_err-rows-clause-uncommitted
returns-in_err-rows-clause-uncommitted g c clean ours = keeps_if_refused g.T.StoredRow.list.table.select [] _ _ _ (rw c.table-table.ensures.select at (c.in_err-rows.ensures.err clean))

pub returns-clause-uncommitted : goal.returns-clause-uncommitted
returns-clause-uncommitted g c clean ours =
    let list = g.T.StoredRow.list in
    let plain = subst (λ s. IsPlain (understood s list.table.select)) (sym ours) g.met.T.StoredRow.is_list.selects_alone in
    keeps_if _ _ (inl (shown_unchanged list.table.select [] _ _ _ plain (rw c.table-table.ensures.select at (c.in_ok-rows.ensures.ok clean))))

pub returns-in_err-rows-clause-back : goal.returns-in_err-rows-clause-back
returns-in_err-rows-clause-back g c clean ours =
    let list = g.T.StoredRow.list in
    let plain = subst (λ s. IsPlain (understood s list.table.select)) (sym ours) g.met.T.StoredRow.is_list.selects_alone in
    let none = of_query list.table.select [] _ _ _ plain (rw c.table-table.ensures.select at (c.in_err-rows.ensures.err clean)) in
    search (rules, none)

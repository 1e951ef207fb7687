use Rattle.std.proofs.Common.{inl, rules, sym, subst, ◌∙◌}
use Rattle.sqlite.proofs.Callers.{IsPlain}
use Rattle.sqlite.specs.Listing.{understood}
use Rattle.sms_store_sql.proofs.listing.Steps.{if_ok}
use Rattle.sms_store_sql.proofs.listing.Found.{shown_unchanged, keeps_if}
use Rattle.sms_store_sql.proofs.listing.OneRow.{finds_row}
use Rattle.sms_store_sql.proofs.listing.Refused.{of_memory_alone}
use Rattle.sms_store_sql.proofs.listing.finding.find.Goals as goal

pub returns-clause-found : goal.returns-clause-found
returns-clause-found g c clean ours =
    let list = g.T.StoredRow.list in
    let text = g.T.FoundRow.find in
    let one = g.met.T.FoundRow.is_found in
    let shown = c.in_ok-rows.ensures.ok clean in
    let plain = subst (λ s. IsPlain (understood s text)) (sym ours) one.alone in
    let kept = shown_unchanged text (list.key_columns c.args.key) _ _ _ plain shown in
    let made = rw c.deref.ensures.value at c.first_row.ensures.found in
    if_ok c.first_row.result (λ row h. (
      kept,
      λ xs held.
          let found = finds_row list g.met.T.StoredRow.is_list text one c.args.key _ _ _ ours shown xs held in
          h found.0 found.3 found.1 ∙ found.2,
    )) made

pub returns-clause-uncommitted : goal.returns-clause-uncommitted
returns-clause-uncommitted g c clean ours =
    let text = g.T.FoundRow.find in
    let plain = subst (λ s. IsPlain (understood s text)) (sym ours) g.met.T.FoundRow.is_found.alone in
    keeps_if _ _ (inl (shown_unchanged text (g.T.StoredRow.list.key_columns c.args.key) _ _ _ plain (c.in_ok-rows.ensures.ok clean)))

pub returns-clause-back : goal.returns-clause-back
returns-clause-back g c clean ours xs held =
    let list = g.T.StoredRow.list in
    let shown = c.in_ok-rows.ensures.ok clean in
    let found = finds_row list g.met.T.StoredRow.is_list g.T.FoundRow.find g.met.T.FoundRow.is_found c.args.key _ _ _ ours shown xs held in
    of_memory_alone c.first_row.result ((rw c.deref.ensures.value at c.first_row.ensures.back) found.0 found.3 found.1)

pub returns-in_err-rows-clause-uncommitted : goal.returns-in_err-rows-clause-uncommitted
returns-in_err-rows-clause-uncommitted g c clean ours =
    c.query.ensures.uncommitted clean (subst (λ s. IsPlain (understood s g.T.FoundRow.find)) (sym ours) g.met.T.FoundRow.is_found.alone)

pub returns-in_err-rows-clause-back : goal.returns-in_err-rows-clause-back
returns-in_err-rows-clause-back g c clean ours xs held =
    let none = c.in_err-rows.ensures.back clean (subst (λ s. IsPlain (understood s g.T.FoundRow.find)) (sym ours) g.met.T.FoundRow.is_found.alone) in
    search (rules, none)

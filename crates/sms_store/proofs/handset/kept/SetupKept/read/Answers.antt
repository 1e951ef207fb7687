use Rattle.std.proofs.Common.{rules, ◌∙◌}
use Rattle.sqlite.proofs.StateLemmas.{survives_weaker}
use Rattle.sms_store_sql.proofs.listing.Steps.{if_ok}
use Rattle.sms_store.proofs.handset.Loading.{found_counters, found_rows, holds_all, never_refused}
use Rattle.sms_store.proofs.handset.kept.SetupKept.read.Goals as goal

pub returns-clause-found : goal.returns-clause-found
returns-clause-found g c clean ours =
    let h = c.in_ok-lists.ensures.found clean (ours, (ours, (ours, (ours, ours)))) in
    if_ok c.rows_of.result (λ made it. (h.0, λ rows is. it.1 ∙ found_rows _ c.args.self.now rows is _ _ _ _ _ h.1 made.counters it.0)) c.rows_of.ensures.found

pub returns-clause-back : goal.returns-clause-back
returns-clause-back g c clean ours has =
    let h = c.in_ok-lists.ensures.found clean (ours, (ours, (ours, (ours, ours)))) in
    never_refused c.rows_of.result _ (c.rows_of.ensures.always _ (found_counters _ c.args.self.now has.0 has.1 _ h.1.1.1.1.1))

pub returns-clause-stays : goal.returns-clause-stays
returns-clause-stays g c clean ours = c.load_all.ensures.stays clean (ours, (ours, (ours, (ours, ours))))

pub returns-clause-survives : goal.returns-clause-survives
returns-clause-survives g c = survives_weaker _ _ _ _ (λ _ db none ours. none (ours, (ours, (ours, (ours, ours))))) c.load_all.ensures.survives

pub returns-in_err-lists-clause-back : goal.returns-in_err-lists-clause-back
returns-in_err-lists-clause-back g c clean ours has =
    let none = c.in_err-lists.ensures.back clean (ours, (ours, (ours, (ours, ours)))) (holds_all _ c.args.self.now has) in
    search (rules, none)

pub returns-in_err-lists-clause-stays : goal.returns-in_err-lists-clause-stays
returns-in_err-lists-clause-stays g c clean ours = c.load_all.ensures.stays clean (ours, (ours, (ours, (ours, ours))))

pub returns-in_err-lists-clause-survives : goal.returns-in_err-lists-clause-survives
returns-in_err-lists-clause-survives g c = survives_weaker _ _ _ _ (λ _ db none ours. none (ours, (ours, (ours, (ours, ours))))) c.load_all.ensures.survives

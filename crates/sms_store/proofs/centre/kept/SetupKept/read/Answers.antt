use Rattle.std.proofs.Common.{rules, ◌∙◌}
use Rattle.sqlite.proofs.StateLemmas.{survives_weaker}
use Rattle.sms_store.proofs.centre.Loading.{found_rows, holds_all}
use Rattle.sms_store.proofs.centre.kept.SetupKept.read.Goals as goal

pub returns-clause-found : goal.returns-clause-found
returns-clause-found g c clean ours =
    let h = c.in_ok-lists.ensures.found clean (ours, (ours, (ours, (ours, (ours, (ours, ours)))))) in
    (h.0, λ rows is. c.rows_of.ensures ∙ found_rows _ c.args.self.now rows is _ _ _ _ _ _ _ h.1 _ c.in_ok-setup.ensures)

pub returns-in_err-lists-clause-back : goal.returns-in_err-lists-clause-back
returns-in_err-lists-clause-back g c clean ours has =
    let none = c.in_err-lists.ensures.back clean (ours, (ours, (ours, (ours, (ours, (ours, ours)))))) (holds_all _ c.args.self.now has) in
    search (rules, none)

pub returns-in_err-lists-clause-stays : goal.returns-in_err-lists-clause-stays
returns-in_err-lists-clause-stays g c clean ours = c.load_all.ensures.stays clean (ours, (ours, (ours, (ours, (ours, (ours, ours))))))

pub returns-in_err-lists-clause-survives : goal.returns-in_err-lists-clause-survives
returns-in_err-lists-clause-survives g c = survives_weaker _ _ _ _ (λ _ db none ours. none (ours, (ours, (ours, (ours, (ours, (ours, ours))))))) c.load_all.ensures.survives

pub returns-in_err-setup-clause-stays : goal.returns-in_err-setup-clause-stays
returns-in_err-setup-clause-stays g c clean ours = c.load_all.ensures.stays clean (ours, (ours, (ours, (ours, (ours, (ours, ours))))))

pub returns-in_err-setup-clause-survives : goal.returns-in_err-setup-clause-survives
returns-in_err-setup-clause-survives g c = survives_weaker _ _ _ _ (λ _ db none ours. none (ours, (ours, (ours, (ours, (ours, (ours, ours))))))) c.load_all.ensures.survives

pub returns-clause-stays : goal.returns-clause-stays
returns-clause-stays g c clean ours = c.load_all.ensures.stays clean (ours, (ours, (ours, (ours, (ours, (ours, ours))))))

pub returns-clause-survives : goal.returns-clause-survives
returns-clause-survives g c = survives_weaker _ _ _ _ (λ _ db none ours. none (ours, (ours, (ours, (ours, (ours, (ours, ours))))))) c.load_all.ensures.survives

use Rattle.std.proofs.Common.{rules, ◌∙◌}
use Rattle.sms_store_sql.proofs.listing.Verdicts.{judged_alike}
use Rattle.sms_store.proofs.keeping.said.SaidLookup.read.Goals as goal

pub returns-clause-found : goal.returns-clause-found
returns-clause-found g c clean ours =
    let h = c.in_ok-rows.ensures.found clean ours in
    let made = rw c.deref.ensures.value at c.judge.ensures in (
      h.0,
      λ said held. let shown = h.1 said held in made shown.0 shown.1 ∙ judged_alike c.args.self.now.kind c.args.self.now.version said shown.0 shown.2,
    )

pub returns-in_err-rows-clause-back : goal.returns-in_err-rows-clause-back
returns-in_err-rows-clause-back g c clean ours has = let none = c.in_err-rows.ensures.back clean ours in search (rules, none)

use Rattle.std.proofs.Common.{◌≡◌, IsTrue, true, refl, subst, arith, rules}
use Rattle.sqlite.specs.Tree.{Trees}
use Rattle.sqlite.specs.State.{HasCleanDisk, Survives}
use Rattle.sqlite.specs.Held.{state}
use Rattle.sqlite.proofs.StateLemmas.{survives_then}
use Rattle.sqlite.proofs.Callers.{survives_begin}
use Rattle.sms_store_sql.specs.listing.Transaction.{Leads, Leaves}
use Rattle.sms_store_sql.proofs.listing.transaction.transact.Goals as goal

pub returns-clause-stop : goal.returns-clause-stop
returns-clause-stop g c =
    let change = g.W.Work.changes c.args.work.now in
    let old = c.args.conn.now in
    let last = c.run.new.tx.conn.now in
    let end = c.commit.new.self.0 in
    let begun = c.transaction-tx.ensures.begun in
    let P = λ (trees : Trees). IsTrue (state g.S.Store old).is_open → Leaves change (state g.S.Store old) trees in
    let whole = survives_then (state g.S.Store old) (state g.S.Store last) (state g.S.Store end) (λ _. ⊥) _ P (λ _ db none. absurd none)
    (λ clean db is live.
    let early : HasCleanDisk (state g.S.Store last) = omega (arith, c.commit.ensures.survives.clean) in
    let led : Leads change (state g.S.Store (record old { in_transaction = true })) (state g.S.Store last) = rw begun at (c.in_ok-run.ensures.done early (rw begun live) (rw begun refl)) in
    ((state g.S.Store last).now, is, led.changed))
    (survives_begin g.S.Store old (state g.S.Store last) _ (rw begun at c.run.ensures.survives)) c.commit.ensures.survives in
    let same : end ≡ c.conn-2-1.given.0 = search rules in
    subst (λ h. Survives (state g.S.Store old) (state g.S.Store h) P) same whole

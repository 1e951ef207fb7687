use Rattle.std.proofs.Common.{◌≡◌, false, subst, ◌∙◌, arith, rules}
use Rattle.sqlite.specs.State.{HasCleanDisk, Shows}
use Rattle.sqlite.specs.Held.{state}
use Rattle.sms_store_sql.proofs.listing.transaction.look.Goals as goal

pub returns-clause-ok : goal.returns-clause-ok
returns-clause-ok g c clean ours =
    let old = c.args.conn.now in
    let mid = c.read.new.tx.conn.now in
    let end = c.commit.new.self.0 in
    let begun = c.transaction-tx.ensures.begun in
    let same : end ≡ c.conn-2-1.given.0 = search rules in
    let late : HasCleanDisk (state g.S.Store end) = rw same clean in
    let early : HasCleanDisk (state g.S.Store mid) = omega (arith, c.commit.ensures.survives.clean) in
    let found = c.in_ok-found.ensures.found early (rw begun ours) in
    let ended = c.in_ok-commit.ensures.ok late in
    let f = rw begun at found in
    let shows : Shows (state g.S.Store old) (state g.S.Store end) (state g.S.Store old).now (state g.S.Store old).now false = record {
      was_open = f.0.0.was_open;
      is_open = ended.1.is_open;
      now_is = ended.1.now_is ∙ f.0.0.now_is;
      committed_is = ended.1.committed_is ∙ f.0.0.now_is;
      mode = ended.1.mode;
    } in
    (subst (λ h. Shows (state g.S.Store old) (state g.S.Store h) (state g.S.Store old).now (state g.S.Store old).now false) same shows, f.1)

use Rattle.std.proofs.Common.{arith, rules, sym, subst}
use Rattle.sqlite.specs.Held.{state}
use Rattle.sqlite.specs.State.{HasCleanDisk}
use Rattle.sqlite.proofs.Callers.{unchanged_then}
use Rattle.sqlite.proofs.StateLemmas.{survives_then, survives_weaker}
use Rattle.sms_store_sql.proofs.listing.Streaming.{stays_unchanged}
use Rattle.sms_store_sql.proofs.listing.lists.ThenStoredLists.load_all.Goals as goal

pub returns-in_err-first-clause-back : goal.returns-in_err-first-clause-back
returns-in_err-first-clause-back g c clean ours holds = let none = c.in_err-first.ensures.back clean ours.0 holds.0.0 holds.0.1 in search (rules, none)

pub returns-in_err-first-clause-stays : goal.returns-in_err-first-clause-stays
returns-in_err-first-clause-stays g c clean ours = c.load.ensures.stays clean ours.0

pub returns-in_err-first-clause-survives : goal.returns-in_err-first-clause-survives
returns-in_err-first-clause-survives g c = survives_weaker _ _ _ _ (λ _ db none ours. none ours.0) c.load.ensures.survives

pub returns-in_err-more-clause-back : goal.returns-in_err-more-clause-back
returns-in_err-more-clause-back g c clean ours holds =
    let early : HasCleanDisk (state g.S.Store c.load.new.conn) = omega (arith, clean, c.load_all.ensures.survives.clean) in
    let same = sym (c.in_ok-first.ensures.found early ours.0).0.0.now_is in
    let none = c.in_err-more.ensures.back clean (subst g.More.StoredLists.knows same ours.1) (subst g.More.StoredLists.holds same holds.1) in
    search (rules, none)

pub returns-in_err-more-clause-stays : goal.returns-in_err-more-clause-stays
returns-in_err-more-clause-stays g c clean ours =
    let early : HasCleanDisk (state g.S.Store c.load.new.conn) = omega (arith, clean, c.load_all.ensures.survives.clean) in
    let first = (c.in_ok-first.ensures.found early ours.0).0 in
    stays_unchanged _ _ _ first (c.load_all.ensures.stays clean (subst g.More.StoredLists.knows (sym first.0.now_is) ours.1))

pub returns-in_err-more-clause-survives : goal.returns-in_err-more-clause-survives
returns-in_err-more-clause-survives g c =
    survives_then _ (state g.S.Store c.load.new.conn) _ _ _ _ (λ _ db none ours. none ours.0) (λ clean db none ours.
    let early : HasCleanDisk (state g.S.Store c.load.new.conn) = omega (arith, clean, c.load_all.ensures.survives.clean) in
    let first = (c.in_ok-first.ensures.found early ours.0).0 in
    none (subst g.More.StoredLists.knows (sym first.0.now_is) ours.1)) c.load.ensures.survives c.load_all.ensures.survives

pub returns-clause-found : goal.returns-clause-found
returns-clause-found g c clean ours =
    let early : HasCleanDisk (state g.S.Store c.load.new.conn) = omega (arith, clean, c.load_all.ensures.survives.clean) in
    let first = c.in_ok-first.ensures.found early ours.0 in
    let more = c.in_ok-more.ensures.found clean (subst g.More.StoredLists.knows (sym first.0.0.now_is) ours.1) in
    (unchanged_then _ _ _ first.0 more.0, (first.1, subst (λ db. g.More.StoredLists.finds db c.in_ok-more.more) first.0.0.now_is more.1))

pub returns-clause-stays : goal.returns-clause-stays
returns-clause-stays g c clean ours =
    let early : HasCleanDisk (state g.S.Store c.load.new.conn) = omega (arith, clean, c.load_all.ensures.survives.clean) in
    let first = (c.in_ok-first.ensures.found early ours.0).0 in
    stays_unchanged _ _ _ first (c.load_all.ensures.stays clean (subst g.More.StoredLists.knows (sym first.0.now_is) ours.1))

pub returns-clause-survives : goal.returns-clause-survives
returns-clause-survives g c =
    survives_then _ (state g.S.Store c.load.new.conn) _ _ _ _ (λ _ db none ours. none ours.0) (λ clean db none ours.
    let early : HasCleanDisk (state g.S.Store c.load.new.conn) = omega (arith, clean, c.load_all.ensures.survives.clean) in
    let first = (c.in_ok-first.ensures.found early ours.0).0 in
    none (subst g.More.StoredLists.knows (sym first.0.now_is) ours.1)) c.load.ensures.survives c.load_all.ensures.survives

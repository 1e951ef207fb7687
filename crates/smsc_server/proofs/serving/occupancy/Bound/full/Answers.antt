use Rattle.std.proofs.Common.{◌+◌, ℕ, List, Bool, arith, sym, subst}
use Rattle.smsc_server.specs.serving.SessionLimits.{may_have_more}
use Rattle.smsc_server.proofs.serving.Limits.{Tells, tells_next, tells_none}
use Rattle.smsc_server.proofs.serving.occupancy.Bound.full.Goals as goal

pub loop-account-init : goal.loop-account-init
loop-account-init c =
    let may : ℕ → Bool = λ a. may_have_more a c.args.self.now.suspended c.args.self.now.limits.items c.args.self.now.accounts.items in
    subst (λ (full : List Bool). Tells may 0 full) (sym c.none-full.ensures) (tells_none may)

pub loop-account-preserved : goal.loop-account-preserved
loop-account-preserved c =
    let may : ℕ → Bool = λ a. may_have_more a c.args.self.now.suspended c.args.self.now.limits.items c.args.self.now.accounts.items in
    let l = c.loop-account in
    let less = c.loop-account-test.true in
    subst (λ (full : List Bool). Tells may (l.account + 1) full) (sym c.with_account-full.ensures) (tells_next may l.account l.full l.invariant (omega (arith, less)))

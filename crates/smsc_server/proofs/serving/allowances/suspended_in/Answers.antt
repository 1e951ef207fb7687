use Rattle.std.proofs.Common.{◌+◌, ◌≡◌, ℕ, List, Bool, true, false, not, arith, refl, sym, ap, subst, ◌∙◌}
use Rattle.smsc_server.specs.serving.SessionLimits.{full_where, suspends}
use Rattle.smsc_server.proofs.serving.Limits.{Tells, not_not, tells_next, tells_none}
use Rattle.smsc_server.proofs.serving.allowances.suspended_in.Goals as goal

pub loop-account-init : goal.loop-account-init
loop-account-init c =
    let may : ℕ → Bool = λ a. not (suspends a c.args.allowed.now) in
    subst (λ (full : List Bool). Tells may 0 full) (sym c.none-suspended.ensures) (tells_none may)

pub loop-account-preserved : goal.loop-account-preserved
loop-account-preserved c =
    let may : ℕ → Bool = λ a. not (suspends a c.args.allowed.now) in
    let l = c.loop-account in
    let less = c.loop-account-test.true in
    let is = c.with_account-suspended.ensures ∙ ap (λ (b : Bool). full_where (not b) l.account l.suspended) c.is_suspended.ensures in
    subst (λ (full : List Bool). Tells may (l.account + 1) full) (sym is) (tells_next may l.account l.suspended l.invariant (omega (arith, less)))

pub returns : goal.returns
returns c = λ account few.
    let all = c.loop-account-test.false in
    c.loop-account.invariant.told account (omega (arith, few, all)) ∙ not_not (suspends account c.args.allowed.now)

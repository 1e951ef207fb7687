use Rattle.std.proofs.Common.{◌≡◌, OnOk, subst}
use Rattle.sms_centre.specs.Enrolling.{accounts_of, accounts_with, enrolled}
use Rattle.sms_centre.specs.state.CentreState.{CentreStateOf, Represents}
use Rattle.sms_centre_spec.specs.Draft.{Core}
use Rattle.sms_centre.proofs.Enrolled.{accounts_so, enrolled_so, stands_still}
use Rattle.sms_centre.proofs.centre.Centre.enrol.Goals as goal

pub returns-clause-centre_state : goal.returns-clause-centre_state
returns-clause-centre_state c =
    let account = c.args.account.now in
    let before = c.self.inside.centre_state in
    subst (λ (b : CentreStateOf). OnOk c.enrol.result ((core : Core) → Represents core b → Represents (enrolled account core) c.enrol.new.self)) c.self.view_is
    (enrolled_so c.enrol.result account before c.enrol.new.self c.enrol.ensures.centre_state)

pub returns-clause-accounts : goal.returns-clause-accounts
returns-clause-accounts c =
    let account = c.args.account.now in
    let before = c.self.inside.centre_state in
    subst (λ (b : CentreStateOf). OnOk c.enrol.result (accounts_of c.enrol.new.self ≡ accounts_with account (accounts_of b))) c.self.view_is
    (accounts_so c.enrol.result account before c.enrol.new.self c.enrol.ensures.centre_state)

pub invariant_of-self : goal.invariant_of-self
invariant_of-self c =
    stands_still c.enrol.result c.args.account.now c.self.inside.centre_state c.enrol.new.self c.self.inside.address c.enrol.ensures.centre_state c.enrol.ensures.same c.self.invariant

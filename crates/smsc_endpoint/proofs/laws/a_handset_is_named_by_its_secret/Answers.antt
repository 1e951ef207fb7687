use Rattle.smsc_endpoint.specs.declared.link_access.LinkAccess.TheVariants.{Secrets}
use Rattle.smsc_endpoint.specs.LinkRuns.{started}
use Rattle.smsc_endpoint.proofs.LinkRuns.{begins, run_holds}
use Rattle.smsc_endpoint.proofs.LinkUps.{none_up, run_named}
use Rattle.smsc_endpoint.proofs.Secrets.{has_given}
use Rattle.smsc_endpoint.proofs.laws.a_handset_is_named_by_its_secret.Goals as goal

pub returns : goal.returns
returns c = λ secrets calls progress run.
    let access = Secrets secrets in
    let cut = run_holds access c.front_is_the_frame.ensures.found calls (started access) progress (begins access) run in
    has_given secrets progress cut.0 (run_named calls (started access) progress (none_up access) run)

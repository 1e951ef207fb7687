use Rattle.std.proofs.Common.{◌<◌, List, Option, length, sym, ap, ◌∙◌, arith}
use Rattle.std.specs.Prelude.{slice_get}
use Rattle.smsc_server.specs.declared.serving.rates.Rate.{Rate}
use Rattle.smsc_server.specs.serving.Rates.{limited_at}
use Rattle.smsc_server.proofs.serving.RateLists.{none_limited, one_limited}
use Rattle.smsc_server.proofs.serving.rates.AccountRates.limit_all.Goals as goal

pub loop-place-init : goal.loop-place-init
loop-place-init c = sym (none_limited c.args.self.now.rates.items)

pub loop-place-preserved : goal.loop-place-preserved
loop-place-preserved c =
    let allowed = c.args.allowed.now in
    let place = c.loop-place.place in
    let less = c.loop-place-test.true in
    let within : place < length allowed = omega (arith, less) in
    c.limit_at.ensures
    ∙ (ap (λ (rates : List (Option Rate)). limited_at (slice_get allowed place) place rates) c.loop-place.invariant
    ∙ one_limited place allowed c.args.self.now.rates.items within)

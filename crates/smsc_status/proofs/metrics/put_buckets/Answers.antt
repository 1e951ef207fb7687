use Rattle.std.proofs.Common.{◌≡◌, ◌+◌, ◌++◌, append-nil, get_or, take, refl, sym, ap, ◌∙◌, arith}
use Rattle.smsc_status.specs.declared.commits.TheConstants.{LIMITS}
use Rattle.smsc_status.specs.Commits.{counted}
use Rattle.smsc_status.specs.Metrics.{bucket, first_buckets}
use Rattle.smsc_status.proofs.Chains.{next}
use Rattle.smsc_status.proofs.Counts.{one_more_counted}
use Rattle.smsc_status.proofs.Elements.{one_more_bucket}
use Rattle.smsc_status.proofs.metrics.put_buckets.Goals as goal

pub loop-place-init : goal.loop-place-init
unfolding first_buckets
loop-place-init c = (refl, sym (append-nil c.args.out.now))

pub loop-place-preserved : goal.loop-place-preserved
loop-place-preserved c =
    let counts = c.args.commits.now.counts in
    let place = c.loop-place.place in
    let so_far : c.saturating_add-so_far.result ≡ counted (take (place + 1) counts) = grind (arith, one_more_counted) in
    let written = next c.args.out.now (first_buckets counts place) (bucket (get_or LIMITS place 0) c.saturating_add-so_far.result)
    c.loop-place.invariant.1 c.in_ok-put_bucket.ensures in (
      so_far,
      written ∙ ap (λ t. c.args.out.now ++ t)
          (ap (λ n. first_buckets counts place ++ bucket (get_or LIMITS place 0) n) so_far ∙ sym (one_more_bucket counts place)),
    )

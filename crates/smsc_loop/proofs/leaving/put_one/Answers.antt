use Rattle.smsc_loop.proofs.Drops.{owns_one}
use Rattle.smsc_loop.proofs.leaving.put_one.Goals as goal

pub returns : goal.returns
returns g c =
    owns_one (g.A.Surroundings.was_over c.args.around.now) _ _ c.args.job c.put_job.result c.requires c.put_job.ensures.seat c.put_job.ensures.dropped c.put_job.ensures.put

use Rattle.smsc_status.specs.Page.{store_tiles}
use Rattle.smsc_status.proofs.page.put_store.Goals as goal

pub returns : goal.returns
unfolding store_tiles
returns c = rw c.commits_a_second.ensures at c.put_tiles.ensures

use Rattle.smsc_status.specs.Page.{seats_tiles}
use Rattle.smsc_status.proofs.page.put_seats.Goals as goal

pub returns : goal.returns
unfolding seats_tiles
returns c = rw c.free_of.ensures at c.put_tiles.ensures

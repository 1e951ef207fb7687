use Rattle.smsc_status.specs.Page.{graded_tile}
use Rattle.smsc_status.proofs.page.put_graded_tile.Goals as goal

pub returns : goal.returns
unfolding graded_tile
returns c = rw c.mark_of.ensures at c.put_pieces.ensures

use Rattle.smsc_status.specs.Page.{submits_row}
use Rattle.smsc_status.proofs.page.RefusedSubmitsRow.put.Goals as goal

pub returns : goal.returns
unfolding submits_row
returns c = rw c.as_bytes.ensures.value at c.put_pieces.ensures

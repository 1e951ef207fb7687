use Rattle.smsc_status.specs.Page.{heading_text}
use Rattle.smsc_status.proofs.page.put_heading.Goals as goal

pub returns : goal.returns
unfolding heading_text
returns c = rw c.as_bytes.ensures.value at c.put_pieces.ensures

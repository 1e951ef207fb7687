use Rattle.smsc_status.specs.Page.{foot_text}
use Rattle.smsc_status.proofs.page.put_foot.Goals as goal

pub returns : goal.returns
unfolding foot_text
returns c = rw (c.as_bytes.ensures.value, c.trim_end.ensures.trim) at c.put_pieces.ensures

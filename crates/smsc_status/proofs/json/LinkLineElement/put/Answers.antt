use Rattle.smsc_status.specs.Json.{link_text}
use Rattle.smsc_status.proofs.json.LinkLineElement.put.Goals as goal

pub returns : goal.returns
unfolding link_text
returns c = rw (c.as_bytes.ensures.value, c.truth.ensures, c.truth-2.ensures) at c.put_pieces.ensures

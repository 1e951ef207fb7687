-- What an operator may want to know of the link to a handset.
use Rattle.std.specs.Prelude.{List, length, is_some}
use Rattle.sms_centre_rows.specs.declared.waiting.handset_link.HandsetLink.{HandsetLink}
use Rattle.sms_centre_rows.specs.declared.waiting.queued_part.QueuedPart.{QueuedPart}
use Rattle.sms_centre_queue.specs.declared.queue.link_figures.LinkFigures.{LinkFigures}

-- of a handset for which this waits, and whose link is that
abbrev pub figures_of : List QueuedPart → HandsetLink → LinkFigures
figures_of waiting link = record { waiting = length waiting; is_full = link.is_full; is_under_way = is_some link.near_end.under_way }

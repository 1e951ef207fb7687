use Rattle.sms_link.proofs.link_runs.Endings.{ends_by_frame, ends_by_timer}
use Rattle.sms_link.proofs.link_runs.laws.only_what_is_under_way_ends.Goals as goal

pub returns : goal.returns
returns c = record { frame = ends_by_frame; timer = ends_by_timer }

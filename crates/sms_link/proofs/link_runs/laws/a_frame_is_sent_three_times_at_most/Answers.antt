use Rattle.sms_link.proofs.link_runs.FrameCounts.{three_times_in_all, twice_more_at_most}
use Rattle.sms_link.proofs.link_runs.laws.a_frame_is_sent_three_times_at_most.Goals as goal

pub returns : goal.returns
returns c = record { until_sent_anew = twice_more_at_most; in_all = three_times_in_all }

use Rattle.sms_world.proofs.handsets_send_octets.EventOctets.{octets_come}
use Rattle.sms_world.proofs.handsets_send_octets.a_frame_of_octets_may_arrive.Goals as goal

pub returns : goal.returns
returns c = octets_come

use Rattle.sms_centre_spec.proofs.SoundBegins.{recovered_sound}
use Rattle.sms_centre_spec.proofs.forgetting.Begins.{begins, recovers}
use Rattle.sms_centre_spec.proofs.forgetting.it_begins_in_step.Goals as goal

pub returns : goal.returns
returns c = record {
  there = begins;
  recovered = λ goes rows handsets sessions s numbers differ keys each no_later can.
      recovers goes rows handsets sessions (recovered_sound rows handsets sessions s numbers differ keys each) no_later can;
}

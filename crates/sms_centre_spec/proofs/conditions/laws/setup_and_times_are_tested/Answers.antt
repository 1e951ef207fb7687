use Rattle.sms_centre_spec.proofs.conditions.RowsTested.{setup_from, setup_to, times_from, times_to, told_from, told_to}
use Rattle.sms_centre_spec.proofs.conditions.laws.setup_and_times_are_tested.Goals as goal

pub returns : goal.returns
returns c = record {
  setup = λ setup. (setup_from setup, setup_to setup);
  times = λ messages references reports. (times_from messages references reports, times_to messages references reports);
  report_addresses = λ messages. (told_from messages, told_to messages);
}

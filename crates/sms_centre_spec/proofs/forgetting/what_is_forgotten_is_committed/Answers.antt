use Rattle.std.proofs.Common.{refl}
use Rattle.sms_centre_spec.proofs.forgetting.Removed.{forget_bars, forget_commits, forget_handsets, forget_messages, forget_priorities, forget_references}
use Rattle.sms_centre_spec.proofs.forgetting.what_is_forgotten_is_committed.Goals as goal

pub returns : goal.returns
returns c = record {
  adopted = forget_commits;
  messages = forget_messages;
  priorities = forget_priorities;
  references = forget_references;
  handsets = forget_handsets;
  bars = forget_bars;
  frames = λ before from most c. refl;
  deliveries = λ before from most c. refl;
  answer = λ before from most c. refl;
}

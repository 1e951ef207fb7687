use Rattle.sms_base.specs.declared.final_state.FinalState.TheVariants.{Deleted}
use Rattle.sms_centre_spec.specs.Draft.{in_store}
use Rattle.sms_centre_spec.specs.Ends.{end}
use Rattle.sms_centre_events.proofs.questions.delete.Goals as goal

pub returns : goal.returns
returns c = λ d represents there pending. c.answer.ensures (in_store (end Deleted c.args.message.now d.store) d) (c.in_ok-end.ensures d represents there pending)

use Rattle.std.proofs.Common.{sym, subst}
use Rattle.sms_world_model.specs.World.{World, empty}
use Rattle.sms_world_model.specs.WorldStep.{end}
use Rattle.sms_world_model.specs.Agreement.{FinalForGood, MessagesStay}
use Rattle.sms_world_model.proofs.Runs.{final_stays, messages_stay, run_parts}
use Rattle.sms_world_model.proofs.one_final_state.Goals as goal

pub returns : goal.returns
returns c = record {
  stays = λ before later run.
      let x = run_parts empty before later run in
      subst (λ (v : World). MessagesStay (end empty before) v) (sym x.2) (messages_stay (end empty before) later x.1);
  for_good = λ before later run.
      let x = run_parts empty before later run in
      subst (λ (v : World). FinalForGood (end empty before) v) (sym x.2) (final_stays (end empty before) later x.1);
}

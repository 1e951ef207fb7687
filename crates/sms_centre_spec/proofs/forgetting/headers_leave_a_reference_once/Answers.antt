use Rattle.sms_centre_spec.specs.forgetting.Forgetting.{claims_left}
use Rattle.sms_centre_spec.proofs.forgetting.Once.{all_once, few_bars}
use Rattle.sms_centre_spec.proofs.forgetting.headers_leave_a_reference_once.Goals as goal

pub returns : goal.returns
returns c = record {
  once = λ goes rows source handset s. all_once source handset (claims_left goes rows.messages rows.parts) rows.bars s.bars;
  few = λ rows source handset small. few_bars source handset 65536 rows.bars small;
}

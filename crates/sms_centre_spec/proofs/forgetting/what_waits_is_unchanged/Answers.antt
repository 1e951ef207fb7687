use Rattle.sms_centre_spec.proofs.forgetting.Follow.{send_same}
use Rattle.sms_centre_spec.proofs.forgetting.Looks.{waiting_same}
use Rattle.sms_centre_spec.proofs.forgetting.what_waits_is_unchanged.Goals as goal

pub returns : goal.returns
returns c = record {
  parts = λ goes rows number may. waiting_same goes number rows.messages rows.priorities rows.parts rows.reports may.ended may.closed;
  receipts = λ goes rows moment bindings may. send_same goes moment rows.messages rows.reports bindings may.closed;
}

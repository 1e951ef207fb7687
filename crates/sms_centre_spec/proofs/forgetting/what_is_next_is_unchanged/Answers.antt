use Rattle.std.proofs.Common.{ℕ, List, ap}
use Rattle.std.specs.Prelude.{max}
use Rattle.sms_centre_rows.specs.declared.waiting.queued_part.QueuedPart.{QueuedPart}
use Rattle.sms_centre_rows.specs.waiting.References.{next_reference}
use Rattle.sms_centre_spec.proofs.forgetting.BarsStand.{next_stands, taken_stands}
use Rattle.sms_centre_spec.proofs.forgetting.Begins.{never_later}
use Rattle.sms_centre_spec.proofs.forgetting.Latest.{moment_same}
use Rattle.sms_centre_spec.proofs.forgetting.Looks.{waiting_same}
use Rattle.sms_centre_spec.proofs.forgetting.Splits.{next_id_same, next_place_same}
use Rattle.sms_centre_spec.proofs.forgetting.what_is_next_is_unchanged.Goals as goal

pub returns : goal.returns
returns c = record {
  number = λ goes rows may. ap (λ (n : ℕ). max rows.setup.first n) (next_id_same goes 1 rows.messages may.id);
  place = λ goes rows may. next_place_same goes 1 rows.reports may.place;
  reference = λ goes rows moment handset may.
      ap (λ (l : List QueuedPart). next_reference handset l rows.references moment)
      (waiting_same goes handset.number rows.messages rows.priorities rows.parts rows.reports may.ended may.closed);
  never_later = never_later;
  moment = moment_same;
  split = λ goes rows source handset s may. next_stands source handset goes rows.bars rows.messages rows.parts s.bars s.messages.message_keys may.later;
  taken = λ goes rows source handset own s. taken_stands source handset goes own rows.bars rows.messages rows.parts s.bars;
}

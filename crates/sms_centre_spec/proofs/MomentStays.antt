-- Only a tick moves the moment of a store, and that before all else.
use Rattle.std.proofs.Common.{◌≡◌, ℕ, List, refl}
use Rattle.sms_base.specs.declared.carried.Carried.{Carried}
use Rattle.sms_base.specs.declared.final_state.FinalState.{FinalState}
use Rattle.sms_link.specs.declared.ending.Ending.{Ending}
use Rattle.sms_centre_rows.specs.declared.messages.message.MessageRow.{MessageRow}
use Rattle.sms_centre_spec.specs.declared.event.CentreEvent.{CentreEvent}
use Rattle.sms_centre_spec.specs.CentreEvent.{happened}
use Rattle.sms_centre_spec.specs.Draft.{Core, Draft, Store}
use Rattle.sms_centre_spec.specs.Ends.{end}
use Rattle.sms_centre_spec.specs.Transfers.{conclude}
use Rattle.sms_centre_spec.proofs.Stages.{AtStart, Closed, conclude_keeps, end_keeps, happened_keeps}

abbrev pub IsAt : ℕ → Store → Type 0
IsAt moment s = s.moment ≡ moment

moment_closed : (moment : ℕ) → Closed (IsAt moment)
moment_closed moment = record {
  message = λ m s k. k;
  part = λ p s k. k;
  progress = λ p q s k. k;
  priority = λ p s k. k;
  given = λ h r s k. k;
  report = λ r s k. k;
  report_progress = λ r q s k. k;
}

pub end_moment : (f : FinalState) (m : MessageRow) (s : Store) → (end f m s).moment ≡ s.moment
end_moment f m s = end_keeps (IsAt s.moment) (moment_closed s.moment) f m s refl

pub conclude_moment : (handset : List ℕ) (t : Carried) (e : Ending) (d : Draft) → (conclude handset t e d).store.moment ≡ d.store.moment
conclude_moment handset t e d = conclude_keeps (IsAt d.store.moment) (moment_closed d.store.moment) handset t e d refl

pub moment_stays : (moment : ℕ) (event : CentreEvent) (c : Core) → AtStart (IsAt moment) event c → IsAt moment (happened event c).store
moment_stays moment event c start = happened_keeps (IsAt moment) (moment_closed moment) event c start

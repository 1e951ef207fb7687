use Rattle.std.proofs.Common.{refl, inl}
use Rattle.sms_world.specs.wrong_reports.Literals.{handset}
use Rattle.sms_script.specs.declared.report.rows.EntryState.TheVariants.{Sent}
use Rattle.sms_world.specs.wrong_reports.Tried.{SentLaw}

-- no message has a line
pub refused : SentLaw
refused d = (d.sent (record { handset = handset; entry = 1; state = Sent }) (inl refl) refl).among

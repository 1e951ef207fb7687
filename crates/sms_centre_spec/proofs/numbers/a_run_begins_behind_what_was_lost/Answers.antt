use Rattle.sms_centre_spec.proofs.RunsBegin.{behind_found, behind_skipped, lost_below, steps_rise}
use Rattle.sms_centre_spec.proofs.numbers.a_run_begins_behind_what_was_lost.Goals as goal

pub returns : goal.returns
returns c = record { rises = steps_rise; found = behind_found; skipped = behind_skipped; lost = lost_below }

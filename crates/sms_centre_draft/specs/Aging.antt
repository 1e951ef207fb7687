-- What a tick does with one message, and with one status report.
use Rattle.std.specs.Prelude.{◌&&◌, nat_le, if◌then◌else◌}
use Rattle.sms_base.specs.declared.final_state.FinalState.TheVariants.{Expired}
use Rattle.sms_centre_rows.specs.declared.messages.message.MessageRow.{MessageRow}
use Rattle.sms_centre_rows.specs.messages.Messages.{is_pending}
use Rattle.sms_centre_spec.specs.Draft.{Store}
use Rattle.sms_centre_spec.specs.Ends.{end}

-- a pending message whose time has ended expires
abbrev pub expired_one : MessageRow → Store → Store
expired_one m s = if is_pending m && nat_le m.limit s.moment then end Expired m s else s

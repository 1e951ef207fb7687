use Rattle.std.proofs.Common.{Option, ◌∙◌, ap}
use Rattle.sms_base.specs.declared.address.Address.{Address}
use Rattle.sms_intake.specs.SmppIntake.{source_in}
use Rattle.sms_centre_rows.specs.declared.messages.message.MessageRow.{MessageRow}
use Rattle.sms_centre_spec.specs.Requests.{own_message}
use Rattle.sms_centre_events.proofs.finding.own_message.Goals as goal

pub returns : goal.returns
returns c = λ d represents.
    let account = c.args.account.now in
    c.own.ensures
    ∙ ap (λ (o : Option Address). own_message account o c.in_ok-found.found) c.source_in-source.ensures
    ∙ ap (λ (o : Option MessageRow). own_message account (source_in account.address c.args.source.now) o) (c.in_ok-found.ensures d represents)

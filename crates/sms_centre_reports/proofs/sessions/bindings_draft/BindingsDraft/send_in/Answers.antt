use Rattle.std.proofs.Common.{◌∙◌}
use Rattle.sms_centre_reports.proofs.sessions.AllSent.{sent_so}
use Rattle.sms_centre_reports.proofs.sessions.bindings_draft.BindingsDraft.send_in.Goals as goal

pub returns : goal.returns
returns c = λ s there.
    sent_so c.args.self.now c.self-2.inside.sessions.rows c.self-2.inside.deliveries.items c.push.new.self.items c.in-Some.seat.now c.in_ok-sent.sent s c.args.number c.args.id c.in-Some.ensures there c.in_ok-sent.ensures (c.self-2.view_is ∙ c.in_ok-put.ensures)
    c.in_ok-push.ensures.items

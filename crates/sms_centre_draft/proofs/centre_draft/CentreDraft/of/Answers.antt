use Rattle.sms_centre_draft.specs.Beginning.{all_of}
use Rattle.sms_centre_draft.proofs.Begun.{begun_represented}
use Rattle.sms_centre_draft.proofs.centre_draft.CentreDraft.of.Goals as goal

pub returns-clause-represented : goal.returns-clause-represented
returns-clause-represented c = λ core is.
    begun_represented core c.args.setup.now c.args.moment c.args.messages.now c.args.queues.now c.args.reports.now c.args.sessions.now.rows
    c.of-messages.result c.in_ok-queues.queues c.in_ok-reports.reports c.in_ok-bindings.bindings is
    (c.of-messages.ensures core.rows.messages core.rows.parts core.rows.priorities is.messages_are)
    (c.in_ok-queues.ensures core.rows.handsets core.rows.references core.links (all_of core.rows) is.queues_are)
    (c.in_ok-reports.ensures core.rows.messages core.rows.reports is.reports_are) c.in_ok-bindings.ensures

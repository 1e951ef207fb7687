use Rattle.std.proofs.Common.{sym, ◌∙◌, subst, eq-eqb}
use Rattle.std.proofs.lemmas.Bool.{ne_eqb}
use Rattle.sms_centre_spec.specs.Draft.{messages_in}
use Rattle.sms_centre_draft.specs.CentreDraft.{Represents, CentreDraftOf}
use Rattle.sms_centre_events.proofs.offering.TpdusMade.{part_made, report_made_is}
use Rattle.sms_centre_events.proofs.offering.reading.made.Goals as goal

pub returns-then-queued-eq0 : goal.returns-then-queued-eq0
returns-then-queued-eq0 c = λ d handset represents among.
    let w : CentreDraftOf = record { setup = c.draft.inside.setup.now; moment = c.draft.inside.moment; messages = c.draft.inside.messages; queues = c.draft.inside.queues; reports = c.draft.inside.reports; bindings = c.draft.inside.bindings; answer = c.draft.inside.answer } in
    let was : Represents d w = subst (λ (x : CentreDraftOf). Represents d x) (sym c.draft.view_is) represents in
    c.tpdu_made.ensures (messages_in d.store) d.store.reports was.reports ∙ report_made_is c.args.queued.now d.store (eq-eqb c.args.queued.now.number 0 c.if-queued-eq0.true)

pub returns : goal.returns
returns c = λ d handset represents among.
    let w : CentreDraftOf = record { setup = c.draft.inside.setup.now; moment = c.draft.inside.moment; messages = c.draft.inside.messages; queues = c.draft.inside.queues; reports = c.draft.inside.reports; bindings = c.draft.inside.bindings; answer = c.draft.inside.answer } in
    let was : Represents d w = subst (λ (x : CentreDraftOf). Represents d x) (sym c.draft.view_is) represents in
    c.tpdu_put.ensures d.store.messages was.messages ∙ part_made handset c.args.queued.now d.store was.consistent among (ne_eqb c.args.queued.now.number 0 c.if-queued-eq0.false)

-- frame_received
use Rattle.std.proofs.Common.{sym, subst}
use Rattle.sms_base.specs.declared.holder.Holder.{Holder}
use Rattle.sms_centre_spec.specs.CentreEvent.{frame_taken}
use Rattle.sms_centre_spec.specs.Draft.{draft_of}
use Rattle.sms_centre_rows.specs.waiting.Links.{link_of}
use Rattle.sms_centre_draft.specs.CentreDraft.{Represents as DraftRepresents}
use Rattle.sms_centre.specs.state.CentreState.{Represents, CentreStateOf}
use Rattle.sms_centre.proofs.acting.frame_received.Goals as goal

pub returns : goal.returns
returns c = λ core represents centre_state.
    let s : CentreStateOf = record { setup = c.centre_state.inside.setup; moment = c.centre_state.inside.moment; messages = c.centre_state.inside.messages; reference_index = c.centre_state.inside.reference_index; queues = c.centre_state.inside.queues; reports = c.centre_state.inside.reports; log = c.centre_state.inside.log; sessions = c.centre_state.inside.sessions } in
    let was : Represents core s = subst (λ (x : CentreStateOf). Represents core x) (sym c.centre_state.view_is) centre_state in
    let d = draft_of core in
    let h = c.args.handset in
    subst (λ (t : Holder). DraftRepresents (frame_taken c.args.octets.now t (link_of h core.links) d) c.frame_taken.new.draft) c.tag_of.ensures
    (c.in_ok-frame_taken.ensures d represents (record { messages = was.centre.messages_are; reference_index = was.reference_index }))

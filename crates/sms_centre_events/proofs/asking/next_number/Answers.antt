use Rattle.std.proofs.Common.{ℕ, max, ◌∙◌, ap, sym, subst}
use Rattle.sms_centre_rows.specs.messages.Messages.{next_id}
use Rattle.sms_centre_spec.specs.declared.setup.Setup.{Setup}
use Rattle.sms_centre_spec.specs.Draft.{messages_in, parts_in, rows_of}
use Rattle.sms_centre_draft.specs.CentreDraft.{Represents, CentreDraftOf}
use Rattle.sms_centre_events.proofs.Accepted.{next_found}
use Rattle.sms_centre_events.proofs.asking.next_number.Goals as goal

pub returns : goal.returns
returns c = λ d represents holds.
    let w : CentreDraftOf = record { setup = c.draft.inside.setup.now; moment = c.draft.inside.moment; messages = c.draft.inside.messages; queues = c.draft.inside.queues; reports = c.draft.inside.reports; bindings = c.draft.inside.bindings; answer = c.draft.inside.answer } in
    let was : Represents d w = subst (λ (x : CentreDraftOf). Represents d x) (sym c.draft.view_is) represents in
    next_found c.greater-next.result c.new.result (rows_of d.store) holds.message_keys
    (c.greater-next.ensures ∙ ap (λ (n : ℕ). max c.draft.inside.setup.now.first n) (c.next_id.ensures (messages_in d.store) (parts_in d.store) holds)
    ∙ ap (λ (s : Setup). max s.first (next_id (messages_in d.store))) was.setup)
    c.new.ensures

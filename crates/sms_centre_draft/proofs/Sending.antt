-- Receipts go: the rows and the links stay.
use Rattle.std.proofs.Common.{◌≡◌, ℕ, ◌∙◌, ap}
use Rattle.sms_centre_rows.specs.reports.Receipts.{Bindings, send_all}
use Rattle.sms_centre_spec.specs.Draft.{Draft, messages_in, reports_in}
use Rattle.sms_centre_spec.specs.Sessions.{send}
use Rattle.sms_centre_draft.specs.CentreDraft.{Represents, CentreDraftOf}

pub sent_represented : (d : Draft) (w : CentreDraftOf) (bindings : Bindings) → Represents d w → bindings ≡ send_all w.moment (messages_in d.store) (reports_in d.store) w.bindings → Represents (send d) (record w { bindings = bindings })
sent_represented d w bindings represents is = record {
  consistent = represents.consistent;
  few = represents.few;
  setup = represents.setup;
  moment = represents.moment;
  messages = represents.messages;
  queues = represents.queues;
  reports = represents.reports;
  bindings = is ∙ ap (λ (n : ℕ). send_all n (messages_in d.store) (reports_in d.store) w.bindings) represents.moment ∙ ap (λ (x : Bindings). send_all d.store.moment (messages_in d.store) (reports_in d.store) x) represents.bindings;
  answer = represents.answer;
}

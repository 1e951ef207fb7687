-- What was sent and not answered is so after every event.
use Rattle.std.proofs.Common.{◌≡◌, ℕ, List, Option, Some, None, refl, sym, ◌∙◌, ap, subst}
use Rattle.sms_rows.specs.table.Table.{row_at}
use Rattle.sms_rows.proofs.table.Tables.{found_among}
use Rattle.sms_centre_rows.specs.declared.messages.message.MessageRow.{MessageRow}
use Rattle.sms_centre_rows.specs.messages.Messages.{message_at}
use Rattle.sms_base.specs.declared.originator.Originator.{Originator}
use Rattle.sms_centre_rows.specs.reports.Receipts.{Bindings, Session, session_key}
use Rattle.sms_centre_rows.specs.reports.Reports.{reports_of}
use Rattle.sms_centre_rows.specs.reports.Waiting.{Alone}
use Rattle.sms_centre_rows.specs.waiting.Links.{link_of}
use Rattle.sms_intake.specs.declared.submission.CentreAccount.{CentreAccount}
use Rattle.sms_centre_reports.specs.open_reports.Entries.{account_in, account_of}
use Rattle.sms_centre_reports.specs.sessions.Answering.{bindings_answered, bindings_bound, bindings_unbound, reports_answered, reports_bound, reports_unbound}
use Rattle.sms_centre_reports.specs.sessions.Awaited.{AreAwaited}
use Rattle.sms_centre_spec.specs.declared.event.CentreEvent.{CentreEvent}
use Rattle.sms_centre_spec.specs.declared.event.CentreEvent.TheVariants.{Submit, Query, Cancel, Bound, Unbound, DeliverAnswered, Frame, LinkUp, LinkDown, Ordered, Tick}
use Rattle.sms_centre_spec.specs.declared.rows.Rows.{Rows}
use Rattle.sms_centre_spec.specs.CentreEvent.{aged, at_moment, fired, follow, frame_taken, happened, lower, raise, raised, tag_of}
use Rattle.sms_centre_spec.specs.Draft.{Core, Draft, core_of, draft_of, messages_in, reports_in}
use Rattle.sms_centre_spec.specs.Keeping.{Keeps}
use Rattle.sms_centre_spec.specs.Orders.{ordered}
use Rattle.sms_centre_spec.specs.Requests.{account_at, cancel, query, submit}
use Rattle.sms_centre_spec.specs.Sessions.{bind, deliver_answered, unbind}
use Rattle.sms_centre_spec.specs.SoundCore.{IsEvent, IsSoundCore}
use Rattle.sms_centre_spec.proofs.EventLaws.{keeps_apart, keeps_rows}
use Rattle.sms_centre_spec.proofs.PduFits.{event_gives}
use Rattle.sms_centre_spec.proofs.SoundStores.{store_sound}
use Rattle.sms_centre_spec.proofs.SteadyEvents.{event_leads_firm}
use Rattle.sms_centre_reports.specs.awaited.Events.{IsNoAnswer}
use Rattle.sms_centre_reports.specs.awaited.Moving.{moved_to}
use Rattle.sms_centre_reports.proofs.awaited.AsDefined.{answered_as, bound_so, none_bound, unbound_as}
use Rattle.sms_centre_reports.proofs.awaited.Awaiting.{all_sent, answers_keep, bind_keeps, ends_keep}
use Rattle.sms_centre_reports.proofs.awaited.BindingsEvents.{cancel_by_bindings, frame_taken_bindings, lower_bindings, ordered_bindings, query_by_bindings, submit_by_bindings, ticked_bindings}
use Rattle.sms_centre_reports.proofs.awaited.OpenStays.{OpenSince, Stay, open_enters, open_firm, stay_same}

-- no event but an answer to a receipt closes one
pub open_stays : (event : CentreEvent) (c : Core) → IsSoundCore c → IsEvent event → IsNoAnswer event → Stay c.rows.reports (core_of (happened event c)).rows.reports
open_stays event c s is plain =
    (event_leads_firm (OpenSince c.rows.reports) (open_firm c.rows.reports) (OpenSince c.rows.reports) (open_enters c.rows.reports) (λ s k. k) event c ((store_sound c.rows c.moment s.rows s.now s.moment).consistent, stay_same c.rows.reports) s.now (event_gives event c s is) (λ session id b e. absurd (subst IsNoAnswer e plain))).1

-- ---- what is awaited is so over rows that keep it

account_still : (before after : Rows) → Keeps before after → (id : ℕ) (o : Option MessageRow) (name : List ℕ) → message_at id before.messages ≡ o → account_in o ≡ Some name → account_in (message_at id after.messages) ≡ Some name
account_still before after k id None name e own = absurd cc
account_still before after k id (Some m) name e own =
    let x = k.messages id m e in
    ap (λ (o : Option MessageRow). account_in o) x.1.0 ∙ ap (λ (o : Originator). account_of o) x.1.1.originator ∙ own

awaited_still : (before after : Rows) (ss : List Session) → Keeps before after → Stay before.reports after.reports → AreAwaited before.messages before.reports ss → AreAwaited after.messages after.reports ss
awaited_still before after ss keeps stay k = record {
  each = λ s m id l.
      let a = k.each s m id l in record {
        report = stay.stays id a.report.0 a.report.1.0 a.report.1.1;
        account_is = account_still before after keeps id (message_at id before.messages) s.account refl a.account_is;
      };
  apart = k.apart;
}

-- ---- after every event receipts go

abbrev IsAwaiting : Draft → Type 0
IsAwaiting d = AreAwaited (messages_in d.store) (reports_in d.store) d.bindings.sessions

followed : (d : Draft) → Alone (reports_in d.store) → IsAwaiting d → IsAwaiting (follow d)
followed d alone k = all_sent d.store.moment (messages_in d.store) (reports_in d.store) alone (reports_in d.store) d.bindings (λ r m. m) k

-- of an event that leaves the sessions as they are
left : (event : CentreEvent) (c : Core) (d : Draft) → IsSoundCore c → IsEvent event → IsNoAnswer event → d.bindings ≡ (draft_of c).bindings → happened event c ≡ follow d → AreAwaited c.rows.messages c.rows.reports c.sessions → IsAwaiting (happened event c)
left event c d s is plain same e k =
    let after : Rows = (core_of (happened event c)).rows in
    let current : AreAwaited (messages_in (follow d).store) (reports_in (follow d).store) c.sessions =
    subst (λ (x : Draft). AreAwaited (messages_in x.store) (reports_in x.store) c.sessions) e (awaited_still c.rows after c.sessions (keeps_rows event c s is) (open_stays event c s is plain) k) in
    let alone : Alone (reports_in (follow d).store) = subst (λ (x : Draft). Alone (reports_in x.store)) e (keeps_apart event c s is).alone in
    subst (λ (x : Draft). IsAwaiting x) (sym e)
    (followed d alone (subst (λ (x : Bindings). AreAwaited (messages_in d.store) (reports_in d.store) x.sessions) (sym same) current))

-- of an event of the sessions
moved : (event : CentreEvent) (c : Core) (d e : Draft) → IsSoundCore c → IsEvent event → happened event c ≡ follow d → d ≡ e → IsAwaiting e → IsAwaiting (happened event c)
moved event c d e s is f g k =
    let alone : Alone (reports_in (follow d).store) = subst (λ (x : Draft). Alone (reports_in x.store)) f (keeps_apart event c s is).alone in
    subst (λ (x : Draft). IsAwaiting x) (sym f) (followed d alone (subst (λ (x : Draft). IsAwaiting x) (sym g) k))

pub awaited_after : (event : CentreEvent) (c : Core) → IsSoundCore c → IsEvent event → AreAwaited c.rows.messages c.rows.reports c.sessions
    → AreAwaited (core_of (happened event c)).rows.messages (core_of (happened event c)).rows.reports (core_of (happened event c)).sessions
awaited_after (Submit account m) c s is k =
    left (Submit account m) c (submit account m (draft_of c)) s is tt (submit_by_bindings (account_at account c.rows.setup.accounts) m (draft_of c)) refl k
awaited_after (Query account q) c s is k =
    left (Query account q) c (query account q (draft_of c)) s is tt (query_by_bindings (account_at account c.rows.setup.accounts) q (draft_of c)) refl k
awaited_after (Cancel account q) c s is k =
    left (Cancel account q) c (cancel account q (draft_of c)) s is tt (cancel_by_bindings (account_at account c.rows.setup.accounts) q (draft_of c)) refl k
awaited_after (Bound session account receives) c s is k = by (account_at account c.rows.setup.accounts) refl where
  ended : AreAwaited c.rows.messages (reports_of (reports_unbound session c.moment c.sessions (draft_of c).store.reports)) (bindings_unbound session (draft_of c).bindings).sessions
  ended = ends_keep c.rows.messages c.moment (row_at session_key session c.sessions) (draft_of c).bindings (draft_of c).store.reports (λ x e. found_among session_key session x c.sessions e) k

  by : (o : Option CentreAccount) → account_at account c.rows.setup.accounts ≡ o
      → AreAwaited (core_of (happened (Bound session account receives) c)).rows.messages (core_of (happened (Bound session account receives) c)).rows.reports (core_of (happened (Bound session account receives) c)).sessions
  by None e =
      moved (Bound session account receives) c (bind session account receives (draft_of c)) (moved_to (reports_unbound session c.moment c.sessions (draft_of c).store.reports) (bindings_unbound session (draft_of c).bindings) (draft_of c)) s is refl
      (none_bound session account receives (draft_of c) e ∙ unbound_as (row_at session_key session c.sessions) (draft_of c)) ended
  by (Some a) e =
      moved (Bound session account receives) c (bind session account receives (draft_of c))
      (moved_to (reports_bound session a.name receives c.moment c.sessions c.rows.messages (draft_of c).store.reports) (bindings_bound session a.name receives (draft_of c).bindings) (draft_of c)) s is refl
      (bound_so session account receives a (draft_of c) e)
      (bind_keeps c.rows.messages session c.moment a.name receives (bindings_unbound session (draft_of c).bindings) (reports_unbound session c.moment c.sessions (draft_of c).store.reports) ended)
awaited_after (Unbound session) c s is k =
    moved (Unbound session) c (unbind session (draft_of c)) (moved_to (reports_unbound session c.moment c.sessions (draft_of c).store.reports) (bindings_unbound session (draft_of c).bindings) (draft_of c)) s is refl
    (unbound_as (row_at session_key session c.sessions) (draft_of c))
    (ends_keep c.rows.messages c.moment (row_at session_key session c.sessions) (draft_of c).bindings (draft_of c).store.reports (λ x e. found_among session_key session x c.sessions e) k)
awaited_after (DeliverAnswered session id b) c s is k =
    moved (DeliverAnswered session id b) c (deliver_answered session id b (draft_of c))
    (moved_to (reports_answered session id b c.moment c.sessions (draft_of c).store.reports) (bindings_answered session id (draft_of c).bindings) (draft_of c)) s is refl
    (answered_as id b (row_at session_key session c.sessions) (draft_of c))
    (answers_keep c.rows.messages c.moment b (draft_of c).store.reports s.rows.reports.keys id (row_at session_key session c.sessions) (draft_of c).bindings (λ x e. found_among session_key session x c.sessions e) k)
awaited_after (Frame handset octets tag) c s is k =
    left (Frame handset octets tag) c (frame_taken octets (tag_of tag) (link_of handset c.links) (draft_of c)) s is tt (frame_taken_bindings octets (tag_of tag) (link_of handset c.links) (draft_of c)) refl k
awaited_after (LinkUp handset) c s is k = left (LinkUp handset) c (raise handset (draft_of c)) s is tt refl refl k
awaited_after (LinkDown handset) c s is k = left (LinkDown handset) c (lower handset (draft_of c)) s is tt (lower_bindings handset (draft_of c)) refl k
awaited_after (Ordered order id) c s is k = left (Ordered order id) c (ordered order id (draft_of c)) s is tt (ordered_bindings order id (draft_of c)) refl k
awaited_after (Tick now) c s is k = left (Tick now) c (raised (fired (aged (at_moment now (draft_of c))))) s is tt (ticked_bindings now (draft_of c)) refl k

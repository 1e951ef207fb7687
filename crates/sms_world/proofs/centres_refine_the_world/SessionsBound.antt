-- A session that is bound: a receipt that waits for its minute is due now, and the world shows of receipts only that they are.
use Rattle.std.proofs.Common.{ℕ, List, [], ◌∷◌, Bool, Option, Some, None, refl, inl, inr}
use Rattle.std.specs.Prelude.{if◌then◌else◌}
use Rattle.std.proofs.lemmas.Bool.{cond_both}
use Rattle.sms_centre_rows.specs.declared.messages.message.MessageRow.{MessageRow}
use Rattle.sms_centre_rows.specs.messages.Messages.{message_at}
use Rattle.sms_centre_rows.specs.reports.Receipts.{Session, is_put_off, receipts_due, session_key}
use Rattle.sms_centre_rows.specs.reports.Reports.{amend_report, report_key}
use Rattle.sms_centre_rows.specs.declared.reports.report.ReportRow.{ReportRow}
use Rattle.sms_rows.specs.table.Table.{Rises, row_at}
use Rattle.sms_centre_rows.specs.waiting.Revisions.{Revised}
use Rattle.sms_centre_rows.specs.waiting.Trying.{due_at}
use Rattle.sms_intake.specs.declared.submission.CentreAccount.{CentreAccount}
use Rattle.sms_centre_spec.proofs.SoundAccepted.{sound_still}
use Rattle.sms_centre_spec.proofs.SoundEvents.{event_after}
use Rattle.sms_centre_spec.proofs.SoundStores.{SoundStore}
use Rattle.sms_centre_spec.proofs.SteadyTimes.{ReportsInStore, all_tried_steady, far_leaves, stand_all}
use Rattle.sms_centre_spec.specs.Draft.{Draft, Store, draft_of, messages_in, reports_in, with_reports}
use Rattle.sms_centre_spec.specs.Requests.{account_at}
use Rattle.sms_centre_spec.specs.Sessions.{bind, bound_as, due_for, unbind, unbound_from}
use Rattle.sms_centre_spec.specs.declared.event.CentreEvent.TheVariants.{Bound}
use Rattle.sms_world_model.specs.World.{World}
use Rattle.sms_world.specs.centres_refine_the_world.CentreLaws.{BoundLaw}
use Rattle.sms_world.specs.centres_refine_the_world.CentreRefinement.{CentreRefines, StoreRefines}
use Rattle.sms_world.proofs.centres_refine_the_world.LinksChange.{Both}
use Rattle.sms_world.proofs.centres_refine_the_world.Offers.{follow_law}
use Rattle.sms_world.proofs.centres_refine_the_world.SessionsChange.{receipt_both, unbound_refines}
use Rattle.sms_world.proofs.centres_refine_the_world.QuietEvents.{start}

module _ (w : World) where
  receipts_due_both : (n : ℕ) (a : List ℕ) (ms : List MessageRow) (rs : List ReportRow) (t : Revised ReportRow) (s : Store) → Both w (with_reports t s) → Rises report_key rs
      → ReportsInStore rs (with_reports t s) → Both w (with_reports (receipts_due n a ms rs t) s)
  receipts_due_both n a ms [] t s k rises stand = k
  receipts_due_both n a ms (r ∷ rs) t s k rises stand =
      let is_one : Bool = is_put_off n a r (message_at r.id ms) in
      let e : Store = with_reports t s in
      let both = cond_both is_one (amend_report r (due_at n r.progress) t) t (λ (u : Revised ReportRow). Both w (with_reports u s) × ReportsInStore rs (with_reports u s))
      (λ x. (
        receipt_both w r (due_at n r.progress) e k (stand r (inl refl)) (λ y. y) (λ y. refl),
        far_leaves r (due_at n r.progress) rs e k.0.consistent.held.report_keys rises stand,
      ))
      (λ x. (k, λ y among. stand y (inr among))) in
      receipts_due_both n a ms rs (if is_one then amend_report r (due_at n r.progress) t else t) s both.0 rises.1 both.1

  due_for_both : (a : List ℕ) (s : Store) → Both w s → Both w (due_for a s)
  due_for_both a s k =
      receipts_due_both s.moment a (messages_in s) (reports_in s) s.reports s k k.0.consistent.held.report_keys (stand_all SoundStore sound_still s k.0)

unbound_sound : (o : Option Session) (d : Draft) → SoundStore d.store → SoundStore (unbound_from o d).store
unbound_sound None d k = k
unbound_sound (Some session) d k = all_tried_steady SoundStore sound_still d.store.moment session.unanswered d.store.reports d.store k

bound_refines : (b : World) (session : ℕ) (receives : Bool) (o : Option CentreAccount) (d : Draft) (w : World) → SoundStore d.store → CentreRefines b d w → CentreRefines b (bound_as session receives o d) w
bound_refines b session receives None d w sound s = s
bound_refines b session receives (Some account) d w sound s = record {
  frames = s.frames;
  whole = s.whole;
  links = s.links;
  rows = cond_both receives (due_for account.name d.store) d.store (λ (e : Store). StoreRefines e w) (λ t. (due_for_both w account.name d.store (sound, s.rows)).1) (λ t. s.rows);
}

pub bound_event : BoundLaw
bound_event m session account receives c w sound s =
    let d : Draft = draft_of c in
    let o : Option Session = row_at session_key session d.bindings.sessions in
    follow_law m w (bind session account receives d) w (event_after (Bound session account receives) c sound tt tt).store.0
    (bound_refines w session receives (account_at account d.store.setup.accounts) (unbind session d) w (unbound_sound o d (start c sound)) (unbound_refines w o d w (start c sound) s))

-- Sessions that end or are bound, and answers to receipts: the world shows of receipts only that they are.
use Rattle.std.proofs.Common.{◌≡◌, ℕ, List, [], ◌∷◌, Bool, true, false, refl, Option, Some, None}
use Rattle.std.proofs.lemmas.Bool.{both_ways, cond_both}
use Rattle.sms_base.specs.Among.{Among}
use Rattle.sms_centre_rows.specs.reports.Receipts.{Session, all_tried, answered_in, receipt_ended, receipt_tried, session_key}
use Rattle.sms_centre_rows.specs.messages.SplitReferences.{is_among}
use Rattle.sms_centre_rows.specs.reports.Reports.{amend_report, is_status, report_of, reports_of}
use Rattle.sms_centre_rows.specs.declared.reports.report.ReportRow.{ReportRow}
use Rattle.sms_rows.specs.table.Table.{row_at}
use Rattle.sms_centre_rows.specs.waiting.Revisions.{Revised}
use Rattle.sms_centre_rows.specs.waiting.Trying.{finished}
use Rattle.sms_centre_rows.specs.declared.waiting.progress.Progress.{Progress}
use Rattle.sms_centre_spec.proofs.SoundAccepted.{sound_steady}
use Rattle.sms_centre_spec.proofs.SoundEvents.{event_after}
use Rattle.sms_centre_spec.proofs.SoundStores.{SoundStore}
use Rattle.sms_centre_spec.proofs.Steady.{report_own}
use Rattle.sms_centre_spec.proofs.forgetting.Runs.{among_so}
use Rattle.sms_centre_spec.specs.Draft.{Draft, Store, draft_of, reports_in, with_report_at, with_reports}
use Rattle.sms_centre_spec.specs.Sessions.{answered_by, deliver_answered, unbind, unbound_from}
use Rattle.sms_centre_spec.specs.declared.event.CentreEvent.TheVariants.{DeliverAnswered, Unbound}
use Rattle.sms_world_model.specs.World.{World}
use Rattle.sms_world.specs.centres_refine_the_world.CentreLaws.{AnsweredLaw, UnboundLaw}
use Rattle.sms_world.specs.centres_refine_the_world.CentreRefinement.{CentreRefines}
use Rattle.sms_world.proofs.centres_refine_the_world.LinksChange.{Both}
use Rattle.sms_world.proofs.centres_refine_the_world.Offers.{follow_law}
use Rattle.sms_world.proofs.centres_refine_the_world.Unseen.{report_far_unseen}
use Rattle.sms_world.proofs.centre_runs_are_steps.NothingOffered.{receipt_there}
use Rattle.sms_world.proofs.centres_refine_the_world.QuietEvents.{start}

module _ (w : World) where
  pub receipt_both : (r : ReportRow) (q : Progress) (s : Store) → Both w s → report_of r.id (reports_in s) ≡ Some r → (q.is_done ≡ false → r.progress.is_done ≡ false) → (is_status r.kind ≡ true → q.is_done ≡ r.progress.is_done)
      → Both w (with_report_at r q s)
  receipt_both r q s k there still same =
      (sound_steady.report_far r q s k.0 there still, report_far_unseen r q s w k.0.consistent.held.report_keys there same k.1)

  ended_both : (accepted : Bool) (n id : ℕ) (o : Option ReportRow) (t : Revised ReportRow) (s : Store) → Both w (with_reports t s) → report_of id (reports_of t) ≡ o
      → (accepted ≡ true → (r : ReportRow) → o ≡ Some r → is_status r.kind ≡ false) → Both w (with_reports (receipt_ended accepted n o t) s)
  ended_both accepted n id None t s k there f = k
  ended_both accepted n id (Some r) t s k there f =
      let own : report_of r.id (reports_in (with_reports t s)) ≡ Some r = report_own id r (with_reports t s) there in
      cond_both accepted (finished r.progress) (receipt_tried n r.progress) (λ (q : Progress). Both w (with_reports (amend_report r q t) s))
      (λ e. receipt_both r (finished r.progress) (with_reports t s) k own (λ x. absurd cc) (λ x. absurd (both_ways (is_status r.kind) (f e r refl) x)))
      (λ e. receipt_both r (receipt_tried n r.progress) (with_reports t s) k own (λ x. x) (λ x. refl))

  pub all_tried_both : (n : ℕ) (ids : List ℕ) (t : Revised ReportRow) (s : Store) → Both w (with_reports t s) → Both w (with_reports (all_tried n ids t) s)
  all_tried_both n [] t s k = k
  all_tried_both n (id ∷ ids) t s k =
      all_tried_both n ids (receipt_ended false n (report_of id (reports_of t)) t) s
      (ended_both false n id (report_of id (reports_of t)) t s k refl (λ e. absurd cc))

-- ---- a session ends: its receipts go again

pub unbound_refines : (b : World) (o : Option Session) (d : Draft) (w : World) → SoundStore d.store → CentreRefines b d w → CentreRefines b (unbound_from o d) w
unbound_refines b None d w sound s = s
unbound_refines b (Some session) d w sound s =
    record { frames = s.frames; whole = s.whole; links = s.links; rows = (all_tried_both w d.store.moment session.unanswered d.store.reports d.store (sound, s.rows)).1 }

pub unbound_event : UnboundLaw
unbound_event m session c w sound s =
    let d : Draft = draft_of c in
    follow_law m w (unbind session d) w (event_after (Unbound session) c sound tt tt).store.0 (unbound_refines w (row_at session_key session d.bindings.sessions) d w (start c sound) s)

-- ---- an answer to a receipt

pub answered_refines : (b : World) (id : ℕ) (accepted : Bool) (o : Option Session) (d : Draft) (w : World) → ((session : Session) → o ≡ Some session → (n : ℕ) → Among n session.unanswered
    → (r : ReportRow) → report_of n (reports_in d.store) ≡ Some r → is_status r.kind ≡ false)
    → SoundStore d.store → CentreRefines b d w → CentreRefines b (answered_by id accepted o d) w
answered_refines b id accepted None d w f sound s = s
answered_refines b id accepted (Some session) d w f sound s =
    cond_both (is_among id session.unanswered) (record d { store = record d.store { reports = receipt_ended accepted d.store.moment (report_of id (reports_in d.store)) d.store.reports }; bindings = answered_in id session d.bindings }) d (λ (e : Draft). CentreRefines b e w)
    (λ t. record {
      frames = s.frames;
      whole = s.whole;
      links = s.links;
      rows = (ended_both w accepted d.store.moment id (report_of id (reports_in d.store)) d.store.reports d.store (sound, s.rows) refl
          (λ e r q. f session refl id (among_so id session.unanswered t) r q)).1;
    })
    (λ t. s)

pub answered_event : AnsweredLaw
answered_event m session id accepted c w sound s =
    let d : Draft = draft_of c in
    follow_law m w (deliver_answered session id accepted d) w (event_after (DeliverAnswered session id accepted) c sound tt tt).store.0
    (answered_refines w id accepted (row_at session_key session d.bindings.sessions) d w (λ x e n i r q. receipt_there c x session sound e n i r q) (start c sound) s)

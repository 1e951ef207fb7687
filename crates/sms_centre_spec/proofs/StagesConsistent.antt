-- A stage that begins with a consistent store leaves a consistent one.
use Rattle.std.proofs.Common.{◌≡◌, ℕ, List, Bool, true, false, Option, Some, None, refl, sym, ◌∙◌, ap, subst, ⊎_elim, arith}
use Rattle.std.proofs.lemmas.Bool.{cases_eq, cond_both}
use Rattle.std.specs.Prelude.{not, ◌&&◌}
use Rattle.sms_base.specs.Among.{Among}
use Rattle.sms_base.specs.declared.final_state.FinalState.{FinalState}
use Rattle.sms_base.specs.declared.final_state.FinalState.TheVariants.{Delivered}
use Rattle.sms_rows.specs.table.Table.{Rises, put, row_at}
use Rattle.sms_rows.proofs.table.Tables.{among_put, found_among, rises_put, row_at_put, row_at_put_other}
use Rattle.sms_centre_rows.specs.declared.messages.message.MessageRow.{MessageRow}
use Rattle.sms_base.specs.declared.originator.Originator.{Originator}
use Rattle.sms_base.specs.declared.originator.Originator.TheVariants.{Application, Handset}
use Rattle.sms_centre_rows.specs.declared.messages.part.PartRow.{PartRow}
use Rattle.sms_centre_rows.specs.messages.Messages.{all_done, ended, is_pending, message_at, message_key, part_key, part_reaching}
use Rattle.sms_centre_rows.specs.declared.reports.report.ReportKind.{ReportKind}
use Rattle.sms_centre_rows.specs.declared.reports.report.ReportKind.TheVariants.{Receipt, Status, Unsent}
use Rattle.sms_centre_rows.specs.declared.reports.report.ReportRow.{ReportRow}
use Rattle.sms_centre_rows.specs.reports.Reports.{is_status, next_place, report_key, report_of, report_reaching}
use Rattle.sms_centre_rows.specs.reports.Waiting.{IsReportApart}
use Rattle.sms_centre_rows.specs.declared.waiting.progress.Progress.{Progress}
use Rattle.sms_centre_rows.specs.waiting.References.{handset_of}
use Rattle.sms_centre_rows.specs.waiting.SoundAllocations.{IsNumber}
use Rattle.sms_centre_rows.specs.waiting.Trying.{finished}
use Rattle.sms_centre_spec.specs.Finals.{final_of}
use Rattle.sms_centre_spec.specs.Draft.{Store, handsets_in, messages_in, parts_in, reports_in, with_message, with_part_at, with_report_at}
use Rattle.sms_centre_spec.specs.Ends.{end, is_wished, make_report, report_to, status_given}
use Rattle.sms_receipt.specs.StatusReports.{status_octets}
use Rattle.sms_centre_spec.specs.SoundRows.{HasReportAddress}
use Rattle.sms_centre_spec.specs.Consistent.{IsConsistent}
use Rattle.sms_centre_spec.specs.Submitting.{reference_for}
use Rattle.sms_centre_spec.specs.Transfers.{complete}
use Rattle.sms_centre_spec.proofs.HeldAllocations.{report_made_held, status_given_held}
use Rattle.sms_centre_spec.proofs.HeldStages.{ended_held, part_far_held, report_far_held}
use Rattle.sms_centre_spec.proofs.NextNumbers.{among_amended, below_next_place}
use Rattle.sms_centre_spec.proofs.AcceptedConsistent.{accept_consistent}
use Rattle.sms_centre_spec.proofs.Steady.{IsSteady, IsStill, message_own, still_of}

-- ---- a report is made of a message that has ended and has none

pub record CanReport (f : FinalState) (n : ℕ) (m : MessageRow) (s : Store) : Type 0 where
  pub consistent : IsConsistent s
  pub there : message_at m.id (messages_in s) ≡ Some (ended f n m)
  pub none : (r : ReportRow) → Among r (reports_in s) → ¬ (r.id ≡ m.id)

pub next_is_new : (r : ReportRow) (rs : List ReportRow) → Rises report_key rs → ((x : ReportRow) → Among x rs → ¬ (x.id ≡ r.id)) → r.place ≡ next_place rs → IsReportApart rs r
next_is_new r rs keys none next = record {
  place = λ x among e. let low = below_next_place 1 x rs keys among in omega (arith, low, e, next);
  message = none;
}

reported : (f : FinalState) (n : ℕ) (m : MessageRow) (r : ReportRow) (s : Store) → CanReport f n m s → r.id ≡ m.id
    → (x : ReportRow) → Among x (put report_key r (reports_in s)) → (y : MessageRow) × ((message_at x.id (messages_in s) ≡ Some y) × (is_pending y ≡ false))
reported f n m r s k own x among = ⊎_elim
    (λ (e : x ≡ r).
    let there : message_at x.id (messages_in s) ≡ Some (ended f n m) = ap (λ (id : ℕ). message_at id (messages_in s)) (ap (λ (y : ReportRow). y.id) e ∙ own) ∙ k.there in
    let found : (y : MessageRow) × ((message_at x.id (messages_in s) ≡ Some y) × (is_pending y ≡ false)) = (ended f n m, (there, refl)) in found)
    (λ (a : Among x (reports_in s) × ¬ (x.place ≡ r.place)). k.consistent.reports x a.0)
    (among_put report_key x r (reports_in s) among)

pub quiet_consistent : (f : FinalState) (n : ℕ) (m : MessageRow) (kind : ReportKind) (closed : Bool) (s : Store) → CanReport f n m s → is_status kind ≡ false → IsConsistent (make_report m.id kind closed s)
quiet_consistent f n m kind closed s k quiet =
    let r : ReportRow = record {
      place = next_place (reports_in s);
      id = m.id;
      kind = kind;
      made = s.moment;
      progress = record { is_done = closed; attempts = 0; due = s.moment };
    } in
    let new : IsReportApart (reports_in s) r = next_is_new r (reports_in s) k.consistent.held.report_keys k.none refl in
    record {
      held = report_made_held s r k.consistent.held new (ap (λ (b : Bool). b && not closed) quiet);
      message_keys = k.consistent.message_keys;
      report_addresses = k.consistent.report_addresses;
      parts = k.consistent.parts;
      reports = reported f n m r s k refl;
    }

pub status_consistent : (f : FinalState) (n : ℕ) (m : MessageRow) (o : Option ℕ) (s : Store) → CanReport f n m s → IsNumber m.source.digits
    → reference_for (handset_of m.source.digits (handsets_in s)) s ≡ o → IsConsistent (status_given f m (handset_of m.source.digits (handsets_in s)) o s)
status_consistent f n m None s k told next = quiet_consistent f n m Unsent true s k refl
status_consistent f n m (Some reference) s k told next =
    let r : ReportRow = record {
      place = next_place (reports_in s);
      id = m.id;
      kind = Status reference (status_octets (final_of f s.moment m));
      made = s.moment;
      progress = record { is_done = false; attempts = 0; due = s.moment };
    } in
    let new : IsReportApart (reports_in s) r = next_is_new r (reports_in s) k.consistent.held.report_keys k.none refl in
    record {
      held = status_given_held s (ended f n m) r k.consistent.held new k.there told refl next;
      message_keys = k.consistent.message_keys;
      report_addresses = k.consistent.report_addresses;
      parts = k.consistent.parts;
      reports = reported f n m r s k refl;
    }

pub report_to_consistent : (o : Originator) (f : FinalState) (n : ℕ) (m : MessageRow) (s : Store) → CanReport f n m s → HasReportAddress o m.source → IsConsistent (report_to o f m s)
report_to_consistent (Application account) f n m s k told = quiet_consistent f n m Receipt false s k refl
report_to_consistent (Handset r) f n m s k told = status_consistent f n m (reference_for (handset_of m.source.digits (handsets_in s)) s) s k told refl

-- ---- a message ends

-- its row tells it, and it can be reported
pub can_report : (f : FinalState) (m : MessageRow) (s : Store) → IsConsistent s → message_at m.id (messages_in s) ≡ Some m → is_pending m ≡ true → CanReport f s.moment m (with_message (ended f s.moment m) s)
can_report f m s k there pending =
    let w : MessageRow = ended f s.moment m in
    let after : List MessageRow = put message_key w (messages_in s) in
    let apart : (r : ReportRow) → Among r (reports_in s) → ¬ (r.id ≡ m.id) = λ r among q.
    let of = k.reports r among in
    over of.0 (sym there ∙ ap (λ (id : ℕ). message_at id (messages_in s)) (sym q) ∙ of.1.0) of.1.1 in
    let consistent : IsConsistent (with_message w s) = record {
      held = ended_held s m f s.moment k.held there;
      message_keys = rises_put message_key w (messages_in s) k.message_keys;
      report_addresses = λ x among. ⊎_elim
          (λ (q : x ≡ w). subst (λ (y : MessageRow). HasReportAddress y.originator y.source) (sym q) (k.report_addresses m (found_among message_key m.id m (messages_in s) there)))
          (λ (a : Among x (messages_in s) × ¬ (x.id ≡ m.id)). k.report_addresses x a.0)
          (among_put message_key x w (messages_in s) among);
      parts = λ p among. ⊎_elim
          (λ (q : m.id ≡ p.id).
          let found : message_at p.id after ≡ Some w = subst (λ (id : ℕ). message_at id after ≡ Some w) q (row_at_put message_key w (messages_in s)) in
          let is : (y : MessageRow) × (message_at p.id after ≡ Some y) = (w, found) in is)
          (λ (ne : m.id ≡ p.id → ⊥). let of = k.parts p among in (of.0, row_at_put_other message_key p.id w (messages_in s) ne ∙ of.1))
          (cases_eq m.id p.id);
      reports = λ r among.
          let of = k.reports r among in
          (of.0, (row_at_put_other message_key r.id w (messages_in s) (λ q. apart r among (sym q)) ∙ of.1.0, of.1.1));
    } in
    record { consistent = consistent; there = row_at_put message_key w (messages_in s); none = apart }
  where
    over : (x : MessageRow) → Some m ≡ Some x → is_pending x ≡ false → ⊥
    over x q past = let same : m ≡ x = cc in let bad : true ≡ false = sym pending ∙ ap (λ (y : MessageRow). is_pending y) same ∙ past in absurd cc

end_consistent : (f : FinalState) (m : MessageRow) (s : Store) → IsConsistent s → message_at m.id (messages_in s) ≡ Some m → is_pending m ≡ true → IsConsistent (end f m s)
end_consistent f m s k there pending =
    let e : Store = with_message (ended f s.moment m) s in
    let can = can_report f m s k there pending in
    cond_both (is_wished m.wish f) (report_to m.originator f m e) e IsConsistent
    (λ t. report_to_consistent m.originator f s.moment m e can (k.report_addresses m (found_among message_key m.id m (messages_in s) there))) (λ t. can.consistent)

-- ---- how far parts and reports are

pub part_far_consistent : (p : PartRow) (q : Progress) (s : Store) → IsConsistent s → row_at part_key (part_key p) (parts_in s) ≡ Some p → (q.is_done ≡ false → p.progress.is_done ≡ false) → IsConsistent (with_part_at p q s)
part_far_consistent p q s k there done = record {
  held = part_far_held s p q k.held there done;
  message_keys = k.message_keys;
  report_addresses = k.report_addresses;
  parts = λ x among.
      let g = among_amended part_key part_reaching (part_key p) q x (parts_in s) among in
      let own : x.id ≡ g.0.id = ⊎_elim (λ (e : x ≡ g.0). ap (λ (y : PartRow). y.id) e) (λ (e : (part_key g.0 ≡ part_key p) × (x ≡ part_reaching q g.0)). ap (λ (y : PartRow). y.id) e.1) g.1.1 in
      let of = k.parts g.0 g.1.0 in
      (of.0, ap (λ (id : ℕ). message_at id (messages_in s)) own ∙ of.1);
  reports = k.reports;
}

pub report_far_consistent : (r : ReportRow) (q : Progress) (s : Store) → IsConsistent s → report_of r.id (reports_in s) ≡ Some r → (q.is_done ≡ false → r.progress.is_done ≡ false) → IsConsistent (with_report_at r q s)
report_far_consistent r q s k there done = record {
  held = report_far_held s r q k.held there done;
  message_keys = k.message_keys;
  report_addresses = k.report_addresses;
  parts = k.parts;
  reports = λ x among.
      let g = among_amended report_key report_reaching (report_key r) q x (reports_in s) among in
      let own : x.id ≡ g.0.id = ⊎_elim (λ (e : x ≡ g.0). ap (λ (y : ReportRow). y.id) e) (λ (e : (report_key g.0 ≡ report_key r) × (x ≡ report_reaching q g.0)). ap (λ (y : ReportRow). y.id) e.1) g.1.1 in
      let of = k.reports g.0 g.1.0 in
      (of.0, (ap (λ (id : ℕ). message_at id (messages_in s)) own ∙ of.1.0, of.1.1));
}

settled_consistent : (p : PartRow) (m : MessageRow) (s : Store) → IsConsistent s → row_at part_key (part_key p) (parts_in s) ≡ Some p → message_at p.id (messages_in s) ≡ Some m → is_pending m ≡ true
    → IsConsistent (complete m (with_part_at p (finished p.progress) s))
settled_consistent p m s k there of pending =
    let e : Store = with_part_at p (finished p.progress) s in
    let consistent : IsConsistent e = part_far_consistent p (finished p.progress) s k there (λ q. absurd cc) in
    cond_both (all_done m.id (parts_in e)) (end Delivered m e) e IsConsistent (λ t. end_consistent Delivered m e consistent (message_own p.id m e of) pending) (λ t. consistent)

pub later_consistent : (n : ℕ) (s : Store) → IsConsistent s → IsConsistent (record s { moment = n })
later_consistent n s k = record {
  held = record {
    allocations = k.held.allocations;
    parts = k.held.parts;
    alone = k.held.alone;
    report_keys = k.held.report_keys;
    numbers = k.held.numbers;
    waiting = k.held.waiting;
  };
  message_keys = k.message_keys;
  report_addresses = k.report_addresses;
  parts = k.parts;
  reports = k.reports;
}

pub consistent_steady : IsSteady IsConsistent
consistent_steady = record {
  consistent = λ s k. k;
  accepted = accept_consistent;
  ended = λ f m s k there pending partly. end_consistent f m s k there pending;
  settled = λ p m s k there of pending waits. settled_consistent p m s k there of pending;
  part_far = λ p q s k there same. part_far_consistent p q s k there (λ e. sym same ∙ e);
  report_far = report_far_consistent;
  later = λ n s k past is. later_consistent n s k;
}

pub consistent_still : IsStill IsConsistent
consistent_still = still_of IsConsistent consistent_steady

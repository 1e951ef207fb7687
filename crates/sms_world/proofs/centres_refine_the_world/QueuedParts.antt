-- What waits for a handset holds a reference that was given there, for what is not answered yet.
use Rattle.std.proofs.Common.{◌≡◌, ℕ, ◌≤◌, arith, ◌<◌, List, Bool, true, false, refl, sym, ◌∙◌, ap, subst, ⊎_elim, length, Option, Some, None}
use Rattle.std.specs.Prelude.{◌==◌, ◌&&◌, not, is_none}
use Rattle.std.specs.Str.{bytes_eq}
use Rattle.std.proofs.lemmas.Bool.{and_parts, cases_Bool, cond_both, cond-false, cond-true, eqb-false, eqb-true}
use Rattle.std.proofs.lemmas.Slice.Eq.{bytes_eq-Decides}
use Rattle.sms_base.specs.Among.{Among}
use Rattle.sms_base.specs.declared.final_state.FinalState.{FinalState}
use Rattle.sms_base.specs.declared.holder.Holder.{Holder}
use Rattle.sms_base.specs.declared.holder.Holder.TheVariants.{Part, Report}
use Rattle.sms_base.specs.declared.originator.Originator.{Originator}
use Rattle.sms_base.specs.declared.originator.Originator.TheVariants.{Application, Handset}
use Rattle.sms_rows.specs.table.Keys.{pair_key}
use Rattle.sms_rows.specs.table.Table.{row_at}
use Rattle.sms_rows.proofs.table.Tables.{among_found, found_among, found_key}
use Rattle.sms_centre_rows.specs.messages.Messages.{is_pending, message_at, message_key, part_at, part_key}
use Rattle.sms_centre_rows.specs.messages.OpenParts.{part_queued, part_wait, waits_for}
use Rattle.sms_centre_rows.specs.declared.messages.message.MessageRow.{MessageRow}
use Rattle.sms_centre_rows.specs.declared.messages.part.PartRow.{PartRow}
use Rattle.sms_centre_rows.proofs.reports.AllWaiting.{part_waits_at, report_waits_at}
use Rattle.sms_centre_rows.proofs.reports.FewWaiting.{all_few}
use Rattle.sms_centre_rows.proofs.reports.AllWaiting.{report_found}
use Rattle.sms_centre_rows.specs.reports.Reports.{is_open_status, is_status, report_of, status_reference, status_tpdu}
use Rattle.sms_centre_rows.specs.reports.SoundReports.{FitsOriginator}
use Rattle.sms_centre_rows.specs.reports.Waiting.{report_queued, report_wait, reports_to}
use Rattle.sms_centre_rows.specs.declared.reports.report.ReportKind.{ReportKind}
use Rattle.sms_centre_rows.specs.declared.reports.report.ReportKind.TheVariants.{Receipt, Status, Unsent}
use Rattle.sms_centre_rows.specs.declared.reports.report.ReportRow.{ReportRow}
use Rattle.sms_tpdu.specs.MoreMessages.{compared}
use Rattle.sms_centre_rows.specs.waiting.Keys.{queued_key}
use Rattle.sms_centre_rows.specs.declared.waiting.queued_part.QueuedPart.{QueuedPart}
use Rattle.sms_centre_spec.proofs.SoundStores.{SoundStore}
use Rattle.sms_centre_spec.specs.Draft.{Store, messages_in, parts_in, priorities_in, reports_in, waiting_in}
use Rattle.sms_centre_spec.specs.Offering.{holder_of, part_tpdu, report_tpdu, tpdu_of}
use Rattle.sms_world_model.specs.World.{Allocation, IsUnanswered, Pending, IsRecorded, State, World}
use Rattle.sms_world.specs.centres_refine_the_world.CentreRefinement.{StoreRefines}
use Rattle.sms_world.proofs.centres_refine_the_world.ByOctets.{by_octet_is}
use Rattle.sms_world.specs.centres_refine_the_world.RefinesGiven.{given_part, given_report}
use Rattle.sms_world.specs.centres_refine_the_world.RefinesLinks.{IsNumbered}
use Rattle.sms_world.specs.headline.SeenWorld.{IsStateOf, PartSeen, part_seen, parts_by}
use Rattle.sms_world.specs.centres_refine_the_world.RefinesReports.{ReportSeen, report_seen}

-- the giving of its reference to that holder, who is not answered yet; its TPDU fits an RP-DATA
abbrev pub allocation_at : List ℕ → ℕ → Holder → List ℕ → ℕ → Allocation
allocation_at handset reference holder tpdu moment = record { handset = handset; reference = reference; holder = holder; moment = moment; tpdu = compared tpdu }

pub record IsOffered (handset : List ℕ) (reference : ℕ) (w : World) (holder : Holder) (tpdu : List ℕ) : Type 0 where
  pub moment : ℕ
  pub given : Among (allocation_at handset reference holder tpdu moment) w.down
  pub unanswered : IsUnanswered w.table w.reports holder
  pub fits : length tpdu ≤ 200
  pub numbered : IsNumbered holder

pub none_of : (o : Option FinalState) → is_none o ≡ true → o ≡ None
none_of None e = refl
none_of (Some f) e = absurd cc

not_true : (b : Bool) → not b ≡ true → b ≡ true → ⊥
not_true true e f = absurd cc
not_true false e f = absurd cc

module _ (h : List ℕ) (l : QueuedPart) (s : Store) (w : World) (sound : SoundStore s) (refines : StoreRefines s w) where
  -- ---- a part

  module _ (p : PartRow) (m : MessageRow) (at : part_at l.id l.number (parts_in s) ≡ Some p) (of : message_at p.id (messages_in s) ≡ Some m) (same : part_queued p (priorities_in s) ≡ l) (undone : not p.progress.is_done ≡ true)
      (pending : is_pending m ≡ true) (to : m.handset ≡ h) where
    id_is : p.id ≡ l.id
    id_is = ap (λ (x : QueuedPart). x.id) same

    own_id : m.id ≡ l.id
    own_id = found_key message_key p.id m (messages_in s) of ∙ id_is

    message_there : message_at l.id (messages_in s) ≡ Some m
    message_there = ap (λ (n : ℕ). message_at n (messages_in s)) (sym id_is) ∙ of

    small_number : l.number < 256
    small_number =
        let number : p.number ≡ l.number = ap (λ (x : QueuedPart). x.number) same in
        let small = (sound.consistent.held.parts.numbers p (found_among part_key (pair_key l.id l.number) p (parts_in s) at)).1 in
        omega (arith, number, small)

    there : parts_by (parts_in s) l.id l.number ≡ Some (record { reference = p.reference; tpdu = compared p.tpdu; is_done = p.progress.is_done })
    there =
        by_octet_is l.number (part_seen (part_at l.id l.number (parts_in s))) small_number ∙ ap part_seen at

    part_unanswered : IsUnanswered w.table w.reports (Part l.id l.number)
    part_unanswered =
        let x = refines.table.there l.id m message_there in
        let y : IsStateOf None (parts_by (parts_in s) l.id) x.1 = subst (λ (z : Option FinalState). IsStateOf z (parts_by (parts_in s) l.id) x.1) (none_of m.state pending) x.2.2 in (
          x.0,
          y.0,
          (
            subst (λ (n : ℕ). IsRecorded w.table n x.0 (Pending y.0)) own_id (subst (λ (z : State). IsRecorded w.table m.id x.0 z) y.1.0 x.2.0),
            λ a. not_true p.progress.is_done undone ((y.1.1 l.number (record { reference = p.reference; tpdu = compared p.tpdu; is_done = p.progress.is_done }) there).1 a),
          ),
        )

    part_offered : IsOffered h l.reference w (Part l.id l.number) p.tpdu
    part_offered =
        let v : PartSeen = record { reference = p.reference; tpdu = compared p.tpdu; is_done = p.progress.is_done } in
        let g = refines.holders.part l.id l.number m v message_there there in
        let reference : p.reference ≡ l.reference = ap (λ (x : QueuedPart). x.reference) same in
        let e : given_part m l.number v g.0 ≡ allocation_at h l.reference (Part l.id l.number) p.tpdu g.0 =
        λ j. record { handset = to j; reference = reference j; holder = Part (own_id j) l.number; moment = g.0; tpdu = compared p.tpdu } in
        let fit = (sound.messages.each_part p (found_among part_key (pair_key l.id l.number) p (parts_in s) at)).message in
        record { moment = g.0; given = subst (λ (x : Allocation). Among x w.down) e g.1; unanswered = part_unanswered; fits = fit.1.1.1.fits; numbered = small_number }

  part_waits : (o : Option PartRow) → part_at l.id l.number (parts_in s) ≡ o → part_wait h (messages_in s) (priorities_in s) o ≡ Some l → IsOffered h l.reference w (Part l.id l.number) (part_tpdu o)
  part_waits None e q = absurd cc
  part_waits (Some p) e q = by (message_at p.id (messages_in s)) refl
    where
      is_waiting : waits_for h p (message_at p.id (messages_in s)) ≡ true
      is_waiting =
          cond_both (waits_for h p (message_at p.id (messages_in s))) (Some (part_queued p (priorities_in s))) None (λ x. x ≡ Some l → waits_for h p (message_at p.id (messages_in s)) ≡ true)
          (λ t f. t) (λ t f. absurd cc) q

      same : part_queued p (priorities_in s) ≡ l
      same =
          cond_both (waits_for h p (message_at p.id (messages_in s))) (Some (part_queued p (priorities_in s))) None (λ x. x ≡ Some l → part_queued p (priorities_in s) ≡ l)
          (λ t f. let k : part_queued p (priorities_in s) ≡ l = cc in k) (λ t f. absurd cc) q

      by : (m : Option MessageRow) → message_at p.id (messages_in s) ≡ m → IsOffered h l.reference w (Part l.id l.number) p.tpdu
      by None f = let bad : false ≡ true = sym (ap (λ (o : Option MessageRow). waits_for h p o) f) ∙ is_waiting in absurd cc
      by (Some m) f =
          let both = and_parts (not p.progress.is_done) (is_pending m && bytes_eq m.handset h) (sym (ap (λ (o : Option MessageRow). waits_for h p o) f) ∙ is_waiting) in
          let two = and_parts (is_pending m) (bytes_eq m.handset h) both.1 in
          part_offered p m e f same both.0 two.0 ((bytes_eq-Decides m.handset h).0 two.1)

  -- ---- a status report

  status_is : (k : ReportKind) → is_status k ≡ true → (tpdu : List ℕ) × (k ≡ Status (status_reference k) tpdu)
  status_is Receipt t = absurd cc
  status_is (Status reference tpdu) t = (tpdu, refl)
  status_is Unsent t = absurd cc

  status_fits : (k : ReportKind) (o : Originator) (m : MessageRow) (r : ReportRow) → is_status k ≡ true → FitsOriginator k o m r → length (status_tpdu k) ≤ 200
  status_fits Receipt o m r t f = absurd cc
  status_fits (Status reference tpdu) (Application account) m r t f = absurd f
  status_fits (Status reference tpdu) (Handset n) m r t f = f.1.1.fits
  status_fits Unsent o m r t f = absurd cc

  not_false : (b : Bool) → not b ≡ true → b ≡ false
  not_false true e = absurd cc
  not_false false e = refl

  report_waits : (o : Option ReportRow) → report_of l.id (reports_in s) ≡ o → report_wait h (messages_in s) o ≡ Some l → IsOffered h l.reference w (Report l.id) (report_tpdu o)
  report_waits None e q = absurd cc
  report_waits (Some r) e q = by (message_at r.id (messages_in s)) refl
    where
      is_waiting : reports_to h r (message_at r.id (messages_in s)) ≡ true
      is_waiting =
          cond_both (reports_to h r (message_at r.id (messages_in s))) (Some (report_queued r)) None (λ x. x ≡ Some l → reports_to h r (message_at r.id (messages_in s)) ≡ true)
          (λ t f. t) (λ t f. absurd cc) q

      same : report_queued r ≡ l
      same =
          cond_both (reports_to h r (message_at r.id (messages_in s))) (Some (report_queued r)) None (λ x. x ≡ Some l → report_queued r ≡ l)
          (λ t f. let k : report_queued r ≡ l = cc in k) (λ t f. absurd cc) q

      by : (m : Option MessageRow) → message_at r.id (messages_in s) ≡ m → IsOffered h l.reference w (Report l.id) (status_tpdu r.kind)
      by None f = let bad : false ≡ true = sym (ap (λ (o : Option MessageRow). reports_to h r o) f) ∙ is_waiting in absurd cc
      by (Some m) f =
          let both = and_parts (is_open_status r) (bytes_eq m.source.digits h) (sym (ap (λ (o : Option MessageRow). reports_to h r o) f) ∙ is_waiting) in
          let to : m.source.digits ≡ h = (bytes_eq-Decides m.source.digits h).0 both.1 in
          let going_on = and_parts (is_status r.kind) (not r.progress.is_done) both.0 in
          let kind = status_is r.kind going_on.0 in
          let id : r.id ≡ l.id = ap (λ (x : QueuedPart). x.id) same in
          let reference : status_reference r.kind ≡ l.reference = ap (λ (x : QueuedPart). x.reference) same in
          let message : message_at l.id (messages_in s) ≡ Some m = ap (λ (n : ℕ). message_at n (messages_in s)) (sym id) ∙ f in
          let own : m.id ≡ l.id = found_key message_key r.id m (messages_in s) f ∙ id in
          let v : ReportSeen = record { kind = r.kind; is_done = r.progress.is_done } in
          let g = refines.holders.report l.id (status_reference r.kind) kind.0 m v message (ap report_seen e) kind.1 in
          let octets : kind.0 ≡ status_tpdu r.kind = sym (ap status_tpdu kind.1) in
          let same_allocation : given_report m (status_reference r.kind) kind.0 g.0 ≡ allocation_at h l.reference (Report l.id) (status_tpdu r.kind) g.0 =
          λ j. record { handset = to j; reference = reference j; holder = Report (own j); moment = g.0; tpdu = compared (octets j) } in
          let one = sound.reports.each r (report_found l.id r (reports_in s) e).0 in
          record {
            moment = g.0;
            given = subst (λ (x : Allocation). Among x w.down) same_allocation g.1;
            unanswered = refines.reports.still l.id v (ap report_seen e) going_on.0 (not_false r.progress.is_done going_on.1);
            fits = status_fits r.kind one.message.0.originator one.message.0 r going_on.0 one.message.1.1.1;
            numbered = tt;
          }

  -- ---- either

  pub queued_offered : Among l (waiting_in h s) → IsOffered h l.reference w (holder_of l) (tpdu_of l s)
  queued_offered among =
      let ms = messages_in s in
      let qs = priorities_in s in
      let ps = parts_in s in
      let rs = reports_in s in
      let k = sound.consistent.held in
      let there : row_at queued_key (queued_key l) (waiting_in h s) ≡ Some l = among_found queued_key l (waiting_in h s) (k.waiting h).keys among in
      ⊎_elim
      (λ (t : (l.number == 0) ≡ true).
      let key : queued_key l ≡ pair_key l.id 0 = ap (λ (n : ℕ). pair_key l.id n) (eqb-true l.number 0 t) in
      let x = report_waits (report_of l.id rs) refl (sym (report_waits_at h ms qs ps rs l.id k.parts k.alone) ∙ ap (λ (n : ℕ). row_at queued_key n (waiting_in h s)) (sym key) ∙ there) in
      subst (λ (z : Holder). IsOffered h l.reference w z (tpdu_of l s)) (sym (cond-true (l.number == 0) (Report l.id) (Part l.id l.number) t))
      (subst (λ (z : List ℕ). IsOffered h l.reference w (Report l.id) z) (sym (cond-true (l.number == 0) (report_tpdu (report_of l.id rs)) (part_tpdu (part_at l.id l.number ps)) t)) x))
      (λ (t : (l.number == 0) ≡ false).
      let ne = eqb-false l.number 0 t in
      let x = part_waits (part_at l.id l.number ps) refl (sym (part_waits_at h ms qs ps rs l.id l.number k.parts (omega (arith, ne)) (all_few h ms qs ps rs k.parts l among)) ∙ there) in
      subst (λ (z : Holder). IsOffered h l.reference w z (tpdu_of l s)) (sym (cond-false (l.number == 0) (Report l.id) (Part l.id l.number) t))
      (subst (λ (z : List ℕ). IsOffered h l.reference w (Part l.id l.number) z) (sym (cond-false (l.number == 0) (report_tpdu (report_of l.id rs)) (part_tpdu (part_at l.id l.number ps)) t)) x))
      (cases_Bool (l.number == 0))

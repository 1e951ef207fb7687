-- How a message and a transfer end is the same without the messages that go.
use Rattle.std.proofs.Common.{◌≡◌, ℕ, List, [], ◌∷◌, Bool, true, false, Option, Some, None, refl, sym, ◌∙◌, ap, subst, ⊎_elim}
use Rattle.std.specs.Prelude.{◌⊎◌, not, if◌then◌else◌}
use Rattle.std.proofs.lemmas.Bool.{and_right, cases_Bool}
use Rattle.sms_base.specs.Among.{Among}
use Rattle.sms_base.specs.declared.carried.Carried.{Carried}
use Rattle.sms_base.specs.declared.final_state.FinalState.{FinalState}
use Rattle.sms_base.specs.declared.final_state.FinalState.TheVariants.{Delivered, Undeliverable}
use Rattle.sms_base.specs.declared.holder.Holder.{Holder}
use Rattle.sms_base.specs.declared.holder.Holder.TheVariants.{Part, Report, Entry, Memory}
use Rattle.sms_base.specs.declared.originator.Originator.{Originator}
use Rattle.sms_base.specs.declared.originator.Originator.TheVariants.{Application, Handset}
use Rattle.sms_rows.specs.table.Keys.{pair_key}
use Rattle.sms_rows.specs.table.Table.{row_at}
use Rattle.sms_rows.proofs.table.Tables.{among_found, found_among, found_key}
use Rattle.sms_link.specs.declared.ending.Ending.{Ending}
use Rattle.sms_centre_rows.specs.declared.messages.message.MessageRow.{MessageRow}
use Rattle.sms_centre_rows.specs.declared.messages.part.PartRow.{PartRow}
use Rattle.sms_centre_rows.specs.messages.Messages.{all_done, ended, is_pending, message_at, message_key, part_at, part_key}
use Rattle.sms_centre_rows.specs.messages.OpenParts.{is_open_part}
use Rattle.sms_centre_rows.specs.declared.reports.report.ReportKind.{ReportKind}
use Rattle.sms_centre_rows.specs.declared.reports.report.ReportKind.TheVariants.{Receipt, Status, Unsent}
use Rattle.sms_centre_rows.specs.declared.reports.report.ReportRow.{ReportRow}
use Rattle.sms_centre_rows.specs.reports.Reports.{is_open_status, is_status, put_report, report_key, report_of}
use Rattle.sms_centre_rows.proofs.reports.AllWaiting.{report_behind, report_found}
use Rattle.sms_centre_rows.specs.declared.waiting.handset.HandsetRow.{HandsetRow}
use Rattle.sms_centre_rows.specs.declared.waiting.progress.Progress.{Progress}
use Rattle.sms_centre_rows.specs.waiting.References.{handset_of}
use Rattle.sms_centre_rows.specs.waiting.Trying.{finished, tried}
use Rattle.sms_receipt.specs.StatusReports.{status_octets}
use Rattle.sms_centre_spec.specs.declared.verdict.Verdict.{Verdict}
use Rattle.sms_centre_spec.specs.declared.verdict.Verdict.TheVariants.{Settled, HandsetFull, Again, Refused, Late}
use Rattle.sms_centre_spec.specs.Draft.{Draft, Store, handsets_in, messages_in, parts_in, reports_in, with_given, with_message, with_part_at, with_reports}
use Rattle.sms_centre_spec.specs.Ends.{end, is_wished, make_report, report, report_to, status_given}
use Rattle.sms_centre_spec.specs.Finals.{final_of}
use Rattle.sms_centre_spec.specs.Submitting.{reference_for}
use Rattle.sms_centre_spec.specs.Transfers.{complete, conclude, ended_with, is_open_part_at, is_open_status_at, link_ended, part_ended, part_ended_at, part_ended_of, report_ended, report_ended_at, verdict_of, verdict_on}
use Rattle.sms_centre_spec.specs.forgetting.Forgetting.{kept, part_id, report_id}
use Rattle.sms_centre_spec.specs.forgetting.Forgot.{Stays, draft_without, store_without}
use Rattle.sms_centre_spec.proofs.forgetting.Answers.{Alike}
use Rattle.sms_centre_spec.proofs.forgetting.Going.{one_row}
use Rattle.sms_centre_spec.proofs.forgetting.Kept.{at_goes, at_stays, kept_gone, kept_here, not_both}
use Rattle.sms_centre_spec.proofs.forgetting.Looks.{gone_ended}
use Rattle.sms_centre_spec.proofs.forgetting.Moves.{given_move, message_look, message_move, part_far, place_look, reference_look, report_far, report_look, report_move}
use Rattle.sms_centre_spec.proofs.forgetting.Sound.{all_done_same}

pub report_goes : (goes : ℕ → Bool) (id : ℕ) (rs : List ReportRow) → goes id ≡ true → report_of id (kept report_id goes rs) ≡ None
report_goes goes id [] s = refl
report_goes goes id (r ∷ rs) s = ⊎_elim
    (λ (t : goes r.id ≡ true). ap (λ (l : List ReportRow). report_of id l) (kept_gone report_id goes r rs t) ∙ report_goes goes id rs s)
    (λ (t : goes r.id ≡ false).
    ap (λ (l : List ReportRow). report_of id l) (kept_here report_id goes r rs t)
    ∙ report_behind id r (kept report_id goes rs) (λ e. not_both (goes r.id) (ap goes e ∙ s) t) ∙ report_goes goes id rs s)
    (cases_Bool (goes r.id))

abbrev pub Pair : (ℕ → Bool) → Store → Store → Type 0
Pair goes small large = (small ≡ store_without goes large) × Stays goes large

module _ (goes : ℕ → Bool) where
  pub pair_if : (b : Bool) (x small y large : Store) → Pair goes x small → Pair goes y large → Pair goes (if b then x else y) (if b then small else large)
  pair_if true x small y large f g = f
  pair_if false x small y large f g = g

  -- ---- a message ends

  make_pair : (id : ℕ) (kind : ReportKind) (closed : Bool) (s : Store) → Stays goes s → goes id ≡ false → Pair goes (make_report id kind closed (store_without goes s)) (make_report id kind closed s)
  make_pair id kind closed s k f =
      let z : Store = store_without goes s in (
        ap (λ (n : ℕ). with_reports (put_report (record { place = n; id = id; kind = kind; made = s.moment; progress = record { is_done = closed; attempts = 0; due = s.moment } }) z.reports) z) (place_look goes s k),
        report_move goes _ s k f refl,
      )

  status_pair : (f : FinalState) (m : MessageRow) (h : HandsetRow) (o : Option ℕ) (s : Store) → Stays goes s → goes m.id ≡ false → Pair goes (status_given f m h o (store_without goes s)) (status_given f m h o s)
  status_pair f m h None s k g = make_pair m.id Unsent true s k g
  status_pair f m h (Some r) s k g = make_pair m.id (Status r (status_octets (final_of f s.moment m))) false (with_given h r s) (given_move goes h r s k) g

  to_pair : (o : Originator) (f : FinalState) (m : MessageRow) (s : Store) → Stays goes s → goes m.id ≡ false → Pair goes (report_to o f m (store_without goes s)) (report_to o f m s)
  to_pair (Application account) f m s k g = make_pair m.id Receipt false s k g
  to_pair (Handset n) f m s k g =
      let h : HandsetRow = handset_of m.source.digits (handsets_in s) in
      subst (λ (o : Option ℕ). Pair goes (status_given f m h o (store_without goes s)) (report_to (Handset n) f m s)) (sym (reference_look goes h s k)) (status_pair f m h (reference_for h s) s k g)

  report_pair : (f : FinalState) (m : MessageRow) (s : Store) → Stays goes s → goes m.id ≡ false → Pair goes (report f m (store_without goes s)) (report f m s)
  report_pair f m s k g =
      let z : Store = store_without goes s in
      pair_if (is_wished m.wish f) (report_to m.originator f m z) (report_to m.originator f m s) z s (to_pair m.originator f m s k g) (refl, k)

  pub end_pair : (f : FinalState) (m : MessageRow) (s : Store) → Stays goes s → goes m.id ≡ false → Pair goes (end f m (store_without goes s)) (end f m s)
  end_pair f m s k g = report_pair f m (with_message (ended f s.moment m) s) (message_move goes (ended f s.moment m) s k g) g

  -- ---- a part ends

  complete_pair : (m : MessageRow) (s : Store) → Stays goes s → goes m.id ≡ false → Pair goes (complete m (store_without goes s)) (complete m s)
  complete_pair m s k g =
      let z : Store = store_without goes s in
      let same : all_done m.id (parts_in z) ≡ all_done m.id (parts_in s) = ap (λ (l : List PartRow). all_done m.id l) k.parts ∙ all_done_same goes m.id (parts_in s) g in
      subst (λ (b : Bool). Pair goes (if b then end Delivered m z else z) (complete m s)) (sym same)
      (pair_if (all_done m.id (parts_in s)) (end Delivered m z) (end Delivered m s) z s (end_pair Delivered m s k g) (refl, k))

  part_pair : (v : Verdict) (p : PartRow) (m : MessageRow) (s : Store) → Stays goes s → goes m.id ≡ false → Pair goes (part_ended v p m (store_without goes s)) (part_ended v p m s)
  part_pair Settled p m s k g = complete_pair m (with_part_at p (finished p.progress) s) (part_far goes p (finished p.progress) s k) g
  part_pair HandsetFull p m s k g = (refl, k)
  part_pair Again p m s k g = (refl, part_far goes p (tried s.moment p.progress) s k)
  part_pair Refused p m s k g = end_pair Undeliverable m s k g
  part_pair Late p m s k g = (refl, k)

  of_pair : (v : Verdict) (p : PartRow) (o : Option MessageRow) (s : Store) → Stays goes s → message_at p.id (messages_in s) ≡ o → goes p.id ≡ false → Pair goes (part_ended_of v p o (store_without goes s)) (part_ended_of v p o s)
  of_pair v p None s k e g = (refl, k)
  of_pair v p (Some m) s k e g = part_pair v p m s k (ap goes (found_key message_key p.id m (messages_in s) e) ∙ g)

  -- ---- a report ends

  pub report_is : (r : ReportRow) (q : Progress) (s : Store) → Stays goes s → Among r (reports_in s) → goes r.id ≡ false
      → (x : ReportRow) → Among x (reports_in s) → goes x.id ≡ true → x.place ≡ r.place → q.is_done ≡ true
  report_is r q s k a g x b t e = absurd (not_both (goes x.id) t (ap (λ (y : ReportRow). goes y.id) (one_row report_key x r (reports_in s) k.report_keys b a e) ∙ g))

  report_ended_pair : (v : Verdict) (r : ReportRow) (s : Store) → Stays goes s → Among r (reports_in s) → goes r.id ≡ false → Pair goes (report_ended v r (store_without goes s)) (report_ended v r s)
  report_ended_pair Settled r s k a g = (refl, report_far goes r (finished r.progress) s k (report_is r (finished r.progress) s k a g))
  report_ended_pair HandsetFull r s k a g = (refl, k)
  report_ended_pair Again r s k a g = (refl, report_far goes r (tried s.moment r.progress) s k (report_is r (tried s.moment r.progress) s k a g))
  report_ended_pair Refused r s k a g = (refl, report_far goes r (finished r.progress) s k (report_is r (finished r.progress) s k a g))
  report_ended_pair Late r s k a g = (refl, k)

  -- ---- a transfer ends

  abbrev part_draft : List ℕ → Ending → Draft → Option PartRow → Bool → Draft
  part_draft handset e d o b =
      let v : Verdict = if b then verdict_of e else Late in
      record { store = part_ended_at v o d.store; links = link_ended v handset d.links; bindings = d.bindings; answer = d.answer }

  abbrev report_draft : List ℕ → Ending → Draft → Option ReportRow → Bool → Draft
  report_draft handset e d o b =
      let v : Verdict = if b then verdict_of e else Late in
      record { store = report_ended_at v o d.store; links = link_ended v handset d.links; bindings = d.bindings; answer = d.answer }

  late_part : (p : PartRow) (o : Option MessageRow) (s : Store) → part_ended_of Late p o s ≡ s
  late_part p None s = refl
  late_part p (Some m) s = refl

  -- the part goes: it was not open
  gone_part : (handset : List ℕ) (e : Ending) (p : PartRow) (d : Draft) → Stays goes d.store → goes p.id ≡ true → part_draft handset e d (Some p) (is_open_part p (message_at p.id (messages_in d.store))) ≡ d
  gone_part handset e p d k t =
      ap (λ (b : Bool). part_draft handset e d (Some p) b) (closed (message_at p.id (messages_in d.store)) refl)
      ∙ ap (λ (x : Store). record d { store = x }) (late_part p (message_at p.id (messages_in d.store)) d.store)
    where
      closed : (o : Option MessageRow) → message_at p.id (messages_in d.store) ≡ o → is_open_part p o ≡ false
      closed None q = refl
      closed (Some m) q = and_right (not p.progress.is_done) (is_pending m) (gone_ended goes p.id m (messages_in d.store) k.ended t q)

  -- the part stays
  stay_part : (handset : List ℕ) (e : Ending) (p : PartRow) (d : Draft) → Stays goes d.store → goes p.id ≡ false
      → Alike goes (part_draft handset e (draft_without goes d) (Some p) (is_open_part p (message_at p.id (messages_in (store_without goes d.store))))) (part_draft handset e d (Some p) (is_open_part p (message_at p.id (messages_in d.store))))
  stay_part handset e p d k g =
      let s : Store = d.store in
      let z : Store = store_without goes s in
      let o : Option MessageRow = message_at p.id (messages_in s) in
      let v : Verdict = if is_open_part p o then verdict_of e else Late in
      let ended : Pair goes (part_ended_of v p o z) (part_ended_of v p o s) = of_pair v p o s k refl g in
      let first : part_draft handset e (draft_without goes d) (Some p) (is_open_part p (message_at p.id (messages_in z))) ≡ record { store = part_ended_of v p o z; links = link_ended v handset d.links; bindings = d.bindings; answer = d.answer } =
      ap (λ (x : Option MessageRow). record { store = part_ended_of (if is_open_part p x then verdict_of e else Late) p x z; links = link_ended (if is_open_part p x then verdict_of e else Late) handset d.links; bindings = d.bindings; answer = d.answer }) (message_look goes p.id s k g) in
      (first ∙ ap (λ (x : Store). record { store = x; links = link_ended v handset d.links; bindings = d.bindings; answer = d.answer }) ended.0, ended.1)

  part_found : (handset : List ℕ) (e : Ending) (key : ℕ) (d : Draft) → Stays goes d.store → (o : Option PartRow) → row_at part_key key (parts_in d.store) ≡ o
      → Alike goes (part_draft handset e (draft_without goes d) (row_at part_key key (parts_in (store_without goes d.store))) (is_open_part_at (row_at part_key key (parts_in (store_without goes d.store))) (store_without goes d.store))) (part_draft handset e d o (is_open_part_at o d.store))
  part_found handset e key d k None q =
      let s : Store = d.store in
      let z : Store = store_without goes s in
      let none : row_at part_key key (parts_in z) ≡ None =
      ap (λ (l : List PartRow). row_at part_key key l) k.parts
      ∙ at_stays part_id goes part_key key (parts_in s) (λ y a f. let bad : Some y ≡ None = sym (among_found part_key y (parts_in s) k.part_keys a) ∙ ap (λ (n : ℕ). row_at part_key n (parts_in s)) f ∙ q in absurd cc) ∙ q in
      subst (λ (x : Option PartRow). Alike goes (part_draft handset e (draft_without goes d) x (is_open_part_at x z)) d) (sym none) (refl, k)
  part_found handset e key d k (Some p) q =
      let s : Store = d.store in
      let z : Store = store_without goes s in
      let a : Among p (parts_in s) = found_among part_key key p (parts_in s) q in
      let own : part_key p ≡ key = found_key part_key key p (parts_in s) q in
      ⊎_elim
      (λ (t : goes p.id ≡ true).
      let none : row_at part_key key (parts_in z) ≡ None =
      ap (λ (l : List PartRow). row_at part_key key l) k.parts
      ∙ at_goes part_id goes part_key key (parts_in s) (λ y b f. ap (λ (x : PartRow). goes x.id) (one_row part_key y p (parts_in s) k.part_keys b a (f ∙ sym own)) ∙ t) in
      subst (λ (x : Option PartRow). Alike goes (part_draft handset e (draft_without goes d) x (is_open_part_at x z)) (part_draft handset e d (Some p) (is_open_part_at (Some p) s))) (sym none)
      (subst (λ (x : Draft). Alike goes (draft_without goes d) x) (sym (gone_part handset e p d k t)) (refl, k)))
      (λ (t : goes p.id ≡ false).
      let some : row_at part_key key (parts_in z) ≡ Some p =
      ap (λ (l : List PartRow). row_at part_key key l) k.parts
      ∙ at_stays part_id goes part_key key (parts_in s) (λ y b f. ap (λ (x : PartRow). goes x.id) (one_row part_key y p (parts_in s) k.part_keys b a (f ∙ sym own)) ∙ t) ∙ q in
      subst (λ (x : Option PartRow). Alike goes (part_draft handset e (draft_without goes d) x (is_open_part_at x z)) (part_draft handset e d (Some p) (is_open_part_at (Some p) s))) (sym some) (stay_part handset e p d k t))
      (cases_Bool (goes p.id))

  -- a report that stays
  stay_report : (handset : List ℕ) (e : Ending) (id : ℕ) (d : Draft) → Stays goes d.store → goes id ≡ false → (o : Option ReportRow) → report_of id (reports_in d.store) ≡ o
      → Alike goes (report_draft handset e (draft_without goes d) o (is_open_status_at o)) (report_draft handset e d o (is_open_status_at o))
  stay_report handset e id d k g None q = (refl, k)
  stay_report handset e id d k g (Some r) q =
      let f = report_found id r (reports_in d.store) q in
      let v : Verdict = if is_open_status r then verdict_of e else Late in
      let ended : Pair goes (report_ended v r (store_without goes d.store)) (report_ended v r d.store) = report_ended_pair v r d.store k f.0 (ap goes f.1 ∙ g) in
      (ap (λ (x : Store). record { store = x; links = link_ended v handset d.links; bindings = d.bindings; answer = d.answer }) ended.0, ended.1)

  gone_report : (handset : List ℕ) (e : Ending) (id : ℕ) (d : Draft) → Stays goes d.store → goes id ≡ true → (o : Option ReportRow) → report_of id (reports_in d.store) ≡ o → report_draft handset e d o (is_open_status_at o) ≡ d
  gone_report handset e id d k t None q = refl
  gone_report handset e id d k t (Some r) q =
      let f = report_found id r (reports_in d.store) q in
      ap (λ (b : Bool). report_draft handset e d (Some r) b) (and_right (is_status r.kind) (not r.progress.is_done) (ap not (k.closed r f.0 (ap goes f.1 ∙ t))))

  pub conclude_alike : (handset : List ℕ) (transfer : Carried) (e : Ending) (d : Draft) → Stays goes d.store → Alike goes (conclude handset transfer e (draft_without goes d)) (conclude handset transfer e d)
  conclude_alike handset transfer e d k = of transfer.tag
    where
      z : Store
      z = store_without goes d.store

      of : (h : Holder) → Alike goes (ended_with (verdict_on h e z) handset h (draft_without goes d)) (ended_with (verdict_on h e d.store) handset h d)
      of (Part id number) = part_found handset e (pair_key id number) d k (part_at id number (parts_in d.store)) refl
      of (Report id) = ⊎_elim
          (λ (t : goes id ≡ true).
          let none : report_of id (reports_in z) ≡ None = ap (λ (l : List ReportRow). report_of id l) k.reports ∙ report_goes goes id (reports_in d.store) t in
          subst (λ (x : Option ReportRow). Alike goes (report_draft handset e (draft_without goes d) x (is_open_status_at x)) (report_draft handset e d (report_of id (reports_in d.store)) (is_open_status_at (report_of id (reports_in d.store))))) (sym none)
          (subst (λ (x : Draft). Alike goes (draft_without goes d) x) (sym (gone_report handset e id d k t (report_of id (reports_in d.store)) refl)) (refl, k)))
          (λ (t : goes id ≡ false).
          subst (λ (x : Option ReportRow). Alike goes (report_draft handset e (draft_without goes d) x (is_open_status_at x)) (report_draft handset e d (report_of id (reports_in d.store)) (is_open_status_at (report_of id (reports_in d.store))))) (sym (report_look goes id d.store k t))
          (stay_report handset e id d k t (report_of id (reports_in d.store)) refl))
          (cases_Bool (goes id))
      of (Entry n) = (refl, k)
      of (Memory n) = (refl, k)

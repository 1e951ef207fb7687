-- The TPDU of what waits: the event made it, or it stands in the store.
use Rattle.std.proofs.Common.{◌≡◌, ℕ, ◌≤◌, List, [], ◌∷◌, Bool, true, false, Option, Some, None, refl, sym, ◌∙◌, ap, subst, ⊎_elim, length, cond, eq-eqb, arith}
use Rattle.std.specs.Prelude.{◌==◌, ◌||◌, is_some, not}
use Rattle.std.specs.Str.{bytes_eq}
use Rattle.std.specs.Option.{option_map}
use Rattle.std.proofs.lemmas.Bool.{and_parts, cases_eq, cond-true, cond-false, cond_both, eqb-false, eqb-true, ne_eqb, or_parts}
use Rattle.sms_base.specs.Among.{Among}
use Rattle.sms_base.specs.declared.originator.Originator.{Originator}
use Rattle.sms_base.specs.declared.originator.Originator.TheVariants.{Application, Handset}
use Rattle.sms_rows.specs.table.Keys.{pair_key}
use Rattle.sms_rows.specs.table.Table.{put, row_at, without}
use Rattle.sms_rows.proofs.table.Tables.{among_found, found_among, found_key, row_at_put, row_at_put_other, row_at_without, row_at_without_other}
use Rattle.sms_centre_rows.specs.declared.messages.message.MessageRow.{MessageRow}
use Rattle.sms_centre_rows.specs.declared.messages.part.PartRow.{PartRow}
use Rattle.sms_centre_rows.specs.messages.Messages.{message_at, part_at, part_key, part_reaching}
use Rattle.sms_centre_rows.specs.messages.OpenParts.{part_wait}
use Rattle.sms_centre_rows.specs.declared.reports.report.ReportKind.{ReportKind}
use Rattle.sms_centre_rows.specs.declared.reports.report.ReportKind.TheVariants.{Receipt, Status, Unsent}
use Rattle.sms_centre_rows.specs.declared.reports.report.ReportRow.{ReportRow}
use Rattle.sms_centre_rows.specs.reports.Reports.{is_open_status, is_status, report_key, report_of, report_reaching, status_tpdu}
use Rattle.sms_centre_rows.specs.reports.SoundReports.{FitsOriginator}
use Rattle.sms_centre_rows.proofs.reports.AllWaiting.{part_waits_at, report_found, report_waits_at}
use Rattle.sms_centre_rows.proofs.reports.FewWaiting.{all_few}
use Rattle.sms_centre_rows.specs.reports.Waiting.{report_queued, report_wait, reports_to}
use Rattle.sms_centre_reports.specs.open_reports.OpenReportsDraft.{is_made as report_is_made, tpdu_in, tpdu_made}
use Rattle.sms_centre_messages.specs.message_index.Puts.{put_in, tpdu_of as tpdu_of_part, tpdu_put}
use Rattle.sms_centre_rows.specs.declared.waiting.queued_part.QueuedPart.{QueuedPart}
use Rattle.sms_centre_rows.specs.declared.waiting.progress.Progress.{Progress}
use Rattle.sms_centre_rows.specs.declared.waiting.revision.Revision.{Revision}
use Rattle.sms_centre_rows.specs.declared.waiting.revision.Revision.TheVariants.{Put, Amend, Remove}
use Rattle.sms_centre_rows.specs.waiting.Keys.{queued_key}
use Rattle.sms_centre_rows.specs.waiting.Revisions.{amended, rows_after}
use Rattle.sms_centre_rows.proofs.waiting.Amending.{row_at_amended, row_at_amended_other}
use Rattle.sms_centre_spec.specs.Draft.{Store, messages_in, parts_in, priorities_in, reports_in, rows_of, waiting_in}
use Rattle.sms_centre_spec.specs.Offering.{is_made, part_tpdu, puts_part, puts_report, report_tpdu, tpdu_of}
use Rattle.sms_centre_spec.specs.SoundRows.{IsSound}
use Rattle.sms_centre_spec.specs.Consistent.{IsConsistent}
use Rattle.sms_centre_events.specs.offering.Stored.{Stores, made_tpdu}
use Rattle.sms_centre_events.proofs.offering.Unput.{PutsNone, stood}
use Rattle.sms_centre_reports.proofs.awaited.AsDefined.{octets_as, puts_as}

-- ---- what waits is a part, or a status report

there_queued : (h : List ℕ) (l : QueuedPart) (s : Store) → IsConsistent s → Among l (waiting_in h s) → row_at queued_key (queued_key l) (waiting_in h s) ≡ Some l
there_queued h l s consistent among = among_found queued_key l (waiting_in h s) (consistent.held.waiting h).keys among

part_there : (h : List ℕ) (l : QueuedPart) (s : Store) → IsConsistent s → Among l (waiting_in h s) → (l.number == 0) ≡ false → (p : PartRow) × (part_at l.id l.number (parts_in s) ≡ Some p)
part_there h l s consistent among nonzero = of (part_at l.id l.number (parts_in s)) refl
  where
    waits : part_wait h (messages_in s) (priorities_in s) (part_at l.id l.number (parts_in s)) ≡ Some l
    waits =
        let ne = eqb-false l.number 0 nonzero in
        sym (part_waits_at h (messages_in s) (priorities_in s) (parts_in s) (reports_in s) l.id l.number consistent.held.parts (omega (arith, ne))
        (all_few h (messages_in s) (priorities_in s) (parts_in s) (reports_in s) consistent.held.parts l among)) ∙ there_queued h l s consistent among

    of : (o : Option PartRow) → part_at l.id l.number (parts_in s) ≡ o → (p : PartRow) × (part_at l.id l.number (parts_in s) ≡ Some p)
    of None e = let none : None ≡ Some l = sym (ap (λ (o : Option PartRow). part_wait h (messages_in s) (priorities_in s) o) e) ∙ waits in absurd cc
    of (Some p) e = (p, e)

report_there : (h : List ℕ) (l : QueuedPart) (s : Store) → IsConsistent s → Among l (waiting_in h s) → (l.number == 0) ≡ true → (r : ReportRow) × ((report_of l.id (reports_in s) ≡ Some r) × (is_status r.kind ≡ true))
report_there h l s consistent among is = of (report_of l.id (reports_in s)) refl
  where
    waits : report_wait h (messages_in s) (report_of l.id (reports_in s)) ≡ Some l
    waits =
        sym (report_waits_at h (messages_in s) (priorities_in s) (parts_in s) (reports_in s) l.id consistent.held.parts consistent.held.alone)
        ∙ ap (λ (n : ℕ). row_at queued_key (pair_key l.id n) (waiting_in h s)) (sym (eqb-true l.number 0 is)) ∙ there_queued h l s consistent among

    told : (r : ReportRow) (m : Option MessageRow) → reports_to h r m ≡ true → is_status r.kind ≡ true
    told r None e = absurd cc
    told r (Some m) e = (and_parts (is_status r.kind) (not r.progress.is_done) (and_parts (is_open_status r) (bytes_eq m.source.digits h) e).0).0

    of : (o : Option ReportRow) → report_of l.id (reports_in s) ≡ o → (r : ReportRow) × ((report_of l.id (reports_in s) ≡ Some r) × (is_status r.kind ≡ true))
    of None e = let none : None ≡ Some l = sym (ap (λ (o : Option ReportRow). report_wait h (messages_in s) o) e) ∙ waits in absurd cc
    of (Some r) e =
        let one : report_wait h (messages_in s) (Some r) ≡ Some l = sym (ap (λ (o : Option ReportRow). report_wait h (messages_in s) o) e) ∙ waits in
        let open_one : reports_to h r (message_at r.id (messages_in s)) ≡ true =
        cond_both (reports_to h r (message_at r.id (messages_in s))) (Some (report_queued r)) None (λ x. x ≡ Some l → reports_to h r (message_at r.id (messages_in s)) ≡ true) (λ t f. t) (λ t f. absurd cc) one in
        (r, (e, told r (message_at r.id (messages_in s)) open_one))

-- ---- a part that the event put

some_or : (b : Bool) (p : PartRow) (o : Option PartRow) (r : Bool) → r ≡ is_some o → (b || r) ≡ is_some (cond b (Some p) o)
some_or true p o r e = refl
some_or false p o r e = e

puts_is : (key : ℕ) (news : List (Revision PartRow)) → puts_part key news ≡ is_some (put_in key news)
puts_is key [] = refl
puts_is key (Put p ∷ news) = some_or (part_key p == key) p (put_in key news) (puts_part key news) (puts_is key news)
puts_is key (Amend n progress ∷ news) = puts_is key news
puts_is key (Remove n ∷ news) = puts_is key news

reached : (p : PartRow) (q : Progress) (o : Option PartRow) → option_map (part_reaching q) o ≡ Some p → (x : PartRow) × ((o ≡ Some x) × (p.tpdu ≡ x.tpdu))
reached p q None e = absurd cc
reached p q (Some x) e = let same : part_reaching q x ≡ p = cc in (x, (refl, sym (ap (λ (y : PartRow). y.tpdu) same)))

put_tpdu : (key : ℕ) (news : List (Revision PartRow)) (base : List PartRow) (p q : PartRow) → put_in key news ≡ Some q → row_at part_key key (rows_after part_key part_reaching news base) ≡ Some p → p.tpdu ≡ q.tpdu
put_tpdu key [] base p q e there = absurd cc
put_tpdu key (Put x ∷ news) base p q e there =
    let rows : List PartRow = rows_after part_key part_reaching news base in
    ⊎_elim
    (λ (own : part_key x ≡ key).
    let one : Some x ≡ Some q = sym (cond-true (part_key x == key) (Some x) (put_in key news) (eq-eqb (part_key x) key own)) ∙ e in
    let two : Some x ≡ Some p = sym (row_at_put part_key x rows) ∙ ap (λ (n : ℕ). row_at part_key n (put part_key x rows)) own ∙ there in
    let a : x ≡ q = cc in
    let b : x ≡ p = cc in
    ap (λ (y : PartRow). y.tpdu) (sym b ∙ a))
    (λ (other : part_key x ≡ key → ⊥).
    put_tpdu key news base p q (sym (cond-false (part_key x == key) (Some x) (put_in key news) (ne_eqb (part_key x) key other)) ∙ e) (sym (row_at_put_other part_key key x rows other) ∙ there))
    (cases_eq (part_key x) key)
put_tpdu key (Amend n g ∷ news) base p q e there =
    let rows : List PartRow = rows_after part_key part_reaching news base in
    ⊎_elim
    (λ (own : n ≡ key).
    let was = reached p g (row_at part_key key rows)
    (sym (row_at_amended part_key part_reaching (λ r x. refl) key g rows) ∙ ap (λ (k : ℕ). row_at part_key key (amended part_key part_reaching k g rows)) (sym own) ∙ there) in
    was.1.1 ∙ put_tpdu key news base was.0 q e was.1.0)
    (λ (other : n ≡ key → ⊥). put_tpdu key news base p q e (sym (row_at_amended_other part_key part_reaching (λ r x. refl) key n g rows other) ∙ there))
    (cases_eq n key)
put_tpdu key (Remove n ∷ news) base p q e there =
    let rows : List PartRow = rows_after part_key part_reaching news base in
    ⊎_elim
    (λ (own : n ≡ key).
    let gone : None ≡ Some p = sym (row_at_without part_key key rows) ∙ ap (λ (k : ℕ). row_at part_key key (without part_key k rows)) (sym own) ∙ there in
    absurd cc)
    (λ (other : n ≡ key → ⊥). put_tpdu key news base p q e (sym (row_at_without_other part_key n key rows other) ∙ there))
    (cases_eq n key)

made_by : (key : ℕ) (news : List (Revision PartRow)) (base : List PartRow) (p : PartRow) → row_at part_key key (rows_after part_key part_reaching news base) ≡ Some p
    → (o : Option PartRow) → put_in key news ≡ o → option_map tpdu_of_part o ≡ cond (is_some o) (Some p.tpdu) None
made_by key news base p there None e = refl
made_by key news base p there (Some q) e = ap (λ (t : List ℕ). Some t) (sym (put_tpdu key news base p q e there))

pub part_made : (h : List ℕ) (l : QueuedPart) (s : Store) → IsConsistent s → Among l (waiting_in h s) → (l.number == 0) ≡ false → tpdu_put (queued_key l) s.messages.parts.news ≡ made_tpdu l s
part_made h l s consistent among nonzero =
    let there = part_there h l s consistent among nonzero in
    let news = s.messages.parts.news in
    let octets : tpdu_of l s ≡ there.0.tpdu =
    cond-false (l.number == 0) (report_tpdu (report_of l.id (reports_in s))) (part_tpdu (part_at l.id l.number (parts_in s))) nonzero ∙ ap part_tpdu there.1 in
    let is : is_made l s ≡ is_some (put_in (queued_key l) news) =
    cond-false (l.number == 0) (puts_report l.id s.reports.news) (puts_part (queued_key l) news) nonzero ∙ puts_is (queued_key l) news in
    made_by (queued_key l) news s.messages.parts.base there.0 there.1 (put_in (queued_key l) news) refl
    ∙ sym (ap (λ (b : Bool). cond b (Some (tpdu_of l s)) None) is ∙ ap (λ (t : List ℕ). cond (is_some (put_in (queued_key l) news)) (Some t) None) octets)

-- ---- a status report that the event made

pub report_made_is : (l : QueuedPart) (s : Store) → (l.number == 0) ≡ true → tpdu_made l.id s.reports ≡ made_tpdu l s
report_made_is l s is =
    let octets : tpdu_of l s ≡ tpdu_in (report_of l.id (reports_in s)) =
    cond-true (l.number == 0) (report_tpdu (report_of l.id (reports_in s))) (part_tpdu (part_at l.id l.number (parts_in s))) is ∙ sym (octets_as (report_of l.id (reports_in s))) in
    let made : is_made l s ≡ report_is_made l.id s.reports.news =
    cond-true (l.number == 0) (puts_report l.id s.reports.news) (puts_part (queued_key l) s.messages.parts.news) is ∙ sym (puts_as l.id s.reports.news) in
    sym (ap (λ (b : Bool). cond b (Some (tpdu_of l s)) None) made ∙ ap (λ (t : List ℕ). cond (report_is_made l.id s.reports.news) (Some t) None) octets)

-- ---- what it did not make stands in the store

abbrev IsPartRow : ℕ → List ℕ → PartRow → Type 0
IsPartRow key tpdu p = (part_key p ≡ key) × (p.tpdu ≡ tpdu)

parts_unput : (key : ℕ) (tpdu : List ℕ) (news : List (Revision PartRow)) → puts_part key news ≡ false → PutsNone (IsPartRow key tpdu) news
parts_unput key tpdu [] e = tt
parts_unput key tpdu (Put p ∷ news) e =
    let both = or_parts (part_key p == key) (puts_part key news) e in
    (λ (is : IsPartRow key tpdu p). eqb-false (part_key p) key both.0 is.0, parts_unput key tpdu news both.1)
parts_unput key tpdu (Amend n progress ∷ news) e = parts_unput key tpdu news e
parts_unput key tpdu (Remove n ∷ news) e = parts_unput key tpdu news e

abbrev IsReportRow : ℕ → ReportKind → ReportRow → Type 0
IsReportRow id kind r = (r.id ≡ id) × (r.kind ≡ kind)

reports_unput : (id : ℕ) (kind : ReportKind) (news : List (Revision ReportRow)) → puts_report id news ≡ false → PutsNone (IsReportRow id kind) news
reports_unput id kind [] e = tt
reports_unput id kind (Put r ∷ news) e =
    let both = or_parts (r.id == id) (puts_report id news) e in
    (λ (is : IsReportRow id kind r). eqb-false r.id id both.0 is.0, reports_unput id kind news both.1)
reports_unput id kind (Amend n progress ∷ news) e = reports_unput id kind news e
reports_unput id kind (Remove n ∷ news) e = reports_unput id kind news e

part_stored : (body : ℕ → Option (List ℕ)) (h : List ℕ) (l : QueuedPart) (s : Store) → Stores body s → IsConsistent s → Among l (waiting_in h s) → (l.number == 0) ≡ false → is_made l s ≡ false
    → body (queued_key l) ≡ Some (tpdu_of l s)
part_stored body h l s stored consistent among nonzero unmade =
    let there = part_there h l s consistent among nonzero in
    let p = there.0 in
    let key : part_key p ≡ queued_key l = found_key part_key (queued_key l) p (parts_in s) there.1 in
    let not_put : puts_part (queued_key l) s.messages.parts.news ≡ false =
    sym (cond-false (l.number == 0) (puts_report l.id s.reports.news) (puts_part (queued_key l) s.messages.parts.news) nonzero) ∙ unmade in
    let row = stood part_key part_reaching (IsPartRow (queued_key l) p.tpdu) (λ q x is. is) s.messages.parts.news s.messages.parts.base p
    (parts_unput (queued_key l) p.tpdu s.messages.parts.news not_put) (found_among part_key (queued_key l) p (parts_in s) there.1) (key, refl) in
    ap body (sym row.1.1.0) ∙ stored.parts row.0 row.1.0 ∙ ap (λ (t : List ℕ). Some t)
    (row.1.1.1 ∙ sym (cond-false (l.number == 0) (report_tpdu (report_of l.id (reports_in s))) (part_tpdu (part_at l.id l.number (parts_in s))) nonzero ∙ ap part_tpdu there.1))

report_stored : (body : ℕ → Option (List ℕ)) (h : List ℕ) (l : QueuedPart) (s : Store) → Stores body s → IsConsistent s → Among l (waiting_in h s) → (l.number == 0) ≡ true → is_made l s ≡ false
    → body (queued_key l) ≡ Some (tpdu_of l s)
report_stored body h l s stored consistent among is unmade =
    let there = report_there h l s consistent among is in
    let r = there.0 in
    let found = report_found l.id r (reports_in s) there.1.0 in
    let not_put : puts_report l.id s.reports.news ≡ false =
    sym (cond-true (l.number == 0) (puts_report l.id s.reports.news) (puts_part (queued_key l) s.messages.parts.news) is) ∙ unmade in
    let row = stood report_key report_reaching (IsReportRow l.id r.kind) (λ q x is. is) s.reports.news s.reports.base r
    (reports_unput l.id r.kind s.reports.news not_put) found.0 (found.1, refl) in
    let key : queued_key l ≡ pair_key row.0.id 0 = ap (λ (n : ℕ). pair_key l.id n) (eqb-true l.number 0 is) ∙ ap (λ (i : ℕ). pair_key i 0) (sym row.1.1.0) in
    ap body key ∙ stored.reports row.0 row.1.0 (ap (λ (k : ReportKind). is_status k) row.1.1.1 ∙ there.1.1) ∙ ap (λ (t : List ℕ). Some t)
    (ap (λ (k : ReportKind). status_tpdu k) row.1.1.1
    ∙ sym (cond-true (l.number == 0) (report_tpdu (report_of l.id (reports_in s))) (part_tpdu (part_at l.id l.number (parts_in s))) is ∙ ap report_tpdu there.1.0))

pub queued_stored : (body : ℕ → Option (List ℕ)) (h : List ℕ) (l : QueuedPart) (s : Store) → Stores body s → IsConsistent s → Among l (waiting_in h s) → is_made l s ≡ false → body (queued_key l) ≡ Some (tpdu_of l s)
queued_stored body h l s stored consistent among unmade = by (l.number == 0) refl
  where
    by : (b : Bool) → (l.number == 0) ≡ b → body (queued_key l) ≡ Some (tpdu_of l s)
    by true e = report_stored body h l s stored consistent among e unmade
    by false e = part_stored body h l s stored consistent among e unmade

-- ---- it is short

fits_status : (k : ReportKind) (o : Originator) (m : MessageRow) (r : ReportRow) → is_status k ≡ true → FitsOriginator k o m r → length (status_tpdu k) ≤ 200
fits_status Receipt o m r e fits = absurd cc
fits_status (Status reference tpdu) (Application account) m r e fits = absurd fits
fits_status (Status reference tpdu) (Handset n) m r e fits = fits.1.1.fits
fits_status Unsent o m r e fits = absurd cc

pub tpdu_short : (h : List ℕ) (l : QueuedPart) (s : Store) → IsSound (rows_of s) → IsConsistent s → Among l (waiting_in h s) → length (tpdu_of l s) ≤ 200
tpdu_short h l s sound consistent among = by (l.number == 0) refl
  where
    by : (b : Bool) → (l.number == 0) ≡ b → length (tpdu_of l s) ≤ 200
    by true e =
        let there = report_there h l s consistent among e in
        let is = sound.reports.each there.0 (report_found l.id there.0 (reports_in s) there.1.0).0 in
        subst (λ (t : List ℕ). length t ≤ 200)
        (sym (cond-true (l.number == 0) (report_tpdu (report_of l.id (reports_in s))) (part_tpdu (part_at l.id l.number (parts_in s))) e ∙ ap report_tpdu there.1.0))
        (fits_status there.0.kind is.message.0.originator is.message.0 there.0 there.1.1 is.message.1.1.1)
    by false e =
        let there = part_there h l s consistent among e in
        let is = sound.messages.each_part there.0 (found_among part_key (queued_key l) there.0 (parts_in s) there.1) in
        subst (λ (t : List ℕ). length t ≤ 200)
        (sym (cond-false (l.number == 0) (report_tpdu (report_of l.id (reports_in s))) (part_tpdu (part_at l.id l.number (parts_in s))) e ∙ ap part_tpdu there.1))
        is.message.1.1.1.fits

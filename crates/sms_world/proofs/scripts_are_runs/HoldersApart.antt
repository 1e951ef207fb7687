-- The rows that an event of the centre tells are of holders that differ, all at the moment of the event.
use Rattle.std.proofs.Common.{◌≡◌, ℕ, ◌<◌, arith, List, [], ◌∷◌, ◌++◌, refl, sym, ◌∙◌, ap, subst, inl, inr, ⊎_elim}
use Rattle.sms_base.proofs.Lists.{among_parts}
use Rattle.sms_base.specs.Among.{Among}
use Rattle.sms_base.specs.declared.holder.Holder.TheVariants.{Part, Report}
use Rattle.sms_script.specs.declared.report.rows.GivenRow.{GivenRow}
use Rattle.sms_centre_rows.specs.messages.Messages.{message_at, part_key}
use Rattle.sms_centre_rows.specs.declared.messages.message.MessageRow.{MessageRow}
use Rattle.sms_centre_rows.specs.declared.messages.part.PartRow.{PartRow}
use Rattle.sms_centre_rows.specs.reports.Reports.{report_key, report_reaching}
use Rattle.sms_centre_rows.specs.declared.reports.report.ReportKind.{ReportKind}
use Rattle.sms_centre_rows.specs.declared.reports.report.ReportKind.TheVariants.{Receipt, Status, Unsent}
use Rattle.sms_centre_rows.specs.declared.reports.report.ReportRow.{ReportRow}
use Rattle.sms_centre_rows.proofs.reports.AllWaiting.{report_found}
use Rattle.sms_rows.specs.table.Keys.{pair_key}
use Rattle.sms_centre_rows.specs.declared.waiting.revision.Revision.{Revision}
use Rattle.sms_centre_rows.specs.declared.waiting.revision.Revision.TheVariants.{Put, Amend, Remove}
use Rattle.sms_centre_rows.specs.waiting.Revisions.{oldest_first, rows_after}
use Rattle.sms_centre_spec.specs.CentreEvent.{happened}
use Rattle.sms_centre_spec.specs.Draft.{Core, Draft, changes_in, messages_in}
use Rattle.sms_centre_spec.specs.SoundCore.{IsEvent, IsSoundCore}
use Rattle.sms_centre_spec.specs.declared.event.CentreEvent.{CentreEvent}
use Rattle.sms_play.specs.CentreSide.{given_by, parts_given as part_rows, report_given, reports_given, source_in}
use Rattle.sms_world.specs.headline.SeenWorld.{HoldersDiffer}
use Rattle.sms_world.proofs.scripts_are_runs.GivenBy.{IsReportRow, in_parts, in_reports, part_row}
use Rattle.sms_world.proofs.scripts_are_runs.Latest.{differ_append}
use Rattle.sms_world.proofs.scripts_are_runs.PartsInOrder.{AllBelow, PutsFall, event_puts}
use Rattle.sms_world.proofs.scripts_are_runs.PutsReported.{rows_over}
use Rattle.sms_world.proofs.scripts_are_runs.ReportMoves.{Reporting, ReportsMove, came, event_reports, put_report_new}

-- ---- parts

one_differs : (g : GivenRow) → HoldersDiffer (g ∷ [])
one_differs g = ((λ is y i down. absurd i), tt)

put_of : (p q : PartRow) → Put p ≡ Put q → p ≡ q
put_of p q e = cc

is_below : (key : ℕ) (news : List (Revision PartRow)) (p : PartRow) → AllBelow key news → Among (Put p) news → part_key p < key
is_below key [] p below i = absurd i
is_below key (Put x ∷ news) p below i = ⊎_elim
    (λ (e : Put p ≡ Put x). subst (λ (z : PartRow). part_key z < key) (sym (put_of p x e)) below.0)
    (λ (j : Among (Put p) news). is_below key news p below.1 j)
    i
is_below key (Amend n q ∷ news) p below i = ⊎_elim (λ (e : Put p ≡ Amend n q). absurd cc) (λ (j : Among (Put p) news). is_below key news p below j) i
is_below key (Remove n ∷ news) p below i = ⊎_elim (λ (e : Put p ≡ Remove n). absurd cc) (λ (j : Among (Put p) news). is_below key news p below j) i

-- as they are committed, and as they came
arrived_so : {A : Type 0} (x : Revision A) (news : List (Revision A)) → Among x (oldest_first news) → Among x news
arrived_so x [] i = absurd i
arrived_so x (y ∷ news) i = ⊎_elim
    (λ (j : Among x (oldest_first news)). inr (arrived_so x news j))
    (λ (j : Among x (y ∷ [])). ⊎_elim (λ (e : x ≡ y). inl e) (λ none. absurd none) j)
    (among_parts x (oldest_first news) (y ∷ []) i)

same_part : (a b m n : ℕ) → Part a m ≡ Part b n → (a ≡ b) × (m ≡ n)
same_part a b m n e = (let x : a ≡ b = cc in x, let y : m ≡ n = cc in y)

not_itself : (a b : ℕ) → a < b → a ≡ b → ⊥
not_itself a b l e = omega (arith, l, e)

module _ (moment : ℕ) (ms : List MessageRow) where
  parts_differ : (news : List (Revision PartRow)) → PutsFall news → HoldersDiffer (part_rows moment ms (oldest_first news))
  parts_differ [] fall = tt
  parts_differ (Put p ∷ news) fall =
      subst (λ (rows : List GivenRow). HoldersDiffer rows) (sym (rows_over moment ms (oldest_first news) (Put p ∷ [])))
      (differ_append (part_rows moment ms (oldest_first news)) (part_row moment ms p ∷ []) (parts_differ news fall.1) (one_differs (part_row moment ms p))
      (λ x y i j is down e.
      let k = in_parts moment ms (oldest_first news) x i in
      let own : y ≡ part_row moment ms p = ⊎_elim (λ (q : y ≡ part_row moment ms p). q) (λ none. absurd none) j in
      let same = same_part k.0.id p.id k.0.number p.number (ap (λ (z : GivenRow). z.holder) (sym k.1.1) ∙ e ∙ ap (λ (z : GivenRow). z.holder) own) in
      not_itself (part_key k.0) (part_key p) (is_below (part_key p) news k.0 fall.0 (arrived_so (Put k.0) news k.1.0)) (λ t. pair_key (same.0 t) (same.1 t))))
  parts_differ (Amend n q ∷ news) fall =
      subst (λ (rows : List GivenRow). HoldersDiffer rows) (sym (rows_over moment ms (oldest_first news) (Amend n q ∷ [])))
      (differ_append (part_rows moment ms (oldest_first news)) [] (parts_differ news fall) tt (λ x y i j. absurd j))
  parts_differ (Remove n ∷ news) fall =
      subst (λ (rows : List GivenRow). HoldersDiffer rows) (sym (rows_over moment ms (oldest_first news) (Remove n ∷ [])))
      (differ_append (part_rows moment ms (oldest_first news)) [] (parts_differ news fall) tt (λ x y i j. absurd j))

  -- ---- status reports

  joined : (xs ys zs : List GivenRow) → (xs ++ ys) ++ zs ≡ xs ++ (ys ++ zs)
  joined [] ys zs = refl
  joined (x ∷ xs) ys zs = ap (λ (z : List GivenRow). x ∷ z) (joined xs ys zs)

  reports_over : (xs ys : List (Revision ReportRow)) → reports_given moment ms (xs ++ ys) ≡ reports_given moment ms xs ++ reports_given moment ms ys
  reports_over [] ys = refl
  reports_over (Put r ∷ xs) ys =
      let rows : List GivenRow = report_given moment r.id (source_in (message_at r.id ms)) r.kind in
      ap (λ (z : List GivenRow). rows ++ z) (reports_over xs ys) ∙ sym (joined rows (reports_given moment ms xs) (reports_given moment ms ys))
  reports_over (Amend n q ∷ xs) ys = reports_over xs ys
  reports_over (Remove n ∷ xs) ys = reports_over xs ys

  kind_differs : (id : ℕ) (handset : List ℕ) (k : ReportKind) → HoldersDiffer (report_given moment id handset k ++ [])
  kind_differs id handset Receipt = tt
  kind_differs id handset (Status reference tpdu) = ((λ is y i down. absurd i), tt)
  kind_differs id handset Unsent = tt

  kind_holder : (id : ℕ) (handset : List ℕ) (k : ReportKind) (y : GivenRow) → Among y (report_given moment id handset k ++ []) → y.holder ≡ Report id
  kind_holder id handset Receipt y i = absurd i
  kind_holder id handset (Status reference tpdu) y i = ⊎_elim (λ (e : y ≡ _). ap (λ (z : GivenRow). z.holder) e) (λ none. absurd none) i
  kind_holder id handset Unsent y i = absurd i

  same_report : (a b : ℕ) → Report a ≡ Report b → a ≡ b
  same_report a b e = cc

  reports_differ : (news : List (Revision ReportRow)) (rs : List ReportRow) → ReportsMove news rs → HoldersDiffer (reports_given moment ms (oldest_first news))
  reports_differ [] rs moves = tt
  reports_differ (Put r ∷ news) rs moves =
      subst (λ (rows : List GivenRow). HoldersDiffer rows) (sym (reports_over (oldest_first news) (Put r ∷ [])))
      (differ_append (reports_given moment ms (oldest_first news)) (report_given moment r.id (source_in (message_at r.id ms)) r.kind ++ []) (reports_differ news rs moves.1)
      (kind_differs r.id (source_in (message_at r.id ms)) r.kind)
      (λ x y i j is down e.
      let k : IsReportRow moment ms (oldest_first news) x = in_reports moment ms (oldest_first news) x i in
      let stands = (put_report_new k.report news rs moves.1 (came (Put k.report) news k.among)).stays in
      let found = report_found k.report.id stands.0 (rows_after report_key report_reaching news rs) stands.1.0 in
      let same : k.report.id ≡ r.id =
      same_report k.report.id r.id (ap (λ (z : GivenRow). z.holder) (sym k.row) ∙ e ∙ kind_holder r.id (source_in (message_at r.id ms)) r.kind y j) in
      moves.0.message stands.0 found.0 (found.1 ∙ same)))
  reports_differ (Amend n q ∷ news) rs moves =
      subst (λ (rows : List GivenRow). HoldersDiffer rows) (sym (reports_over (oldest_first news) (Amend n q ∷ [])))
      (differ_append (reports_given moment ms (oldest_first news)) [] (reports_differ news rs moves) tt (λ x y i j. absurd j))
  reports_differ (Remove n ∷ news) rs moves = absurd moves

  part_report : (a m b : ℕ) → Part a m ≡ Report b → ⊥
  part_report a m b e = absurd cc

  both_differ : (ps : List (Revision PartRow)) (rs : List (Revision ReportRow)) → HoldersDiffer (part_rows moment ms ps) → HoldersDiffer (reports_given moment ms rs)
      → HoldersDiffer (part_rows moment ms ps ++ reports_given moment ms rs)
  both_differ ps rs a b =
      differ_append (part_rows moment ms ps) (reports_given moment ms rs) a b
      (λ x y i j is down e.
      let k = in_parts moment ms ps x i in
      let l : IsReportRow moment ms rs y = in_reports moment ms rs y j in
      part_report k.0.id k.0.number l.report.id (ap (λ (z : GivenRow). z.holder) (sym k.1.1) ∙ e ∙ ap (λ (z : GivenRow). z.holder) l.row))

-- ---- an event

pub event_differs : (event : CentreEvent) (c : Core) → IsSoundCore c → IsEvent event → HoldersDiffer (given_by (happened event c))
event_differs event c sound is =
    let d : Draft = happened event c in
    let k : Reporting c.rows d.store = event_reports event c sound is in
    both_differ d.store.moment (messages_in d.store) (changes_in d.store).parts (changes_in d.store).reports
    (parts_differ d.store.moment (messages_in d.store) d.store.messages.parts.news (event_puts event c sound is))
    (reports_differ d.store.moment (messages_in d.store) d.store.reports.news d.store.reports.base k.moves)

pub rows_now : (d : Draft) (g : GivenRow) → Among g (given_by d) → g.moment ≡ d.store.moment
rows_now d g i =
    let moment : ℕ = d.store.moment in
    let ms : List MessageRow = messages_in d.store in
    ⊎_elim
    (λ (j : Among g (part_rows moment ms (changes_in d.store).parts)). let x = in_parts moment ms (changes_in d.store).parts g j in ap (λ (z : GivenRow). z.moment) x.1.1)
    (λ (j : Among g (reports_given moment ms (changes_in d.store).reports)). ap (λ (z : GivenRow). z.moment) (in_reports moment ms (changes_in d.store).reports g j).row)
    (among_parts g (part_rows moment ms (changes_in d.store).parts) (reports_given moment ms (changes_in d.store).reports) i)

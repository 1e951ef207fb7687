-- The reports that an event made are noted, and stay of their kind.
use Rattle.std.proofs.Common.{◌≡◌, ℕ, zero, suc, List, [], ◌∷◌, ◌++◌, Option, Some, None, refl, sym, ◌∙◌, ap, subst, ⊎_elim, length, eq-eqb, get_or, ◌<◌, ◌≤◌, arith}
use Rattle.std.specs.Prelude.{◌==◌, ◌||◌, Bool, true, false}
use Rattle.std.proofs.lemmas.Bool.{cases_eq, cond-true, cond-false, ne_eqb}
use Rattle.std.proofs.lemmas.Option.{same_Some}
use Rattle.sms_rows.specs.table.Table.{Rises, put, row_at}
use Rattle.sms_rows.proofs.table.Tables.{row_at_put, row_at_put_other}
use Rattle.sms_centre_rows.specs.declared.messages.message.MessageRow.{MessageRow}
use Rattle.sms_centre_rows.specs.declared.reports.report.ReportKind.{ReportKind}
use Rattle.sms_centre_rows.specs.declared.reports.report.ReportRow.{ReportRow}
use Rattle.sms_centre_rows.specs.reports.Reports.{report_key, report_of, report_reaching, reports_of, status_tpdu}
use Rattle.sms_centre_rows.specs.reports.Waiting.{Alone}
use Rattle.sms_centre_reports.specs.open_reports.Became.{Became}
use Rattle.sms_centre_reports.specs.declared.open_reports.made.MadeEntry.{MadeEntry}
use Rattle.sms_centre_reports.specs.open_reports.OpenReportsDraft.{IsNotedAs, OpenReportsDraftOf, Stays, DraftRepresents, is_made, made_in, made_key, put_at, put_of, tpdu_in, tpdu_made}
use Rattle.sms_centre_reports.specs.open_reports.Entries.{account_in}
use Rattle.sms_centre_rows.specs.messages.Messages.{message_at}
use Rattle.sms_centre_reports.proofs.open_reports.Becoming.{became_far}
use Rattle.sms_centre_reports.proofs.open_reports.Keeping.{other_messages}
use Rattle.sms_centre_rows.specs.declared.waiting.progress.Progress.{Progress}
use Rattle.sms_centre_rows.specs.declared.waiting.revision.Revision.{Revision}
use Rattle.sms_centre_rows.specs.declared.waiting.revision.Revision.TheVariants.{Put, Amend, Remove}
use Rattle.sms_centre_rows.specs.waiting.Revisions.{Revised, amended}

-- ---- places among changes

put_last : (c : Revision ReportRow) (cs : List (Revision ReportRow)) → put_at (length cs) (cs ++ c ∷ []) ≡ put_of c
put_last c [] = refl
put_last c (d ∷ cs) = put_last c cs

pub put_past : (place : ℕ) (cs : List (Revision ReportRow)) → length cs ≤ place → put_at place cs ≡ None
put_past place [] l = refl
put_past zero (d ∷ cs) l = absurd (omega (arith, l))
put_past (suc place) (d ∷ cs) l = put_past place cs (omega (arith, l))

pub put_there : (place : ℕ) (d : Revision ReportRow) (cs : List (Revision ReportRow)) → place < length cs → put_at place cs ≡ put_of (get_or cs place d)
put_there place d [] l = absurd (omega (arith, l))
put_there zero d (c ∷ cs) l = refl
put_there (suc place) d (c ∷ cs) l = put_there place d cs (omega (arith, l))

put_before : (place : ℕ) (r : ReportRow) (c : Revision ReportRow) (cs : List (Revision ReportRow)) → put_at place cs ≡ Some r → put_at place (cs ++ c ∷ []) ≡ Some r
put_before place r c [] e = absurd cc
put_before zero r c (d ∷ cs) e = e
put_before (suc place) r c (d ∷ cs) e = put_before place r c cs e

-- ---- what was made

made_here : (id : ℕ) (r : ReportRow) (news : List (Revision ReportRow)) → r.id ≡ id → made_in id (Put r ∷ news) ≡ Some r
made_here id r news e = cond-true (r.id == id) (Some r) (made_in id news) (eq-eqb r.id id e)

made_behind : (id : ℕ) (r : ReportRow) (news : List (Revision ReportRow)) → ¬ (r.id ≡ id) → made_in id (Put r ∷ news) ≡ made_in id news
made_behind id r news ne = cond-false (r.id == id) (Some r) (made_in id news) (ne_eqb r.id id ne)

still_noted : (o : Option MadeEntry) (id : ℕ) (c : Revision ReportRow) (changes news others : List (Revision ReportRow)) → made_in id others ≡ made_in id news → IsNotedAs o id changes news → IsNotedAs o id (changes ++ c ∷ []) others
still_noted None id c changes news others e h = e ∙ h
still_noted (Some m) id c changes news others e h = (h.0, (e ∙ h.1.0, put_before m.at h.0 c changes h.1.1))

pub noted_put : (made : List MadeEntry) (changes news : List (Revision ReportRow)) (r : ReportRow) → ((id : ℕ) → IsNotedAs (row_at made_key id made) id changes news)
    → (id : ℕ) → IsNotedAs (row_at made_key id (put made_key (record { id = r.id; at = length changes }) made)) id (changes ++ Put r ∷ []) (Put r ∷ news)
noted_put made changes news r noted id =
    let m : MadeEntry = record { id = r.id; at = length changes } in
    ⊎_elim
    (λ (e : r.id ≡ id).
    subst (λ (o : Option MadeEntry). IsNotedAs o id (changes ++ Put r ∷ []) (Put r ∷ news)) (sym (ap (λ (k : ℕ). row_at made_key k (put made_key m made)) (sym e) ∙ row_at_put made_key m made))
    (r, (made_here id r news e, put_last (Put r) changes)))
    (λ (ne : r.id ≡ id → ⊥).
    subst (λ (o : Option MadeEntry). IsNotedAs o id (changes ++ Put r ∷ []) (Put r ∷ news)) (sym (row_at_put_other made_key id m made ne))
    (still_noted (row_at made_key id made) id (Put r) changes news (Put r ∷ news) (made_behind id r news ne) (noted id)))
    (cases_eq r.id id)

pub noted_far : (made : List MadeEntry) (changes news : List (Revision ReportRow)) (n : ℕ) (q : Progress) → ((id : ℕ) → IsNotedAs (row_at made_key id made) id changes news)
    → (id : ℕ) → IsNotedAs (row_at made_key id made) id (changes ++ Amend n q ∷ []) (Amend n q ∷ news)
noted_far made changes news n q noted id = still_noted (row_at made_key id made) id (Amend n q) changes news (Amend n q ∷ news) refl (noted id)

pub noted_gone : (made : List MadeEntry) (changes news : List (Revision ReportRow)) (n : ℕ) → ((id : ℕ) → IsNotedAs (row_at made_key id made) id changes news)
    → (id : ℕ) → IsNotedAs (row_at made_key id made) id (changes ++ Remove n ∷ []) (Remove n ∷ news)
noted_gone made changes news n noted id = still_noted (row_at made_key id made) id (Remove n) changes news (Remove n ∷ news) refl (noted id)

-- ---- they stay

pub stay_put : (news : List (Revision ReportRow)) (before after : List ReportRow) (r : ReportRow) → Became before after r → ((id : ℕ) → Stays (made_in id news) (report_of id before))
    → (id : ℕ) → Stays (made_in id (Put r ∷ news)) (report_of id after)
stay_put news before after r became stay id = ⊎_elim
    (λ (e : r.id ≡ id).
    subst (λ (o : Option ReportRow). Stays o (report_of id after)) (sym (made_here id r news e)) (r, (ap (λ (k : ℕ). report_of k after) (sym e) ∙ became.here, refl)))
    (λ (ne : r.id ≡ id → ⊥).
    subst (λ (o : Option ReportRow). Stays o (report_of id after)) (sym (made_behind id r news ne))
    (subst (λ (o : Option ReportRow). Stays (made_in id news) o) (sym (became.others id ne)) (stay id)))
    (cases_eq r.id id)

far_stays : (o : Option ReportRow) (r : ReportRow) (q : Progress) (rows after : List ReportRow) → report_of r.id rows ≡ Some r → report_of r.id after ≡ Some (report_reaching q r) → Stays o (report_of r.id rows) → Stays o (report_of r.id after)
far_stays None r q rows after there so stays = tt
far_stays (Some m) r q rows after there so stays =
    let same : r ≡ stays.0 = same_Some r stays.0 (sym there ∙ stays.1.0) in
    (report_reaching q r, (so, subst (λ (x : ReportRow). x.kind ≡ m.kind) (sym same) stays.1.1))

pub stay_far : (news : List (Revision ReportRow)) (rows : List ReportRow) (r : ReportRow) (q : Progress) → Rises report_key rows → Alone rows → report_of r.id rows ≡ Some r → ((id : ℕ) → Stays (made_in id news) (report_of id rows))
    → (id : ℕ) → Stays (made_in id (Amend (report_key r) q ∷ news)) (report_of id (amended report_key report_reaching (report_key r) q rows))
stay_far news rows r q keys alone there stay id =
    let after : List ReportRow = amended report_key report_reaching (report_key r) q rows in
    let became = became_far r q rows keys alone there in
    ⊎_elim
    (λ (e : r.id ≡ id).
    subst (λ (k : ℕ). Stays (made_in k news) (report_of k after)) e (far_stays (made_in r.id news) r q rows after there became.here (stay r.id)))
    (λ (ne : r.id ≡ id → ⊥). subst (λ (o : Option ReportRow). Stays (made_in id news) o) (sym (became.others id ne)) (stay id))
    (cases_eq r.id id)

-- ---- the octets

made_not : (id : ℕ) (news : List (Revision ReportRow)) → made_in id news ≡ None → is_made id news ≡ false
made_not id [] e = refl
made_not id (Put r ∷ news) e = ⊎_elim
    (λ (f : r.id ≡ id). let bad : Some r ≡ None = sym (made_here id r news f) ∙ e in absurd cc)
    (λ (ne : r.id ≡ id → ⊥). ap (λ (b : Bool). b || is_made id news) (ne_eqb r.id id ne) ∙ made_not id news (sym (made_behind id r news ne) ∙ e))
    (cases_eq r.id id)
made_not id (Amend n q ∷ news) e = made_not id news e
made_not id (Remove n ∷ news) e = made_not id news e

made_is : (id : ℕ) (r : ReportRow) (news : List (Revision ReportRow)) → made_in id news ≡ Some r → is_made id news ≡ true
made_is id r [] e = absurd cc
made_is id r (Put s ∷ news) e = ⊎_elim
    (λ (f : s.id ≡ id). ap (λ (b : Bool). b || is_made id news) (eq-eqb s.id id f))
    (λ (ne : s.id ≡ id → ⊥). ap (λ (b : Bool). b || is_made id news) (ne_eqb s.id id ne) ∙ made_is id r news (sym (made_behind id s news ne) ∙ e))
    (cases_eq s.id id)
made_is id r (Amend n q ∷ news) e = made_is id r news e
made_is id r (Remove n ∷ news) e = made_is id r news e

module _ (ms : List MessageRow) (p : OpenReportsDraftOf) (t : Revised ReportRow) (tells : DraftRepresents ms p t) (id : ℕ) where
  noted_as : (o : Option MadeEntry) → row_at made_key id p.made ≡ o → IsNotedAs o id p.changes t.news
  noted_as o e = subst (λ (x : Option MadeEntry). IsNotedAs x id p.changes t.news) e (tells.noted id)

  pub none_made : row_at made_key id p.made ≡ None → None ≡ tpdu_made id t
  none_made e = sym (cond-false (is_made id t.news) (Some (tpdu_in (report_of id (reports_of t)))) None (made_not id t.news (noted_as None e)))

  pub never_lost : (m : MadeEntry) → row_at made_key id p.made ≡ Some m → put_at m.at p.changes ≡ None → ⊥
  never_lost m e f =
      let noted = noted_as (Some m) e in
      let bad : None ≡ Some noted.0 = sym f ∙ noted.1.1 in absurd cc

  stays_there : (r : ReportRow) → made_in id t.news ≡ Some r → tpdu_in (report_of id (reports_of t)) ≡ status_tpdu r.kind
  stays_there r e =
      let stays = subst (λ (o : Option ReportRow). Stays o (report_of id (reports_of t))) e (tells.stay id) in
      ap (λ (o : Option ReportRow). tpdu_in o) stays.1.0 ∙ ap (λ (k : ReportKind). status_tpdu k) stays.1.1

  pub one_made : (m : MadeEntry) (r : ReportRow) → row_at made_key id p.made ≡ Some m → put_at m.at p.changes ≡ Some r → Some (status_tpdu r.kind) ≡ tpdu_made id t
  one_made m r e f =
      let noted = noted_as (Some m) e in
      let same : noted.0 ≡ r = same_Some noted.0 r (sym noted.1.1 ∙ f) in
      let made : made_in id t.news ≡ Some r = noted.1.0 ∙ ap (λ (x : ReportRow). Some x) same in
      sym (cond-true (is_made id t.news) (Some (tpdu_in (report_of id (reports_of t)))) None (made_is id r t.news made) ∙ ap (λ (o : List ℕ). Some o) (stays_there r made))

-- ---- messages change

pub told_of_others : (ms others : List MessageRow) (p : OpenReportsDraftOf) (t : Revised ReportRow) → DraftRepresents ms p t
    → ((r : ReportRow) → report_of r.id (reports_of t) ≡ Some r → account_in (message_at r.id others) ≡ account_in (message_at r.id ms)) → DraftRepresents others p t
told_of_others ms others p t tells same = record {
  current = other_messages ms others p.current (reports_of t) tells.current same;
  changes = tells.changes;
  noted = tells.noted;
  stay = tells.stay;
}

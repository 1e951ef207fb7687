-- Old status reports are dropped, from a place on.
use Rattle.std.proofs.Common.{◌≡◌, ℕ, ◌+◌, ◌≤◌, List, [], ◌∷◌, Bool, true, Option, Some, None, refl, sym, ◌∙◌, ap, subst}
use Rattle.std.specs.Prelude.{IfSome, false, nat_le, if◌then◌else◌}
use Rattle.std.proofs.lemmas.Bool.{leb-true}
use Rattle.sms_rows.specs.index.First.{first_such, is_past_from}
use Rattle.sms_centre_reports.specs.open_reports.Entries.{status_key, status_until}
use Rattle.sms_centre_reports.specs.open_reports.OpenReports.{OpenReportsOf, Represents as RepresentsReports}
use Rattle.sms_centre_reports.specs.declared.open_reports.entry.StatusEntry.{StatusEntry}
use Rattle.sms_centre_rows.specs.declared.reports.report.ReportRow.{ReportRow}
use Rattle.sms_centre_rows.specs.reports.Reports.{is_open_status, report_of}
use Rattle.sms_centre_spec.specs.CentreEvent.{dropped}
use Rattle.sms_centre_spec.specs.Draft.{Draft, Store, in_store, messages_in, reports_in}
use Rattle.sms_centre_spec.specs.Transfers.{report_closed}
use Rattle.sms_centre_draft.specs.walks.OldReports.{drop_from}
use Rattle.sms_centre_draft.specs.CentreDraft.{Represents, CentreDraftOf}

-- the one that is found stands at that place or behind it
pub found_behind : (first now : ℕ) (es : List StatusEntry) (e : StatusEntry) → first_such (is_past_from status_key status_until first now) es ≡ Some e → first ≤ e.place
found_behind first now [] e is = absurd cc
found_behind first now (x ∷ xs) e is = by (is_past_from status_key status_until first now x) refl (λ q. found_behind first now xs e q) where
  test : (b : Bool) (c : Bool) → (if b then c else false) ≡ true → b ≡ true
  test true c t = refl
  test false c t = absurd cc

  by : (b : Bool) → is_past_from status_key status_until first now x ≡ b → (first_such (is_past_from status_key status_until first now) xs ≡ Some e → first ≤ e.place) → first ≤ e.place
  by true t rest =
      let same : x ≡ e = cc in
      subst (λ (y : StatusEntry). first ≤ y.place) same (leb-true first x.place (test (nat_le first x.place) (nat_le x.until now) t))
  by false t rest = rest (sym (ap (λ (b : Bool). if b then Some x else first_such (is_past_from status_key status_until first now) xs) t) ∙ is)

pub behind_some : (first now : ℕ) (es : List StatusEntry) (o : Option StatusEntry) → o ≡ first_such (is_past_from status_key status_until first now) es → IfSome o (λ e. first ≤ e.place)
behind_some first now es None is = tt
behind_some first now es (Some e) is = found_behind first now es e (sym is)

pub record IsLeft (d : Draft) (first : ℕ) (w : CentreDraftOf) : Type 0 where
  pub store : Store
  pub represents : Represents (in_store store d) w
  pub goes : drop_from first store ≡ dropped d.store

-- the status entries, and the moment, of what is shown
abbrev pub first_in : ℕ → CentreDraftOf → Option StatusEntry
first_in first w = first_such (is_past_from status_key status_until first w.moment) w.reports.current.statuses

found_at : (d : Draft) (w : CentreDraftOf) (s : Store) (first : ℕ) (o : Option StatusEntry) → Represents (in_store s d) w → o ≡ first_in first w
    → first_such (is_past_from status_key status_until first s.moment) w.reports.current.statuses ≡ o
found_at d w s first o represents is = ap (λ (n : ℕ). first_such (is_past_from status_key status_until first n) w.reports.current.statuses) (sym represents.moment) ∙ sym is

-- the laws of the walk
abbrev pub NextLaw : Type 0
NextLaw = (s : Store) (kept : OpenReportsOf) (first : ℕ) (e : StatusEntry) → RepresentsReports (messages_in s) kept (reports_in s) → first_such (is_past_from status_key status_until first s.moment) kept.statuses ≡ Some e
    → (r : ReportRow) × ((report_of e.id (reports_in s) ≡ Some r) × (is_open_status r ≡ true) × (drop_from first s ≡ drop_from (e.place + 1) (report_closed r s)))

abbrev pub NoneLaw : Type 0
NoneLaw = (s : Store) (kept : OpenReportsOf) (first : ℕ) → RepresentsReports (messages_in s) kept (reports_in s) → first_such (is_past_from status_key status_until first s.moment) kept.statuses ≡ None → drop_from first s ≡ s

pub left_next : NextLaw → (d : Draft) (first : ℕ) (e : StatusEntry) (w new : CentreDraftOf) → IsLeft d first w → Some e ≡ first_in first w
    → ((x : Draft) (r : ReportRow) → Represents x w → report_of e.id (reports_in x.store) ≡ Some r → is_open_status r ≡ true → Represents (in_store (report_closed r x.store) x) new)
    → IsLeft d (e.place + 1) new
left_next law d first e w new left is does =
    let s : Store = left.store in
    let next = law s w.reports.current first e left.represents.reports.current (found_at d w s first (Some e) left.represents is) in
    record {
      store = report_closed next.0 s;
      represents = does (in_store s d) next.0 left.represents next.1.0 next.1.1;
      goes = sym next.1.2 ∙ left.goes;
    }

pub left_none : NoneLaw → (d : Draft) (first : ℕ) (w : CentreDraftOf) → IsLeft d first w → None ≡ first_in first w → Represents (in_store (dropped d.store) d) w
left_none law d first w left is =
    let s : Store = left.store in
    subst (λ (x : Store). Represents (in_store x d) w) (sym (law s w.reports.current first left.represents.reports.current (found_at d w s first None left.represents is)) ∙ left.goes) left.represents

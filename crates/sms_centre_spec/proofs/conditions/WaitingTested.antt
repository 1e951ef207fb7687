-- The tests of what waits hold exactly where a centre can stand on it, at every handset.
use Rattle.std.proofs.Common.{◌≡◌, ◌⊎◌, ℕ, ◌<◌, List, filter_map, true, false, Option, Some, None, refl, sym, ◌∙◌, ap, subst, inl, inr, ⊎_elim, arith}
use Rattle.std.specs.Prelude.{◌&&◌, not}
use Rattle.std.specs.Str.{bytes_eq}
use Rattle.std.proofs.lemmas.Bool.{and_from, and_parts, cases_Bool, cases_eq, cond-true, cond-false}
use Rattle.std.proofs.lemmas.Slice.Eq.{bytes_eq-Decides}
use Rattle.sms_base.specs.Among.{Among}
use Rattle.sms_base.specs.declared.address.Address.{Address}
use Rattle.sms_base.specs.declared.originator.Originator.{Originator}
use Rattle.sms_base.specs.declared.originator.Originator.TheVariants.{Application, Handset}
use Rattle.sms_rows.specs.table.Keys.{pair_key}
use Rattle.sms_rows.specs.table.Table.{row_at}
use Rattle.sms_rows.proofs.table.KeyLaws.{pairs_apart}
use Rattle.sms_rows.proofs.table.Tables.{among_found, found_among}
use Rattle.sms_centre_rows.specs.declared.messages.message.MessageRow.{MessageRow}
use Rattle.sms_centre_rows.specs.declared.messages.part.PartRow.{PartRow}
use Rattle.sms_centre_rows.specs.declared.messages.priority.PriorityRow.{PriorityRow}
use Rattle.sms_centre_rows.specs.messages.Messages.{is_pending, message_at, message_key, part_at, part_key}
use Rattle.sms_centre_rows.specs.messages.OpenParts.{Numbered, part_queued, part_wait, waits_for}
use Rattle.sms_centre_rows.specs.messages.SoundMessages.{SoundMessages}
use Rattle.sms_centre_rows.specs.declared.reports.report.ReportKind.{ReportKind}
use Rattle.sms_centre_rows.specs.declared.reports.report.ReportKind.TheVariants.{Receipt, Status, Unsent}
use Rattle.sms_centre_rows.specs.declared.reports.report.ReportRow.{ReportRow}
use Rattle.sms_centre_rows.specs.reports.Reports.{is_open_status, is_status, report_key, report_of, status_reference}
use Rattle.sms_centre_rows.specs.reports.SoundReports.{FitsOriginator, SoundReports}
use Rattle.sms_centre_rows.specs.reports.Waiting.{Alone, report_queued, report_wait, reports_to, waiting_for}
use Rattle.sms_centre_rows.proofs.reports.AllWaiting.{part_waits_at as part_waits, report_found, report_waits_at as report_waits, rises_all}
use Rattle.sms_centre_rows.proofs.reports.FewWaiting.{all_few}
use Rattle.sms_centre_rows.specs.declared.waiting.handset.HandsetRow.{HandsetRow}
use Rattle.sms_centre_rows.specs.declared.waiting.queued_part.QueuedPart.{QueuedPart}
use Rattle.sms_centre_rows.specs.declared.waiting.reference.ReferenceRow.{ReferenceRow}
use Rattle.sms_centre_rows.specs.waiting.Keys.{handset_key, queued_key}
use Rattle.sms_centre_rows.specs.waiting.References.{handset_at}
use Rattle.sms_centre_rows.specs.waiting.SoundAllocations.{IsNumber, SoundAllocations, reference_at}
use Rattle.sms_centre_rows.specs.waiting.SoundWaiting.{SoundWaiting, WasGiven}
use Rattle.sms_centre_rows.proofs.waiting.Mentions.{number_found}
use Rattle.sms_centre_spec.specs.SoundRows.{HasReportAddress}
use Rattle.sms_centre_spec.proofs.SoundStores.{alone_from}
use Rattle.sms_centre_spec.proofs.SteadyTimes.{report_none}
use Rattle.sms_centre_rows.specs.conditions.WaitingTest.{Places, WaitingPass, hold_at, hold_of, holds, is_row, part_given, part_hold, part_waits_at, report_given, report_hold, report_waits_at, was_given}
use Rattle.sms_centre_spec.proofs.conditions.DifferTested.{AreDistinct, distinct_from, distinct_to}
use Rattle.sms_centre_spec.proofs.conditions.HoldsApart.{among_preserved, distinct_back, distinct_both, distinct_front, preserved_among, preserved_differ, not_both, one_preserved}
use Rattle.sms_centre_rows.proofs.conditions.Passing.{each_from, each_to, is_there, there_is}
use Rattle.sms_centre_spec.proofs.conditions.PlacesFound.{held, hold_is}

-- ---- where a part or a report waits

part_number : (n : List ℕ) (p : PartRow) (o : Option MessageRow) → waits_for n p o ≡ true → part_waits_at p o ≡ Some n
part_number n p None e = absurd cc
part_number n p (Some m) e =
    let a = and_parts (not p.progress.is_done) (is_pending m && bytes_eq m.handset n) e in
    let b = and_parts (is_pending m) (bytes_eq m.handset n) a.1 in
    cond-true (not p.progress.is_done && is_pending m) (Some m.handset) None (and_from (not p.progress.is_done) (is_pending m) a.0 b.0)
    ∙ ap (λ (x : List ℕ). Some x) ((bytes_eq-Decides m.handset n).0 b.1)

one_number : (a b : List ℕ) → Some a ≡ Some b → a ≡ b
one_number a b e = cc

part_opens : (n : List ℕ) (p : PartRow) (m : MessageRow) → part_waits_at p (Some m) ≡ Some n → (waits_for n p (Some m) ≡ true) × (m.handset ≡ n)
part_opens n p m e = ⊎_elim
    (λ (t : (not p.progress.is_done && is_pending m) ≡ true).
    let a = and_parts (not p.progress.is_done) (is_pending m) t in
    let same : m.handset ≡ n = one_number m.handset n (sym (cond-true (not p.progress.is_done && is_pending m) (Some m.handset) None t) ∙ e) in
    (and_from (not p.progress.is_done) (is_pending m && bytes_eq m.handset n) a.0 (and_from (is_pending m) (bytes_eq m.handset n) a.1 ((bytes_eq-Decides m.handset n).1 same)), same))
    (λ (t : (not p.progress.is_done && is_pending m) ≡ false).
    let bad : None ≡ Some n = sym (cond-false (not p.progress.is_done && is_pending m) (Some m.handset) None t) ∙ e in absurd cc)
    (cases_Bool (not p.progress.is_done && is_pending m))

report_number : (n : List ℕ) (r : ReportRow) (o : Option MessageRow) → reports_to n r o ≡ true → report_waits_at r o ≡ Some n
report_number n r None e = absurd cc
report_number n r (Some m) e =
    let a = and_parts (is_open_status r) (bytes_eq m.source.digits n) e in
    cond-true (is_open_status r) (Some m.source.digits) None a.0 ∙ ap (λ (x : List ℕ). Some x) ((bytes_eq-Decides m.source.digits n).0 a.1)

record Opens (n : List ℕ) (r : ReportRow) (m : MessageRow) : Type 0 where
  is_open : is_open_status r ≡ true
  goes : reports_to n r (Some m) ≡ true
  same : m.source.digits ≡ n

report_opens : (n : List ℕ) (r : ReportRow) (m : MessageRow) → report_waits_at r (Some m) ≡ Some n → Opens n r m
report_opens n r m e = ⊎_elim
    (λ (t : is_open_status r ≡ true).
    let same : m.source.digits ≡ n = one_number m.source.digits n (sym (cond-true (is_open_status r) (Some m.source.digits) None t) ∙ e) in
    record { is_open = t; goes = and_from (is_open_status r) (bytes_eq m.source.digits n) t ((bytes_eq-Decides m.source.digits n).1 same); same = same })
    (λ (t : is_open_status r ≡ false). let bad : None ≡ Some n = sym (cond-false (is_open_status r) (Some m.source.digits) None t) ∙ e in absurd cc)
    (cases_Bool (is_open_status r))

-- ---- a status report goes to a handset, under a reference

told_number : (k : ReportKind) (o : Originator) (source : Address) (m : MessageRow) (r : ReportRow) → is_status k ≡ true → FitsOriginator k o m r → HasReportAddress o source → IsNumber source.digits
told_number Receipt o source m r t fits told = absurd cc
told_number (Status reference tpdu) (Application a) source m r t fits told = absurd fits
told_number (Status reference tpdu) (Handset n) source m r t fits told = told
told_number Unsent o source m r t fits told = absurd cc

small_reference : (k : ReportKind) (o : Originator) (m : MessageRow) (r : ReportRow) → is_status k ≡ true → FitsOriginator k o m r → status_reference k < 256
small_reference Receipt o m r t fits = absurd cc
small_reference (Status reference tpdu) (Application a) m r t fits = absurd fits
small_reference (Status reference tpdu) (Handset n) m r t fits = fits.0
small_reference Unsent o m r t fits = absurd cc

module _ (entries : List (ℕ × ℕ)) (hs : List HandsetRow) (refs : List ReferenceRow) (ms : List MessageRow) (qs : List PriorityRow) (ps : List PartRow) (rs : List ReportRow) where
  pub record OthersSound : Type 0 where
    pub places : Places entries hs
    pub allocations : SoundAllocations hs refs
    pub messages : SoundMessages ms ps qs
    pub reports : SoundReports ms rs
    pub report_addresses : (m : MessageRow) → Among m ms → HasReportAddress m.originator m.source

  abbrev waiting : List ℕ → List QueuedPart
  waiting n = waiting_for n ms qs ps rs

  module _ (s : OthersSound) where
    numbered : Numbered ps
    numbered = record {
      keys = s.messages.part_keys;
      numbers = λ p a. let first = (s.messages.each_part p a).first in let few = (s.messages.each_part p a).few in (first, omega (arith, few));
    }

    alone : Alone rs
    alone = alone_from ms rs s.reports

    -- ---- what is known of a part and of a report that waits

    record PartFacts (n : List ℕ) (p : PartRow) : Type 0 where
      number : IsNumber n
      queued : Among (part_queued p qs) (waiting n)
      small : p.reference < 256

    part_facts : (n : List ℕ) (p : PartRow) (o : Option MessageRow) → Among p ps → message_at p.id ms ≡ o → part_waits_at p o ≡ Some n → PartFacts n p
    part_facts n p None a is e = absurd cc
    part_facts n p (Some m) a is e =
        let opens = part_opens n p m e in
        let there : part_at p.id p.number ps ≡ Some p = among_found part_key p ps s.messages.part_keys a in
        let waits : waits_for n p (message_at p.id ms) ≡ true = ap (λ (x : Option MessageRow). waits_for n p x) is ∙ opens.0 in
        let numbers = numbered.numbers p a in
        let found : row_at queued_key (pair_key p.id p.number) (waiting n) ≡ Some (part_queued p qs) =
        part_waits n ms qs ps rs p.id p.number numbered numbers.0 numbers.1 ∙ ap (λ (x : Option PartRow). part_wait n ms qs x) there
        ∙ cond-true (waits_for n p (message_at p.id ms)) (Some (part_queued p qs)) None waits in
        record {
          number = subst (λ (x : List ℕ). IsNumber x) opens.1 (s.messages.each_message m (found_among message_key p.id m ms is)).handset;
          queued = found_among queued_key (pair_key p.id p.number) (part_queued p qs) (waiting n) found;
          small = (s.messages.each_part p a).reference;
        }

    record ReportFacts (n : List ℕ) (r : ReportRow) : Type 0 where
      number : IsNumber n
      queued : Among (report_queued r) (waiting n)
      small : status_reference r.kind < 256

    found_alone : (r : ReportRow) (o : Option ReportRow) → report_of r.id rs ≡ o → Among r rs → report_of r.id rs ≡ Some r
    found_alone r None e a = absurd (report_none r.id r rs e a refl)
    found_alone r (Some x) e a = let at = report_found r.id x rs e in e ∙ ap (λ (y : ReportRow). Some y) (alone x r at.0 a at.1)

    report_facts : (n : List ℕ) (r : ReportRow) (o : Option MessageRow) → Among r rs → message_at r.id ms ≡ o → report_waits_at r o ≡ Some n → ReportFacts n r
    report_facts n r None a is e = absurd cc
    report_facts n r (Some m) a is e =
        let opens = report_opens n r m e in
        let kind = and_parts (is_status r.kind) (not r.progress.is_done) opens.is_open in
        let report = (s.reports.each r a).message in
        let x : MessageRow = report.0 in
        let same : x ≡ m = one_message x m (sym report.1.0 ∙ is) in
        let fits : FitsOriginator r.kind x.originator x r = report.1.1.1 in
        let told : HasReportAddress x.originator x.source = subst (λ (y : MessageRow). HasReportAddress y.originator y.source) (sym same) (s.report_addresses m (found_among message_key r.id m ms is)) in
        let digits : x.source.digits ≡ n = ap (λ (y : MessageRow). y.source.digits) same ∙ opens.same in
        let waits : reports_to n r (message_at r.id ms) ≡ true = ap (λ (y : Option MessageRow). reports_to n r y) is ∙ opens.goes in
        let found : row_at queued_key (pair_key r.id 0) (waiting n) ≡ Some (report_queued r) =
        report_waits n ms qs ps rs r.id numbered alone ∙ ap (λ (y : Option ReportRow). report_wait n ms y) (found_alone r (report_of r.id rs) refl a)
        ∙ cond-true (reports_to n r (message_at r.id ms)) (Some (report_queued r)) None waits in
        record {
          number = subst (λ (y : List ℕ). IsNumber y) digits (told_number r.kind x.originator x.source x r kind.0 fits told);
          queued = found_among queued_key (pair_key r.id 0) (report_queued r) (waiting n) found;
          small = small_reference r.kind x.originator x r kind.0 fits;
        }
      where
        one_message : (a b : MessageRow) → Some a ≡ Some b → a ≡ b
        one_message a b e = cc

    -- ---- what waits comes of a part or of a report

    abbrev OfPart : List ℕ → QueuedPart → Type 0
    OfPart n l = (p : PartRow) × (Among p ps × (part_waits_at p (message_at p.id ms) ≡ Some n) × (l ≡ part_queued p qs))

    abbrev OfReport : List ℕ → QueuedPart → Type 0
    OfReport n l = (r : ReportRow) × (Among r rs × (report_waits_at r (message_at r.id ms) ≡ Some n) × (l ≡ report_queued r))

    of_part : (n : List ℕ) (l : QueuedPart) (key : ℕ) (o : Option PartRow) → row_at part_key key ps ≡ o → part_wait n ms qs o ≡ Some l → OfPart n l
    of_part n l key None is e = absurd cc
    of_part n l key (Some p) is e = ⊎_elim
        (λ (t : waits_for n p (message_at p.id ms) ≡ true).
        let some : Some (part_queued p qs) ≡ Some l = sym (cond-true (waits_for n p (message_at p.id ms)) (Some (part_queued p qs)) None t) ∙ e in
        let same : l ≡ part_queued p qs = cc in
        (p, (found_among part_key key p ps is, part_number n p (message_at p.id ms) t, same)))
        (λ (t : waits_for n p (message_at p.id ms) ≡ false).
        let bad : None ≡ Some l = sym (cond-false (waits_for n p (message_at p.id ms)) (Some (part_queued p qs)) None t) ∙ e in absurd cc)
        (cases_Bool (waits_for n p (message_at p.id ms)))

    of_report : (n : List ℕ) (l : QueuedPart) (id : ℕ) (o : Option ReportRow) → report_of id rs ≡ o → report_wait n ms o ≡ Some l → OfReport n l
    of_report n l id None is e = absurd cc
    of_report n l id (Some r) is e = ⊎_elim
        (λ (t : reports_to n r (message_at r.id ms) ≡ true).
        let some : Some (report_queued r) ≡ Some l = sym (cond-true (reports_to n r (message_at r.id ms)) (Some (report_queued r)) None t) ∙ e in
        let same : l ≡ report_queued r = cc in
        (r, ((report_found id r rs is).0, report_number n r (message_at r.id ms) t, same)))
        (λ (t : reports_to n r (message_at r.id ms) ≡ false).
        let bad : None ≡ Some l = sym (cond-false (reports_to n r (message_at r.id ms)) (Some (report_queued r)) None t) ∙ e in absurd cc)
        (cases_Bool (reports_to n r (message_at r.id ms)))

    comes_of : (n : List ℕ) (l : QueuedPart) → Among l (waiting n) → OfPart n l ⊎ OfReport n l
    comes_of n l a =
        let there : row_at queued_key (queued_key l) (waiting n) ≡ Some l = among_found queued_key l (waiting n) (rises_all n ms qs ps rs numbered) a in
        ⊎_elim
        (λ (e : l.number ≡ 0).
        let key : queued_key l ≡ pair_key l.id 0 = ap (λ (k : ℕ). pair_key l.id k) e in
        inr (of_report n l l.id (report_of l.id rs) refl
        (sym (report_waits n ms qs ps rs l.id numbered alone) ∙ ap (λ (k : ℕ). row_at queued_key k (waiting n)) (sym key) ∙ there)))
        (λ (ne : l.number ≡ 0 → ⊥).
        let few = all_few n ms qs ps rs numbered l a in
        inl (of_part n l (pair_key l.id l.number) (part_at l.id l.number ps) refl
        (sym (part_waits n ms qs ps rs l.id l.number numbered (positive l.number ne) few) ∙ there)))
        (cases_eq l.number 0)
      where
        positive : (k : ℕ) → ¬ (k ≡ 0) → 0 < k
        positive k ne = omega (arith, ne)

    -- ---- its reference was given there

    given_from : (reference : ℕ) (o : Option HandsetRow) → is_row refs (held reference o) ≡ true → WasGiven o refs reference
    given_from reference None e = absurd cc
    given_from reference (Some h) e = there_is (reference_at h.place reference refs) e

    given_to : (reference : ℕ) (o : Option HandsetRow) → WasGiven o refs reference → is_row refs (held reference o) ≡ true
    given_to reference None g = absurd g
    given_to reference (Some h) g = is_there (reference_at h.place reference refs) g.0 g.1

    held_some : (reference : ℕ) (o : Option HandsetRow) → WasGiven o refs reference → (k : ℕ) × (held reference o ≡ Some k)
    held_some reference None g = absurd g
    held_some reference (Some h) g = (pair_key h.place reference, refl)

    hold_here : (reference : ℕ) (n : List ℕ) → IsNumber n → hold_at entries reference n ≡ held reference (handset_at n hs)
    hold_here reference n is = hold_is entries hs refs reference n s.places s.allocations is

    -- ---- from the tests

    module _ (pass : WaitingPass entries ms refs ps rs) where
      part_was : (n : List ℕ) (p : PartRow) → Among p ps → part_waits_at p (message_at p.id ms) ≡ Some n → WasGiven (handset_at n hs) refs p.reference
      part_was n p a e =
          let facts = part_facts n p (message_at p.id ms) a refl e in
          let given : part_given entries refs ms p ≡ true = each_from (part_given entries refs ms) ps pass.each_part p a in
          given_from p.reference (handset_at n hs)
          (ap (λ (x : Option ℕ). is_row refs x) (sym (hold_here p.reference n facts.number)) ∙ sym (ap (λ (x : Option (List ℕ)). was_given entries refs p.reference x) e) ∙ given)

      report_was : (n : List ℕ) (r : ReportRow) → Among r rs → report_waits_at r (message_at r.id ms) ≡ Some n → WasGiven (handset_at n hs) refs (status_reference r.kind)
      report_was n r a e =
          let facts = report_facts n r (message_at r.id ms) a refl e in
          let given : report_given entries refs ms r ≡ true = each_from (report_given entries refs ms) rs pass.each_report r a in
          given_from (status_reference r.kind) (handset_at n hs)
          (ap (λ (x : Option ℕ). is_row refs x) (sym (hold_here (status_reference r.kind) n facts.number))
          ∙ sym (ap (λ (x : Option (List ℕ)). was_given entries refs (status_reference r.kind) x) e) ∙ given)

      part_key_held : (n : List ℕ) (p : PartRow) → Among p ps → part_waits_at p (message_at p.id ms) ≡ Some n → part_hold entries ms p ≡ held p.reference (handset_at n hs)
      part_key_held n p a e =
          ap (λ (x : Option (List ℕ)). hold_of entries p.reference x) e ∙ hold_here p.reference n (part_facts n p (message_at p.id ms) a refl e).number

      report_key_held : (n : List ℕ) (r : ReportRow) → Among r rs → report_waits_at r (message_at r.id ms) ≡ Some n → report_hold entries ms r ≡ held (status_reference r.kind) (handset_at n hs)
      report_key_held n r a e =
          ap (λ (x : Option (List ℕ)). hold_of entries (status_reference r.kind) x) e ∙ hold_here (status_reference r.kind) n (report_facts n r (message_at r.id ms) a refl e).number

      distinct : AreDistinct (holds entries ms ps rs)
      distinct = distinct_from (holds entries ms ps rs) pass.apart

      -- two that wait at one handset under one reference are one
      apart_of : (n : List ℕ) (l k : QueuedPart) → OfPart n l ⊎ OfReport n l → OfPart n k ⊎ OfReport n k → l.reference ≡ k.reference → queued_key l ≡ queued_key k
      apart_of n l k a b e = ⊎_elim
          (λ (p : OfPart n l). ⊎_elim
          (λ (q : OfPart n k).
          let x = held_some (p.0).reference (handset_at n hs) (part_was n p.0 p.1.0 p.1.1) in
          let refs_same : (q.0).reference ≡ (p.0).reference = sym (ap (λ (y : QueuedPart). y.reference) q.1.2) ∙ sym e ∙ ap (λ (y : QueuedPart). y.reference) p.1.2 in
          let same = one_preserved (part_hold entries ms) p.0 q.0 x.0 ps (distinct_front (filter_map (part_hold entries ms) ps) (filter_map (report_hold entries ms) rs) distinct) p.1.0 q.1.0
          (part_key_held n p.0 p.1.0 p.1.1 ∙ x.1)
          (part_key_held n q.0 q.1.0 q.1.1 ∙ ap (λ (y : ℕ). held y (handset_at n hs)) refs_same ∙ x.1) in
          ap queued_key p.1.2 ∙ ap (λ (y : PartRow). queued_key (part_queued y qs)) same ∙ sym (ap queued_key q.1.2))
          (λ (q : OfReport n k).
          let x = held_some (p.0).reference (handset_at n hs) (part_was n p.0 p.1.0 p.1.1) in
          let refs_same : status_reference (q.0).kind ≡ (p.0).reference = sym (ap (λ (y : QueuedPart). y.reference) q.1.2) ∙ sym e ∙ ap (λ (y : QueuedPart). y.reference) p.1.2 in
          absurd (not_both x.0 (filter_map (part_hold entries ms) ps) (filter_map (report_hold entries ms) rs) distinct
          (preserved_among (part_hold entries ms) p.0 x.0 ps p.1.0 (part_key_held n p.0 p.1.0 p.1.1 ∙ x.1))
          (preserved_among (report_hold entries ms) q.0 x.0 rs q.1.0 (report_key_held n q.0 q.1.0 q.1.1 ∙ ap (λ (y : ℕ). held y (handset_at n hs)) refs_same ∙ x.1))))
          b)
          (λ (p : OfReport n l). ⊎_elim
          (λ (q : OfPart n k).
          let x = held_some (q.0).reference (handset_at n hs) (part_was n q.0 q.1.0 q.1.1) in
          let refs_same : status_reference (p.0).kind ≡ (q.0).reference = sym (ap (λ (y : QueuedPart). y.reference) p.1.2) ∙ e ∙ ap (λ (y : QueuedPart). y.reference) q.1.2 in
          absurd (not_both x.0 (filter_map (part_hold entries ms) ps) (filter_map (report_hold entries ms) rs) distinct
          (preserved_among (part_hold entries ms) q.0 x.0 ps q.1.0 (part_key_held n q.0 q.1.0 q.1.1 ∙ x.1))
          (preserved_among (report_hold entries ms) p.0 x.0 rs p.1.0 (report_key_held n p.0 p.1.0 p.1.1 ∙ ap (λ (y : ℕ). held y (handset_at n hs)) refs_same ∙ x.1))))
          (λ (q : OfReport n k).
          let x = held_some (status_reference (p.0).kind) (handset_at n hs) (report_was n p.0 p.1.0 p.1.1) in
          let refs_same : status_reference (q.0).kind ≡ status_reference (p.0).kind = sym (ap (λ (y : QueuedPart). y.reference) q.1.2) ∙ sym e ∙ ap (λ (y : QueuedPart). y.reference) p.1.2 in
          let same = one_preserved (report_hold entries ms) p.0 q.0 x.0 rs (distinct_back (filter_map (part_hold entries ms) ps) (filter_map (report_hold entries ms) rs) distinct) p.1.0 q.1.0
          (report_key_held n p.0 p.1.0 p.1.1 ∙ x.1)
          (report_key_held n q.0 q.1.0 q.1.1 ∙ ap (λ (y : ℕ). held y (handset_at n hs)) refs_same ∙ x.1) in
          ap queued_key p.1.2 ∙ ap (λ (y : ReportRow). queued_key (report_queued y)) same ∙ sym (ap queued_key q.1.2))
          b)
          a

      small_of : (n : List ℕ) (l : QueuedPart) → OfPart n l ⊎ OfReport n l → l.reference < 256
      small_of n l a = ⊎_elim
          (λ (p : OfPart n l). subst (λ (y : QueuedPart). y.reference < 256) (sym p.1.2) (part_facts n p.0 (message_at (p.0).id ms) p.1.0 refl p.1.1).small)
          (λ (p : OfReport n l). subst (λ (y : QueuedPart). y.reference < 256) (sym p.1.2) (report_facts n p.0 (message_at (p.0).id ms) p.1.0 refl p.1.1).small)
          a

      was_of : (n : List ℕ) (l : QueuedPart) → OfPart n l ⊎ OfReport n l → WasGiven (handset_at n hs) refs l.reference
      was_of n l a = ⊎_elim
          (λ (p : OfPart n l). subst (λ (y : QueuedPart). WasGiven (handset_at n hs) refs y.reference) (sym p.1.2) (part_was n p.0 p.1.0 p.1.1))
          (λ (p : OfReport n l). subst (λ (y : QueuedPart). WasGiven (handset_at n hs) refs y.reference) (sym p.1.2) (report_was n p.0 p.1.0 p.1.1))
          a

      pub waiting_from : (n : List ℕ) → SoundWaiting (handset_at n hs) refs (waiting n)
      waiting_from n = record {
        keys = rises_all n ms qs ps rs numbered;
        small = λ l a. small_of n l (comes_of n l a);
        given = λ l a. was_of n l (comes_of n l a);
        apart = λ l k a b e. apart_of n l k (comes_of n l a) (comes_of n k b) e;
      }

    -- ---- to the tests

    module _ (sound : (n : List ℕ) → SoundWaiting (handset_at n hs) refs (waiting n)) where
      part_passes : (p : PartRow) (w : Option (List ℕ)) → Among p ps → part_waits_at p (message_at p.id ms) ≡ w → was_given entries refs p.reference w ≡ true
      part_passes p None a e = refl
      part_passes p (Some n) a e =
          let facts = part_facts n p (message_at p.id ms) a refl e in
          ap (λ (x : Option ℕ). is_row refs x) (hold_here p.reference n facts.number)
          ∙ given_to p.reference (handset_at n hs) ((sound n).given (part_queued p qs) facts.queued)

      report_passes : (r : ReportRow) (w : Option (List ℕ)) → Among r rs → report_waits_at r (message_at r.id ms) ≡ w → was_given entries refs (status_reference r.kind) w ≡ true
      report_passes r None a e = refl
      report_passes r (Some n) a e =
          let facts = report_facts n r (message_at r.id ms) a refl e in
          ap (λ (x : Option ℕ). is_row refs x) (hold_here (status_reference r.kind) n facts.number)
          ∙ given_to (status_reference r.kind) (handset_at n hs) ((sound n).given (report_queued r) facts.queued)

      -- a key that is held tells the handset and the reference
      abbrev Identifies : List ℕ → ℕ → ℕ → Type 0
      Identifies n reference k = (h : HandsetRow) × ((handset_at n hs ≡ Some h) × (k ≡ pair_key h.place reference))

      decides_of : (n : List ℕ) (reference k : ℕ) (o : Option HandsetRow) → handset_at n hs ≡ o → held reference o ≡ Some k → Identifies n reference k
      decides_of n reference k None is e = absurd cc
      decides_of n reference k (Some h) is e = let same : k ≡ pair_key h.place reference = cc in (h, (is, same))

      -- what waits under one key is one
      one_queued : (n m : List ℕ) (l j : QueuedPart) (k : ℕ) → Among l (waiting n) → Among j (waiting m) → l.reference < 256 → j.reference < 256 → Identifies n l.reference k → Identifies m j.reference k → queued_key l ≡ queued_key j
      one_queued n m l j k a b x y f g =
          let both = pairs_apart (f.0).place (g.0).place l.reference j.reference x y (sym f.1.1 ∙ g.1.1) in
          let one = number_found n f.0 hs f.1.0 in
          let two = number_found m g.0 hs g.1.0 in
          let some : Some f.0 ≡ Some g.0 = sym (among_found handset_key f.0 hs s.allocations.handset_keys one.0) ∙ ap (λ (i : ℕ). row_at handset_key i hs) both.0 ∙ among_found handset_key g.0 hs s.allocations.handset_keys two.0 in
          let row : f.0 ≡ g.0 = cc in
          let number : m ≡ n = sym two.1 ∙ ap (λ (i : HandsetRow). i.number) (sym row) ∙ one.1 in
          (sound n).apart l j a (subst (λ (i : List ℕ). Among j (waiting i)) number b) both.1

      part_decides : (p : PartRow) (k : ℕ) (w : Option (List ℕ)) → Among p ps → part_waits_at p (message_at p.id ms) ≡ w → hold_of entries p.reference w ≡ Some k
          → (n : List ℕ) × (PartFacts n p × Identifies n p.reference k)
      part_decides p k None a e f = absurd cc
      part_decides p k (Some n) a e f =
          let facts = part_facts n p (message_at p.id ms) a refl e in
          (n, (facts, decides_of n p.reference k (handset_at n hs) refl (sym (hold_here p.reference n facts.number) ∙ f)))

      report_decides : (r : ReportRow) (k : ℕ) (w : Option (List ℕ)) → Among r rs → report_waits_at r (message_at r.id ms) ≡ w → hold_of entries (status_reference r.kind) w ≡ Some k
          → (n : List ℕ) × (ReportFacts n r × Identifies n (status_reference r.kind) k)
      report_decides r k None a e f = absurd cc
      report_decides r k (Some n) a e f =
          let facts = report_facts n r (message_at r.id ms) a refl e in
          (n, (facts, decides_of n (status_reference r.kind) k (handset_at n hs) refl (sym (hold_here (status_reference r.kind) n facts.number) ∙ f)))

      parts_apart : AreDistinct (filter_map (part_hold entries ms) ps)
      parts_apart = preserved_differ (part_hold entries ms) part_key ps s.messages.part_keys
          (λ p q k a b e f.
          let x = part_decides p k (part_waits_at p (message_at p.id ms)) a refl e in
          let y = part_decides q k (part_waits_at q (message_at q.id ms)) b refl f in
          one_queued x.0 y.0 (part_queued p qs) (part_queued q qs) k (x.1.0).queued (y.1.0).queued (x.1.0).small (y.1.0).small x.1.1 y.1.1)

      reports_apart : AreDistinct (filter_map (report_hold entries ms) rs)
      reports_apart = preserved_differ (report_hold entries ms) report_key rs s.reports.keys
          (λ p q k a b e f.
          let x = report_decides p k (report_waits_at p (message_at p.id ms)) a refl e in
          let y = report_decides q k (report_waits_at q (message_at q.id ms)) b refl f in
          let keys : pair_key p.id 0 ≡ pair_key q.id 0 = one_queued x.0 y.0 (report_queued p) (report_queued q) k (x.1.0).queued (y.1.0).queued (x.1.0).small (y.1.0).small x.1.1 y.1.1 in
          s.reports.once p q a b (omega (arith, keys)))

      not_shared : (k : ℕ) → Among k (filter_map (part_hold entries ms) ps) → Among k (filter_map (report_hold entries ms) rs) → ⊥
      not_shared k a b =
          let p = among_preserved (part_hold entries ms) k ps a in
          let r = among_preserved (report_hold entries ms) k rs b in
          let x = part_decides p.0 k (part_waits_at p.0 (message_at (p.0).id ms)) p.1.0 refl p.1.1 in
          let y = report_decides r.0 k (report_waits_at r.0 (message_at (r.0).id ms)) r.1.0 refl r.1.1 in
          let keys : pair_key (p.0).id (p.0).number ≡ pair_key (r.0).id 0 =
          one_queued x.0 y.0 (part_queued p.0 qs) (report_queued r.0) k (x.1.0).queued (y.1.0).queued (x.1.0).small (y.1.0).small x.1.1 y.1.1 in
          let numbers = numbered.numbers p.0 p.1.0 in
          omega (arith, keys, numbers.0, numbers.1)

      pub waiting_to : WaitingPass entries ms refs ps rs
      waiting_to = record {
        each_part = each_to (part_given entries refs ms) ps (λ p a. part_passes p (part_waits_at p (message_at p.id ms)) a refl);
        each_report = each_to (report_given entries refs ms) rs (λ r a. report_passes r (report_waits_at r (message_at r.id ms)) a refl);
        apart = distinct_to (holds entries ms ps rs)
            (distinct_both (filter_map (part_hold entries ms) ps) (filter_map (report_hold entries ms) rs) parts_apart reports_apart not_shared);
      }

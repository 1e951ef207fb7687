-- What the references of handsets rest on is kept where a reference is given for a part or a status report, which waits from then on.
use Rattle.std.proofs.Common.{◌≡◌, ℕ, ◌<◌, List, Bool, true, false, Option, Some, None, refl, sym, ◌∙◌, ap, subst, ⊎_elim}
use Rattle.std.specs.Prelude.{◌&&◌, not, if◌then◌else◌}
use Rattle.std.proofs.lemmas.Bool.{cases_Bool, cases_eq, cond-true, cond-false}
use Rattle.std.proofs.lemmas.Slice.Eq.{bytes_eq-Decides}
use Rattle.std.specs.Str.{bytes_eq}
use Rattle.sms_base.proofs.OctetLaws.{cases_octets}
use Rattle.sms_rows.specs.table.Keys.{pair_key}
use Rattle.sms_rows.specs.table.Table.{put, row_at}
use Rattle.sms_rows.proofs.table.Tables.{found_among, rises_put, row_at_put, row_at_put_other}
use Rattle.sms_centre_rows.specs.declared.messages.message.MessageRow.{MessageRow}
use Rattle.sms_centre_rows.specs.declared.messages.part.PartRow.{PartRow}
use Rattle.sms_centre_rows.specs.messages.Messages.{is_pending, message_at, message_key, part_key}
use Rattle.sms_centre_rows.specs.messages.OpenParts.{part_queued, part_wait, waits_for}
use Rattle.sms_centre_rows.proofs.messages.PartRows.{numbered_put}
use Rattle.sms_centre_rows.specs.declared.reports.report.ReportRow.{ReportRow}
use Rattle.sms_centre_rows.specs.reports.Reports.{is_open_status, put_report, report_key, status_reference}
use Rattle.sms_centre_rows.specs.reports.Waiting.{Alone, IsReportApart, report_queued, report_wait, reports_to, waiting_as}
use Rattle.sms_centre_rows.proofs.reports.ReportRows.{new_alone, new_report, new_report_other}
use Rattle.sms_centre_rows.proofs.reports.WaitingChanges.{part_changes, report_changes}
use Rattle.sms_centre_rows.specs.declared.waiting.handset.HandsetRow.{HandsetRow}
use Rattle.sms_centre_rows.specs.declared.waiting.queued_part.QueuedPart.{QueuedPart}
use Rattle.sms_centre_rows.specs.declared.waiting.reference.ReferenceRow.{ReferenceRow}
use Rattle.sms_centre_rows.specs.waiting.Keys.{handset_key, queued_key, reference_key}
use Rattle.sms_centre_rows.specs.waiting.References.{given_row, handset_at, handset_of, mentioned, next_reference, or_new_handset, place_after}
use Rattle.sms_centre_rows.specs.waiting.SoundAllocations.{IsNumber, reference_at}
use Rattle.sms_centre_rows.specs.waiting.SoundWaiting.{SoundWaiting, WasGiven}
use Rattle.sms_centre_rows.proofs.waiting.AllocationsSound.{give_sound}
use Rattle.sms_centre_rows.proofs.waiting.Mentions.{put_number, put_number_other, row_fits}
use Rattle.sms_centre_rows.proofs.waiting.WaitingSound.{next_is_free, waits_under, without_sound}
use Rattle.sms_centre_spec.specs.Draft.{Store, handsets_in, messages_in, parts_in, priorities_in, references_in, reports_in, waiting_in, with_given, with_part, with_reports}
use Rattle.sms_centre_spec.specs.Held.{SoundHeld}
use Rattle.sms_centre_spec.specs.Submitting.{reference_for}

-- ---- what was given stays given

given_stays : (row : Option HandsetRow) (rs : List ReferenceRow) (x : ReferenceRow) (r : ℕ) → WasGiven row rs r → WasGiven row (put reference_key x rs) r
given_stays None rs x r given = given
given_stays (Some h) rs x r given = ⊎_elim
    (λ (e : reference_key x ≡ pair_key h.place r).
    let there : reference_at h.place r (put reference_key x rs) ≡ Some x = subst (λ (k : ℕ). row_at reference_key k (put reference_key x rs) ≡ Some x) e (row_at_put reference_key x rs) in
    let found : (y : ReferenceRow) × (reference_at h.place r (put reference_key x rs) ≡ Some y) = (x, there) in found)
    (λ (e : reference_key x ≡ pair_key h.place r → ⊥).
    let found : (y : ReferenceRow) × (reference_at h.place r (put reference_key x rs) ≡ Some y) = (given.0, row_at_put_other reference_key (pair_key h.place r) x rs e ∙ given.1) in found)
    (cases_eq (reference_key x) (pair_key h.place r))

given_more : (row : Option HandsetRow) (rs : List ReferenceRow) (w : List QueuedPart) (x : ReferenceRow) → SoundWaiting row rs w → SoundWaiting row (put reference_key x rs) w
given_more row rs w x sound = record {
  keys = sound.keys;
  small = sound.small;
  given = λ l m. given_stays row rs x l.reference (sound.given l m);
  apart = sound.apart;
}

-- ---- a reference is given, and one more waits under it at its handset

pub waits_given : (s : Store) (number : List ℕ) (l : QueuedPart) → SoundHeld s → reference_for (handset_of number (handsets_in s)) s ≡ Some l.reference
    → (other : List ℕ) (o : Option QueuedPart) → (number ≡ other → o ≡ Some l) → (¬ (number ≡ other) → o ≡ None)
    → let h : HandsetRow = handset_of number (handsets_in s) in
    SoundWaiting (handset_at other (put handset_key (mentioned h l.reference) (handsets_in s))) (put reference_key (given_row h l.reference s.moment) (references_in s)) (waiting_as (queued_key l) o (waiting_in other s))
waits_given s number l held next other o own none =
    let hs : List HandsetRow = handsets_in s in
    let rs : List ReferenceRow = references_in s in
    let h : HandsetRow = handset_of number hs in
    let row : ReferenceRow = given_row h l.reference s.moment in
    let fits = row_fits number hs (handset_at number hs) held.allocations.handset_keys held.allocations.apart refl in
    ⊎_elim
    (λ (e : number ≡ other).
    let there : handset_at number (put handset_key (mentioned h l.reference) hs) ≡ Some (mentioned h l.reference) =
    subst (λ (n : List ℕ). handset_at n (put handset_key (mentioned h l.reference) hs) ≡ Some (mentioned h l.reference)) fits.1
    (put_number (mentioned h l.reference) hs (record { place = fits.0.place; number = fits.0.number })) in
    let place : (g : HandsetRow) → handset_at number hs ≡ Some g → g.place ≡ h.place = λ g f. ap (λ (x : Option HandsetRow). (or_new_handset number (place_after 1 hs) x).place) (sym f) in
    let free : next_reference h (waiting_in number s) rs s.moment ≡ Some l.reference = ap (λ (n : List ℕ). next_reference h (waiting_in n s) rs s.moment) (sym fits.1) ∙ next in
    let sound = waits_under (handset_at number hs) h rs (waiting_in number s) l s.moment (held.waiting number) place free in
    subst (λ (n : List ℕ). SoundWaiting (handset_at n (put handset_key (mentioned h l.reference) hs)) (put reference_key row rs) (waiting_as (queued_key l) o (waiting_in n s))) e
    (subst (λ (x : Option QueuedPart). SoundWaiting (handset_at number (put handset_key (mentioned h l.reference) hs)) (put reference_key row rs) (waiting_as (queued_key l) x (waiting_in number s))) (sym (own e))
    (subst (λ (x : Option HandsetRow). SoundWaiting x (put reference_key row rs) (put queued_key l (waiting_in number s))) (sym there) sound)))
    (λ (e : number ≡ other → ⊥).
    let same : handset_at other (put handset_key (mentioned h l.reference) hs) ≡ handset_at other hs =
    put_number_other other (mentioned h l.reference) hs (record { place = fits.0.place; number = fits.0.number }) (λ q. e (sym fits.1 ∙ q)) in
    subst (λ (x : Option QueuedPart). SoundWaiting (handset_at other (put handset_key (mentioned h l.reference) hs)) (put reference_key row rs) (waiting_as (queued_key l) x (waiting_in other s))) (sym (none e))
    (subst (λ (x : Option HandsetRow). SoundWaiting x (put reference_key row rs) (waiting_as (queued_key l) None (waiting_in other s))) (sym same)
    (given_more (handset_at other hs) rs (waiting_as (queued_key l) None (waiting_in other s)) row (without_sound (handset_at other hs) rs (waiting_in other s) (queued_key l) (held.waiting other)))))
    (cases_octets number other)

-- ---- a part is given

pub part_given_held : (s : Store) (m : MessageRow) (p : PartRow) → SoundHeld s → message_at p.id (messages_in s) ≡ Some m → is_pending m ≡ true → p.progress.is_done ≡ false → 0 < p.number → p.number < 256
    → reference_for (handset_of m.handset (handsets_in s)) s ≡ Some p.reference
    → SoundHeld (with_part p (with_given (handset_of m.handset (handsets_in s)) p.reference s))
part_given_held s m p held there pending undone some small next =
    let h : HandsetRow = handset_of m.handset (handsets_in s) in
    let is : IsNumber m.handset = held.numbers m (found_among message_key p.id m (messages_in s) there) in
    let free = next_is_free h (waiting_in h.number s) (references_in s) s.moment p.reference next in
    let numbered = numbered_put p (parts_in s) held.parts some small in
    record {
      allocations = give_sound m.handset (handsets_in s) (references_in s) (handset_at m.handset (handsets_in s)) p.reference s.moment held.allocations is refl free.1;
      parts = numbered;
      alone = held.alone;
      report_keys = held.report_keys;
      numbers = held.numbers;
      waiting = λ other.
          let changes = part_changes other (messages_in s) (priorities_in s) (parts_in s) (put part_key p (parts_in s)) (reports_in s) p held.parts numbered held.alone
          (row_at_put part_key p (parts_in s)) (λ k ne. row_at_put_other part_key k p (parts_in s) ne) in
          let o : Option QueuedPart = part_wait other (messages_in s) (priorities_in s) (Some p) in
          let waits : waits_for other p (message_at p.id (messages_in s)) ≡ bytes_eq m.handset other =
          ap (λ (x : Option MessageRow). waits_for other p x) there
          ∙ ap (λ (b : Bool). not b && (is_pending m && bytes_eq m.handset other)) undone
          ∙ ap (λ (b : Bool). b && bytes_eq m.handset other) pending in
          subst (λ (l : List QueuedPart). SoundWaiting (handset_at other (put handset_key (mentioned h p.reference) (handsets_in s))) (put reference_key (given_row h p.reference s.moment) (references_in s)) l) (sym changes)
          (waits_given s m.handset (part_queued p (priorities_in s)) held next other o
          (λ e. cond-true (waits_for other p (message_at p.id (messages_in s))) (Some (part_queued p (priorities_in s))) None (waits ∙ (bytes_eq-Decides m.handset other).1 e))
          (λ e. cond-false (waits_for other p (message_at p.id (messages_in s))) (Some (part_queued p (priorities_in s))) None (waits ∙ differ m.handset other e)));
    }
  where
    differ : (a b : List ℕ) → ¬ (a ≡ b) → bytes_eq a b ≡ false
    differ a b ne = ⊎_elim
        (λ (t : bytes_eq a b ≡ true). absurd (ne ((bytes_eq-Decides a b).0 t)))
        (λ (t : bytes_eq a b ≡ false). t)
        (cases_Bool (bytes_eq a b))

-- ---- a report is made: it is new, and a status report waits under the reference that is given for it

pub report_made_held : (s : Store) (r : ReportRow) → SoundHeld s → IsReportApart (reports_in s) r → is_open_status r ≡ false → SoundHeld (with_reports (put_report r s.reports) s)
report_made_held s r held new quiet =
    let alone : Alone (put report_key r (reports_in s)) = new_alone r (reports_in s) new held.alone in
    record {
      allocations = held.allocations;
      parts = held.parts;
      alone = alone;
      report_keys = rises_put report_key r (reports_in s) held.report_keys;
      numbers = held.numbers;
      waiting = λ other.
          let changes = report_changes other (messages_in s) (priorities_in s) (parts_in s) (reports_in s) (put report_key r (reports_in s)) r held.parts held.alone alone
          (new_report r (reports_in s) new) (λ id ne. new_report_other id r (reports_in s) new ne) in
          subst (λ (l : List QueuedPart). SoundWaiting (handset_at other (handsets_in s)) (references_in s) l) (sym changes)
          (subst (λ (o : Option QueuedPart). SoundWaiting (handset_at other (handsets_in s)) (references_in s) (waiting_as (pair_key r.id 0) o (waiting_in other s)))
          (sym (silent (message_at r.id (messages_in s)) other))
          (without_sound (handset_at other (handsets_in s)) (references_in s) (waiting_in other s) (pair_key r.id 0) (held.waiting other)));
    }
  where
    goes : (o : Option MessageRow) (other : List ℕ) → reports_to other r o ≡ false
    goes None other = refl
    goes (Some m) other = ap (λ (b : Bool). b && bytes_eq m.source.digits other) quiet

    silent : (o : Option MessageRow) (other : List ℕ) → (if reports_to other r o then Some (report_queued r) else None) ≡ None
    silent o other = cond-false (reports_to other r o) (Some (report_queued r)) None (goes o other)

pub status_given_held : (s : Store) (m : MessageRow) (r : ReportRow) → SoundHeld s → IsReportApart (reports_in s) r → message_at r.id (messages_in s) ≡ Some m → IsNumber m.source.digits → is_open_status r ≡ true
    → reference_for (handset_of m.source.digits (handsets_in s)) s ≡ Some (status_reference r.kind)
    → SoundHeld (with_reports (put_report r s.reports) (with_given (handset_of m.source.digits (handsets_in s)) (status_reference r.kind) s))
status_given_held s m r held new there is waiting next =
    let number : List ℕ = m.source.digits in
    let h : HandsetRow = handset_of number (handsets_in s) in
    let free = next_is_free h (waiting_in h.number s) (references_in s) s.moment (status_reference r.kind) next in
    let alone : Alone (put report_key r (reports_in s)) = new_alone r (reports_in s) new held.alone in
    record {
      allocations = give_sound number (handsets_in s) (references_in s) (handset_at number (handsets_in s)) (status_reference r.kind) s.moment held.allocations is refl free.1;
      parts = held.parts;
      alone = alone;
      report_keys = rises_put report_key r (reports_in s) held.report_keys;
      numbers = held.numbers;
      waiting = λ other.
          let changes = report_changes other (messages_in s) (priorities_in s) (parts_in s) (reports_in s) (put report_key r (reports_in s)) r held.parts held.alone alone
          (new_report r (reports_in s) new) (λ id ne. new_report_other id r (reports_in s) new ne) in
          let o : Option QueuedPart = report_wait other (messages_in s) (Some r) in
          let waits : reports_to other r (message_at r.id (messages_in s)) ≡ bytes_eq number other =
          ap (λ (x : Option MessageRow). reports_to other r x) there ∙ ap (λ (b : Bool). b && bytes_eq number other) waiting in
          subst (λ (l : List QueuedPart). SoundWaiting (handset_at other (put handset_key (mentioned h (status_reference r.kind)) (handsets_in s))) (put reference_key (given_row h (status_reference r.kind) s.moment) (references_in s)) l) (sym changes)
          (waits_given s number (report_queued r) held next other o
          (λ e. cond-true (reports_to other r (message_at r.id (messages_in s))) (Some (report_queued r)) None (waits ∙ (bytes_eq-Decides number other).1 e))
          (λ e. cond-false (reports_to other r (message_at r.id (messages_in s))) (Some (report_queued r)) None (waits ∙ differ number other e)));
    }
  where
    differ : (a b : List ℕ) → ¬ (a ≡ b) → bytes_eq a b ≡ false
    differ a b ne = ⊎_elim
        (λ (t : bytes_eq a b ≡ true). absurd (ne ((bytes_eq-Decides a b).0 t)))
        (λ (t : bytes_eq a b ≡ false). t)
        (cases_Bool (bytes_eq a b))

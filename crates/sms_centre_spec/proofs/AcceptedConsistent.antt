-- An accepted submission leaves a consistent store.
use Rattle.std.proofs.Common.{◌≡◌, ℕ, ◌+◌, ◌<◌, ◌≤◌, List, [], ◌∷◌, length, true, false, Option, Some, None, refl, sym, ◌∙◌, subst, ⊎_elim, arith}
use Rattle.std.proofs.lemmas.Bool.{cond_both}
use Rattle.std.specs.Prelude.{nat_le}
use Rattle.std.specs.Option.{option_and_then}
use Rattle.sms_base.specs.Among.{Among}
use Rattle.sms_rows.proofs.table.Tables.{among_put, found_among, found_key, rises_put, row_at_put, row_at_put_other}
use Rattle.sms_centre_rows.specs.declared.messages.message.MessageRow.{MessageRow}
use Rattle.sms_centre_rows.specs.declared.messages.part.PartRow.{PartRow}
use Rattle.sms_centre_rows.specs.declared.messages.priority.PriorityRow.{PriorityRow}
use Rattle.sms_centre_rows.specs.messages.Messages.{is_pending, message_at, message_key, part_key}
use Rattle.sms_centre_rows.specs.messages.SplitReferences.{next_split}
use Rattle.sms_centre_rows.specs.declared.reports.report.ReportRow.{ReportRow}
use Rattle.sms_centre_rows.specs.declared.waiting.handset.HandsetRow.{HandsetRow}
use Rattle.sms_centre_rows.specs.waiting.References.{handset_of}
use Rattle.sms_centre_rows.specs.waiting.SoundAllocations.{IsNumber}
use Rattle.sms_intake.specs.declared.submission.SinglePart.{SinglePart}
use Rattle.sms_intake.specs.declared.submission.Submission.{Submission}
use Rattle.sms_intake.specs.PartBodies.{deliver_octets}
use Rattle.sms_centre_spec.specs.Draft.{Store, bars_in, handsets_in, messages_in, parts_in, reports_in, rows_of}
use Rattle.sms_centre_spec.specs.MessageNumbers.{next_number}
use Rattle.sms_centre_spec.specs.SoundRows.{HasReportAddress}
use Rattle.sms_centre_spec.specs.Consistent.{IsSubmission, IsConsistent}
use Rattle.sms_centre_spec.specs.Submitting.{accept, accept_as, accept_split, accept_under, enter, give_part, give_parts, message_of, part_given, reference_for}
use Rattle.sms_intake.specs.PartBodies.{bodies_under, is_long}
use Rattle.sms_centre_spec.proofs.HeldAllocations.{part_given_held}
use Rattle.sms_centre_spec.proofs.HeldStages.{entered_held}
use Rattle.sms_centre_spec.proofs.Stages.{IfThere}
use Rattle.sms_centre_spec.proofs.NextNumbers.{below_next_number, no_part, no_report}

-- ---- a message is entered

pub enter_consistent : (id : ℕ) (split : Option ℕ) (u : Submission) (s : Store) → IsConsistent s → ((x : MessageRow) → Among x (messages_in s) → x.id < id) → IsNumber u.handset → HasReportAddress u.originator u.source
    → IsConsistent (enter id split u s)
enter_consistent id split u s k below is told =
    let m : MessageRow = message_of id s.moment split u in
    let q : PriorityRow = record { id = id; priority = u.priority } in
    let part_below : (p : PartRow) → Among p (parts_in s) → p.id < id = λ p among.
    let of = k.parts p among in
    let same : of.0.id ≡ p.id = found_key message_key p.id of.0 (messages_in s) of.1 in
    let low = below of.0 (found_among message_key p.id of.0 (messages_in s) of.1) in omega (arith, same, low) in
    let report_below : (r : ReportRow) → Among r (reports_in s) → r.id < id = λ r among.
    let of = k.reports r among in
    let same : of.0.id ≡ r.id = found_key message_key r.id of.0 (messages_in s) of.1.0 in
    let low = below of.0 (found_among message_key r.id of.0 (messages_in s) of.1.0) in omega (arith, same, low) in
    record {
      held = entered_held s m q k.held refl (λ n. no_part id n (parts_in s) k.held.parts part_below)
          (no_report id (reports_in s) (λ r among e. let low = report_below r among in omega (arith, low, e))) is;
      message_keys = rises_put message_key m (messages_in s) k.message_keys;
      report_addresses = λ x among. ⊎_elim
          (λ (e : x ≡ m). subst (λ (y : MessageRow). HasReportAddress y.originator y.source) (sym e) told)
          (λ (a : Among x (messages_in s) × ¬ (x.id ≡ m.id)). k.report_addresses x a.0)
          (among_put message_key x m (messages_in s) among);
      parts = λ p among.
          let of = k.parts p among in
          let low = part_below p among in
          (of.0, row_at_put_other message_key p.id m (messages_in s) (λ e. omega (arith, low, e)) ∙ of.1);
      reports = λ r among.
          let of = k.reports r among in
          let low = report_below r among in
          (of.0, (row_at_put_other message_key r.id m (messages_in s) (λ e. omega (arith, low, e)) ∙ of.1.0, of.1.1));
    }

-- ---- its parts are given

-- if both there, one after the other
pub then_there : (A B : Store → Type 0) (f : Store → Option Store) (o : Option Store) → IfThere A o → ((e : Store) → A e → IfThere B (f e)) → IfThere B (option_and_then f o)
then_there A B f None there g = tt
then_there A B f (Some e) there g = g e there

-- the message stands there
abbrev pub Entered : MessageRow → Store → Type 0
Entered m s = IsConsistent s × (message_at m.id (messages_in s) ≡ Some m)

pub part_consistent : (m : MessageRow) (u : Submission) (n : ℕ) (b : SinglePart) (o : Option ℕ) (s : Store) → Entered m s → is_pending m ≡ true → 0 < n → n < 256
    → reference_for (handset_of m.handset (handsets_in s)) s ≡ o → IfThere (Entered m) (part_given m.id u n b (handset_of m.handset (handsets_in s)) o s)
part_consistent m u n b None s k pending some small next = tt
part_consistent m u n b (Some r) s k pending some small next =
    let h : HandsetRow = handset_of m.handset (handsets_in s) in
    let p : PartRow = record {
      id = m.id;
      number = n;
      reference = r;
      tpdu = deliver_octets s.moment u b;
      key = b.key;
      progress = record { is_done = false; attempts = 0; due = u.due };
    } in (
      record {
        held = part_given_held s m p k.0.held k.1 pending refl some small next;
        message_keys = k.0.message_keys;
        report_addresses = k.0.report_addresses;
        parts = λ x among. ⊎_elim
            (λ (e : x ≡ p).
            let there : message_at x.id (messages_in s) ≡ Some m = subst (λ (y : PartRow). message_at y.id (messages_in s) ≡ Some m) (sym e) k.1 in
            let found : (y : MessageRow) × (message_at x.id (messages_in s) ≡ Some y) = (m, there) in found)
            (λ (a : Among x (parts_in s) × ¬ (part_key x ≡ part_key p)). k.0.parts x a.0)
            (among_put part_key x p (parts_in s) among);
        reports = k.0.reports;
      },
      k.1,
    )

parts_stand : (id moment : ℕ) (split : Option ℕ) (u : Submission) (n : ℕ) (bs : List SinglePart) (s : Store) → Entered (message_of id moment split u) s → 0 < n → n + length bs ≤ 256
    → IfThere IsConsistent (give_parts id u n bs s)
parts_stand id moment split u n [] s k some few = k.0
parts_stand id moment split u n (b ∷ bs) s k some few =
    let h : HandsetRow = handset_of u.handset (handsets_in s) in
    then_there (Entered (message_of id moment split u)) IsConsistent (λ (e : Store). give_parts id u (n + 1) bs e) (give_part id u n b h s)
    (part_consistent (message_of id moment split u) u n b (reference_for h s) s k refl some (omega (arith, few)) refl)
    (λ e g. parts_stand id moment split u (n + 1) bs e g (omega arith) (omega (arith, few)))

under_consistent : (id : ℕ) (split : Option ℕ) (bs : List SinglePart) (u : Submission) (s : Store) → IsConsistent s → ((x : MessageRow) → Among x (messages_in s) → x.id < id) → IsSubmission u → length bs ≤ 20
    → IfThere IsConsistent (accept_under id split bs u s)
under_consistent id split bs u s k below fit few =
    let m : MessageRow = message_of id s.moment split u in
    parts_stand id s.moment split u 1 bs (enter id split u s)
    (enter_consistent id split u s k below fit.handset fit.report_address, row_at_put message_key m (messages_in s)) (omega arith) (omega (arith, few))

split_consistent : (id : ℕ) (o : Option ℕ) (u : Submission) (s : Store) → IsConsistent s → ((x : MessageRow) → Among x (messages_in s) → x.id < id) → IsSubmission u → IfThere IsConsistent (accept_split id o u s)
split_consistent id None u s k below fit = tt
split_consistent id (Some r) u s k below fit = under_consistent id (Some r) (bodies_under r u.text) u s k below fit (fit.few r)

pub accept_consistent : (u : Submission) (s : Store) → IsConsistent s → IsSubmission u → IfThere IsConsistent (accept u s)
accept_consistent u s k fit =
    let id : ℕ = next_number (rows_of s) in
    let below : (x : MessageRow) → Among x (messages_in s) → x.id < id = λ x among. below_next_number (rows_of s) x k.message_keys among in
    let split : Option ℕ = next_split u.source u.handset (bars_in s) (messages_in s) (parts_in s) in
    cond_both (nat_le id 9999999999) (accept_as id u s) None (λ o. IfThere IsConsistent o)
    (λ t. cond_both (is_long u.text) (accept_split id split u s) (accept_under id None (bodies_under 0 u.text) u s) (λ o. IfThere IsConsistent o)
    (λ e. split_consistent id split u s k below fit) (λ e. under_consistent id None (bodies_under 0 u.text) u s k below fit (fit.few 0)))
    (λ t. tt)

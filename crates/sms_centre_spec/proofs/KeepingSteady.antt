-- What stood in the rows is kept where a submission is accepted, and so through every stage of an event.
use Rattle.std.proofs.Common.{◌≡◌, ℕ, ◌+◌, ◌<◌, List, [], ◌∷◌, false, Option, Some, None, ◌∙◌, ap, ⊎_elim, arith}
use Rattle.std.specs.Prelude.{nat_le}
use Rattle.std.proofs.lemmas.Bool.{cond_both}
use Rattle.sms_base.specs.Among.{Among}
use Rattle.sms_rows.specs.table.Keys.{pair_key}
use Rattle.sms_rows.specs.table.Table.{put}
use Rattle.sms_rows.proofs.table.Tables.{among_put, found_among, found_key, row_at_put_other}
use Rattle.sms_centre_rows.specs.declared.messages.message.MessageRow.{MessageRow}
use Rattle.sms_centre_rows.specs.declared.messages.part.PartRow.{PartRow}
use Rattle.sms_centre_rows.specs.messages.Messages.{message_key, part_key}
use Rattle.sms_centre_rows.specs.messages.SplitReferences.{next_split}
use Rattle.sms_centre_rows.specs.declared.waiting.handset.HandsetRow.{HandsetRow}
use Rattle.sms_centre_rows.specs.waiting.References.{handset_of}
use Rattle.sms_centre_spec.specs.declared.rows.Rows.{Rows}
use Rattle.sms_intake.specs.declared.submission.SinglePart.{SinglePart}
use Rattle.sms_intake.specs.declared.submission.Submission.{Submission}
use Rattle.sms_intake.specs.PartBodies.{deliver_octets}
use Rattle.sms_centre_spec.specs.Draft.{Store, bars_in, handsets_in, messages_in, parts_in, rows_of}
use Rattle.sms_centre_spec.specs.MessageNumbers.{next_number}
use Rattle.sms_centre_spec.specs.Keeping.{Keeps}
use Rattle.sms_centre_spec.specs.Submitting.{accept, accept_as, accept_split, accept_under, enter, give_part, give_parts, message_of, part_given, reference_for}
use Rattle.sms_intake.specs.PartBodies.{bodies_under, is_long}
use Rattle.sms_centre_spec.proofs.Keeping.{end_keeps, keeps_then, part_far_keeps, report_far_keeps, settled_keeps}
use Rattle.sms_centre_spec.proofs.NextNumbers.{below_next_number}
use Rattle.sms_centre_spec.proofs.SoundAccepted.{sound_steady}
use Rattle.sms_centre_spec.proofs.SoundStores.{SoundStore}
use Rattle.sms_centre_spec.proofs.Stages.{IfThere}
use Rattle.sms_centre_spec.proofs.AcceptedConsistent.{then_there}
use Rattle.sms_centre_spec.proofs.StagesConsistent.{part_far_consistent}
use Rattle.sms_centre_spec.proofs.Steady.{IsSteady}
use Rattle.sms_centre_rows.specs.waiting.Trying.{finished}

-- all parts come before that one
abbrev PartsBefore : ℕ → ℕ → Store → Type 0
PartsBefore id n s = (p : PartRow) → Among p (parts_in s) → part_key p < pair_key id n

-- kept so far, with all parts before the next
abbrev KeepsUpTo : Rows → ℕ → ℕ → Store → Type 0
KeepsUpTo base id n s = Keeps base (rows_of s) × PartsBefore id n s

module _ (base : Rows) (id : ℕ) (u : Submission) where
  part_keeps : (n : ℕ) (b : SinglePart) (h : HandsetRow) (o : Option ℕ) (s : Store) → KeepsUpTo base id n s → IfThere (KeepsUpTo base id (n + 1)) (part_given id u n b h o s)
  part_keeps n b h None s k = tt
  part_keeps n b h (Some r) s k =
      let p : PartRow = record {
        id = id;
        number = n;
        reference = r;
        tpdu = deliver_octets s.moment u b;
        key = b.key;
        progress = record { is_done = false; attempts = 0; due = u.due };
      } in
      let after : List PartRow = put part_key p (parts_in s) in (
        record {
          messages = k.0.messages;
          parts = λ i j x e.
              let y = k.0.parts i j x e in
              let low = k.1 y.0 (found_among part_key (pair_key i j) y.0 (parts_in s) y.1.0) in
              let own = found_key part_key (pair_key i j) y.0 (parts_in s) y.1.0 in
              (y.0, (row_at_put_other part_key (pair_key i j) p (parts_in s) (λ q. omega (arith, low, own, q)) ∙ y.1.0, y.1.1));
          reports = k.0.reports;
        },
        λ x among. ⊎_elim
            (λ (e : x ≡ p). let same : part_key x ≡ pair_key id n = ap (λ (y : PartRow). part_key y) e in omega (arith, same))
            (λ (a : Among x (parts_in s) × ¬ (part_key x ≡ part_key p)). let low = k.1 x a.0 in omega (arith, low))
            (among_put part_key x p (parts_in s) among),
      )

  parts_keep : (n : ℕ) (bs : List SinglePart) (s : Store) → KeepsUpTo base id n s → IfThere (λ (e : Store). Keeps base (rows_of e)) (give_parts id u n bs s)
  parts_keep n [] s k = k.0
  parts_keep n (b ∷ bs) s k =
      let h : HandsetRow = handset_of u.handset (handsets_in s) in
      then_there (KeepsUpTo base id (n + 1)) (λ (e : Store). Keeps base (rows_of e)) (λ (e : Store). give_parts id u (n + 1) bs e) (give_part id u n b h s)
      (part_keeps n b h (reference_for h s) s k) (λ e g. parts_keep (n + 1) bs e g)

  under_keeps : (split : Option ℕ) (bs : List SinglePart) (s : Store) → Keeps base (rows_of s) → ((x : MessageRow) → Among x (messages_in s) → x.id < id) → PartsBefore id 1 s
      → IfThere (λ (e : Store). Keeps base (rows_of e)) (accept_under id split bs u s)
  under_keeps split bs s k new before =
      let m : MessageRow = message_of id s.moment split u in
      let kept : Keeps base (rows_of (enter id split u s)) = record {
        messages = λ i x e.
            let y = k.messages i x e in
            let low = new y.0 (found_among message_key i y.0 (messages_in s) y.1.0) in
            let own = found_key message_key i y.0 (messages_in s) y.1.0 in
            (y.0, (row_at_put_other message_key i m (messages_in s) (λ q. omega (arith, low, own, q)) ∙ y.1.0, y.1.1));
        parts = k.parts;
        reports = k.reports;
      } in
      parts_keep 1 bs (enter id split u s) (kept, before)

  split_keeps : (o : Option ℕ) (s : Store) → Keeps base (rows_of s) → ((x : MessageRow) → Among x (messages_in s) → x.id < id) → PartsBefore id 1 s
      → IfThere (λ (e : Store). Keeps base (rows_of e)) (accept_split id o u s)
  split_keeps None s k new before = tt
  split_keeps (Some r) s k new before = under_keeps (Some r) (bodies_under r u.text) s k new before

accept_keeps : (base : Rows) (u : Submission) (s : Store) → SoundStore s → Keeps base (rows_of s) → IfThere (λ (e : Store). Keeps base (rows_of e)) (accept u s)
accept_keeps base u s k kept =
    let id : ℕ = next_number (rows_of s) in
    let new : (x : MessageRow) → Among x (messages_in s) → x.id < id = λ x among. below_next_number (rows_of s) x k.messages.message_keys among in
    let before : PartsBefore id 1 s = λ p among.
    let i = k.messages.each_part p among in
    let few = i.few in
    let low = new i.message.0 (found_among message_key p.id i.message.0 (messages_in s) i.message.1.0) in
    let own = found_key message_key p.id i.message.0 (messages_in s) i.message.1.0 in
    omega (arith, few, low, own) in
    let split : Option ℕ = next_split u.source u.handset (bars_in s) (messages_in s) (parts_in s) in
    cond_both (nat_le id 9999999999) (accept_as id u s) None (λ o. IfThere (λ (e : Store). Keeps base (rows_of e)) o)
    (λ t. cond_both (is_long u.text) (accept_split id split u s) (accept_under id None (bodies_under 0 u.text) u s) (λ o. IfThere (λ (e : Store). Keeps base (rows_of e)) o)
    (λ e. split_keeps base id u split s kept new before) (λ e. under_keeps base id u None (bodies_under 0 u.text) s kept new before))
    (λ t. tt)

-- sound rows in which what stood in these stands
abbrev pub SoundSince : Rows → Store → Type 0
SoundSince base s = SoundStore s × Keeps base (rows_of s)

pub both_there : (A B : Store → Type 0) (o : Option Store) → IfThere A o → IfThere B o → IfThere (λ (s : Store). A s × B s) o
both_there A B None a b = tt
both_there A B (Some s) a b = (a, b)

pub since_steady : (base : Rows) → IsSteady (SoundSince base)
since_steady base = record {
  consistent = λ s k. k.0.consistent;
  accepted = λ u s k fit. both_there SoundStore (λ (e : Store). Keeps base (rows_of e)) (accept u s) (sound_steady.accepted u s k.0 fit) (accept_keeps base u s k.0 k.1);
  ended = λ f m s k there pending partly.
      (sound_steady.ended f m s k.0 there pending partly, keeps_then base (rows_of s) _ k.1 (end_keeps f m s k.0.consistent there pending));
  settled = λ p m s k there of pending undone. (
    sound_steady.settled p m s k.0 there of pending undone,
    keeps_then base (rows_of s) _ k.1 (settled_keeps p m s (part_far_consistent p (finished p.progress) s k.0.consistent there (λ t. absurd cc)) there of pending),
  );
  part_far = λ p q s k there same. (sound_steady.part_far p q s k.0 there same, keeps_then base (rows_of s) _ k.1 (part_far_keeps p q s there (λ t. same ∙ t)));
  report_far = λ r q s k there stays. (sound_steady.report_far r q s k.0 there stays, keeps_then base (rows_of s) _ k.1 (report_far_keeps r q s k.0.consistent there stays));
  later = λ n s k past is. (sound_steady.later n s k.0 past is, k.1);
}

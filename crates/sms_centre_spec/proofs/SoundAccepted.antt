-- A submission that is accepted leaves rows that a centre can stand on.
use Rattle.std.proofs.Common.{◌≡◌, ℕ, ◌+◌, ◌<◌, ◌≤◌, List, [], ◌∷◌, length, false, Option, Some, None, refl, sym, ◌∙◌, subst, inl, inr, ⊎_elim, arith}
use Rattle.std.specs.Prelude.{nat_le}
use Rattle.std.proofs.lemmas.Bool.{cond_both, leb-true}
use Rattle.sms_base.specs.Among.{Among}
use Rattle.sms_base.specs.MessageId.{IsMessageId}
use Rattle.sms_rows.specs.table.Table.{put}
use Rattle.sms_rows.proofs.table.Tables.{among_put, row_at_put}
use Rattle.sms_centre_rows.specs.declared.messages.message.MessageRow.{MessageRow}
use Rattle.sms_centre_rows.specs.declared.messages.part.PartRow.{PartRow}
use Rattle.sms_centre_rows.specs.declared.messages.priority.PriorityRow.{PriorityRow}
use Rattle.sms_centre_rows.specs.messages.Messages.{message_at, message_key, part_key, priority_key}
use Rattle.sms_centre_rows.specs.messages.SoundMessages.{IsDeliver, IsPart}
use Rattle.sms_centre_rows.specs.messages.SplitReferences.{is_delivered, next_split}
use Rattle.sms_centre_rows.specs.declared.waiting.handset.HandsetRow.{HandsetRow}
use Rattle.sms_centre_rows.specs.waiting.References.{given_row, handset_of}
use Rattle.sms_centre_rows.proofs.waiting.WaitingSound.{next_is_free}
use Rattle.sms_intake.specs.declared.submission.SinglePart.{SinglePart}
use Rattle.sms_intake.specs.declared.submission.Submission.{Submission}
use Rattle.sms_intake.specs.PartBodies.{deliver_octets, deliver_of}
use Rattle.sms_centre_spec.specs.Draft.{Store, bars_in, handsets_in, messages_in, parts_in, priorities_in, references_in, reports_in, rows_of, waiting_in}
use Rattle.sms_centre_spec.specs.MessageNumbers.{next_number}
use Rattle.sms_centre_spec.specs.Consistent.{IsBody, IsSubmission, IsConsistent}
use Rattle.sms_centre_spec.specs.Submitting.{accept, accept_as, accept_split, accept_under, enter, give_part, give_parts, message_of, part_given, reference_for}
use Rattle.sms_intake.specs.PartBodies.{bodies_under, is_long}
use Rattle.sms_centre_spec.proofs.MessagesEntered.{IsFirst, first_rows, part_rows}
use Rattle.sms_centre_spec.proofs.SoundMessagesStay.{rows_are, rows_sound}
use Rattle.sms_centre_spec.proofs.NextNumbers.{below_next_number, some_next_number}
use Rattle.sms_centre_spec.proofs.SoundReportsStay.{entered_reports}
use Rattle.sms_centre_spec.proofs.SoundEnds.{given_times}
use Rattle.sms_centre_spec.proofs.SoundSteady.{later_sound, part_end_sound, part_far_sound, report_far_sound, settled_sound}
use Rattle.sms_centre_spec.proofs.SoundStores.{IsPast, SoundStore, Times}
use Rattle.sms_centre_spec.proofs.SplitsStayApart.{entered_apart, next_is_apart}
use Rattle.sms_centre_spec.proofs.Stages.{IfThere}
use Rattle.sms_centre_spec.proofs.AcceptedConsistent.{Entered, enter_consistent, part_consistent, then_there}
use Rattle.sms_centre_spec.proofs.Steady.{IsSteady, IsStill, still_of}
use Rattle.sms_centre_spec.proofs.TpdusRead.{part_reads}

-- the part as it is put
abbrev part_row : ℕ → ℕ → ℕ → Submission → SinglePart → Store → PartRow
part_row id number reference u b s = record {
  id = id;
  number = number;
  reference = reference;
  tpdu = deliver_octets s.moment u b;
  key = b.key;
  progress = record { is_done = false; attempts = 0; due = u.due };
}

part_is : (id submitted number reference : ℕ) (split : Option ℕ) (u : Submission) (b : SinglePart) (s : Store) (ms : List MessageRow) → IsSubmission u → IsBody u b → Times s
    → message_at id ms ≡ Some (message_of id submitted split u) → 0 < number → number ≤ 20 → reference < 256 → IsPart ms (part_row id number reference u b s)
part_is id submitted number reference split u b s ms fit body times there some few small =
    let p : PartRow = part_row id number reference u b s in
    let m : MessageRow = message_of id submitted split u in
    let reads : IsDeliver m p (deliver_of s.moment u b) = part_reads id submitted s.moment split u b p times.now fit.source body refl in
    record { first = some; few = few; reference = small; message = (m, (there, (deliver_of s.moment u b, reads))) }

-- ---- the parts behind the first

-- the message stands in sound rows
abbrev SoundlyEntered : MessageRow → Store → Type 0
SoundlyEntered m s = SoundStore s × (message_at m.id (messages_in s) ≡ Some m)

part_sound : (id submitted n : ℕ) (split : Option ℕ) (u : Submission) (b : SinglePart) (o : Option ℕ) (s : Store) → IsSubmission u → IsBody u b → SoundlyEntered (message_of id submitted split u) s → 0 < n → n ≤ 20
    → reference_for (handset_of u.handset (handsets_in s)) s ≡ o → IfThere (SoundlyEntered (message_of id submitted split u)) (part_given id u n b (handset_of u.handset (handsets_in s)) o s)
part_sound id submitted n split u b None s fit body k some few next = tt
part_sound id submitted n split u b (Some r) s fit body k some few next =
    let h : HandsetRow = handset_of u.handset (handsets_in s) in
    let m : MessageRow = message_of id submitted split u in
    let p : PartRow = part_row id n r u b s in
    let consistent : Entered m _ = part_consistent m u n b (Some r) s (k.0.consistent, k.1) refl some (omega (arith, few)) next in
    let small : r < 256 = (next_is_free h (waiting_in h.number s) (references_in s) s.moment r next).1 in
    let is : IsPart (messages_in s) p = part_is id submitted n r split u b s (messages_in s) fit body k.0.times k.1 some few small in (
      record {
        consistent = consistent.0;
        messages = rows_sound (messages_in s) (put part_key p (parts_in s)) (priorities_in s)
            (part_rows (messages_in s) (parts_in s) (priorities_in s) p m (rows_are (messages_in s) (parts_in s) (priorities_in s) k.0.messages) k.1 refl refl is);
        reports = k.0.reports;
        splits = k.0.splits;
        bars = k.0.bars;
        setup = k.0.setup;
        times = record {
          now = k.0.times.now;
          start = k.0.times.start;
          submitted = k.0.times.submitted;
          given = given_times (given_row h r s.moment) s k.0.times refl;
          made = k.0.times.made;
        };
      },
      k.1,
    )

parts_sound : (id submitted n : ℕ) (split : Option ℕ) (u : Submission) (bs : List SinglePart) (s : Store) → IsSubmission u → ((b : SinglePart) → Among b bs → IsBody u b) → SoundlyEntered (message_of id submitted split u) s
    → 0 < n → n + length bs ≤ 21 → IfThere SoundStore (give_parts id u n bs s)
parts_sound id submitted n split u [] s fit bodies k some few = k.0
parts_sound id submitted n split u (b ∷ bs) s fit bodies k some few =
    let h : HandsetRow = handset_of u.handset (handsets_in s) in
    then_there (SoundlyEntered (message_of id submitted split u)) SoundStore (λ (e : Store). give_parts id u (n + 1) bs e) (give_part id u n b h s)
    (part_sound id submitted n split u b (reference_for h s) s fit (bodies b (inl refl)) k some (omega (arith, few)) refl)
    (λ e g. parts_sound id submitted (n + 1) split u bs e fit (λ x a. bodies x (inr a)) g (omega arith) (omega (arith, few)))

-- ---- the message with its first part

-- what a new message rests on
record CanEnter (id : ℕ) (split : Option ℕ) (u : Submission) (s : Store) : Type 0 where
  sound : SoundStore s
  fit : IsSubmission u
  is : IsMessageId id
  new : (x : MessageRow) → Among x (messages_in s) → x.id < id
  apart : (x : MessageRow) (r : ℕ) → Among x (messages_in s) → x.source ≡ u.source → x.handset ≡ u.handset → x.split_reference ≡ Some r → split ≡ Some r → is_delivered x.state ≡ false → ⊥

entered_times : (id : ℕ) (split : Option ℕ) (u : Submission) (s : Store) → Times s → Times (enter id split u s)
entered_times id split u s t = record {
  now = t.now;
  start = t.start;
  submitted = λ x among. ⊎_elim
      (λ (e : x ≡ message_of id s.moment split u).
      let past : IsPast s.moment s.moment = (t.now, omega arith) in
      subst (λ (y : MessageRow). IsPast s.moment y.submitted) (sym e) past)
      (λ (a : Among x (messages_in s) × ¬ (x.id ≡ id)). t.submitted x a.0)
      (among_put message_key x (message_of id s.moment split u) (messages_in s) among);
  given = t.given;
  made = t.made;
}

first_sound : (id : ℕ) (split : Option ℕ) (u : Submission) (b : SinglePart) (o : Option ℕ) (s : Store) → CanEnter id split u s → IsBody u b
    → reference_for (handset_of u.handset (handsets_in s)) (enter id split u s) ≡ o
    → IfThere (SoundlyEntered (message_of id s.moment split u)) (part_given id u 1 b (handset_of u.handset (handsets_in s)) o (enter id split u s))
first_sound id split u b None s c body next = tt
first_sound id split u b (Some r) s c body next =
    let e : Store = enter id split u s in
    let h : HandsetRow = handset_of u.handset (handsets_in s) in
    let m : MessageRow = message_of id s.moment split u in
    let q : PriorityRow = record { id = id; priority = u.priority } in
    let p : PartRow = part_row id 1 r u b s in
    let ms : List MessageRow = messages_in s in
    let there : message_at id (put message_key m ms) ≡ Some m = row_at_put message_key m ms in
    let entered : IsConsistent e = enter_consistent id split u s c.sound.consistent c.new c.fit.handset c.fit.report_address in
    let consistent : Entered m _ = part_consistent m u 1 b (Some r) e (entered, there) refl (omega arith) (omega arith) next in
    let small : r < 256 = (next_is_free h (waiting_in h.number e) (references_in e) e.moment r next).1 in
    let times : Times e = entered_times id split u s c.sound.times in
    let first : IsFirst ms m p q = record {
      new = c.new;
      id = c.is;
      source = c.fit.source;
      handset = c.fit.handset;
      pending = refl;
      ended = refl;
      part_id = refl;
      part_number = refl;
      part_undone = refl;
      part = part_is id s.moment 1 r split u b s (put message_key m ms) c.fit body c.sound.times there (omega arith) (omega arith) small;
      priority_id = refl;
      priority_few = c.fit.priority;
    } in (
      record {
        consistent = consistent.0;
        messages = rows_sound (put message_key m ms) (put part_key p (parts_in s)) (put priority_key q (priorities_in s))
            (first_rows ms (parts_in s) (priorities_in s) m p q (rows_are ms (parts_in s) (priorities_in s) c.sound.messages) first);
        reports = entered_reports ms (reports_in s) m c.sound.reports c.new;
        splits = entered_apart ms m c.sound.splits c.apart;
        bars = c.sound.bars;
        setup = c.sound.setup;
        times = record {
          now = times.now;
          start = times.start;
          submitted = times.submitted;
          given = given_times (given_row h r s.moment) e times refl;
          made = times.made;
        };
      },
      there,
    )

-- ---- all of it

under_sound : (id : ℕ) (split : Option ℕ) (bs : List SinglePart) (u : Submission) (s : Store) → CanEnter id split u s → 0 < length bs → length bs ≤ 20 → ((b : SinglePart) → Among b bs → IsBody u b)
    → IfThere SoundStore (accept_under id split bs u s)
under_sound id split [] u s c some few bodies = absurd (omega (arith, some))
under_sound id split (b ∷ bs) u s c some few bodies =
    let e : Store = enter id split u s in
    let h : HandsetRow = handset_of u.handset (handsets_in e) in
    then_there (SoundlyEntered (message_of id s.moment split u)) SoundStore (λ (x : Store). give_parts id u 2 bs x) (give_part id u 1 b h e)
    (first_sound id split u b (reference_for h e) s c (bodies b (inl refl)) refl)
    (λ x g. parts_sound id s.moment 2 split u bs x c.fit (λ y a. bodies y (inr a)) g (omega arith) (omega (arith, few)))

split_sound : (id : ℕ) (o : Option ℕ) (u : Submission) (s : Store) → SoundStore s → IsSubmission u → IsMessageId id → ((x : MessageRow) → Among x (messages_in s) → x.id < id)
    → next_split u.source u.handset (bars_in s) (messages_in s) (parts_in s) ≡ o → IfThere SoundStore (accept_split id o u s)
split_sound id None u s k fit is new next = tt
split_sound id (Some r) u s k fit is new next =
    under_sound id (Some r) (bodies_under r u.text) u s
    (record {
      sound = k;
      fit = fit;
      is = is;
      new = new;
      apart = λ x n among e f g h i. next_is_apart u.source u.handset (bars_in s) (messages_in s) (parts_in s) r x next among e f (g ∙ sym h) i;
    })
    (fit.some r) (fit.few r) (fit.bodies r)

whole_sound : (id : ℕ) (u : Submission) (s : Store) → SoundStore s → IsSubmission u → IsMessageId id → ((x : MessageRow) → Among x (messages_in s) → x.id < id) → IfThere SoundStore (accept_under id None (bodies_under 0 u.text) u s)
whole_sound id u s k fit is new =
    under_sound id None (bodies_under 0 u.text) u s
    (record { sound = k; fit = fit; is = is; new = new; apart = λ x n among e f g h i. absurd cc }) (fit.some 0) (fit.few 0) (fit.bodies 0)

accept_sound : (u : Submission) (s : Store) → SoundStore s → IsSubmission u → IfThere SoundStore (accept u s)
accept_sound u s k fit =
    let id : ℕ = next_number (rows_of s) in
    let new : (x : MessageRow) → Among x (messages_in s) → x.id < id = λ x among. below_next_number (rows_of s) x k.messages.message_keys among in
    let split : Option ℕ = next_split u.source u.handset (bars_in s) (messages_in s) (parts_in s) in
    cond_both (nat_le id 9999999999) (accept_as id u s) None (λ o. IfThere SoundStore o)
    (λ t.
    let is : IsMessageId id = record { some = some_next_number (rows_of s) k.messages.message_keys; short = leb-true id 9999999999 t } in
    cond_both (is_long u.text) (accept_split id split u s) (accept_under id None (bodies_under 0 u.text) u s) (λ o. IfThere SoundStore o)
    (λ e. split_sound id split u s k fit is new refl) (λ e. whole_sound id u s k fit is new))
    (λ t. tt)

pub sound_steady : IsSteady SoundStore
sound_steady = record {
  consistent = λ s k. k.consistent;
  accepted = accept_sound;
  ended = part_end_sound;
  settled = settled_sound;
  part_far = part_far_sound;
  report_far = report_far_sound;
  later = later_sound;
}

pub sound_still : IsStill SoundStore
sound_still = still_of SoundStore sound_steady

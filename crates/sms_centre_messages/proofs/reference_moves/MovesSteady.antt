-- Every stage of an event keeps that what it changed are moves.
use Rattle.std.proofs.Common.{◌≡◌, ℕ, ◌+◌, ◌<◌, ◌≤◌, List, [], ◌∷◌, length, true, false, Option, Some, None, refl, sym, ◌∙◌, ap, subst, ⊎_elim, arith}
use Rattle.std.specs.Prelude.{nat_le}
use Rattle.std.proofs.lemmas.Bool.{cond_both, leb-true}
use Rattle.sms_base.specs.Among.{Among}
use Rattle.sms_base.specs.declared.final_state.FinalState.{FinalState}
use Rattle.sms_base.specs.declared.final_state.FinalState.TheVariants.{Delivered}
use Rattle.sms_base.specs.declared.originator.Originator.{Originator}
use Rattle.sms_base.specs.declared.originator.Originator.TheVariants.{Application, Handset}
use Rattle.sms_rows.specs.declared.table.change.Change.{Change}
use Rattle.sms_rows.specs.table.Keys.{pair_key}
use Rattle.sms_rows.specs.table.Table.{Rises, row_at}
use Rattle.sms_rows.proofs.table.Tables.{among_put, found_among, found_key, rises_put}
use Rattle.sms_centre_rows.specs.declared.messages.message.MessageRow.{MessageRow}
use Rattle.sms_centre_rows.specs.declared.messages.part.PartRow.{PartRow}
use Rattle.sms_centre_rows.specs.messages.Messages.{Messages, all_done, ended, is_pending, message_at, message_key, part_key, put_message}
use Rattle.sms_centre_rows.specs.messages.SoundMessages.{SoundMessages}
use Rattle.sms_centre_rows.specs.messages.SplitReferences.{next_split}
use Rattle.sms_centre_rows.specs.declared.waiting.handset.HandsetRow.{HandsetRow}
use Rattle.sms_centre_rows.specs.declared.waiting.progress.Progress.{Progress}
use Rattle.sms_centre_rows.specs.waiting.References.{handset_of}
use Rattle.sms_centre_rows.specs.waiting.Trying.{finished}
use Rattle.sms_intake.specs.declared.submission.SinglePart.{SinglePart}
use Rattle.sms_intake.specs.declared.submission.Submission.{Submission}
use Rattle.sms_intake.specs.PartBodies.{bodies_under, deliver_octets, is_long}
use Rattle.sms_centre_messages.specs.references.ReferenceIndex.{AreFew, IsNewest}
use Rattle.sms_centre_spec.specs.declared.rows.Rows.{Rows}
use Rattle.sms_centre_spec.specs.Draft.{Store, bars_in, handsets_in, messages_in, parts_in, rows_of, with_message, with_part_at}
use Rattle.sms_centre_spec.specs.MessageNumbers.{next_number}
use Rattle.sms_centre_spec.specs.Ends.{end, is_wished, report_to, status_given}
use Rattle.sms_centre_spec.specs.Keeping.{Keeps}
use Rattle.sms_centre_spec.specs.Consistent.{IsSubmission}
use Rattle.sms_centre_spec.specs.Submitting.{accept, accept_as, accept_split, accept_under, enter, give_part, give_parts, message_of, part_given, reference_for}
use Rattle.sms_centre_spec.specs.Transfers.{complete}
use Rattle.sms_centre_spec.proofs.KeepingSteady.{SoundSince, both_there, since_steady}
use Rattle.sms_centre_spec.proofs.NextNumbers.{below_next_number}
use Rattle.sms_centre_spec.proofs.Stages.{IfThere}
use Rattle.sms_centre_spec.proofs.AcceptedConsistent.{then_there}
use Rattle.sms_centre_spec.proofs.Steady.{IsSteady, message_own}
use Rattle.sms_centre_messages.proofs.reference_moves.Counting.{few_messages, few_parts, rows_below}
use Rattle.sms_centre_messages.proofs.reference_moves.Newest.{HasPut, MessagesMove, PartsMove, parts_still, put_here}

-- what came of these rows are moves
pub record Moving (base : Rows) (m : Messages) : Type 0 where
  pub base_messages : m.messages.base ≡ base.messages
  pub base_parts : m.parts.base ≡ base.parts
  pub messages : MessagesMove m.messages.news m.messages.base m.parts.base
  pub parts : PartsMove m.messages.news m.parts.news m.parts.base

-- ---- a message ends

pub status_touches : (f : FinalState) (m : MessageRow) (h : HandsetRow) (o : Option ℕ) (s : Store) → (status_given f m h o s).messages ≡ s.messages
status_touches f m h None s = refl
status_touches f m h (Some r) s = refl

pub report_touches : (o : Originator) (f : FinalState) (m : MessageRow) (s : Store) → (report_to o f m s).messages ≡ s.messages
report_touches (Application account) f m s = refl
report_touches (Handset n) f m s =
    let h : HandsetRow = handset_of m.source.digits (handsets_in s) in status_touches f m h (reference_for h s) s

end_touches : (f : FinalState) (m : MessageRow) (s : Store) → (end f m s).messages ≡ put_message (ended f s.moment m) s.messages
end_touches f m s =
    let e : Store = with_message (ended f s.moment m) s in
    cond_both (is_wished m.wish f) (report_to m.originator f m e) e (λ (x : Store). x.messages ≡ e.messages) (λ t. report_touches m.originator f m e) (λ t. refl)

module _ (base : Rows) where
  ended_moves : (f : FinalState) (m : MessageRow) (s : Store) → Moving base s.messages → message_at m.id (messages_in s) ≡ Some m → is_pending m ≡ true → Moving base (end f m s).messages
  ended_moves f m s k there pending =
      let w : MessageRow = ended f s.moment m in
      let is : Moving base (put_message w s.messages) = record {
        base_messages = k.base_messages;
        base_parts = k.base_parts;
        messages = ((m, (s.moment, (there, (pending, refl)))), k.messages);
        parts = parts_still w s.messages.messages.news s.messages.parts.news s.messages.parts.base k.parts;
      } in
      subst (λ (x : Messages). Moving base x) (sym (end_touches f m s)) is

  -- ---- a part is so far

  far_moves : (p : PartRow) (q : Progress) (s : Store) → Moving base s.messages → Moving base (with_part_at p q s).messages
  far_moves p q s k = record { base_messages = k.base_messages; base_parts = k.base_parts; messages = k.messages; parts = (tt, k.parts) }

  settled_moves : (p : PartRow) (m : MessageRow) (s : Store) → Moving base s.messages → message_at p.id (messages_in s) ≡ Some m → is_pending m ≡ true
      → Moving base (complete m (with_part_at p (finished p.progress) s)).messages
  settled_moves p m s k of pending =
      let e : Store = with_part_at p (finished p.progress) s in
      let far : Moving base e.messages = far_moves p (finished p.progress) s k in
      cond_both (all_done m.id (parts_in e)) (end Delivered m e) e (λ (x : Store). Moving base x.messages)
      (λ t. ended_moves Delivered m e far (message_own p.id m e of) pending) (λ t. far)

-- ---- a submission is accepted

-- the parts so far stand before the next, and its message came
record MovingTo (base : Rows) (id n : ℕ) (s : Store) : Type 0 where
  moves : Moving base s.messages
  has : HasPut id s.messages.messages.news
  keys : Rises part_key (parts_in s)
  before : (p : PartRow) → Among p (parts_in s) → part_key p < pair_key id n

none_before : (key : ℕ) (ps : List PartRow) → ((p : PartRow) → Among p ps → part_key p < key) → row_at part_key key ps ≡ None
none_before key ps before = none (row_at part_key key ps) refl
  where
    none : (o : Option PartRow) → row_at part_key key ps ≡ o → row_at part_key key ps ≡ None
    none None e = e
    none (Some p) e =
        let low = before p (found_among part_key key p ps e) in
        let own = found_key part_key key p ps e in
        absurd (omega (arith, low, own))

module _ (base : Rows) (id : ℕ) (u : Submission) (short : id ≤ 9999999999) where
  part_moves : (n : ℕ) (b : SinglePart) (h : HandsetRow) (o : Option ℕ) (s : Store) → n ≤ 20 → MovingTo base id n s → IfThere (MovingTo base id (n + 1)) (part_given id u n b h o s)
  part_moves n b h None s few k = tt
  part_moves n b h (Some r) s few k =
      let p : PartRow = record {
        id = id;
        number = n;
        reference = r;
        tpdu = deliver_octets s.moment u b;
        key = b.key;
        progress = record { is_done = false; attempts = 0; due = u.due };
      } in
      let count = rows_below part_key (pair_key id n) (parts_in s) k.keys k.before in
      record {
        moves = record {
          base_messages = k.moves.base_messages;
          base_parts = k.moves.base_parts;
          messages = k.moves.messages;
          parts = ((k.has, (none_before (pair_key id n) (parts_in s) k.before, omega (arith, short, few, count))), k.moves.parts);
        };
        has = k.has;
        keys = rises_put part_key p (parts_in s) k.keys;
        before = λ x among. ⊎_elim
            (λ (e : x ≡ p). let same : part_key x ≡ pair_key id n = ap (λ (y : PartRow). part_key y) e in omega (arith, same))
            (λ (a : Among x (parts_in s) × ¬ (part_key x ≡ part_key p)). let low = k.before x a.0 in omega (arith, low))
            (among_put part_key x p (parts_in s) among);
      }

  parts_move : (n : ℕ) (bs : List SinglePart) (s : Store) → n + length bs ≤ 21 → MovingTo base id n s → IfThere (λ (e : Store). Moving base e.messages) (give_parts id u n bs s)
  parts_move n [] s few k = k.moves
  parts_move n (b ∷ bs) s few k =
      let h : HandsetRow = handset_of u.handset (handsets_in s) in
      then_there (MovingTo base id (n + 1)) (λ (e : Store). Moving base e.messages) (λ (e : Store). give_parts id u (n + 1) bs e) (give_part id u n b h s)
      (part_moves n b h (reference_for h s) s (omega (arith, few)) k) (λ e g. parts_move (n + 1) bs e (omega (arith, few)) g)

  under_moves : (split : Option ℕ) (bs : List SinglePart) (s : Store) → length bs ≤ 20 → Moving base s.messages → IsNewest (message_of id s.moment split u) (messages_in s) base.parts × AreFew (messages_in s) base.parts
      → Rises part_key (parts_in s) → ((p : PartRow) → Among p (parts_in s) → part_key p < pair_key id 1) → IfThere (λ (e : Store). Moving base e.messages) (accept_under id split bs u s)
  under_moves split bs s few k comes keys before =
      let m : MessageRow = message_of id s.moment split u in
      let cs : List (Change MessageRow) = s.messages.messages.news in
      let entered : MovingTo base id 1 (enter id split u s) = record {
        moves = record {
          base_messages = k.base_messages;
          base_parts = k.base_parts;
          messages = (subst (λ (ps : List PartRow). IsNewest m (messages_in s) ps × AreFew (messages_in s) ps) (sym k.base_parts) comes, k.messages);
          parts = parts_still m cs s.messages.parts.news s.messages.parts.base k.parts;
        };
        has = put_here m cs;
        keys = keys;
        before = before;
      } in
      parts_move 1 bs (enter id split u s) (omega (arith, few)) entered

  split_moves : (o : Option ℕ) (s : Store) → ((reference : ℕ) → length (bodies_under reference u.text) ≤ 20) → Moving base s.messages
      → ((split : Option ℕ) → IsNewest (message_of id s.moment split u) (messages_in s) base.parts × AreFew (messages_in s) base.parts)
      → Rises part_key (parts_in s) → ((p : PartRow) → Among p (parts_in s) → part_key p < pair_key id 1) → IfThere (λ (e : Store). Moving base e.messages) (accept_split id o u s)
  split_moves None s few k comes keys before = tt
  split_moves (Some r) s few k comes keys before = under_moves (Some r) (bodies_under r u.text) s (few r) k (comes (Some r)) keys before

-- a message of the rows has a lower number than the next one
id_below : (base : Rows) (s : Store) (id : ℕ) (m : MessageRow) → Keeps base (rows_of s) → ((x : MessageRow) → Among x (messages_in s) → x.id < next_number (rows_of s)) → message_at id base.messages ≡ Some m → id < next_number (rows_of s)
id_below base s id m keeps below there =
    let y = keeps.messages id m there in
    let low = below y.0 (found_among message_key id y.0 (messages_in s) y.1.0) in
    let own = found_key message_key id y.0 (messages_in s) y.1.0 in
    omega (arith, low, own)

accept_moves : (base : Rows) (u : Submission) (s : Store) → SoundMessages base.messages base.parts base.priorities → SoundSince base s → Moving base s.messages → IsSubmission u
    → IfThere (λ (e : Store). Moving base e.messages) (accept u s)
accept_moves base u s sound since k fit =
    let id : ℕ = next_number (rows_of s) in
    let rows = since.0.messages in
    let below : (x : MessageRow) → Among x (messages_in s) → x.id < id = λ x among. below_next_number (rows_of s) x rows.message_keys among in
    let count = few_messages (messages_in s) (parts_in s) (rows_of s).priorities rows in
    let parts = few_parts base.messages base.parts base.priorities sound in
    let few : AreFew (messages_in s) base.parts = omega (arith, count, parts) in
    let comes : (split : Option ℕ) → IsNewest (message_of id s.moment split u) (messages_in s) base.parts × AreFew (messages_in s) base.parts = λ split. (
      record {
        last = below;
        no_parts = λ p among e.
            let of = (sound.each_part p among).message in
            let low = id_below base s p.id of.0 since.1 below of.1.0 in
            omega (arith, low, e);
      },
      few,
    ) in
    let before : (p : PartRow) → Among p (parts_in s) → part_key p < pair_key id 1 = λ p among.
    let i = rows.each_part p among in
    let small = i.few in
    let low = below i.message.0 (found_among message_key p.id i.message.0 (messages_in s) i.message.1.0) in
    let own = found_key message_key p.id i.message.0 (messages_in s) i.message.1.0 in
    omega (arith, small, low, own) in
    let split : Option ℕ = next_split u.source u.handset (bars_in s) (messages_in s) (parts_in s) in
    cond_both (nat_le id 9999999999) (accept_as id u s) None (λ o. IfThere (λ (e : Store). Moving base e.messages) o)
    (λ t.
    let short : id ≤ 9999999999 = leb-true id 9999999999 t in
    cond_both (is_long u.text) (accept_split id split u s) (accept_under id None (bodies_under 0 u.text) u s) (λ o. IfThere (λ (e : Store). Moving base e.messages) o)
    (λ e. split_moves base id u short split s fit.few k comes rows.part_keys before)
    (λ e. under_moves base id u short None (bodies_under 0 u.text) s (fit.few 0) k (comes None) rows.part_keys before))
    (λ t. tt)

-- ---- all stages

abbrev pub MovingSince : Rows → Store → Type 0
MovingSince base s = SoundSince base s × Moving base s.messages

pub moving_steady : (base : Rows) → SoundMessages base.messages base.parts base.priorities → IsSteady (MovingSince base)
moving_steady base sound =
    let c = since_steady base in
    record {
      consistent = λ s k. c.consistent s k.0;
      accepted = λ u s k fit.
          both_there (SoundSince base) (λ (e : Store). Moving base e.messages) (accept u s) (c.accepted u s k.0 fit) (accept_moves base u s sound k.0 k.1 fit);
      ended = λ f m s k there pending partly. (c.ended f m s k.0 there pending partly, ended_moves base f m s k.1 there pending);
      settled = λ p m s k there of pending undone. (c.settled p m s k.0 there of pending undone, settled_moves base p m s k.1 of pending);
      part_far = λ p q s k there same. (c.part_far p q s k.0 there same, far_moves base p q s k.1);
      report_far = λ r q s k there stays. (c.report_far r q s k.0 there stays, k.1);
      later = λ n s k past is. (c.later n s k.0 past is, k.1);
    }

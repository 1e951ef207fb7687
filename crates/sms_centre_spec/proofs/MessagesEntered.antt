-- Messages, parts and priorities that a centre can stand on stay so where a message comes with its first part, and where one more
-- of its parts comes.
use Rattle.std.proofs.Common.{◌≡◌, ℕ, ◌<◌, ◌≤◌, List, true, false, Some, refl, sym, ◌∙◌, ap, subst, inl, ⊎_elim, arith}
use Rattle.std.proofs.lemmas.Bool.{cases_eq}
use Rattle.sms_base.specs.Address.{IsAddress}
use Rattle.sms_base.specs.Among.{Among}
use Rattle.sms_base.specs.MessageId.{IsMessageId}
use Rattle.sms_rows.specs.table.Keys.{pair_key}
use Rattle.sms_rows.specs.table.Table.{put, row_at}
use Rattle.sms_rows.proofs.table.Tables.{among_put, found_among, found_key, put_among, rises_put, row_at_put, row_at_put_other}
use Rattle.sms_centre_rows.specs.declared.messages.message.MessageRow.{MessageRow}
use Rattle.sms_centre_rows.specs.declared.messages.part.PartRow.{PartRow}
use Rattle.sms_centre_rows.specs.declared.messages.priority.PriorityRow.{PriorityRow}
use Rattle.sms_centre_rows.specs.messages.Messages.{is_pending, message_at, message_key, part_at, part_key, priority_key}
use Rattle.sms_centre_rows.specs.messages.SoundMessages.{EndsAt, IsPart, IsPriority}
use Rattle.sms_centre_rows.specs.waiting.SoundAllocations.{IsNumber}
use Rattle.sms_centre_spec.proofs.DoneMarks.{all_done_put, not_all_done}
use Rattle.sms_centre_spec.proofs.SoundMessagesStay.{AreRows, StatesItsParts, IsWhole, found_message, pending_undelivered, small_numbers}

-- the new part is undone, so its message isn't wholly delivered
told_with : (ps : List PartRow) (p : PartRow) (x : MessageRow) → is_pending x ≡ true → p.id ≡ x.id → p.progress.is_done ≡ false → StatesItsParts (put part_key p ps) x
told_with ps p x pending own undone =
    pending_undelivered x.state pending ∙ sym (not_all_done x.id p (put part_key p ps) (put_among part_key p p ps (inl refl)) own undone)

-- ---- one more part

pub part_rows : (ms : List MessageRow) (ps : List PartRow) (qs : List PriorityRow) (p : PartRow) (m : MessageRow) → AreRows (StatesItsParts ps) ms ps qs → message_at p.id ms ≡ Some m → is_pending m ≡ true
    → p.progress.is_done ≡ false → IsPart ms p → AreRows (StatesItsParts (put part_key p ps)) ms (put part_key p ps) qs
part_rows ms ps qs p m s there pending undone is = record {
  message_keys = s.message_keys;
  part_keys = rises_put part_key p ps s.part_keys;
  priority_keys = s.priority_keys;
  each = λ x among.
      let e = s.each x among in
      record {
        id = e.id;
        source = e.source;
        handset = e.handset;
        ended = e.ended;
        first = ⊎_elim
            (λ (i : part_key p ≡ pair_key x.id 1).
            let found : (y : PartRow) × (part_at x.id 1 (put part_key p ps) ≡ Some y) = (p, subst (λ (k : ℕ). row_at part_key k (put part_key p ps) ≡ Some p) i (row_at_put part_key p ps)) in found)
            (λ (ne : part_key p ≡ pair_key x.id 1 → ⊥). (e.first.0, row_at_put_other part_key (pair_key x.id 1) p ps ne ∙ e.first.1))
            (cases_eq (part_key p) (pair_key x.id 1));
        priority = e.priority;
      };
  told = λ x among. ⊎_elim
      (λ (e : p.id ≡ x.id).
      let own : m.id ≡ p.id = found_key message_key p.id m ms there in
      let same : m ≡ x = found_message m x ms s.message_keys (ap (λ (id : ℕ). message_at id ms) own ∙ there) among (own ∙ e) in
      told_with ps p x (ap (λ (y : MessageRow). is_pending y) (sym same) ∙ pending) e undone)
      (λ (ne : p.id ≡ x.id → ⊥).
      s.told x among ∙ sym (all_done_put x.id p ps (small_numbers (StatesItsParts ps) ms ps qs s) (let f = is.few in omega (arith, f)) ne))
      (cases_eq p.id x.id);
  each_part = λ x among. ⊎_elim
      (λ (e : x ≡ p). subst (λ (y : PartRow). IsPart ms y) (sym e) is)
      (λ (a : Among x ps × ¬ (part_key x ≡ part_key p)). s.each_part x a.0)
      (among_put part_key x p ps among);
  each_priority = s.each_priority;
}

-- ---- a message, its priority and its first part

pub record IsFirst (ms : List MessageRow) (m : MessageRow) (p : PartRow) (q : PriorityRow) : Type 0 where
  pub new : (x : MessageRow) → Among x ms → x.id < m.id
  pub id : IsMessageId m.id
  pub source : IsAddress m.source
  pub handset : IsNumber m.handset
  pub pending : is_pending m ≡ true
  pub ended : EndsAt m.state m.done
  pub part_id : p.id ≡ m.id
  pub part_number : p.number ≡ 1
  pub part_undone : p.progress.is_done ≡ false
  pub part : IsPart (put message_key m ms) p
  pub priority_id : q.id ≡ m.id
  pub priority_few : q.priority ≤ 3

pub first_rows : (ms : List MessageRow) (ps : List PartRow) (qs : List PriorityRow) (m : MessageRow) (p : PartRow) (q : PriorityRow) → AreRows (StatesItsParts ps) ms ps qs → IsFirst ms m p q
    → AreRows (StatesItsParts (put part_key p ps)) (put message_key m ms) (put part_key p ps) (put priority_key q qs)
first_rows ms ps qs m p q s f = record {
  message_keys = rises_put message_key m ms s.message_keys;
  part_keys = rises_put part_key p ps s.part_keys;
  priority_keys = rises_put priority_key q qs s.priority_keys;
  each = λ x among. ⊎_elim
      (λ (e : x ≡ m).
      let key : part_key p ≡ pair_key m.id 1 = let i = f.part_id in let n = f.part_number in omega (arith, i, n) in
      let first : (y : PartRow) × (part_at m.id 1 (put part_key p ps) ≡ Some y) = (p, subst (λ (k : ℕ). row_at part_key k (put part_key p ps) ≡ Some p) key (row_at_put part_key p ps)) in
      let priority : (y : PriorityRow) × (row_at priority_key m.id (put priority_key q qs) ≡ Some y) = (q, subst (λ (k : ℕ). row_at priority_key k (put priority_key q qs) ≡ Some q) f.priority_id (row_at_put priority_key q qs)) in
      let whole : IsWhole (put part_key p ps) (put priority_key q qs) m = record { id = f.id; source = f.source; handset = f.handset; ended = f.ended; first = first; priority = priority } in
      subst (λ (y : MessageRow). IsWhole (put part_key p ps) (put priority_key q qs) y) (sym e) whole)
      (λ (a : Among x ms × ¬ (x.id ≡ m.id)).
      let e = s.each x a.0 in
      let low = f.new x a.0 in
      let i = f.part_id in
      let n = f.part_number in
      let j = f.priority_id in
      record {
        id = e.id;
        source = e.source;
        handset = e.handset;
        ended = e.ended;
        first = (e.first.0, row_at_put_other part_key (pair_key x.id 1) p ps (λ k. omega (arith, k, low, i, n)) ∙ e.first.1);
        priority = (e.priority.0, row_at_put_other priority_key x.id q qs (λ k. omega (arith, k, low, j)) ∙ e.priority.1);
      })
      (among_put message_key x m ms among);
  told = λ x among. ⊎_elim
      (λ (e : x ≡ m). subst (λ (y : MessageRow). StatesItsParts (put part_key p ps) y) (sym e) (told_with ps p m f.pending f.part_id f.part_undone))
      (λ (a : Among x ms × ¬ (x.id ≡ m.id)).
      let low = f.new x a.0 in
      let i = f.part_id in
      let n = f.part_number in
      s.told x a.0 ∙ sym (all_done_put x.id p ps (small_numbers (StatesItsParts ps) ms ps qs s) (omega (arith, n)) (λ k. omega (arith, k, low, i))))
      (among_put message_key x m ms among);
  each_part = λ x among. ⊎_elim
      (λ (e : x ≡ p). subst (λ (y : PartRow). IsPart (put message_key m ms) y) (sym e) f.part)
      (λ (a : Among x ps × ¬ (part_key x ≡ part_key p)).
      let i = s.each_part x a.0 in
      record {
        first = i.first;
        few = i.few;
        reference = i.reference;
        message = (i.message.0, (stays x.id i.message.0 i.message.1.0, i.message.1.1));
      })
      (among_put part_key x p ps among);
  each_priority = λ x among. ⊎_elim
      (λ (e : x ≡ q).
      let here : message_at q.id (put message_key m ms) ≡ Some m = ap (λ (id : ℕ). message_at id (put message_key m ms)) f.priority_id ∙ row_at_put message_key m ms in
      let found : (y : MessageRow) × (message_at q.id (put message_key m ms) ≡ Some y) = (m, here) in
      let is : IsPriority (put message_key m ms) q = record { few = f.priority_few; message = found } in
      subst (λ (y : PriorityRow). IsPriority (put message_key m ms) y) (sym e) is)
      (λ (a : Among x qs × ¬ (x.id ≡ q.id)).
      let i = s.each_priority x a.0 in
      record { few = i.few; message = (i.message.0, stays x.id i.message.0 i.message.1) })
      (among_put priority_key x q qs among);
}
  where
    stays : (id : ℕ) (x : MessageRow) → message_at id ms ≡ Some x → message_at id (put message_key m ms) ≡ Some x
    stays id x there =
        let own = found_key message_key id x ms there in
        let low = f.new x (found_among message_key id x ms there) in
        row_at_put_other message_key id m ms (λ k. omega (arith, k, own, low)) ∙ there

-- Messages, parts and priorities that are sound stay so where a part is made, a part is so far and a message ends.
use Rattle.std.proofs.Common.{◌≡◌, ℕ, ◌<◌, List, true, false, Option, Some, None, refl, sym, ◌∙◌, ap, subst, ⊎_elim, arith}
use Rattle.std.specs.Prelude.{is_none}
use Rattle.std.proofs.lemmas.Bool.{cases_eq}
use Rattle.sms_base.specs.Address.{IsAddress}
use Rattle.sms_base.specs.Among.{Among}
use Rattle.sms_base.specs.declared.final_state.FinalState.{FinalState}
use Rattle.sms_base.specs.MessageId.{IsMessageId}
use Rattle.sms_rows.specs.table.Keys.{pair_key}
use Rattle.sms_rows.specs.table.Table.{Rises, put, row_at}
use Rattle.sms_rows.proofs.table.Tables.{among_found, among_put, found_among, found_key, rises_put, row_at_put, row_at_put_other}
use Rattle.sms_tpdu.specs.declared.deliver.Deliver.{Deliver}
use Rattle.sms_centre_rows.specs.declared.messages.message.MessageRow.{MessageRow}
use Rattle.sms_centre_rows.specs.declared.messages.part.PartRow.{PartRow}
use Rattle.sms_centre_rows.specs.declared.messages.priority.PriorityRow.{PriorityRow}
use Rattle.sms_centre_rows.specs.messages.Messages.{all_done, ended, message_at, message_key, part_at, part_key, part_reaching, priority_key}
use Rattle.sms_centre_rows.specs.messages.SoundMessages.{EndsAt, IsDeliver, IsPart, IsPriority, SoundMessages}
use Rattle.sms_centre_rows.specs.messages.SplitReferences.{is_delivered}
use Rattle.sms_centre_rows.proofs.messages.PartRows.{part_amended, part_amended_other}
use Rattle.sms_centre_rows.specs.declared.waiting.progress.Progress.{Progress}
use Rattle.sms_centre_rows.specs.waiting.Revisions.{amended}
use Rattle.sms_centre_rows.specs.waiting.SoundAllocations.{IsNumber}
use Rattle.sms_centre_rows.proofs.waiting.Amending.{rises_amended}
use Rattle.sms_centre_spec.proofs.DoneMarks.{all_done_amended, far_alike, far_apart}
use Rattle.sms_centre_spec.proofs.NextNumbers.{among_amended}

-- ---- rows in the middle of a stage: what a message's row says of its end is D of it

pub record IsWhole (parts : List PartRow) (priorities : List PriorityRow) (m : MessageRow) : Type 0 where
  pub id : IsMessageId m.id
  pub source : IsAddress m.source
  pub handset : IsNumber m.handset
  pub ended : EndsAt m.state m.done
  pub first : (p : PartRow) × (part_at m.id 1 parts ≡ Some p)
  pub priority : (p : PriorityRow) × (row_at priority_key m.id priorities ≡ Some p)

pub record AreRows (D : MessageRow → Type 0) (ms : List MessageRow) (ps : List PartRow) (qs : List PriorityRow) : Type 0 where
  pub message_keys : Rises message_key ms
  pub part_keys : Rises part_key ps
  pub priority_keys : Rises priority_key qs
  pub each : (m : MessageRow) → Among m ms → IsWhole ps qs m
  pub told : (m : MessageRow) → Among m ms → D m
  pub each_part : (p : PartRow) → Among p ps → IsPart ms p
  pub each_priority : (p : PriorityRow) → Among p qs → IsPriority ms p

-- it is delivered exactly where all its parts are done
abbrev pub StatesItsParts : List PartRow → MessageRow → Type 0
StatesItsParts ps m = is_delivered m.state ≡ all_done m.id ps

pub rows_are : (ms : List MessageRow) (ps : List PartRow) (qs : List PriorityRow) → SoundMessages ms ps qs → AreRows (StatesItsParts ps) ms ps qs
rows_are ms ps qs s = record {
  message_keys = s.message_keys;
  part_keys = s.part_keys;
  priority_keys = s.priority_keys;
  each = λ m among. let e = s.each_message m among in record { id = e.id; source = e.source; handset = e.handset; ended = e.ended; first = e.first; priority = e.priority };
  told = λ m among. (s.each_message m among).delivered;
  each_part = s.each_part;
  each_priority = s.each_priority;
}

pub rows_sound : (ms : List MessageRow) (ps : List PartRow) (qs : List PriorityRow) → AreRows (StatesItsParts ps) ms ps qs → SoundMessages ms ps qs
rows_sound ms ps qs s = record {
  message_keys = s.message_keys;
  part_keys = s.part_keys;
  priority_keys = s.priority_keys;
  each_message = λ m among.
      let e = s.each m among in
      record { id = e.id; source = e.source; handset = e.handset; ended = e.ended; delivered = s.told m among; first = e.first; priority = e.priority };
  each_part = s.each_part;
  each_priority = s.each_priority;
}

pub small_numbers : (D : MessageRow → Type 0) (ms : List MessageRow) (ps : List PartRow) (qs : List PriorityRow) → AreRows D ms ps qs → (p : PartRow) → Among p ps → p.number < 256
small_numbers D ms ps qs s p among = let f = (s.each_part p among).few in omega (arith, f)

-- ---- pending messages

pub pending_undelivered : (o : Option FinalState) → is_none o ≡ true → is_delivered o ≡ false
pending_undelivered None e = refl
pending_undelivered (Some f) e = absurd cc

pub found_message : (m x : MessageRow) (ms : List MessageRow) → Rises message_key ms → message_at m.id ms ≡ Some m → Among x ms → m.id ≡ x.id → m ≡ x
found_message m x ms keys there among e =
    let same : Some m ≡ Some x = sym there ∙ ap (λ (id : ℕ). message_at id ms) e ∙ among_found message_key x ms keys among in cc

-- ---- a message ends

-- a part's message says the same of it
still_deliver : (m : MessageRow) (p : PartRow) (d : Deliver) (f : FinalState) (n : ℕ) → IsDeliver m p d → IsDeliver (ended f n m) p d
still_deliver m p d f n i = record { read = i.read; source = i.source; data_coding_scheme = i.data_coding_scheme; protocol_identifier = i.protocol_identifier; no_more = i.no_more; fits = i.fits }

pub ended_rows : (D E : MessageRow → Type 0) (ms : List MessageRow) (ps : List PartRow) (qs : List PriorityRow) (m : MessageRow) (f : FinalState) (n : ℕ) → AreRows D ms ps qs → message_at m.id ms ≡ Some m
    → E (ended f n m) → ((x : MessageRow) → Among x ms → ¬ (x.id ≡ m.id) → D x → E x) → AreRows E (put message_key (ended f n m) ms) ps qs
ended_rows D E ms ps qs m f n s there own other =
    let w : MessageRow = ended f n m in
    let after : List MessageRow = put message_key w ms in
    let here : (id : ℕ) → m.id ≡ id → message_at id after ≡ Some w = λ id e. subst (λ (i : ℕ). message_at i after ≡ Some w) e (row_at_put message_key w ms) in
    let was = s.each m (found_among message_key m.id m ms there) in
    record {
      message_keys = rises_put message_key w ms s.message_keys;
      part_keys = s.part_keys;
      priority_keys = s.priority_keys;
      each = λ x among. ⊎_elim
          (λ (e : x ≡ w).
          let whole : IsWhole ps qs w = record { id = was.id; source = was.source; handset = was.handset; ended = (n, refl); first = was.first; priority = was.priority } in
          subst (λ (y : MessageRow). IsWhole ps qs y) (sym e) whole)
          (λ (a : Among x ms × ¬ (x.id ≡ m.id)). s.each x a.0)
          (among_put message_key x w ms among);
      told = λ x among. ⊎_elim
          (λ (e : x ≡ w). subst E (sym e) own)
          (λ (a : Among x ms × ¬ (x.id ≡ m.id)). other x a.0 a.1 (s.told x a.0))
          (among_put message_key x w ms among);
      each_part = λ p among.
          let i = s.each_part p among in
          record {
            first = i.first;
            few = i.few;
            reference = i.reference;
            message = ⊎_elim
                (λ (e : m.id ≡ p.id).
                let same : m ≡ i.message.0 = found_message m i.message.0 ms s.message_keys there (found_among message_key p.id i.message.0 ms i.message.1.0) (e ∙ sym (found_key message_key p.id i.message.0 ms i.message.1.0)) in
                let deliver : IsDeliver m p i.message.1.1.0 = subst (λ (y : MessageRow). IsDeliver y p i.message.1.1.0) (sym same) i.message.1.1.1 in
                let found : (y : MessageRow) × ((message_at p.id after ≡ Some y) × ((d : Deliver) × IsDeliver y p d)) = (w, (here p.id e, (i.message.1.1.0, still_deliver m p i.message.1.1.0 f n deliver))) in found)
                (λ (ne : m.id ≡ p.id → ⊥). (i.message.0, (row_at_put_other message_key p.id w ms ne ∙ i.message.1.0, i.message.1.1)))
                (cases_eq m.id p.id);
          };
      each_priority = λ q among.
          let i = s.each_priority q among in
          record {
            few = i.few;
            message = ⊎_elim
                (λ (e : m.id ≡ q.id). let found : (y : MessageRow) × (message_at q.id after ≡ Some y) = (w, here q.id e) in found)
                (λ (ne : m.id ≡ q.id → ⊥). (i.message.0, row_at_put_other message_key q.id w ms ne ∙ i.message.1))
                (cases_eq m.id q.id);
          };
    }

-- ---- a part is so far

pub far_rows : (D E : MessageRow → Type 0) (ms : List MessageRow) (ps : List PartRow) (qs : List PriorityRow) (p : PartRow) (q : Progress) → AreRows D ms ps qs → row_at part_key (part_key p) ps ≡ Some p
    → ((x : MessageRow) → Among x ms → D x → E x) → AreRows E ms (amended part_key part_reaching (part_key p) q ps) qs
far_rows D E ms ps qs p q s there told =
    let after : List PartRow = amended part_key part_reaching (part_key p) q ps in
    record {
      message_keys = s.message_keys;
      part_keys = rises_amended part_key part_reaching (λ x y. refl) (part_key p) q ps s.part_keys;
      priority_keys = s.priority_keys;
      each = λ m among.
          let e = s.each m among in
          record {
            id = e.id;
            source = e.source;
            handset = e.handset;
            ended = e.ended;
            first = ⊎_elim
                (λ (i : part_key p ≡ pair_key m.id 1).
                let found : (y : PartRow) × (part_at m.id 1 after ≡ Some y) = (part_reaching q p, subst (λ (k : ℕ). row_at part_key k after ≡ Some (part_reaching q p)) i (part_amended p q ps there)) in found)
                (λ (ne : part_key p ≡ pair_key m.id 1 → ⊥). (e.first.0, part_amended_other p q ps (pair_key m.id 1) ne ∙ e.first.1))
                (cases_eq (part_key p) (pair_key m.id 1));
            priority = e.priority;
          };
      told = λ m among. told m among (s.told m among);
      each_part = λ x among.
          let g = among_amended part_key part_reaching (part_key p) q x ps among in
          let i = s.each_part g.0 g.1.0 in
          ⊎_elim
          (λ (e : x ≡ g.0). subst (λ (y : PartRow). IsPart ms y) (sym e) i)
          (λ (e : (part_key g.0 ≡ part_key p) × (x ≡ part_reaching q g.0)). subst (λ (y : PartRow). IsPart ms y) (sym e.1) (still_part g.0 i))
          g.1.1;
      each_priority = s.each_priority;
    }
  where
    still_part : (x : PartRow) → IsPart ms x → IsPart ms (part_reaching q x)
    still_part x i =
        let d = i.message.1.1.1 in
        let deliver : IsDeliver i.message.0 (part_reaching q x) i.message.1.1.0 =
        record { read = d.read; source = d.source; data_coding_scheme = d.data_coding_scheme; protocol_identifier = d.protocol_identifier; no_more = d.no_more; fits = d.fits } in
        record { first = i.first; few = i.few; reference = i.reference; message = (i.message.0, (i.message.1.0, (i.message.1.1.0, deliver))) }

-- the part under the key of a part that stands there is that part
same_part : (D : MessageRow → Type 0) (ms : List MessageRow) (ps : List PartRow) (qs : List PriorityRow) (p x : PartRow) → AreRows D ms ps qs → row_at part_key (part_key p) ps ≡ Some p → Among x ps → part_key x ≡ part_key p → x ≡ p
same_part D ms ps qs p x s there among e =
    let same : Some x ≡ Some p = sym (among_found part_key x ps s.part_keys among) ∙ ap (λ (k : ℕ). row_at part_key k ps) e ∙ there in cc

-- done as before
pub put_off_rows : (ms : List MessageRow) (ps : List PartRow) (qs : List PriorityRow) (p : PartRow) (q : Progress) → AreRows (StatesItsParts ps) ms ps qs → row_at part_key (part_key p) ps ≡ Some p → q.is_done ≡ p.progress.is_done
    → AreRows (StatesItsParts (amended part_key part_reaching (part_key p) q ps)) ms (amended part_key part_reaching (part_key p) q ps) qs
put_off_rows ms ps qs p q s there done =
    far_rows (StatesItsParts ps) (StatesItsParts (amended part_key part_reaching (part_key p) q ps)) ms ps qs p q s there
    (λ x among told. told ∙ sym (all_done_amended x.id (part_key p) q ps
    (λ y a e. far_alike x.id q y (done ∙ ap (λ (z : PartRow). z.progress.is_done) (sym (same_part (StatesItsParts ps) ms ps qs p y s there a e))))))

-- done now: so all other messages are told as before
pub finished_rows : (ms : List MessageRow) (ps : List PartRow) (qs : List PriorityRow) (p : PartRow) (q : Progress) → AreRows (StatesItsParts ps) ms ps qs → row_at part_key (part_key p) ps ≡ Some p
    → AreRows (λ x. ¬ (x.id ≡ p.id) → StatesItsParts (amended part_key part_reaching (part_key p) q ps) x) ms (amended part_key part_reaching (part_key p) q ps) qs
finished_rows ms ps qs p q s there =
    far_rows (StatesItsParts ps) (λ x. ¬ (x.id ≡ p.id) → StatesItsParts (amended part_key part_reaching (part_key p) q ps) x) ms ps qs p q s there
    (λ x among told ne. told ∙ sym (all_done_amended x.id (part_key p) q ps
    (λ y a e. far_apart x.id q y (λ i. ne (sym i ∙ ap (λ (z : PartRow). z.id) (same_part (StatesItsParts ps) ms ps qs p y s there a e))))))

-- What a submission becomes: a message behind all others, and a part for each of its bodies.
use Rattle.std.proofs.Common.{◌≡◌, ◌⊎◌, inl, inr, ℕ, zero, suc, ◌+◌, ◌*◌, ◌<◌, ◌≤◌, List, [], ◌∷◌, length, true, false, Option, Some, None, refl, sym, ◌∙◌, ap, subst, ⊎_elim, arith}
use Rattle.std.specs.Prelude.{nat_le, slice_get}
use Rattle.std.proofs.lemmas.Bool.{cases_eq, cond_both}
use Rattle.sms_base.specs.Among.{Among}
use Rattle.sms_base.specs.TimeStamp.{IsMoment}
use Rattle.sms_rows.specs.table.Keys.{pair_key}
use Rattle.sms_rows.specs.table.Table.{put}
use Rattle.sms_rows.proofs.table.Tables.{among_put, found_among, found_key, row_at_put, row_at_put_other}
use Rattle.sms_intake.specs.declared.submission.SinglePart.{SinglePart}
use Rattle.sms_intake.specs.declared.submission.Submission.{Submission}
use Rattle.sms_intake.specs.PartBodies.{bodies_under, deliver_octets, is_long}
use Rattle.sms_centre_rows.specs.declared.messages.message.MessageRow.{MessageRow}
use Rattle.sms_centre_rows.specs.declared.messages.part.PartRow.{PartRow}
use Rattle.sms_centre_rows.specs.messages.Messages.{message_key, part_at, part_key}
use Rattle.sms_centre_rows.specs.messages.SplitReferences.{next_split}
use Rattle.sms_centre_rows.specs.declared.waiting.handset.HandsetRow.{HandsetRow}
use Rattle.sms_centre_rows.specs.waiting.References.{handset_of}
use Rattle.sms_centre_spec.specs.Draft.{Store, bars_in, handsets_in, messages_in, parts_in, rows_of}
use Rattle.sms_centre_spec.specs.MessageNumbers.{next_number}
use Rattle.sms_centre_spec.specs.Consistent.{IsSubmission}
use Rattle.sms_centre_spec.specs.Submitting.{accept, accept_as, accept_split, accept_under, enter, give_part, give_parts, message_of, part_given, reference_for}
use Rattle.sms_centre_spec.proofs.NextNumbers.{below_next_number}
use Rattle.sms_centre_spec.proofs.SoundStores.{SoundStore}
use Rattle.sms_centre_spec.proofs.Stages.{IfThere}
use Rattle.sms_centre_spec.proofs.AcceptedConsistent.{then_there}
use Rattle.sms_world.proofs.split_messages_stay.SameParts.{SameParts, same_parts, same_put, same_then}

-- the body of that number, from 1 on
abbrev pub body_at : ℕ → List SinglePart → Option SinglePart
body_at zero bodies = None
body_at (suc n) bodies = slice_get bodies n

-- the parts below a number are those of the first bodies, and no others are the message's
pub record IsMade (id k : ℕ) (u : Submission) (bodies : List SinglePart) (parts : List PartRow) : Type 0 where
  pub each : (n : ℕ) → 0 < n → n < k → (p : PartRow) × (part_at id n parts ≡ Some p)
  pub made : (p : PartRow) → Among p parts → p.id ≡ id → (b : SinglePart) × (moment : ℕ) × ((p.number < k) × (body_at p.number bodies ≡ Some b) × IsMoment moment × (p.tpdu ≡ deliver_octets moment u b))

-- so far, from a store on
record Making (ms : List MessageRow) (ps : List PartRow) (id k : ℕ) (u : Submission) (bodies : List SinglePart) (s : Store) : Type 0 where
  messages : messages_in s ≡ ms
  now : IsMoment s.moment
  made : IsMade id k u bodies (parts_in s)
  others : (i : ℕ) → ¬ (i ≡ id) → SameParts i ps (parts_in s)

module _ (ms : List MessageRow) (ps : List PartRow) (id : ℕ) (u : Submission) (bodies : List SinglePart) where
  one_made : (n : ℕ) (b : SinglePart) (h : HandsetRow) (o : Option ℕ) (s : Store) → 0 < n → n < 256 → body_at n bodies ≡ Some b → Making ms ps id n u bodies s
      → IfThere (Making ms ps id (n + 1) u bodies) (part_given id u n b h o s)
  one_made n b h None s some few at k = tt
  one_made n b h (Some r) s some few at k =
      let p : PartRow = record {
        id = id;
        number = n;
        reference = r;
        tpdu = deliver_octets s.moment u b;
        key = b.key;
        progress = record { is_done = false; attempts = 0; due = u.due };
      } in
      record {
        messages = k.messages;
        now = k.now;
        made = record {
          each = λ i first last. ⊎_elim
              (λ (e : i ≡ n).
              let found : (x : PartRow) × (part_at id i (put part_key p (parts_in s)) ≡ Some x) =
              (p, ap (λ (j : ℕ). part_at id j (put part_key p (parts_in s))) e ∙ row_at_put part_key p (parts_in s)) in found)
              (λ (ne : i ≡ n → ⊥).
              let x = k.made.each i first (omega (arith, last, ne)) in
              let low : i < n = omega (arith, last, ne) in
              let found : (y : PartRow) × (part_at id i (put part_key p (parts_in s)) ≡ Some y) =
              (x.0, row_at_put_other part_key (pair_key id i) p (parts_in s) (λ (key : 256 * id + n ≡ 256 * id + i). omega (arith, key, low)) ∙ x.1) in found)
              (cases_eq i n);
          made = λ x i e. ⊎_elim
              (λ (q : x ≡ p).
              let number : x.number ≡ n = ap (λ (y : PartRow). y.number) q in
              let found : (c : SinglePart) × (moment : ℕ) × ((x.number < n + 1) × (body_at x.number bodies ≡ Some c) × IsMoment moment × (x.tpdu ≡ deliver_octets moment u c)) =
              (b, s.moment, (omega (arith, number), ap (λ (j : ℕ). body_at j bodies) number ∙ at, k.now, ap (λ (y : PartRow). y.tpdu) q)) in found)
              (λ (o : Among x (parts_in s) × ¬ (part_key x ≡ part_key p)).
              let y = k.made.made x o.0 e in
              let low = y.2.0 in
              let found : (c : SinglePart) × (moment : ℕ) × ((x.number < n + 1) × (body_at x.number bodies ≡ Some c) × IsMoment moment × (x.tpdu ≡ deliver_octets moment u c)) =
              (y.0, y.1, (omega (arith, low), y.2.1, y.2.2, y.2.3)) in found)
              (among_put part_key x p (parts_in s) i);
        };
        others = λ i ne. same_then i ps (parts_in s) (put part_key p (parts_in s)) (k.others i ne) (same_put i p (parts_in s) (λ e. ne (sym e)) few);
      }

  all_made : (n : ℕ) (bs : List SinglePart) (s : Store) → 0 < n → n + length bs ≤ 256 → ((j : ℕ) → body_at (n + j) bodies ≡ slice_get bs j) → Making ms ps id n u bodies s
      → IfThere (Making ms ps id (n + length bs) u bodies) (give_parts id u n bs s)
  all_made n [] s some few at k =
      let same : n ≡ n + 0 = omega arith in
      subst (λ (j : ℕ). Making ms ps id j u bodies s) same k
  all_made n (b ∷ bs) s some few at k =
      let h : HandsetRow = handset_of u.handset (handsets_in s) in
      let here : n ≡ n + 0 = omega arith in
      let count : n + 1 + length bs ≡ n + suc (length bs) = omega arith in
      then_there (Making ms ps id (n + 1) u bodies) (Making ms ps id (n + suc (length bs)) u bodies) (λ (e : Store). give_parts id u (n + 1) bs e) (give_part id u n b h s)
      (one_made n b h (reference_for h s) s some (omega (arith, few)) (ap (λ (j : ℕ). body_at j bodies) here ∙ at 0) k)
      (λ e g. subst (λ (j : ℕ). IfThere (Making ms ps id j u bodies) (give_parts id u (n + 1) bs e)) count
      (all_made (n + 1) bs e (omega arith) (omega (arith, few)) (λ j. let q : n + 1 + j ≡ n + suc j = omega arith in ap (λ (i : ℕ). body_at i bodies) q ∙ at (suc j)) g))

-- ---- accepted

-- the message, split or not, stands behind all others with all its parts, and the parts of all others are what they were
pub record IsAccepted (u : Submission) (s : Store) (split : Option ℕ) (reference : ℕ) (e : Store) : Type 0 where
  pub messages : messages_in e ≡ put message_key (message_of (next_number (rows_of s)) s.moment split u) (messages_in s)
  pub made : IsMade (next_number (rows_of s)) (1 + length (bodies_under reference u.text)) u (bodies_under reference u.text) (parts_in e)
  pub others : (i : ℕ) → ¬ (i ≡ next_number (rows_of s)) → SameParts i (parts_in s) (parts_in e)

-- a text that one part does not hold is split under a reference, and no other is
abbrev pub Accepts : Submission → Store → Store → Type 0
Accepts u s e =
    ((reference : ℕ) × ((is_long u.text ≡ true) × IsAccepted u s (Some reference) reference e)) ⊎ ((is_long u.text ≡ false) × IsAccepted u s None 0 e)

module _ (u : Submission) (s : Store) (sound : SoundStore s) (fit : IsSubmission u) where
  abbrev id : ℕ
  id = next_number (rows_of s)

  none_yet : (p : PartRow) → Among p (parts_in s) → ¬ (p.id ≡ id)
  none_yet p among e =
      let of = sound.consistent.parts p among in
      let low = below_next_number (rows_of s) of.0 sound.consistent.message_keys (found_among message_key p.id of.0 (messages_in s) of.1) in
      let own = found_key message_key p.id of.0 (messages_in s) of.1 in
      let l : ⊥ = omega (arith, low, own, e) in l

  under_accepted : (split : Option ℕ) (reference : ℕ) → IfThere (IsAccepted u s split reference) (accept_under id split (bodies_under reference u.text) u s)
  under_accepted split reference =
      let bodies : List SinglePart = bodies_under reference u.text in
      let ms : List MessageRow = put message_key (message_of id s.moment split u) (messages_in s) in
      let few = fit.few reference in
      let first : Making ms (parts_in s) id 1 u bodies (enter id split u s) = record {
        messages = refl;
        now = sound.times.now;
        made = record {
          each = λ n some low. absurd (let l : ⊥ = omega (arith, some, low) in l);
          made = λ p among e. absurd (none_yet p among e);
        };
        others = λ i ne. same_parts i (parts_in s);
      } in
      whole (give_parts id u 1 bodies (enter id split u s))
      (all_made ms (parts_in s) id u bodies 1 bodies (enter id split u s) (omega arith) (omega (arith, few)) (λ j. let q : 1 + j ≡ suc j = omega arith in ap (λ (i : ℕ). body_at i bodies) q) first)
    where
      whole : (o : Option Store)
          → IfThere (Making (put message_key (message_of id s.moment split u) (messages_in s)) (parts_in s) id (1 + length (bodies_under reference u.text)) u (bodies_under reference u.text)) o → IfThere (IsAccepted u s split reference) o
      whole None k = tt
      whole (Some e) k = record { messages = k.messages; made = k.made; others = k.others }

  either : (P Q : Store → Type 0) (o : Option Store) → ((e : Store) → P e → Q e) → IfThere P o → IfThere Q o
  either P Q None f k = tt
  either P Q (Some e) f k = f e k

  split_accepted : (o : Option ℕ) → is_long u.text ≡ true → IfThere (Accepts u s) (accept_split id o u s)
  split_accepted None long = tt
  split_accepted (Some r) long =
      either (IsAccepted u s (Some r) r) (Accepts u s) (accept_split id (Some r) u s) (λ e k. inl (r, (long, k))) (under_accepted (Some r) r)

  pub accept_leads : IfThere (Accepts u s) (accept u s)
  accept_leads =
      cond_both (nat_le id 9999999999) (accept_as id u s) None (λ o. IfThere (Accepts u s) o)
      (λ t. cond_both (is_long u.text) (accept_split id (next_split u.source u.handset (bars_in s) (messages_in s) (parts_in s)) u s) (accept_under id None (bodies_under 0 u.text) u s) (λ o. IfThere (Accepts u s) o)
      (λ long. split_accepted (next_split u.source u.handset (bars_in s) (messages_in s) (parts_in s)) long)
      (λ short. either (IsAccepted u s None 0) (Accepts u s) (accept_under id None (bodies_under 0 u.text) u s) (λ e k. inr (short, k)) (under_accepted None 0)))
      (λ t. tt)

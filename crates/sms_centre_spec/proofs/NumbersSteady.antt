-- What an event enters stands under a number that was not given before.
use Rattle.std.proofs.Common.{◌≡◌, ℕ, zero, suc, ◌+◌, ◌*◌, ◌/◌, ◌<◌, ◌≤◌, max, List, [], ◌∷◌, true, false, Option, Some, None, refl, sym, ◌∙◌, ap, inl, inr, ⊎_elim, arith}
use Rattle.std.specs.Prelude.{nat_le}
use Rattle.std.proofs.lemmas.Bool.{cond_both}
use Rattle.sms_base.specs.Among.{Among}
use Rattle.sms_base.specs.declared.final_state.FinalState.{FinalState}
use Rattle.sms_base.specs.declared.final_state.FinalState.TheVariants.{Delivered}
use Rattle.sms_base.specs.declared.originator.Originator.{Originator}
use Rattle.sms_base.specs.declared.originator.Originator.TheVariants.{Application, Handset}
use Rattle.sms_rows.specs.table.Table.{Rises}
use Rattle.sms_rows.proofs.table.Tables.{among_found, among_put, found_among, found_key}
use Rattle.sms_centre_rows.specs.declared.messages.message.MessageRow.{MessageRow}
use Rattle.sms_centre_rows.specs.declared.messages.part.PartRow.{PartRow}
use Rattle.sms_centre_rows.specs.messages.Messages.{all_done, ended, id_after, is_pending, message_at, message_key, next_id}
use Rattle.sms_centre_rows.specs.messages.SplitReferences.{next_split}
use Rattle.sms_centre_rows.specs.declared.waiting.handset.HandsetRow.{HandsetRow}
use Rattle.sms_centre_rows.specs.waiting.References.{handset_of}
use Rattle.sms_centre_rows.specs.waiting.Trying.{finished}
use Rattle.sms_intake.specs.declared.submission.SinglePart.{SinglePart}
use Rattle.sms_intake.specs.declared.submission.Submission.{Submission}
use Rattle.sms_intake.specs.PartBodies.{bodies_under, is_long}
use Rattle.sms_centre_spec.specs.declared.event.CentreEvent.{CentreEvent}
use Rattle.sms_centre_spec.specs.declared.rows.Rows.{Rows}
use Rattle.sms_centre_spec.specs.CentreEvent.{happened}
use Rattle.sms_centre_spec.specs.Consistent.{IsSubmission}
use Rattle.sms_centre_spec.specs.Draft.{Core, Store, bars_in, core_of, draft_of, handsets_in, messages_in, parts_in, rows_of, with_message, with_part_at}
use Rattle.sms_centre_spec.specs.Ends.{end, is_wished, report_to, status_given}
use Rattle.sms_centre_spec.specs.MessageNumbers.{WasGiven, next_number}
use Rattle.sms_centre_spec.specs.SoundCore.{IsEvent, IsSoundCore}
use Rattle.sms_centre_spec.specs.SoundRows.{IsSound}
use Rattle.sms_centre_spec.specs.Submitting.{accept, accept_as, accept_split, accept_under, enter, give_part, give_parts, message_of, part_given, reference_for}
use Rattle.sms_centre_spec.specs.Transfers.{complete}
use Rattle.sms_centre_spec.proofs.AcceptedConsistent.{then_there}
use Rattle.sms_centre_spec.proofs.KeepingSteady.{SoundSince, since_steady}
use Rattle.sms_centre_spec.proofs.NextNumbers.{below_next_id, below_next_number, some_next_id}
use Rattle.sms_centre_spec.proofs.PduFits.{event_gives}
use Rattle.sms_centre_spec.proofs.SoundEvents.{begins}
use Rattle.sms_centre_spec.proofs.Stages.{IfThere}
use Rattle.sms_centre_spec.proofs.Steady.{IsSteady, IsStill, message_own}
use Rattle.sms_centre_spec.proofs.SteadyEvents.{event_leads}

-- ---- the next number does not fall

pub id_within : (k n : ℕ) (ms : List MessageRow) → n ≤ k → ((m : MessageRow) → Among m ms → m.id < k) → id_after n ms ≤ k
id_within k n [] low below = low
id_within k n (m ∷ ms) low below = id_within k (m.id + 1) ms (let l = below m (inl refl) in omega (arith, l)) (λ x a. below x (inr a))

-- each message stood in 'base'
pub record AreOld (base : Rows) (s : Store) : Type 0 where
  pub first : s.setup.first ≡ base.setup.first
  pub old : (m : MessageRow) → Among m (messages_in s) → (x : MessageRow) × (message_at m.id base.messages ≡ Some x)

-- a message that did not has the number that was next there
abbrev pub AreNumbered : Rows → Store → Type 0
AreNumbered base s = (m : MessageRow) → Among m (messages_in s) → message_at m.id base.messages ≡ None → m.id ≡ next_number base

module _ (base : Rows) (rises : Rises message_key base.messages) where
  same_next : (s : Store) → SoundSince base s → AreOld base s → next_number (rows_of s) ≡ next_number base
  same_next s k are =
      let keys = k.0.messages.message_keys in
      let low : (m : MessageRow) → Among m base.messages → m.id < next_id (messages_in s) = λ m among.
      let x = k.1.messages m.id m (among_found message_key m base.messages rises among) in
      let own = found_key message_key m.id x.0 (messages_in s) x.1.0 in
      let l = below_next_id 1 x.0 (messages_in s) keys (found_among message_key m.id x.0 (messages_in s) x.1.0) in
      omega (arith, own, l) in
      let high : (m : MessageRow) → Among m (messages_in s) → m.id < next_id base.messages = λ m among.
      let x = are.old m among in
      let own = found_key message_key m.id x.0 base.messages x.1 in
      let l = below_next_id 1 x.0 base.messages rises (found_among message_key m.id x.0 base.messages x.1) in
      omega (arith, own, l) in
      let some = some_next_id 1 (messages_in s) keys (omega arith) in
      let some_base = some_next_id 1 base.messages rises (omega arith) in
      let one = id_within (next_id (messages_in s)) 1 base.messages (omega (arith, some)) low in
      let other = id_within (next_id base.messages) 1 (messages_in s) (omega (arith, some_base)) high in
      let first = are.first in
      omega (arith, first, one, other)

  old_numbered : (s : Store) → AreOld base s → AreNumbered base s
  old_numbered s are m among none = let x = are.old m among in let q : Some x.0 ≡ None = sym x.1 ∙ none in absurd cc

  -- ---- a submission is accepted

  parts_numbered : (id : ℕ) (u : Submission) (n : ℕ) (bs : List SinglePart) (s : Store) → AreNumbered base s → IfThere (AreNumbered base) (give_parts id u n bs s)
  parts_numbered id u n [] s k = k
  parts_numbered id u n (b ∷ bs) s k =
      let h : HandsetRow = handset_of u.handset (handsets_in s) in
      then_there (AreNumbered base) (AreNumbered base) (λ (e : Store). give_parts id u (n + 1) bs e) (give_part id u n b h s) (given (reference_for h s)) (λ e g. parts_numbered id u (n + 1) bs e g)
    where
      given : (o : Option ℕ) → IfThere (AreNumbered base) (part_given id u n b (handset_of u.handset (handsets_in s)) o s)
      given None = tt
      given (Some r) = k

  under_numbered : (id : ℕ) (split : Option ℕ) (bs : List SinglePart) (u : Submission) (s : Store) → AreOld base s → id ≡ next_number base → IfThere (AreNumbered base) (accept_under id split bs u s)
  under_numbered id split bs u s are is =
      let m : MessageRow = message_of id s.moment split u in
      let entered : AreNumbered base (enter id split u s) = λ x among none. ⊎_elim
      (λ (e : x ≡ m). let own : x.id ≡ id = ap (λ (y : MessageRow). y.id) e in own ∙ is)
      (λ (a : Among x (messages_in s) × ¬ (x.id ≡ id)). old_numbered s are x a.0 none)
      (among_put message_key x m (messages_in s) among) in
      parts_numbered id u 1 bs (enter id split u s) entered

  split_numbered : (id : ℕ) (o : Option ℕ) (u : Submission) (s : Store) → AreOld base s → id ≡ next_number base → IfThere (AreNumbered base) (accept_split id o u s)
  split_numbered id None u s are is = tt
  split_numbered id (Some r) u s are is = under_numbered id (Some r) (bodies_under r u.text) u s are is

  accept_numbered : (u : Submission) (s : Store) → SoundSince base s → AreOld base s → IfThere (AreNumbered base) (accept u s)
  accept_numbered u s since are =
      let id : ℕ = next_number (rows_of s) in
      let is : id ≡ next_number base = same_next s since are in
      let split : Option ℕ = next_split u.source u.handset (bars_in s) (messages_in s) (parts_in s) in
      cond_both (nat_le id 9999999999) (accept_as id u s) None (λ (o : Option Store). IfThere (AreNumbered base) o)
      (λ t. cond_both (is_long u.text) (accept_split id split u s) (accept_under id None (bodies_under 0 u.text) u s) (λ (o : Option Store). IfThere (AreNumbered base) o)
      (λ e. split_numbered id split u s are is) (λ e. under_numbered id None (bodies_under 0 u.text) u s are is))
      (λ t. tt)

-- ---- no other stage enters a message

module _ (base : Rows) where
  status_old : (f : FinalState) (m : MessageRow) (h : HandsetRow) (o : Option ℕ) (s : Store) → AreOld base s → AreOld base (status_given f m h o s)
  status_old f m h None s k = record { first = k.first; old = k.old }
  status_old f m h (Some r) s k = record { first = k.first; old = k.old }

  report_old : (o : Originator) (f : FinalState) (m : MessageRow) (s : Store) → AreOld base s → AreOld base (report_to o f m s)
  report_old (Application account) f m s k = record { first = k.first; old = k.old }
  report_old (Handset n) f m s k =
      let h : HandsetRow = handset_of m.source.digits (handsets_in s) in status_old f m h (reference_for h s) s k

  end_old : (f : FinalState) (m : MessageRow) (s : Store) → AreOld base s → message_at m.id (messages_in s) ≡ Some m → AreOld base (end f m s)
  end_old f m s k there =
      let w : MessageRow = ended f s.moment m in
      let e : Store = with_message w s in
      let still : AreOld base e = record {
        first = k.first;
        old = λ x among. ⊎_elim
            (λ (q : x ≡ w).
            let y = k.old m (found_among message_key m.id m (messages_in s) there) in
            let own : x.id ≡ m.id = ap (λ (z : MessageRow). z.id) q in
            let found : (z : MessageRow) × (message_at x.id base.messages ≡ Some z) = (y.0, ap (λ (n : ℕ). message_at n base.messages) own ∙ y.1) in found)
            (λ (a : Among x (messages_in s) × ¬ (x.id ≡ m.id)). k.old x a.0)
            (among_put message_key x w (messages_in s) among);
      } in
      cond_both (is_wished m.wish f) (report_to m.originator f m e) e (λ (x : Store). AreOld base x) (λ t. report_old m.originator f m e still) (λ t. still)

  settled_old : (p : PartRow) (m : MessageRow) (s : Store) → AreOld base s → message_at p.id (messages_in s) ≡ Some m → AreOld base (complete m (with_part_at p (finished p.progress) s))
  settled_old p m s k of =
      let e : Store = with_part_at p (finished p.progress) s in
      let far : AreOld base e = record { first = k.first; old = k.old } in
      cond_both (all_done m.id (parts_in e)) (end Delivered m e) e (λ (x : Store). AreOld base x) (λ t. end_old Delivered m e far (message_own p.id m e of)) (λ t. far)

  pub old_still : IsStill (λ (s : Store). SoundSince base s × AreOld base s)
  old_still =
      let since : IsSteady (SoundSince base) = since_steady base in
      record {
        consistent = λ s k. since.consistent s k.0;
        ended = λ f m s k there pending partly. (since.ended f m s k.0 there pending partly, end_old f m s k.1 there);
        settled = λ p m s k there of pending undone. (since.settled p m s k.0 there of pending undone, settled_old p m s k.1 of);
        part_far = λ p q s k there same. (since.part_far p q s k.0 there same, record { first = k.1.first; old = k.1.old });
        report_far = λ r q s k there stays. (since.report_far r q s k.0 there stays, record { first = k.1.first; old = k.1.old });
        later = λ n s k past is. (since.later n s k.0 past is, record { first = k.1.first; old = k.1.old });
      }

-- ---- every event

begins_old : (c : Core) → IsSoundCore c → AreOld c.rows (draft_of c).store
begins_old c s = record { first = refl; old = λ m among. (m, among_found message_key m c.rows.messages s.rows.messages.message_keys among) }

pub event_numbers : (event : CentreEvent) (c : Core) → IsSoundCore c → IsEvent event → (m : MessageRow) → Among m (core_of (happened event c)).rows.messages
    → message_at m.id c.rows.messages ≡ None → m.id ≡ next_number c.rows
event_numbers event c s is =
    let rises = s.rows.messages.message_keys in
    event_leads (λ (x : Store). SoundSince c.rows x × AreOld c.rows x) (old_still c.rows) (AreNumbered c.rows) (λ u x k fit. accept_numbered c.rows rises u x k.0 k.1) (λ x k. old_numbered c.rows rises x k.1)
    event c (begins c s, begins_old c s) s.now (event_gives event c s is)

-- ---- a number is given once

pub next_is_new : (rows : Rows) (n : ℕ) → IsSound rows → WasGiven rows n → n < next_number rows
next_is_new rows n sound given = ⊎_elim
    (λ (early : n < rows.setup.first). omega (arith, early))
    (λ (there : (m : MessageRow) × (Among m rows.messages × (m.id ≡ n))).
    let low = below_next_number rows there.0 sound.messages.message_keys there.1.0 in let own = there.1.1 in omega (arith, low, own))
    given

-- What is said of messages and their parts, and stays so through every event.
use Rattle.std.proofs.Common.{◌≡◌, inl, inr, ℕ, List, true, Option, Some, None, sym, ◌∙◌, ap, subst, ⊎_elim, arith}
use Rattle.std.proofs.lemmas.Bool.{cases_eq, cond_both}
use Rattle.sms_base.specs.Among.{Among}
use Rattle.sms_base.specs.declared.final_state.FinalState.{FinalState}
use Rattle.sms_base.specs.declared.final_state.FinalState.TheVariants.{Delivered}
use Rattle.sms_rows.proofs.table.Tables.{among_put, found_among, found_key, row_at_put, row_at_put_other}
use Rattle.sms_intake.specs.declared.submission.Submission.{Submission}
use Rattle.sms_intake.specs.PartBodies.{is_long}
use Rattle.sms_centre_rows.specs.declared.messages.message.MessageRow.{MessageRow}
use Rattle.sms_centre_rows.specs.declared.messages.part.PartRow.{PartRow}
use Rattle.sms_centre_rows.specs.messages.Messages.{Messages, all_done, ended, message_at, message_key, messages_of, part_key, parts_of, put_message}
use Rattle.sms_centre_rows.specs.declared.waiting.progress.Progress.{Progress}
use Rattle.sms_centre_rows.specs.waiting.Trying.{finished}
use Rattle.sms_centre_spec.specs.declared.event.CentreEvent.{CentreEvent}
use Rattle.sms_centre_spec.specs.CentreEvent.{happened}
use Rattle.sms_centre_spec.specs.Consistent.{IsSubmission}
use Rattle.sms_centre_spec.specs.Draft.{Core, Store, draft_of, messages_in, parts_in, rows_of, with_part_at}
use Rattle.sms_centre_spec.specs.Ends.{end}
use Rattle.sms_centre_spec.specs.MessageNumbers.{next_number}
use Rattle.sms_centre_spec.specs.SoundCore.{IsEvent, IsSoundCore}
use Rattle.sms_centre_spec.specs.Submitting.{accept, message_of}
use Rattle.sms_centre_spec.specs.Transfers.{complete}
use Rattle.sms_centre_spec.proofs.NextNumbers.{below_next_number}
use Rattle.sms_centre_spec.proofs.PduFits.{event_gives}
use Rattle.sms_centre_spec.proofs.SoundAccepted.{sound_steady}
use Rattle.sms_centre_spec.proofs.SoundStores.{SoundStore, store_sound}
use Rattle.sms_centre_spec.proofs.Stages.{IfThere}
use Rattle.sms_centre_spec.proofs.Steady.{IsSteady, message_own}
use Rattle.sms_centre_spec.proofs.SteadyEvents.{steady_event}
use Rattle.sms_world.proofs.split_messages_stay.MadeParts.{Accepts, IsAccepted, accept_leads}
use Rattle.sms_world.proofs.split_messages_stay.SameParts.{SameParts, same_amended}
use Rattle.sms_world.proofs.scripts_are_runs.PartsInOrder.{end_touches}

-- ---- a fact of a store's messages and parts

-- it is kept where a message ends, where a part is so far, and where a submission is accepted
pub record IsKept (H : Messages → Type 0) : Type 0 where
  pub at_end : (f : FinalState) (m : MessageRow) (s : Store) → H s.messages → message_at m.id (messages_in s) ≡ Some m → H (put_message (ended f s.moment m) s.messages)
  pub at_part : (p : PartRow) (q : Progress) (s : Store) → H s.messages → H (with_part_at p q s).messages
  pub at_submission : (u : Submission) (s e : Store) → SoundStore s → IsSubmission u → SoundStore e → Accepts u s e → H s.messages → H e.messages

module _ (H : Messages → Type 0) (k : IsKept H) where
  end_keeps : (f : FinalState) (m : MessageRow) (s : Store) → H s.messages → message_at m.id (messages_in s) ≡ Some m → H (end f m s).messages
  end_keeps f m s h there = subst (λ (ms : Messages). H ms) (sym (end_touches f m s)) (k.at_end f m s h there)

  settled_keeps : (p : PartRow) (m : MessageRow) (s : Store) → H s.messages → message_at m.id (messages_in s) ≡ Some m → H (complete m (with_part_at p (finished p.progress) s)).messages
  settled_keeps p m s h there =
      let e : Store = with_part_at p (finished p.progress) s in
      let far : H e.messages = k.at_part p (finished p.progress) s h in
      cond_both (all_done m.id (parts_in e)) (end Delivered m e) e (λ (x : Store). H x.messages) (λ t. end_keeps Delivered m e far there) (λ t. far)

  accepted_keeps : (u : Submission) (s : Store) (o : Option Store) → SoundStore s → IsSubmission u → H s.messages → IfThere SoundStore o → IfThere (Accepts u s) o → IfThere (λ (e : Store). SoundStore e × H e.messages) o
  accepted_keeps u s None sound fit h after a = tt
  accepted_keeps u s (Some e) sound fit h after a = (after, k.at_submission u s e sound fit after a h)

  abbrev Keeps : Store → Type 0
  Keeps s = SoundStore s × H s.messages

  steady : IsSteady Keeps
  steady =
      let c = sound_steady in
      record {
        consistent = λ s h. h.0.consistent;
        accepted = λ u s h fit. accepted_keeps u s (accept u s) h.0 fit h.1 (c.accepted u s h.0 fit) (accept_leads u s h.0 fit);
        ended = λ f m s h there pending partly. (c.ended f m s h.0 there pending partly, end_keeps f m s h.1 there);
        settled = λ p m s h there of pending undone. (c.settled p m s h.0 there of pending undone, settled_keeps p m s h.1 (message_own p.id m s of));
        part_far = λ p q s h there same. (c.part_far p q s h.0 there same, k.at_part p q s h.1);
        report_far = λ r q s h there stays. (c.report_far r q s h.0 there stays, h.1);
        later = λ n s h past is. (c.later n s h.0 past is, h.1);
      }

  pub event_keeps : (event : CentreEvent) (c : Core) → IsSoundCore c → IsEvent event → H (draft_of c).store.messages → H (happened event c).store.messages
  event_keeps event c sound is h =
      (steady_event Keeps steady event c (store_sound c.rows c.moment sound.rows sound.now sound.moment, h) sound.now (event_gives event c sound is)).1

-- ---- what may be said of a message

-- It says nothing of how the message stands, and nothing of its parts but their numbers and octets.
pub record IsLasting (P : MessageRow → List PartRow → Type 0) : Type 0 where
  pub ends : (f : FinalState) (n : ℕ) (m : MessageRow) (ps : List PartRow) → P m ps → P (ended f n m) ps
  pub parts : (m : MessageRow) (ps qs : List PartRow) → SameParts m.id ps qs → P m ps → P m qs

-- what is said of the row alone
abbrev pub OfRow : (MessageRow → Type 0) → MessageRow → List PartRow → Type 0
OfRow P m ps = P m

pub row_lasts : (P : MessageRow → Type 0) → ((f : FinalState) (n : ℕ) (m : MessageRow) → P m → P (ended f n m)) → IsLasting (OfRow P)
row_lasts P ends = record { ends = λ f n m ps is. ends f n m is; parts = λ m ps qs same is. is }

-- a message that is there is older than the next
older : (s : Store) → SoundStore s → (x : MessageRow) → Among x (messages_in s) → ¬ (x.id ≡ next_number (rows_of s))
older s sound x among e =
    let low = below_next_number (rows_of s) x sound.consistent.message_keys among in
    let l : ⊥ = omega (arith, low, e) in l

-- ---- the message of one number

abbrev pub IsSaid : ℕ → (MessageRow → List PartRow → Type 0) → List MessageRow → List PartRow → Type 0
IsSaid id P messages parts = (x : MessageRow) × ((message_at id messages ≡ Some x) × P x parts)

module _ (id : ℕ) (P : MessageRow → List PartRow → Type 0) (lasts : IsLasting P) where
  abbrev Has : Messages → Type 0
  Has ms = IsSaid id P (messages_of ms) (parts_of ms)

  one_ended : (f : FinalState) (m : MessageRow) (s : Store) → Has s.messages → message_at m.id (messages_in s) ≡ Some m → Has (put_message (ended f s.moment m) s.messages)
  one_ended f m s (x, (at, is)) there =
      let w : MessageRow = ended f s.moment m in
      ⊎_elim
      (λ (e : m.id ≡ id).
      let both : Some m ≡ Some x = sym there ∙ ap (λ (n : ℕ). message_at n (messages_in s)) e ∙ at in
      let same : m ≡ x = cc in
      let found : Has (put_message w s.messages) = (
        w,
        (
          subst (λ (n : ℕ). message_at n (messages_of (put_message w s.messages)) ≡ Some w) e (row_at_put message_key w (messages_in s)),
          lasts.ends f s.moment m (parts_in s) (subst (λ (y : MessageRow). P y (parts_in s)) (sym same) is),
        ),
      ) in found)
      (λ (ne : m.id ≡ id → ⊥).
      let found : Has (put_message w s.messages) = (x, (row_at_put_other message_key id w (messages_in s) ne ∙ at, is)) in found)
      (cases_eq m.id id)

  one_far : (p : PartRow) (q : Progress) (s : Store) → Has s.messages → Has (with_part_at p q s).messages
  one_far p q s (x, (at, is)) = (x, (at, lasts.parts x (parts_in s) (parts_in (with_part_at p q s)) (same_amended x.id (part_key p) q (parts_in s)) is))

  one_entered : (u : Submission) (s : Store) (split : Option ℕ) (reference : ℕ) (e : Store) → SoundStore s → IsAccepted u s split reference e → Has s.messages → Has e.messages
  one_entered u s split reference e sound a (x, (at, is)) =
      let own : x.id ≡ id = found_key message_key id x (messages_in s) at in
      let old : ¬ (x.id ≡ next_number (rows_of s)) = older s sound x (found_among message_key id x (messages_in s) at) in (
        x,
        (
          ap (λ (ms : List MessageRow). message_at id ms) a.messages
              ∙ row_at_put_other message_key id (message_of (next_number (rows_of s)) s.moment split u) (messages_in s) (λ q. old (own ∙ sym q)) ∙ at,
          lasts.parts x (parts_in s) (parts_in e) (a.others x.id old) is,
        ),
      )

  one_accepted : (u : Submission) (s e : Store) → SoundStore s → IsSubmission u → SoundStore e → Accepts u s e → Has s.messages → Has e.messages
  one_accepted u s e sound fit after (inl (reference, (long, a))) k = one_entered u s (Some reference) reference e sound a k
  one_accepted u s e sound fit after (inr (short, a)) k = one_entered u s None 0 e sound a k

  one_kept : IsKept Has
  one_kept = record { at_end = one_ended; at_part = one_far; at_submission = one_accepted }

  pub said_on : (event : CentreEvent) (c : Core) → IsSoundCore c → IsEvent event → IsSaid id P c.rows.messages c.rows.parts → IsSaid id P (messages_in (happened event c).store) (parts_in (happened event c).store)
  said_on event c sound is k = event_keeps Has one_kept event c sound is k

-- ---- each message

abbrev pub AreSaid : (MessageRow → List PartRow → Type 0) → List MessageRow → List PartRow → Type 0
AreSaid P messages parts = (m : MessageRow) → Among m messages → P m parts

-- of a new one, too, split or not
pub record IsSaidOfNew (P : MessageRow → List PartRow → Type 0) : Type 0 where
  pub long : (u : Submission) (s e : Store) (reference : ℕ) → IsSubmission u → SoundStore e → is_long u.text ≡ true → IsAccepted u s (Some reference) reference e
      → P (message_of (next_number (rows_of s)) s.moment (Some reference) u) (parts_in e)
  pub short : (u : Submission) (s e : Store) → IsSubmission u → SoundStore e → IsAccepted u s None 0 e → P (message_of (next_number (rows_of s)) s.moment None u) (parts_in e)

module _ (P : MessageRow → List PartRow → Type 0) (lasts : IsLasting P) (new : IsSaidOfNew P) where
  abbrev All : Messages → Type 0
  All ms = AreSaid P (messages_of ms) (parts_of ms)

  all_ended : (f : FinalState) (m : MessageRow) (s : Store) → All s.messages → message_at m.id (messages_in s) ≡ Some m → All (put_message (ended f s.moment m) s.messages)
  all_ended f m s k there x i =
      let w : MessageRow = ended f s.moment m in
      ⊎_elim
      (λ (q : x ≡ w).
      subst (λ (y : MessageRow). P y (parts_in s)) (sym q) (lasts.ends f s.moment m (parts_in s) (k m (found_among message_key m.id m (messages_in s) there))))
      (λ (o : Among x (messages_in s) × ¬ (message_key x ≡ message_key w)). k x o.0)
      (among_put message_key x w (messages_in s) i)

  all_far : (p : PartRow) (q : Progress) (s : Store) → All s.messages → All (with_part_at p q s).messages
  all_far p q s k x i = lasts.parts x (parts_in s) (parts_in (with_part_at p q s)) (same_amended x.id (part_key p) q (parts_in s)) (k x i)

  all_entered : (u : Submission) (s : Store) (split : Option ℕ) (reference : ℕ) (e : Store) → SoundStore s → IsAccepted u s split reference e → P (message_of (next_number (rows_of s)) s.moment split u) (parts_in e)
      → All s.messages → All e.messages
  all_entered u s split reference e sound a own k x i =
      let row : MessageRow = message_of (next_number (rows_of s)) s.moment split u in
      ⊎_elim
      (λ (q : x ≡ row). subst (λ (y : MessageRow). P y (parts_in e)) (sym q) own)
      (λ (o : Among x (messages_in s) × ¬ (message_key x ≡ message_key row)). lasts.parts x (parts_in s) (parts_in e) (a.others x.id (older s sound x o.0)) (k x o.0))
      (among_put message_key x row (messages_in s) (subst (λ (ms : List MessageRow). Among x ms) a.messages i))

  all_accepted : (u : Submission) (s e : Store) → SoundStore s → IsSubmission u → SoundStore e → Accepts u s e → All s.messages → All e.messages
  all_accepted u s e sound fit after (inl (reference, (long, a))) k = all_entered u s (Some reference) reference e sound a (new.long u s e reference fit after long a) k
  all_accepted u s e sound fit after (inr (short, a)) k = all_entered u s None 0 e sound a (new.short u s e fit after a) k

  all_kept : IsKept All
  all_kept = record { at_end = all_ended; at_part = all_far; at_submission = all_accepted }

  pub all_said_on : (event : CentreEvent) (c : Core) → IsSoundCore c → IsEvent event → AreSaid P c.rows.messages c.rows.parts → AreSaid P (messages_in (happened event c).store) (parts_in (happened event c).store)
  all_said_on event c sound is k = event_keeps All all_kept event c sound is k

-- A submission does the same without the messages that go.
use Rattle.std.proofs.Common.{◌≡◌, ℕ, ◌+◌, ◌<◌, List, [], ◌∷◌, Bool, true, false, Option, Some, None, Result, Ok, Err, refl, sym, ◌∙◌, ap, subst, inl, inr, ⊎_elim, arith}
use Rattle.std.specs.Prelude.{◌-◌, ◌*◌, ◌⊎◌, max, nat_le, nat_lt, if◌then◌else◌}
use Rattle.std.specs.Option.{option_and_then}
use Rattle.sms_base.specs.declared.address.Address.{Address}
use Rattle.smpp_pdu.specs.declared.message.Message.{Message}
use Rattle.smpp_pdu.specs.declared.status.CommandStatus.{CommandStatus}
use Rattle.smpp_pdu.specs.declared.status.CommandStatus.TheVariants.{ESME_RSUBMITFAIL}
use Rattle.sms_base.specs.Among.{Among}
use Rattle.sms_base.specs.declared.originator.Originator.{Originator}
use Rattle.sms_base.specs.declared.originator.Originator.TheVariants.{Application, Handset}
use Rattle.sms_centre_rows.specs.declared.messages.message.MessageRow.{MessageRow}
use Rattle.sms_centre_rows.specs.messages.Messages.{message_at, message_key, next_id}
use Rattle.sms_centre_rows.specs.messages.OpenParts.{parts_waiting}
use Rattle.sms_centre_rows.specs.declared.waiting.queued_part.QueuedPart.{QueuedPart}
use Rattle.sms_centre_rows.specs.messages.SplitReferences.{held_references, is_taken, next_split}
use Rattle.sms_centre_rows.specs.declared.waiting.handset.HandsetRow.{HandsetRow}
use Rattle.sms_centre_rows.specs.waiting.References.{handset_of}
use Rattle.sms_intake.specs.declared.submission.CentreAccount.{CentreAccount}
use Rattle.sms_intake.specs.declared.submission.SinglePart.{SinglePart}
use Rattle.sms_intake.specs.declared.submission.Submission.{Submission}
use Rattle.sms_intake.specs.PartBodies.{bodies_under, is_long}
use Rattle.sms_intake.specs.SmppIntake.{from_pdu}
use Rattle.sms_centre_spec.proofs.forgetting.BarsStand.{next_stands, taken_stands}
use Rattle.sms_centre_spec.specs.declared.answer.CentreAnswer.TheVariants.{Submitted}
use Rattle.sms_centre_spec.specs.declared.event.CentreEvent.TheVariants.{Submit}
use Rattle.sms_centre_spec.specs.CentreEvent.{happened}
use Rattle.sms_centre_spec.specs.Draft.{Core, Draft, Store, answer_with, bars_in, draft_of, handsets_in, in_store, messages_in, parts_in, priorities_in, reports_in, rows_of, store_of, waiting_in, with_given}
use Rattle.sms_centre_spec.specs.MessageNumbers.{next_number}
use Rattle.sms_centre_spec.specs.Shares.{held_by, held_by_others, is_of_account, takes_too_much, unless_too_much}
use Rattle.sms_centre_spec.specs.Requests.{account_at, accepted, refused, submission_received, submit_by}
use Rattle.sms_centre_spec.specs.SoundRows.{IsSound}
use Rattle.sms_centre_spec.specs.Submitting.{accept, accept_as, accept_split, accept_under, enter, give_part, give_parts, is_reference_taken, message_of, own_reference, part_given, reference_for}
use Rattle.sms_centre_spec.specs.forgetting.Forgetting.{kept}
use Rattle.sms_centre_spec.specs.forgetting.Forgot.{CanForget, Same, Stays, core_without, draft_without, store_without}
use Rattle.sms_centre_spec.proofs.forgetting.Answers.{Alike, followed}
use Rattle.sms_centre_spec.proofs.forgetting.Follow.{OfReport, of_parts, of_reports}
use Rattle.sms_centre_spec.proofs.forgetting.Looks.{message_stays}
use Rattle.sms_centre_spec.proofs.forgetting.Moves.{base_stays, given_move, message_move, newer_stays, part_move, priority_move, reference_look, waiting_look}
use Rattle.sms_centre_spec.proofs.forgetting.Splits.{next_id_same}

-- what comes next is the same, and is newer than all that go
pub record Nexts (goes : ℕ → Bool) (s : Store) : Type 0 where
  pub id : next_number (rows_of (store_without goes s)) ≡ next_number (rows_of s)
  pub newer : (n : ℕ) → goes n ≡ true → n < next_number (rows_of s)
  pub split : (source : Address) (h : List ℕ)
      → next_split source h (bars_in (store_without goes s)) (messages_in (store_without goes s)) (parts_in (store_without goes s))
      ≡ next_split source h (bars_in s) (messages_in s) (parts_in s)
  pub taken : (source : Address) (h : List ℕ) (own : Option ℕ)
      → is_taken own (held_references source h (bars_in (store_without goes s)) (messages_in (store_without goes s)))
      ≡ is_taken own (held_references source h (bars_in s) (messages_in s))

pub base_nexts : (goes : ℕ → Bool) (c : Core) → IsSound c.rows → CanForget goes c → Nexts goes (store_of c.rows c.moment)
base_nexts goes c s can = record {
  id = ap (λ (n : ℕ). max c.rows.setup.first n) (next_id_same goes 1 c.rows.messages can.may.id);
  newer = λ n t. let l : n + 1 < next_id c.rows.messages = can.given n t in omega (arith, l);
  split = λ source h. next_stands source h goes c.rows.bars c.rows.messages c.rows.parts s.bars s.messages.message_keys can.may.later;
  taken = λ source h own. taken_stands source h goes own c.rows.bars c.rows.messages c.rows.parts s.bars;
}

-- stores that may not be there
abbrev pub Both : (ℕ → Bool) → Option Store → Option Store → Type 0
Both goes None None = Unit {0}
Both goes (Some a) (Some b) = (a ≡ store_without goes b) × Stays goes b
Both goes None (Some b) = ⊥
Both goes (Some a) None = ⊥

module _ (goes : ℕ → Bool) where
  both_if : (b : Bool) (x small y large : Option Store) → Both goes x small → Both goes y large → Both goes (if b then x else y) (if b then small else large)
  both_if true x small y large f g = f
  both_if false x small y large f g = g

  both_then : (f : Store → Option Store) (x y : Option Store) → Both goes x y → ((e : Store) → Stays goes e → Both goes (f (store_without goes e)) (f e)) → Both goes (option_and_then f x) (option_and_then f y)
  both_then f None None g h = tt
  both_then f None (Some y) g h = absurd g
  both_then f (Some x) None g h = absurd g
  both_then f (Some x) (Some y) g h = subst (λ (e : Store). Both goes (f e) (f y)) (sym g.0) (h y g.1)

  -- ---- parts

  given_both : (id : ℕ) (u : Submission) (n : ℕ) (b : SinglePart) (h : HandsetRow) (o : Option ℕ) (s : Store) → Stays goes s → ((n : ℕ) → goes n ≡ true → n < id)
      → Both goes (part_given id u n b h o (store_without goes s)) (part_given id u n b h o s)
  given_both id u n b h None s k f = tt
  given_both id u n b h (Some r) s k f = (refl, part_move goes _ (with_given h r s) (given_move goes h r s k) f)

  give_both : (id : ℕ) (u : Submission) (n : ℕ) (b : SinglePart) (h : HandsetRow) (s : Store) → Stays goes s → ((n : ℕ) → goes n ≡ true → n < id) → Both goes (give_part id u n b h (store_without goes s)) (give_part id u n b h s)
  give_both id u n b h s k f =
      subst (λ (o : Option ℕ). Both goes (part_given id u n b h o (store_without goes s)) (give_part id u n b h s)) (sym (reference_look goes h s k)) (given_both id u n b h (reference_for h s) s k f)

  gives_both : (id : ℕ) (u : Submission) (n : ℕ) (bs : List SinglePart) (s : Store) → Stays goes s → ((n : ℕ) → goes n ≡ true → n < id) → Both goes (give_parts id u n bs (store_without goes s)) (give_parts id u n bs s)
  gives_both id u n [] s k f = (refl, k)
  gives_both id u n (b ∷ bs) s k f =
      let h : HandsetRow = handset_of u.handset (handsets_in s) in
      both_then (λ (e : Store). give_parts id u (n + 1) bs e) (give_part id u n b h (store_without goes s)) (give_part id u n b h s) (give_both id u n b h s k f) (λ e l. gives_both id u (n + 1) bs e l f)

  -- ---- the message

  under_both : (id : ℕ) (split : Option ℕ) (bs : List SinglePart) (u : Submission) (s : Store) → Stays goes s → ((n : ℕ) → goes n ≡ true → n < id)
      → Both goes (accept_under id split bs u (store_without goes s)) (accept_under id split bs u s)
  under_both id split bs u s k f =
      let stays : goes id ≡ false = newer_stays goes id f in
      gives_both id u 1 bs (enter id split u s) (priority_move goes _ _ (message_move goes (message_of id s.moment split u) s k stays) stays) f

  split_both : (id : ℕ) (o : Option ℕ) (u : Submission) (s : Store) → Stays goes s → ((n : ℕ) → goes n ≡ true → n < id) → Both goes (accept_split id o u (store_without goes s)) (accept_split id o u s)
  split_both id None u s k f = tt
  split_both id (Some r) u s k f = under_both id (Some r) (bodies_under r u.text) u s k f

  as_both : (id : ℕ) (u : Submission) (s : Store) → Stays goes s → Nexts goes s → ((n : ℕ) → goes n ≡ true → n < id) → Both goes (accept_as id u (store_without goes s)) (accept_as id u s)
  as_both id u s k n f =
      let z : Store = store_without goes s in
      let o : Option ℕ = next_split u.source u.handset (bars_in s) (messages_in s) (parts_in s) in
      both_if (is_long u.text) (accept_split id (next_split u.source u.handset (bars_in z) (messages_in z) (parts_in z)) u z) (accept_split id o u s)
      (accept_under id None (bodies_under 0 u.text) u z) (accept_under id None (bodies_under 0 u.text) u s)
      (subst (λ (x : Option ℕ). Both goes (accept_split id x u z) (accept_split id o u s)) (sym (n.split u.source u.handset)) (split_both id o u s k f))
      (under_both id None (bodies_under 0 u.text) u s k f)

  pub accept_both : (u : Submission) (s : Store) → Stays goes s → Nexts goes s → Both goes (accept u (store_without goes s)) (accept u s)
  accept_both u s k n =
      let z : Store = store_without goes s in
      let i : ℕ = next_number (rows_of s) in
      subst (λ (j : ℕ). Both goes (if nat_le j 9999999999 then accept_as j u z else None) (accept u s)) (sym n.id)
      (both_if (nat_le i 9999999999) (accept_as i u z) (accept_as i u s) None None (as_both i u s k n n.newer) tt)

  -- ---- what an account holds

  -- what waits is of messages that stay
  waits_stays : (h : List ℕ) (s : Store) (l : QueuedPart) → Stays goes s → Among l (waiting_in h s) → goes l.id ≡ false
  waits_stays h s l k a = ⊎_elim
      (λ (f : OfReport goes l). ap (λ (x : QueuedPart). goes x.id) f.queued ∙ f.stays)
      (λ (b : Among l (parts_waiting h (messages_in s) (priorities_in s) (parts_in s))).
      let f = of_parts goes h (messages_in s) (priorities_in s) (parts_in s) l k.ended b in ap (λ (x : QueuedPart). goes x.id) f.queued ∙ f.stays)
      (of_reports goes h (messages_in s) (reports_in s) (parts_waiting h (messages_in s) (priorities_in s) (parts_in s)) l k.closed a)

  abbrev AllStay : List QueuedPart → Type 0
  AllStay ls = (l : QueuedPart) → Among l ls → goes l.id ≡ false

  held_look : (account : List ℕ) (ms : List MessageRow) (ls : List QueuedPart) → AllStay ls → held_by account (kept message_key goes ms) ls ≡ held_by account ms ls
  held_look account ms [] all = refl
  held_look account ms (l ∷ ls) all =
      ap (λ (o : Option MessageRow). if is_of_account account o then 1 + held_by account (kept message_key goes ms) ls else held_by account (kept message_key goes ms) ls) (message_stays goes l.id ms (all l (inl refl)))
      ∙ ap (λ (n : ℕ). if is_of_account account (message_at l.id ms) then 1 + n else n) (held_look account ms ls (λ x a. all x (inr a)))

  others_look : (account : List ℕ) (ms : List MessageRow) (ls : List QueuedPart) → AllStay ls → held_by_others account (kept message_key goes ms) ls ≡ held_by_others account ms ls
  others_look account ms [] all = refl
  others_look account ms (l ∷ ls) all =
      ap (λ (o : Option MessageRow). if is_of_account account o then held_by_others account (kept message_key goes ms) ls else 1 + held_by_others account (kept message_key goes ms) ls) (message_stays goes l.id ms (all l (inl refl)))
      ∙ ap (λ (n : ℕ). if is_of_account account (message_at l.id ms) then n else 1 + n) (others_look account ms ls (λ x a. all x (inr a)))

  too_much_same : (o : Originator) (ms : List MessageRow) (ls : List QueuedPart) → AllStay ls → takes_too_much o (kept message_key goes ms) ls ≡ takes_too_much o ms ls
  too_much_same (Application account) ms ls all =
      ap (λ (n : ℕ). nat_lt (256 - held_by_others account (kept message_key goes ms) ls) (2 * n)) (held_look account ms ls all)
      ∙ ap (λ (n : ℕ). nat_lt (256 - n) (2 * held_by account ms ls)) (others_look account ms ls all)
  too_much_same (Handset reference) ms ls all = refl

  unless_both : (u : Submission) (x y : Option Store) → Both goes x y → Both goes (unless_too_much u x) (unless_too_much u y)
  unless_both u None None g = tt
  unless_both u None (Some y) g = absurd g
  unless_both u (Some x) None g = absurd g
  unless_both u (Some x) (Some y) g =
      let z : Store = store_without goes y in
      let ws : List QueuedPart = waiting_in u.handset y in
      let same : takes_too_much u.originator (messages_in z) (waiting_in u.handset z) ≡ takes_too_much u.originator (messages_in y) ws =
      ap (λ (l : List MessageRow). takes_too_much u.originator l (waiting_in u.handset z)) g.1.messages
      ∙ ap (λ (l : List QueuedPart). takes_too_much u.originator (kept message_key goes (messages_in y)) l) (waiting_look goes u.handset y g.1)
      ∙ too_much_same u.originator (messages_in y) ws (λ l a. waits_stays u.handset y l g.1 a) in
      subst (λ (e : Store). Both goes (unless_too_much u (Some e)) (unless_too_much u (Some y))) (sym g.0)
      (subst (λ (b : Bool). Both goes (if b then None else Some z) (unless_too_much u (Some y))) (sym same)
      (both_if (takes_too_much u.originator (messages_in y) ws) None None (Some z) (Some y) tt (refl, g.1)))

  -- ---- submit_sm

  pub alike_if : (b : Bool) (x small y large : Draft) → Alike goes x small → Alike goes y large → Alike goes (if b then x else y) (if b then small else large)
  alike_if true x small y large f g = f
  alike_if false x small y large f g = g

  accepted_alike : (id : ℕ) (x y : Option Store) (d : Draft) → Stays goes d.store → Both goes x y → Alike goes (accepted id x (draft_without goes d)) (accepted id y d)
  accepted_alike id None None d k g = (refl, k)
  accepted_alike id None (Some y) d k g = absurd g
  accepted_alike id (Some x) None d k g = absurd g
  accepted_alike id (Some x) (Some y) d k g = (ap (λ (e : Store). answer_with (Submitted id) (in_store e (draft_without goes d))) g.0, g.1)

  received_alike : (u : Result Submission CommandStatus) (d : Draft) → Stays goes d.store → Nexts goes d.store → Alike goes (submission_received u (draft_without goes d)) (submission_received u d)
  received_alike (Err status) d k n = (refl, k)
  received_alike (Ok u) d k n =
      let s : Store = d.store in
      let z : Store = store_without goes s in
      let e : Draft = draft_without goes d in
      let i : ℕ = next_number (rows_of s) in
      let held : is_reference_taken u z ≡ is_reference_taken u s = n.taken u.source u.handset (own_reference u.text) in
      subst (λ (b : Bool). Alike goes (if b then refused ESME_RSUBMITFAIL e else accepted (next_number (rows_of z)) (unless_too_much u (accept u z)) e) (submission_received (Ok u) d)) (sym held)
      (alike_if (is_reference_taken u s) (refused ESME_RSUBMITFAIL e) (refused ESME_RSUBMITFAIL d) (accepted (next_number (rows_of z)) (unless_too_much u (accept u z)) e) (accepted i (unless_too_much u (accept u s)) d) (refl, k)
      (subst (λ (j : ℕ). Alike goes (accepted j (unless_too_much u (accept u z)) e) (accepted i (unless_too_much u (accept u s)) d)) (sym n.id)
      (accepted_alike i (unless_too_much u (accept u z)) (unless_too_much u (accept u s)) d k (unless_both u (accept u z) (accept u s) (accept_both u s k n)))))

  by_alike : (a : Option CentreAccount) (m : Message) (d : Draft) → Stays goes d.store → Nexts goes d.store → Alike goes (submit_by a m (draft_without goes d)) (submit_by a m d)
  by_alike None m d k n = (refl, k)
  by_alike (Some a) m d k n = received_alike (from_pdu a d.store.moment m) d k n

  pub submit_same : (account : ℕ) (m : Message) (c : Core) → IsSound c.rows → CanForget goes c → Same goes (happened (Submit account m) (core_without goes c)) (happened (Submit account m) c)
  submit_same account m c s can =
      let o : Option CentreAccount = account_at account c.rows.setup.accounts in
      followed goes (submit_by o m (draft_without goes (draft_of c))) (submit_by o m (draft_of c)) (by_alike o m (draft_of c) (base_stays goes c s can.may) (base_nexts goes c s can))

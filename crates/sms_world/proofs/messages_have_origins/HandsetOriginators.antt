-- A message that a frame of a handset brings is what the SUBMIT in the frame asks for.
use Rattle.std.proofs.Common.{◌≡◌, ℕ, ◌+◌, List, [], ◌∷◌, Option, Some, None, Result, Ok, Err, refl, sym, ◌∙◌, ap, subst, ⊎_elim}
use Rattle.std.specs.Prelude.{if◌then◌else◌, is_some, nat_le, not, ◌&&◌}
use Rattle.std.specs.Option.{option_map}
use Rattle.std.proofs.lemmas.Bool.{cond_both}
use Rattle.std.proofs.lemmas.Option.{none-some}
use Rattle.sms_base.specs.Among.{Among}
use Rattle.sms_base.specs.declared.holder.Holder.{Holder}
use Rattle.sms_base.specs.declared.originator.Originator.TheVariants.{Handset}
use Rattle.sms_rows.proofs.table.Tables.{among_found, among_put}
use Rattle.sms_link.specs.declared.ending.Upward.{Upward}
use Rattle.sms_link.specs.declared.ending.Upward.TheVariants.{Opened, Ended}
use Rattle.sms_base.specs.declared.carried.Carried.{Carried}
use Rattle.sms_control.specs.declared.fault.CpFault.{CpFault}
use Rattle.sms_control.specs.declared.link_state.LinkState.{LinkState}
use Rattle.sms_control.specs.declared.message.Cp.{Cp}
use Rattle.sms_control.specs.declared.message.Cp.TheVariants.{DataUnit as CpData, AckUnit as CpAck, ErrorUnit as CpError}
use Rattle.sms_control.specs.declared.out.Up.TheVariants.{Unit as UnitUp, Failed as FailedUp}
use Rattle.sms_control.specs.declared.transaction.Transaction.{Transaction}
use Rattle.sms_control.specs.declared.transaction.TransactionFlag.{TransactionFlag}
use Rattle.sms_control.specs.declared.transaction.TransactionFlag.TheVariants.{FromOriginator, ToOriginator}
use Rattle.sms_control.specs.ControlReading.{cp_at}
use Rattle.sms_control.specs.LinkStep.{Step, ack_taken, acknowledgement, answer_frames, answer_of, answer_taken, data_taken, error_taken, frame_taken, has_begun, has_opened, is_same, opening_of, opening_taken, passes_up, quiet, rejection, sends, take_step}
use Rattle.sms_link.specs.declared.ending.Ending.{Ending}
use Rattle.sms_link.specs.declared.ending.Ending.TheVariants.{Lost}
use Rattle.sms_link.specs.declared.ending.Side.{Side}
use Rattle.sms_link.specs.LinkTurn.{passed_up, taken}
use Rattle.sms_relay.specs.declared.fault.RelayFault.{RelayFault}
use Rattle.sms_relay.specs.declared.frame.Rp.{Rp}
use Rattle.sms_relay.specs.declared.frame.Rp.TheVariants.{DataUnit, AckUnit, ErrorUnit, Smma}
use Rattle.sms_relay.specs.RelayReading.{up_at}
use Rattle.sms_tpdu.specs.declared.carrier.Carrier.TheVariants.{InData}
use Rattle.sms_tpdu.specs.declared.fault.TpduFault.{TpduFault}
use Rattle.sms_tpdu.specs.declared.submit.Submit.{Submit as SubmitOf}
use Rattle.sms_tpdu.specs.declared.up.Up.{Up}
use Rattle.sms_tpdu.specs.declared.up.Up.TheVariants.{DeliverReport, Submit}
use Rattle.sms_tpdu.specs.TpduReading.{up_at as tpdu_up_at}
use Rattle.sms_base.specs.HandsetNumber.{names_handset, own_address}
use Rattle.sms_base.specs.Reading.{only_if}
use Rattle.sms_base.proofs.Steps.{bind_ok, ok_is}
use Rattle.sms_intake.specs.HandsetIntake.{from_read, from_submit, is_of_account, is_past, submission_of, wish_of}
use Rattle.sms_intake.specs.PartBodies.{bodies_under, is_long}
use Rattle.sms_intake.specs.declared.refusal.SubmitRefusal.{SubmitRefusal}
use Rattle.sms_intake.specs.declared.refusal.SubmitRefusal.TheVariants.{Duplicate, NoHandset, OfAccount, PastLimit, ReferenceTaken}
use Rattle.sms_intake.specs.declared.submission.SinglePart.{SinglePart}
use Rattle.sms_intake.specs.declared.submission.Submission.{Submission}
use Rattle.sms_intake.specs.declared.submission.CentreAccount.{CentreAccount}
use Rattle.sms_centre_rows.specs.declared.messages.message.MessageRow.{MessageRow}
use Rattle.sms_centre_rows.specs.declared.waiting.handset.HandsetRow.{HandsetRow}
use Rattle.sms_centre_rows.specs.declared.waiting.handset_link.HandsetLink.{HandsetLink}
use Rattle.sms_centre_rows.specs.messages.Messages.{message_at, message_key}
use Rattle.sms_centre_rows.specs.messages.SplitReferences.{next_split}
use Rattle.sms_centre_rows.specs.waiting.Links.{link_of, turn_link}
use Rattle.sms_centre_rows.specs.waiting.References.{handset_of}
use Rattle.sms_centre_spec.specs.declared.event.CentreEvent.TheVariants.{Frame}
use Rattle.sms_centre_spec.specs.declared.rows.Rows.{Rows}
use Rattle.sms_centre_spec.specs.CentreEvent.{happened, tag_of, went_up}
use Rattle.sms_centre_spec.specs.Draft.{Core, Draft, Store, bars_in, draft_of, handsets_in, messages_in, on_links, parts_in, rows_of}
use Rattle.sms_centre_spec.specs.MessageNumbers.{next_number}
use Rattle.sms_centre_spec.specs.Receiving.{due_now, is_duplicate, refuse, submit_accepted, submit_received, unit_received}
use Rattle.sms_centre_spec.specs.SoundCore.{IsSoundCore}
use Rattle.sms_centre_spec.specs.Submitting.{accept, accept_as, accept_split, accept_under, enter, give_part, give_parts, is_reference_taken, message_of, part_given, reference_for}
use Rattle.sms_centre_spec.proofs.AcceptedConsistent.{then_there}
use Rattle.sms_centre_spec.proofs.KeepingSteady.{SoundSince}
use Rattle.sms_centre_spec.proofs.NumbersSteady.{AreOld, old_still}
use Rattle.sms_centre_spec.proofs.SoundEvents.{begins}
use Rattle.sms_centre_spec.proofs.Stages.{IfThere}
use Rattle.sms_centre_spec.proofs.Steady.{IsStill, concluded_steady, due_now_steady}
use Rattle.sms_world.specs.headline.SeenFrames.{frame_tpdu, unit_tpdu}

-- A SUBMIT of those octets asked for it: it has that handset's reference for originator, its address for source, and its wish.
pub record IsAsked (tpdu : List ℕ) (m : MessageRow) : Type 0 where
  pub submit : SubmitOf
  pub reads : tpdu_up_at InData tpdu ≡ Ok (Submit submit)
  pub originator : m.originator ≡ Handset submit.message_reference
  pub address : m.source ≡ own_address m.source.digits
  pub wish : m.wish ≡ wish_of submit.status_report_request

-- so does each message that the submission becomes
abbrev IsFor : (MessageRow → Type 0) → Submission → Type 0
IsFor Says u = (id now : ℕ) (split : Option ℕ) → Says (message_of id now split u)

abbrev ok_submission : Submission → Result Submission SubmitRefusal
ok_submission u = Ok u

submit_up : (accounts : List CentreAccount) (tpdu from : List ℕ) (now : ℕ) (s : SubmitOf) (x : Submission) → tpdu_up_at InData tpdu ≡ Ok (Submit s) → from_submit accounts from now s ≡ ok_submission x → IsFor (IsAsked tpdu) x
unfolding from_submit
submit_up accounts tpdu from now s x reads e id moment split =
    let a = bind_ok (only_if (names_handset s.destination_address) NoHandset) _ x e in
    let c = bind_ok (only_if (not (is_of_account s.destination_address.digits accounts)) OfAccount) _ x a.2 in
    let b = bind_ok (only_if (not (is_past now s.validity_period)) PastLimit) _ x c.2 in
    let same : submission_of from now s ≡ x = ok_is {E = SubmitRefusal} (submission_of from now s) x b.2 in
    subst (λ (z : Submission). IsAsked tpdu (message_of id moment split z)) same (record { submit = s; reads = reads; originator = refl; address = refl; wish = refl })

read_up : (accounts : List CentreAccount) (tpdu from : List ℕ) (now : ℕ) (r : Result Up TpduFault) (x : Submission) → tpdu_up_at InData tpdu ≡ r → from_read accounts from now r ≡ ok_submission x → IsFor (IsAsked tpdu) x
read_up accounts tpdu from now (Ok (Submit s)) x reads e = submit_up accounts tpdu from now s x reads e
read_up accounts tpdu from now (Ok (DeliverReport r)) x reads e = absurd cc
read_up accounts tpdu from now (Err fault) x reads e = absurd cc

-- that is said of each message that was not in 'base'
abbrev AreNew : (MessageRow → Type 0) → Rows → Store → Type 0
AreNew Says base s = (m : MessageRow) → Among m (messages_in s) → message_at m.id base.messages ≡ None → Says m

module _ (Says : MessageRow → Type 0) (base : Rows) where
  old_ones : (s : Store) → AreOld base s → AreNew Says base s
  old_ones s are m among none = let x = are.old m among in let q : Some x.0 ≡ None = sym x.1 ∙ none in absurd cc

  -- ---- a submission is accepted

  parts_new : (id : ℕ) (u : Submission) (n : ℕ) (bs : List SinglePart) (s : Store) → AreNew Says base s → IfThere (AreNew Says base) (give_parts id u n bs s)
  parts_new id u n [] s k = k
  parts_new id u n (b ∷ bs) s k =
      let h : HandsetRow = handset_of u.handset (handsets_in s) in
      then_there (AreNew Says base) (AreNew Says base) (λ (e : Store). give_parts id u (n + 1) bs e) (give_part id u n b h s) (given (reference_for h s)) (λ e g. parts_new id u (n + 1) bs e g)
    where
      given : (o : Option ℕ) → IfThere (AreNew Says base) (part_given id u n b (handset_of u.handset (handsets_in s)) o s)
      given None = tt
      given (Some r) = k

  under_new : (id : ℕ) (split : Option ℕ) (bs : List SinglePart) (u : Submission) (s : Store) → AreOld base s → IsFor Says u → IfThere (AreNew Says base) (accept_under id split bs u s)
  under_new id split bs u s are up =
      let m : MessageRow = message_of id s.moment split u in
      let entered : AreNew Says base (enter id split u s) = λ x among none. ⊎_elim
      (λ (e : x ≡ m). subst (λ (y : MessageRow). Says y) (sym e) (up id s.moment split))
      (λ (a : Among x (messages_in s) × ¬ (x.id ≡ id)). old_ones s are x a.0 none)
      (among_put message_key x m (messages_in s) among) in
      parts_new id u 1 bs (enter id split u s) entered

  split_new : (id : ℕ) (o : Option ℕ) (u : Submission) (s : Store) → AreOld base s → IsFor Says u → IfThere (AreNew Says base) (accept_split id o u s)
  split_new id None u s are up = tt
  split_new id (Some r) u s are up = under_new id (Some r) (bodies_under r u.text) u s are up

  accept_new : (u : Submission) (s : Store) → AreOld base s → IsFor Says u → IfThere (AreNew Says base) (accept u s)
  accept_new u s are up =
      let id : ℕ = next_number (rows_of s) in
      let split : Option ℕ = next_split u.source u.handset (bars_in s) (messages_in s) (parts_in s) in
      cond_both (nat_le id 9999999999) (accept_as id u s) None (λ (o : Option Store). IfThere (AreNew Says base) o)
      (λ t. cond_both (is_long u.text) (accept_split id split u s) (accept_under id None (bodies_under 0 u.text) u s) (λ (o : Option Store). IfThere (AreNew Says base) o)
      (λ e. split_new id split u s are up) (λ e. under_new id None (bodies_under 0 u.text) u s are up))
      (λ t. tt)

  -- ---- no other stage enters a message

  abbrev Since : Store → Type 0
  Since s = SoundSince base s × AreOld base s

  still : IsStill Since
  still = old_still base

  -- ---- a unit of a handset

  accepted_new : (h : List ℕ) (n : ℕ) (tag : Holder) (o : Option Store) (d : Draft) → Since d.store → IfThere (AreNew Says base) o → AreNew Says base (submit_accepted h n tag o d).store
  accepted_new h n tag None d k l = old_ones d.store k.1
  accepted_new h n tag (Some e) d k l = l

  received_new : (h : List ℕ) (n : ℕ) (tag : Holder) (u : Result Submission SubmitRefusal) (d : Draft) → Since d.store → ((x : Submission) → u ≡ Ok x → IsFor Says x)
      → AreNew Says base (submit_received h n tag u d).store
  received_new h n tag (Err r) d k up = old_ones d.store k.1
  received_new h n tag (Ok u) d k up =
      cond_both (is_duplicate u d.store) (refuse h n tag Duplicate d)
      (if is_reference_taken u d.store then refuse h n tag ReferenceTaken d else submit_accepted h n tag (accept u d.store) d) (λ (e : Draft). AreNew Says base e.store)
      (λ t. old_ones d.store k.1)
      (λ t. cond_both (is_reference_taken u d.store) (refuse h n tag ReferenceTaken d) (submit_accepted h n tag (accept u d.store) d) (λ (e : Draft). AreNew Says base e.store)
      (λ t. old_ones d.store k.1) (λ t. accepted_new h n tag (accept u d.store) d k (accept_new u d.store k.1 (up u refl))))

  -- what a unit that opens a transaction carries
  unit_new : (h : List ℕ) (tag : Holder) (unit : List ℕ) (u : Result Rp RelayFault) (d : Draft) → ((accounts : List CentreAccount) (n now : ℕ) (x : Submission) → from_read accounts h now (tpdu_up_at InData (unit_tpdu u)) ≡ ok_submission x → IsFor Says x) → Since d.store
      → AreNew Says base (unit_received h tag unit u d).store
  unit_new h tag unit (Ok (DataUnit r z t)) d up k = received_new h r tag (from_read d.store.setup.accounts h d.store.moment (tpdu_up_at InData t)) d k (λ x e. up d.store.setup.accounts r d.store.moment x e)
  unit_new h tag unit (Ok (AckUnit r t)) d up k = old_ones d.store k.1
  unit_new h tag unit (Ok (ErrorUnit r z t)) d up k = old_ones d.store k.1
  unit_new h tag unit (Ok (Smma r)) d up k = old_ones (due_now h d.store) (due_now_steady Since still h d.store k).1
  unit_new h tag unit (Err f) d up k = old_ones d.store k.1

  up_new : (h : List ℕ) (tag : Holder) (u : Option Upward) (d : Draft)
      → ((unit : List ℕ) → u ≡ Some (Opened unit) → (accounts : List CentreAccount) (n now : ℕ) (x : Submission) → from_read accounts h now (tpdu_up_at InData (unit_tpdu (up_at unit))) ≡ ok_submission x → IsFor Says x) → Since d.store
      → AreNew Says base (went_up h tag u d).store
  up_new h tag None d up k = old_ones d.store k.1
  up_new h tag (Some (Opened unit)) d up k = unit_new h tag unit (up_at unit) d (up unit refl) k
  up_new h tag (Some (Ended transfer ending)) d up k =
      let after : Since (went_up h tag (Some (Ended transfer ending)) d).store = concluded_steady Since still transfer.tag ending d.store k in
      old_ones (went_up h tag (Some (Ended transfer ending)) d).store after.1

-- ---- a unit that opens a transaction is that of the frame

ended_up : (f : Carried → Ending) (o : Option Carried) (unit : List ℕ) → option_map (λ (x : Carried). Ended x (f x)) o ≡ Some (Opened unit) → ⊥
ended_up f None unit e = absurd cc
ended_up f (Some x) unit e = absurd cc

same_unit : (a b : List ℕ) → Some (Opened a) ≡ Some (Opened b) → a ≡ b
same_unit a b e = cc

module _ (side : Side) (w : Option Carried) (unit : List ℕ) where
  -- what is passed up opens a transaction with that unit
  abbrev Opens : Step → Type 0
  Opens z = passed_up side w z.out.up ≡ Some (Opened unit)

  answer_opens : (frame x : List ℕ) (t : Transaction) (s : LinkState) → Opens (answer_taken frame x t s) → ⊥
  answer_opens frame x t s =
      cond_both (has_begun t.identifier s.begun) (passes_up (acknowledgement t ∷ []) (UnitUp ToOriginator x) (record s { begun = None; last_answer = Some frame }))
      (if is_same frame s.last_answer then sends (acknowledgement t ∷ []) s else sends (rejection t ∷ []) s) (λ (z : Step). Opens z → ⊥)
      (λ b e. ended_up _ w unit e)
      (λ b. cond_both (is_same frame s.last_answer) (sends (acknowledgement t ∷ []) s) (sends (rejection t ∷ []) s) (λ (z : Step). Opens z → ⊥) (λ c e. none-some (Opened unit) e) (λ c e. none-some (Opened unit) e))

  opening_opens : (frame x : List ℕ) (t : Transaction) (s : LinkState) → Opens (opening_taken frame x t s) → x ≡ unit
  opening_opens frame x t s =
      let new : Step = passes_up (acknowledgement t ∷ []) (UnitUp FromOriginator x) (record s { opened = Some (record { identifier = t.identifier; opening = frame; answer = None }) }) in
      cond_both (is_same frame (opening_of s.opened)) (sends (acknowledgement t ∷ answer_frames s.opened) s) (if is_same frame s.last_opening then sends (acknowledgement t ∷ []) s else new) (λ (z : Step). Opens z → x ≡ unit)
      (λ b e. absurd (none-some (Opened unit) e))
      (λ b. cond_both (is_same frame s.last_opening) (sends (acknowledgement t ∷ []) s) new (λ (z : Step). Opens z → x ≡ unit) (λ c e. absurd (none-some (Opened unit) e)) (λ c e. same_unit x unit e))

  data_opens : (f : TransactionFlag) (frame x : List ℕ) (t : Transaction) (s : LinkState) → Opens (data_taken f frame x t s) → x ≡ unit
  data_opens ToOriginator frame x t s e = absurd (answer_opens frame x t s e)
  data_opens FromOriginator frame x t s e = opening_opens frame x t s e

  ack_opens : (f : TransactionFlag) (i : ℕ) (s : LinkState) → Opens (ack_taken f i s) → ⊥
  ack_opens ToOriginator i s =
      cond_both (has_begun i s.begun) _ (quiet s) (λ (z : Step). Opens z → ⊥) (λ b e. none-some (Opened unit) e) (λ b e. none-some (Opened unit) e)
  ack_opens FromOriginator i s =
      cond_both (has_opened i s.opened && is_some (answer_of s.opened)) _ (quiet s) (λ (z : Step). Opens z → ⊥) (λ b e. none-some (Opened unit) e) (λ b e. none-some (Opened unit) e)

  error_opens : (f : TransactionFlag) (i : ℕ) (s : LinkState) → Opens (error_taken f i s) → ⊥
  error_opens ToOriginator i s =
      cond_both (has_begun i s.begun) (passes_up [] FailedUp (record s { begun = None })) (quiet s) (λ (z : Step). Opens z → ⊥) (λ b e. ended_up (λ x. Lost) w unit e) (λ b e. none-some (Opened unit) e)
  error_opens FromOriginator i s =
      cond_both (has_opened i s.opened) (quiet (record s { opened = None })) (quiet s) (λ (z : Step). Opens z → ⊥) (λ b e. none-some (Opened unit) e) (λ b e. none-some (Opened unit) e)

  frame_opens : (frame : List ℕ) (s : LinkState) (r : Result Cp CpFault) → Opens (frame_taken frame s r) → frame_tpdu r ≡ unit_tpdu (up_at unit)
  frame_opens frame s (Ok (CpData t x)) e = ap (λ (z : List ℕ). unit_tpdu (up_at z)) (data_opens t.flag frame x t s e)
  frame_opens frame s (Ok (CpAck t)) e = absurd (ack_opens t.flag t.identifier s e)
  frame_opens frame s (Ok (CpError t cause)) e = absurd (error_opens t.flag t.identifier s e)
  frame_opens frame s (Err fault) e = absurd (none-some (Opened unit) e)

  step_opens : (frame : List ℕ) (s : LinkState) → Opens (take_step frame s) → frame_tpdu (cp_at frame) ≡ unit_tpdu (up_at unit)
  unfolding take_step
  step_opens frame s e = frame_opens frame s (cp_at frame) e

-- ---- a frame

begins_old : (c : Core) → IsSoundCore c → AreOld c.rows (draft_of c).store
begins_old c s = record { first = refl; old = λ m among. (m, among_found message_key m c.rows.messages s.rows.messages.message_keys among) }

pub frame_brings : (handset octets : List ℕ) (tag : Option Holder) (c : Core) → IsSoundCore c → AreNew (IsAsked (frame_tpdu (cp_at octets))) c.rows (happened (Frame handset octets tag) c).store
frame_brings handset octets tag c s =
    let l : HandsetLink = link_of handset c.links in
    let tpdu : List ℕ = frame_tpdu (cp_at octets) in
    up_new (IsAsked tpdu) c.rows l.handset (tag_of tag) (taken octets l.near_end).out.up (on_links (turn_link l (taken octets l.near_end) (draft_of c).links) (draft_of c))
    (λ unit opens accounts n now x e.
    let same : tpdu ≡ unit_tpdu (up_at unit) = step_opens l.near_end.side l.near_end.under_way unit octets l.near_end.links opens in
    read_up accounts tpdu l.handset now (tpdu_up_at InData tpdu) x refl (ap (λ (t : List ℕ). from_read accounts l.handset now (tpdu_up_at InData t)) same ∙ e))
    (begins c s, begins_old c s)

-- Links and frames do the same without the messages that go.
use Rattle.std.proofs.Common.{◌≡◌, ℕ, List, [], ◌∷◌, Bool, true, false, Option, Some, None, Result, Ok, Err, refl, sym, ◌∙◌, ap, subst, inl, inr, ⊎_elim}
use Rattle.std.specs.Prelude.{◌⊎◌, ◌&&◌, ◌||◌, if◌then◌else◌}
use Rattle.std.specs.Str.{bytes_eq}
use Rattle.std.proofs.lemmas.Bool.{and_left, cases_Bool}
use Rattle.sms_base.specs.declared.carried.Carried.{Carried}
use Rattle.sms_base.specs.declared.carried.Kind.TheVariants.{Ack}
use Rattle.sms_base.specs.declared.holder.Holder.{Holder}
use Rattle.sms_link.specs.declared.ending.Ending.TheVariants.{Lost}
use Rattle.sms_link.specs.declared.ending.Upward.{Upward}
use Rattle.sms_link.specs.declared.ending.Upward.TheVariants.{Opened, Ended}
use Rattle.sms_link.specs.LinkTurn.{Turn, taken}
use Rattle.sms_relay.specs.declared.fault.RelayFault.{RelayFault}
use Rattle.sms_relay.specs.declared.frame.Rp.{Rp}
use Rattle.sms_relay.specs.declared.frame.Rp.TheVariants.{DataUnit, AckUnit, ErrorUnit, Smma}
use Rattle.sms_relay.specs.RelayGrammar.{ack_down}
use Rattle.sms_relay.specs.RelayReading.{up_at}
use Rattle.sms_tpdu.specs.declared.carrier.Carrier.TheVariants.{InData}
use Rattle.sms_tpdu.specs.TpduReading.{up_at as tpdu_up_at}
use Rattle.sms_centre_rows.specs.declared.messages.message.MessageRow.{MessageRow}
use Rattle.sms_centre_rows.specs.messages.Messages.{is_pending, message_key}
use Rattle.sms_centre_rows.specs.declared.waiting.handset_link.HandsetLink.{HandsetLink}
use Rattle.sms_centre_rows.specs.waiting.Links.{link_of, lowered, put_link, turn_link}
use Rattle.sms_intake.specs.declared.refusal.SubmitRefusal.{SubmitRefusal}
use Rattle.sms_intake.specs.declared.refusal.SubmitRefusal.TheVariants.{Duplicate, ReferenceTaken}
use Rattle.sms_intake.specs.declared.submission.Submission.{Submission}
use Rattle.sms_intake.specs.HandsetIntake.{from_read}
use Rattle.sms_centre_spec.specs.declared.event.CentreEvent.TheVariants.{Frame, LinkDown, LinkUp}
use Rattle.sms_centre_spec.specs.CentreEvent.{frame_taken, happened, lost, lower, raise, tag_of, went_up}
use Rattle.sms_centre_spec.specs.Draft.{Core, Draft, Store, draft_of, messages_in, on_links}
use Rattle.sms_centre_spec.specs.Receiving.{confirm, due_now, empty_link, has_memory, is_double_of, is_duplicate, is_of_reference, is_pending_double, refuse, reply, submit_accepted, submit_received, unit_received}
use Rattle.sms_centre_spec.specs.SoundRows.{IsSound}
use Rattle.sms_centre_spec.specs.Submitting.{accept, is_reference_taken, own_reference}
use Rattle.sms_centre_spec.specs.forgetting.Forgetting.{kept}
use Rattle.sms_centre_spec.specs.forgetting.Forgot.{CanForget, Same, Stays, core_without, draft_without, store_without}
use Rattle.sms_centre_spec.proofs.forgetting.Answers.{Alike, followed}
use Rattle.sms_centre_spec.proofs.forgetting.Ended.{Pair, conclude_alike}
use Rattle.sms_centre_spec.proofs.forgetting.Kept.{kept_gone, kept_here}
use Rattle.sms_centre_spec.proofs.forgetting.Looks.{Ended as EndedRows}
use Rattle.sms_centre_spec.proofs.forgetting.Moves.{base_stays}
use Rattle.sms_centre_spec.proofs.forgetting.Submits.{Both, Nexts, accept_both, alike_if, base_nexts}
use Rattle.sms_centre_spec.proofs.forgetting.Ticks.{due_pair, raise_alike}

double_same : (goes : ℕ → Bool) (u : Submission) (ms : List MessageRow) → EndedRows goes ms → is_pending_double u (kept message_key goes ms) ≡ is_pending_double u ms
double_same goes u [] ended = refl
double_same goes u (m ∷ ms) ended =
    let rest : is_pending_double u (kept message_key goes ms) ≡ is_pending_double u ms = double_same goes u ms (λ x a. ended x (inr a)) in
    ⊎_elim
    (λ (t : goes m.id ≡ true).
    let no : is_double_of u m ≡ false = and_left (is_pending m) (is_of_reference u.originator m.originator && (bytes_eq u.source.digits m.source.digits && bytes_eq u.handset m.handset)) (ended m (inl refl) t) in
    ap (λ (l : List MessageRow). is_pending_double u l) (kept_gone message_key goes m ms t) ∙ rest ∙ sym (ap (λ (b : Bool). b || is_pending_double u ms) no))
    (λ (t : goes m.id ≡ false).
    ap (λ (l : List MessageRow). is_pending_double u l) (kept_here message_key goes m ms t) ∙ ap (λ (b : Bool). is_double_of u m || b) rest)
    (cases_Bool (goes m.id))

module _ (goes : ℕ → Bool) where
  lost_alike : (h : List ℕ) (o : Option Carried) (d : Draft) → Stays goes d.store → Alike goes (lost h o (draft_without goes d)) (lost h o d)
  lost_alike h None d k = (refl, k)
  lost_alike h (Some t) d k = conclude_alike goes h t Lost d k

  lower_alike : (h : List ℕ) (d : Draft) → Stays goes d.store → Alike goes (lower h (draft_without goes d)) (lower h d)
  lower_alike h d k = let link : HandsetLink = link_of h d.links.all in lost_alike link.handset link.near_end.under_way (on_links (put_link (lowered link) d.links) d) k

  memory_alike : (h : List ℕ) (d : Draft) → Stays goes d.store → Alike goes (has_memory h (draft_without goes d)) (has_memory h d)
  memory_alike h d k =
      let p : Pair goes (due_now h (store_without goes d.store)) (due_now h d.store) = due_pair goes h d.store k in
      (ap (λ (e : Store). record { store = e; links = empty_link h d.links; bindings = d.bindings; answer = d.answer }) p.0, p.1)

  taken_alike : (h : List ℕ) (r : ℕ) (tag : Holder) (x y : Option Store) (d : Draft) → Stays goes d.store → Both goes x y → Alike goes (submit_accepted h r tag x (draft_without goes d)) (submit_accepted h r tag y d)
  taken_alike h r tag None None d k g = (refl, k)
  taken_alike h r tag None (Some y) d k g = absurd g
  taken_alike h r tag (Some x) None d k g = absurd g
  taken_alike h r tag (Some x) (Some y) d k g = (ap (λ (e : Store). confirm h r tag (record (draft_without goes d) { store = e })) g.0, g.1)

  submitted_alike : (h : List ℕ) (r : ℕ) (tag : Holder) (u : Result Submission SubmitRefusal) (d : Draft) → Stays goes d.store → Nexts goes d.store
      → Alike goes (submit_received h r tag u (draft_without goes d)) (submit_received h r tag u d)
  submitted_alike h r tag (Err refusal) d k n = (refl, k)
  submitted_alike h r tag (Ok u) d k n =
      let s : Store = d.store in
      let z : Store = store_without goes s in
      let e : Draft = draft_without goes d in
      let held : is_reference_taken u z ≡ is_reference_taken u s = n.taken u.source u.handset (own_reference u.text) in
      let double : is_duplicate u z ≡ is_duplicate u s =
      ap (λ (l : List MessageRow). u.rejects_duplicates && is_pending_double u l) k.messages ∙ ap (λ (b : Bool). u.rejects_duplicates && b) (double_same goes u (messages_in s) k.ended) in
      let small : Draft = if is_reference_taken u s then refuse h r tag ReferenceTaken e else submit_accepted h r tag (accept u z) e in
      let large : Draft = if is_reference_taken u s then refuse h r tag ReferenceTaken d else submit_accepted h r tag (accept u s) d in
      let inner : Alike goes small large =
      alike_if goes (is_reference_taken u s) (refuse h r tag ReferenceTaken e) (refuse h r tag ReferenceTaken d) (submit_accepted h r tag (accept u z) e) (submit_accepted h r tag (accept u s) d) (refl, k)
      (taken_alike h r tag (accept u z) (accept u s) d k (accept_both goes u s k n)) in
      subst (λ (b : Bool). Alike goes (if b then refuse h r tag Duplicate e else (if is_reference_taken u z then refuse h r tag ReferenceTaken e else submit_accepted h r tag (accept u z) e)) (submit_received h r tag (Ok u) d)) (sym double)
      (subst (λ (b : Bool). Alike goes (if is_duplicate u s then refuse h r tag Duplicate e else (if b then refuse h r tag ReferenceTaken e else submit_accepted h r tag (accept u z) e)) (submit_received h r tag (Ok u) d)) (sym held)
      (alike_if goes (is_duplicate u s) (refuse h r tag Duplicate e) (refuse h r tag Duplicate d) small large (refl, k) inner))

  unit_alike : (h : List ℕ) (tag : Holder) (unit : List ℕ) (u : Result Rp RelayFault) (d : Draft) → Stays goes d.store → Nexts goes d.store
      → Alike goes (unit_received h tag unit u (draft_without goes d)) (unit_received h tag unit u d)
  unit_alike h tag unit (Ok (DataUnit r centre tpdu)) d k n = submitted_alike h r tag (from_read d.store.setup.accounts h d.store.moment (tpdu_up_at InData tpdu)) d k n
  unit_alike h tag unit (Ok (AckUnit r tpdu)) d k n = (refl, k)
  unit_alike h tag unit (Ok (ErrorUnit r cause tpdu)) d k n = (refl, k)
  unit_alike h tag unit (Ok (Smma r)) d k n = memory_alike h (reply h Ack r tag (ack_down r None) d) k
  unit_alike h tag unit (Err fault) d k n = (refl, k)

  went_alike : (h : List ℕ) (tag : Holder) (o : Option Upward) (d : Draft) → Stays goes d.store → Nexts goes d.store → Alike goes (went_up h tag o (draft_without goes d)) (went_up h tag o d)
  went_alike h tag None d k n = (refl, k)
  went_alike h tag (Some (Opened unit)) d k n = unit_alike h tag unit (up_at unit) d k n
  went_alike h tag (Some (Ended transfer ending)) d k n = conclude_alike goes h transfer ending d k

  pub frame_same : (h octets : List ℕ) (tag : Option Holder) (c : Core) → IsSound c.rows → CanForget goes c
      → Same goes (happened (Frame h octets tag) (core_without goes c)) (happened (Frame h octets tag) c)
  frame_same h octets tag c s can =
      let link : HandsetLink = link_of h c.links in
      let turn : Turn = taken octets link.near_end in
      let d : Draft = draft_of c in
      followed goes (frame_taken octets (tag_of tag) link (draft_without goes d)) (frame_taken octets (tag_of tag) link d)
      (went_alike link.handset (tag_of tag) turn.out.up (on_links (turn_link link turn d.links) d) (base_stays goes c s can.may) (base_nexts goes c s can))

  pub up_same : (h : List ℕ) (c : Core) → IsSound c.rows → CanForget goes c → Same goes (happened (LinkUp h) (core_without goes c)) (happened (LinkUp h) c)
  up_same h c s can = let d : Draft = draft_of c in followed goes (raise h (draft_without goes d)) (raise h d) (raise_alike goes h d (base_stays goes c s can.may))

  pub down_same : (h : List ℕ) (c : Core) → IsSound c.rows → CanForget goes c → Same goes (happened (LinkDown h) (core_without goes c)) (happened (LinkDown h) c)
  down_same h c s can = let d : Draft = draft_of c in followed goes (lower h (draft_without goes d)) (lower h d) (lower_alike h d (base_stays goes c s can.may))

-- The answer to a unit goes into the bag.
use Rattle.std.proofs.Common.{◌≡◌, ℕ, ◌+◌, ◌<◌, ◌≤◌, arith, List, [], ◌∷◌, ◌++◌, true, false, refl, sym, ◌∙◌, ap, subst, inl, Option, Some, None, Result, length, is_some, is_none}
use Rattle.std.specs.Prelude.{◌&&◌}
use Rattle.std.proofs.lemmas.Bool.{cond-true}
use Rattle.sms_base.specs.declared.holder.Holder.{Holder}
use Rattle.sms_control.specs.declared.link_state.Answer.{Answer}
use Rattle.sms_control.specs.declared.link_state.Opened.{Opened}
use Rattle.sms_control.specs.declared.message.Cp.TheVariants.{DataUnit as CpData}
use Rattle.sms_control.specs.declared.transaction.TransactionFlag.TheVariants.{ToOriginator}
use Rattle.sms_control.specs.ControlGrammar.{spelled}
use Rattle.sms_control.specs.LinkStep.{Step, answer_of, awaits_reply, in_transaction, reply_step, answered}
use Rattle.sms_relay.specs.declared.cause.RpCause.{RpCause}
use Rattle.sms_relay.specs.declared.frame.Rp.TheVariants.{AckUnit, ErrorUnit}
use Rattle.sms_relay.specs.declared.frame.Rp.{Rp}
use Rattle.sms_relay.specs.declared.fault.RelayFault.{RelayFault}
use Rattle.sms_relay.specs.Cause.{IsRpCause}
use Rattle.sms_relay.specs.RelayGrammar.{ack_up, error_up}
use Rattle.sms_relay.specs.RelayReading.{up_at}
use Rattle.sms_relay.proofs.UnitLaws.{up_again, written_up_is}
use Rattle.sms_base.specs.declared.carried.Carried.{Carried as Carries}
use Rattle.sms_base.specs.declared.carried.Kind.{Kind}
use Rattle.sms_base.specs.declared.carried.Kind.TheVariants.{Ack, Error}
use Rattle.sms_link.specs.declared.outgoing.Outgoing.{Outgoing}
use Rattle.sms_handset_draft.specs.Draft.{Draft, link_of, reply, with_turn}
use Rattle.sms_link.specs.LinkTurn.{Turn, answering, carrying, still}
use Rattle.sms_world_model.specs.World.{World, Sent}
use Rattle.sms_world.specs.frames_pass_between_sides.FramesUp.{CarriesUp, IsOfKind, flag_for}
use Rattle.sms_world.specs.headline.SeenFrames.{sent_as}
use Rattle.sms_world.specs.handset_runs_are_steps.RefinesLink.{RefinesOpened}
use Rattle.sms_world.specs.handset_runs_are_steps.Refinement.{Refines}
use Rattle.sms_world.proofs.frames_pass_between_sides.Linking.{Awaits, data_framed, reply_is}
use Rattle.sms_world.proofs.handset_runs_are_steps.Moving.{frames_more, links_more, whole_both}

-- the frame of an answer in that transaction
abbrev pub answer_frame : Opened → List ℕ → List ℕ
answer_frame o unit = spelled (CpData (in_transaction ToOriginator o.identifier) unit)

opened_below : (h : List ℕ) (bag : List Sent) (a : Option Carries) (s : Option Opened) (o : Opened) → s ≡ Some o → RefinesOpened h bag a s → o.identifier < 7
opened_below h bag a None o e s = absurd cc
opened_below h bag a (Some x) o e s = let q : x ≡ o = cc in subst (λ (z : Opened). z.identifier < 7) q s.0

-- what an answer is
pub record IsAnswer (kind : Kind) (r : ℕ) (unit : List ℕ) : Type 0 where
  pub flag : flag_for kind ≡ ToOriginator
  pub some : 0 < length unit
  pub fits : length unit ≤ 248
  pub unit_is : IsOfKind kind r (up_at unit)

pub replies : (kind : Kind) (r : ℕ) (tag : Holder) (unit : List ℕ) (h : List ℕ) (b : World) (d : Draft) (w : World) (o : Opened) → IsAnswer kind r unit → Awaits d.links o
    → Refines h b d w → Refines h b (reply kind r tag unit d) (record w { bag = sent_as h (length w.bag + 1) (answer_frame o unit) (Some (record { kind = kind; reference = r; tag = tag })) ∷ w.bag })
replies kind r tag unit h b d w o i a s =
    let c : Carries = record { kind = kind; reference = r; tag = tag } in
    let l : o.identifier < 7 = opened_below h w.bag d.answered d.links.opened o a.0 s.links.opened in
    let is : CarriesUp (answer_frame o unit) c = record {
      transaction = in_transaction ToOriginator o.identifier;
      unit = unit;
      frame = data_framed ToOriginator o.identifier unit l i.some i.fits;
      flag = sym i.flag;
      unit_is = i.unit_is;
    } in
    let x : Sent = sent_as h (length w.bag + 1) (answer_frame o unit) (Some c) in
    let e : answered d.moment unit d.links o ≡ reply_step d.moment unit d.links = sym (reply_is d.moment unit d.links o a) in
    let f : Outgoing = record { octets = answer_frame o unit; carried = Some c; is_copy = false } in
    let z : Refines h b (record d { links = (answered d.moment unit d.links o).state; answered = Some c; frames = d.frames ++ f ∷ [] }) (record w { bag = x ∷ w.bag }) = record {
      frames = frames_more h d.frames (f ∷ []) b.bag w.bag s.frames;
      whole = whole_both d.frames (f ∷ []) s.whole (is, tt);
      links = record {
        next = s.links.next;
        opened = (l, (c, (refl, (is, i.flag, (length w.bag + 1, inl refl)))));
        begun = (links_more h x w.bag d.links d.under_way d.answered s.links).begun;
      };
      last = s.last;
      accepted = s.accepted;
      joined = s.joined;
      out = s.out;
      notices = s.notices;
      groups = s.groups;
    } in
    let awaits : awaits_reply d.links ≡ true = ap (λ (y : Option Opened). is_some y && is_none (answer_of y)) a.0 ∙ ap (λ (y : Option Answer). is_none y) a.1 in
    subst (λ (t : Turn). Refines h b (with_turn t d) (record w { bag = x ∷ w.bag }))
    (sym (cond-true (awaits_reply d.links) (answering c (reply_step d.moment unit d.links) (link_of d)) (still (link_of d)) awaits))
    (subst (λ (t : Step). Refines h b (record d { links = t.state; answered = Some c; frames = d.frames ++ carrying (Some c) t.out.frames }) (record w { bag = x ∷ w.bag })) e z)

-- ---- the answers that a handset gives

short : (n : ℕ) → n ≡ 2 → n < 256
short n e = omega (arith, e)

few : (n : ℕ) → n ≡ 3 → n < 256
few n e = omega (arith, e)

pub ack_answers : (r : ℕ) → IsAnswer Ack r (ack_up r (Some (0 ∷ 0 ∷ [])))
ack_answers r = record {
  flag = refl;
  some = omega arith;
  fits = omega arith;
  unit_is = subst (λ (z : Result Rp RelayFault). IsOfKind Ack r z) (sym (up_again (ack_up r (Some (0 ∷ 0 ∷ []))) (AckUnit r (Some (0 ∷ 0 ∷ []))) (short 2 refl, refl))) refl;
}

pub error_answers : (r : ℕ) (cause : RpCause) (failure : ℕ) → IsRpCause cause → IsAnswer Error r (error_up r cause (Some (0 ∷ failure ∷ 0 ∷ [])))
error_answers r cause failure i = record {
  flag = refl;
  some = omega arith;
  fits = omega arith;
  unit_is = subst (λ (z : Result Rp RelayFault). IsOfKind Error r z)
      (sym (up_again (error_up r cause (Some (0 ∷ failure ∷ 0 ∷ []))) (ErrorUnit r cause (Some (0 ∷ failure ∷ 0 ∷ []))) (written_up_is (ErrorUnit r cause (Some (0 ∷ failure ∷ 0 ∷ []))) (i, few 3 refl)))) refl;
}

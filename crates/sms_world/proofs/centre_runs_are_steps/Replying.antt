-- The answer to a unit of a handset goes into the bag.
use Rattle.std.proofs.Common.{◌≡◌, ℕ, ◌+◌, ◌<◌, ◌≤◌, arith, List, [], ◌∷◌, true, false, refl, sym, ◌∙◌, ap, subst, inl, inr, Option, Some, None, Result, length, is_some, is_none}
use Rattle.std.specs.Prelude.{◌&&◌}
use Rattle.std.proofs.lemmas.Bool.{cond-true}
use Rattle.sms_base.specs.Among.{Among}
use Rattle.sms_base.specs.declared.carried.Carried.{Carried}
use Rattle.sms_base.specs.declared.carried.Kind.{Kind}
use Rattle.sms_base.specs.declared.carried.Kind.TheVariants.{Ack, Error}
use Rattle.sms_base.specs.declared.holder.Holder.{Holder}
use Rattle.sms_control.specs.LinkStep.{Step, answer_of, answered, awaits_reply, in_transaction, reply_step}
use Rattle.sms_control.specs.declared.link_state.Answer.{Answer}
use Rattle.sms_control.specs.declared.link_state.Opened.{Opened}
use Rattle.sms_control.specs.declared.transaction.TransactionFlag.TheVariants.{ToOriginator}
use Rattle.sms_link.specs.LinkTurn.{Turn, answering, of_kind, still}
use Rattle.sms_relay.proofs.UnitLaws.{down_again, written_down_is}
use Rattle.sms_relay.specs.RelayGrammar.{ack_down, error_down}
use Rattle.sms_relay.specs.RelayReading.{down_at}
use Rattle.sms_relay.specs.declared.cause.RpCause.{RpCause}
use Rattle.sms_relay.specs.declared.fault.RelayFault.{RelayFault}
use Rattle.sms_relay.specs.declared.frame.Rp.{Rp}
use Rattle.sms_relay.specs.declared.frame.Rp.TheVariants.{AckUnit, ErrorUnit}
use Rattle.sms_intake.specs.Refusals.{cause_of}
use Rattle.sms_intake.specs.SubmitReports.{accepting_report, refusing_report}
use Rattle.sms_intake.specs.declared.refusal.SubmitRefusal.{SubmitRefusal}
use Rattle.sms_centre_rows.specs.waiting.Links.{link_of, turn_link, turned}
use Rattle.sms_centre_rows.specs.declared.waiting.handset_link.HandsetLink.{HandsetLink}
use Rattle.sms_centre_rows.specs.declared.waiting.handset_link.Sent.{Sent as SentRow}
use Rattle.sms_centre_spec.specs.Draft.{Draft, on_links}
use Rattle.sms_centre_spec.specs.Receiving.{reply}
use Rattle.sms_world.proofs.frames_pass_between_sides.Linking.{Awaits, data_framed, reply_is}
use Rattle.sms_world.specs.frames_pass_between_sides.Between.{CarriesDown, IsOfKindDown}
use Rattle.sms_world.specs.frames_pass_between_sides.FramesUp.{flag_for}
use Rattle.sms_world_model.specs.World.{Sent, World}
use Rattle.sms_world.specs.centres_refine_the_world.CentreRefinement.{CentreRefines}
use Rattle.sms_world.specs.headline.SeenFrames.{sent_down}
use Rattle.sms_world.specs.centres_refine_the_world.RefinesLinks.{RefinesLink, RefinesOpenedDown}
use Rattle.sms_world.proofs.centres_refine_the_world.Offers.{link_refines, links_with, stacked_both, whole_both}
use Rattle.sms_world.proofs.centres_refine_the_world.Staying.{link_still}
use Rattle.sms_world.proofs.handset_runs_are_steps.Replying.{answer_frame}
use Rattle.sms_centre_draft.proofs.AnswerLengths.{refusal_cause}
use Rattle.sms_centre_rows.proofs.waiting.LinksRepresented.{link_of_handset}

opened_below : (h : List ℕ) (bag : List Sent) (a : Option Carried) (s : Option Opened) (o : Opened) → s ≡ Some o → RefinesOpenedDown h bag a s → o.identifier < 7
opened_below h bag a None o e s = absurd cc
opened_below h bag a (Some x) o e s = let q : x ≡ o = cc in subst (λ (z : Opened). z.identifier < 7) q s.0

-- what an answer is
pub record IsAnswerDown (kind : Kind) (r : ℕ) (unit : List ℕ) : Type 0 where
  pub flag : flag_for kind ≡ ToOriginator
  pub some : 0 < length unit
  pub fits : length unit ≤ 248
  pub unit_is : IsOfKindDown kind r (down_at unit)

module _ (kind : Kind) (r : ℕ) (tag : Holder) (unit : List ℕ) (i : IsAnswerDown kind r unit) (b : World) (d : Draft) (w : World) (s : CentreRefines b d w) where
  -- on a link
  on_link : (link : HandsetLink) (o : Opened) → RefinesLink w.bag link → Awaits link.near_end.links o
      → CentreRefines b (on_links (turn_link link (answering (of_kind kind r tag) (reply_step d.store.moment unit link.near_end.links) link.near_end) d.links) d)
      (record w { bag = sent_down link.handset (length w.bag + 1) (answer_frame o unit) (Some (of_kind kind r tag)) ∷ w.bag })
  on_link link o k a =
      let c : Carried = of_kind kind r tag in
      let l : o.identifier < 7 = opened_below link.handset w.bag link.near_end.answered link.near_end.links.opened o a.0 k.opened in
      let octets : List ℕ = answer_frame o unit in
      let is : CarriesDown octets c = record {
        transaction = in_transaction ToOriginator o.identifier;
        unit = unit;
        frame = data_framed ToOriginator o.identifier unit l i.some i.fits;
        flag = sym i.flag;
        unit_is = i.unit_is;
      } in
      let x : Sent = sent_down link.handset (length w.bag + 1) octets (Some c) in
      let v : World = record w { bag = x ∷ w.bag } in
      let e : answered d.store.moment unit link.near_end.links o ≡ reply_step d.store.moment unit link.near_end.links = sym (reply_is d.store.moment unit link.near_end.links o a) in
      let f : SentRow = record { handset = link.handset; frame = record { octets = octets; carried = Some c; is_copy = false } } in
      let grown : (y : Sent) → Among y w.bag → Among y v.bag = λ y j. inr j in
      let old : RefinesLink v.bag link = link_still w.bag v.bag grown link k in
      let after_step : Step → Draft = λ (z : Step). on_links (turn_link link (answering (of_kind kind r tag) z link.near_end) d.links) d in
      let z : CentreRefines b (after_step (answered d.store.moment unit link.near_end.links o)) v = record {
        frames = ap (λ (bag : List Sent). sent_down link.handset (length bag + 1) octets (Some c) ∷ bag) s.frames ∙ sym (stacked_both d.links.frames (f ∷ []) b.bag);
        whole = whole_both d.links.frames (f ∷ []) s.whole (is, tt);
        links = links_with v.bag (turned (answering c (answered d.store.moment unit link.near_end.links o) link.near_end) link) d.links.all
            (record { next = k.next; opened = (l, (c, (refl, (is, i.flag, (length w.bag + 1, inl refl))))); begun = old.begun })
            (λ y j. link_still w.bag v.bag grown y (s.links y j));
        rows = record { table = s.rows.table; reports = s.rows.reports; holders = s.rows.holders; seconds = s.rows.seconds };
      } in
      subst (λ (t : Step). CentreRefines b (after_step t) v) e z

  -- to the handset
  pub replies : (h : List ℕ) (o : Opened) → Awaits (link_of h d.links.all).near_end.links o
      → CentreRefines b (reply h kind r tag unit d) (record w { bag = sent_down h (length w.bag + 1) (answer_frame o unit) (Some (of_kind kind r tag)) ∷ w.bag })
  replies h o a =
      let link : HandsetLink = link_of h d.links.all in
      let c : Carried = of_kind kind r tag in
      let awaits : awaits_reply link.near_end.links ≡ true = ap (λ (y : Option Opened). is_some y && is_none (answer_of y)) a.0 ∙ ap (λ (y : Option Answer). is_none y) a.1 in
      let z = on_link link o (link_refines w.bag h d.links.all s.links) a in
      subst (λ (n : List ℕ). CentreRefines b (reply h kind r tag unit d) (record w { bag = sent_down n (length w.bag + 1) (answer_frame o unit) (Some c) ∷ w.bag })) (link_of_handset h d.links.all)
      (subst (λ (t : Turn). CentreRefines b (on_links (turn_link link t d.links) d) (record w { bag = sent_down link.handset (length w.bag + 1) (answer_frame o unit) (Some c) ∷ w.bag }))
      (sym (cond-true (awaits_reply link.near_end.links) (answering c (reply_step d.store.moment unit link.near_end.links) link.near_end) (still link.near_end) awaits)) z)

-- ---- the answers that the centre gives

short : (n k : ℕ) → n ≡ k → k ≤ 10 → n < 256
short n k e l = omega (arith, e, l)

pub confirming : (r moment : ℕ) → IsAnswerDown Ack r (ack_down r (Some (accepting_report moment)))
confirming r moment =
    let report : List ℕ = accepting_report moment in
    let long : length (ack_down r (Some report)) ≡ 13 = refl in
    record {
      flag = refl;
      some = omega (arith, long);
      fits = omega (arith, long);
      unit_is = subst (λ (z : Result Rp RelayFault). IsOfKindDown Ack r z)
          (sym (down_again (ack_down r (Some report)) (AckUnit r (Some report)) (written_down_is (AckUnit r (Some report)) (short (length report) 9 refl (omega arith))))) refl;
    }

pub plain_ack : (r : ℕ) → IsAnswerDown Ack r (ack_down r None)
plain_ack r = record {
  flag = refl;
  some = omega arith;
  fits = omega arith;
  unit_is = subst (λ (z : Result Rp RelayFault). IsOfKindDown Ack r z) (sym (down_again (ack_down r None) (AckUnit r None) (written_down_is (AckUnit r None) tt))) refl;
}

pub refusing : (r : ℕ) (refusal : SubmitRefusal) (moment : ℕ) → IsAnswerDown Error r (error_down r (cause_of refusal) (Some (refusing_report refusal moment)))
refusing r refusal moment =
    let report : List ℕ = refusing_report refusal moment in
    let cause : RpCause = cause_of refusal in
    let long : length (error_down r cause (Some report)) ≡ 16 = refl in
    record {
      flag = refl;
      some = omega (arith, long);
      fits = omega (arith, long);
      unit_is = subst (λ (z : Result Rp RelayFault). IsOfKindDown Error r z)
          (sym (down_again (error_down r cause (Some report)) (ErrorUnit r cause (Some report))
          (written_down_is (ErrorUnit r cause (Some report)) (refusal_cause refusal, short (length report) 10 refl (omega arith))))) refl;
    }

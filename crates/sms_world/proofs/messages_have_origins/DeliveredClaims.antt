-- What counts as delivered was accepted as it was submitted.
use Rattle.std.proofs.Common.{◌≡◌, ℕ, ◌+◌, ◌<◌, ◌≤◌, arith, List, length, Some, sym, ◌∙◌, ap, subst}
use Rattle.sms_base.specs.Among.{Among}
use Rattle.sms_base.specs.declared.final_state.FinalState.{FinalState}
use Rattle.sms_base.specs.declared.final_state.FinalState.TheVariants.{Delivered}
use Rattle.sms_rows.specs.table.Keys.{pair_key}
use Rattle.sms_tpdu.specs.MoreMessages.{compared}
use Rattle.sms_rows.proofs.table.KeyLaws.{pairs_apart}
use Rattle.sms_rows.proofs.table.Tables.{found_among, found_key}
use Rattle.sms_intake.specs.declared.submission.SinglePart.{SinglePart}
use Rattle.sms_intake.specs.declared.submission.Submission.{Submission as Submitted}
use Rattle.sms_intake.specs.PartBodies.{bodies_under}
use Rattle.sms_centre_rows.specs.messages.Messages.{message_key, part_at, part_key}
use Rattle.sms_centre_rows.specs.declared.messages.message.MessageRow.{MessageRow}
use Rattle.sms_centre_rows.specs.declared.messages.part.PartRow.{PartRow}
use Rattle.sms_centre_rows.specs.declared.report_lines.ReportedMessage.{ReportedMessage}
use Rattle.sms_script.specs.declared.event.Act.{Act}
use Rattle.sms_script.specs.declared.event.Act.TheVariants.{Submit, Query, Cancel, Write, Delete, Discard, Deliver, Tick}
use Rattle.sms_script.specs.declared.event.StopPoint.TheVariants.{After, Before}
use Rattle.sms_script.specs.declared.event.WorldEvent.{WorldEvent}
use Rattle.sms_script.specs.declared.event.WorldEvent.TheVariants.{Whole, Stopped, Restart}
use Rattle.sms_script.specs.declared.setup.Setup.{Setup}
use Rattle.sms_play.specs.PlayState.{PlayState}
use Rattle.sms_world.specs.scripts_are_runs.PlayRefinement.{PlayRefines}
use Rattle.sms_world.specs.headline.Claims.{pair_in_row, DeliveredOnce, IsAcceptedOnce, IsGivenTo}
use Rattle.sms_world.proofs.headline.Claimed.{delivered_is, run_is}
use Rattle.sms_world.proofs.headline.ReceiptLines.{from_report}
use Rattle.sms_world.proofs.headline.Tables.{row_of_line, state_final}
use Rattle.sms_world.specs.headline.Origins.{IsDeliverFor, part_numbered, ActAccepted, ActMakes, AllAccepted, AreFromEvents, IsDeliveredFrom, MakesMessage, SubmitAccepted, WasAccepted}
use Rattle.sms_world.proofs.submissions_stay.Delivers.{same_number, within}
use Rattle.sms_world.specs.messages_have_origins.OriginLaws.{DeliveredLaw}
use Rattle.sms_world.proofs.messages_have_origins.OriginClaims.{origin_is}
use Rattle.sms_world.proofs.SeenParts.{small, one_is_small}
use Rattle.sms_script.specs.declared.report.rows.GivenRow.{GivenRow}

within_few : (n k : ℕ) → n < 1 + k → k ≤ 20 → n < 256
within_few n k l m = omega (arith, l, m)

-- each part of the message was accepted once
module _ (c : PlayState) (m : MessageRow) (few : (p : PartRow) → Among p c.centre.rows.parts → p.number < 256) (once : (p : PartRow) → Among p c.centre.rows.parts → p.id ≡ m.id → IsAcceptedOnce c m p) where
  -- also the one of that number
  at_number : (n : ℕ) (p : PartRow) → n < 256 → part_at m.id n c.centre.rows.parts ≡ Some p → IsAcceptedOnce c m p × (p.number ≡ n)
  at_number n p low at =
      let among : Among p c.centre.rows.parts = found_among part_key (pair_key m.id n) p c.centre.rows.parts at in
      let key : pair_key p.id p.number ≡ pair_key m.id n = found_key part_key (pair_key m.id n) p c.centre.rows.parts at in
      let apart = pairs_apart p.id m.id p.number n (few p among) low key in
      (once p among apart.0, apart.1)

  -- the row of its giving
  given_at : (n : ℕ) (p : PartRow) (x : IsAcceptedOnce c m p × (p.number ≡ n)) → (g : GivenRow) × IsGivenTo c m.id n (pair_in_row m p) g
  given_at n p x = subst (λ (k : ℕ). (g : GivenRow) × IsGivenTo c m.id k (pair_in_row m p) g) x.1 x.0.1.4

  all_accepted : (u : Submitted) (reference : ℕ) → length (bodies_under reference u.text) ≤ 20
      → ((n : ℕ) (b : SinglePart) → part_numbered n (bodies_under reference u.text) ≡ Some b → (p : PartRow) × ((part_at m.id n c.centre.rows.parts ≡ Some p) × IsDeliverFor u b (compared p.tpdu))) → AllAccepted c m u reference
  all_accepted u reference most each n b e =
      let p = each n b e in
      let low : n < 256 = within_few n (length (bodies_under reference u.text)) (within n (bodies_under reference u.text) b (sym (same_number n (bodies_under reference u.text)) ∙ e)).1 most in
      let o = at_number n p.0 low p.1.0 in
      (pair_in_row m p.0, ((o.0.0, (o.0.1.0, o.0.1.1, o.0.1.2, given_at n p.0 o)), p.1.1))

  act_accepted : (act : Act) (before : PlayState) (makes : ActMakes act before m c.centre.rows.parts) → ActAccepted act c before m makes
  act_accepted (Submit s) before makes = all_accepted makes.submission makes.is.reference makes.is.few makes.is.each
  act_accepted (Query name id) before makes = absurd makes
  act_accepted (Cancel name id) before makes = absurd makes
  act_accepted (Write handset to report text) before makes = absurd makes
  act_accepted (Delete handset entry) before makes = absurd makes
  act_accepted (Discard handset entry) before makes = absurd makes
  act_accepted (Deliver number) before makes =
      let o = at_number 1 makes.part one_is_small makes.part_there in
      let found : SubmitAccepted c m makes.submit = (pair_in_row m makes.part, ((o.0.0, (o.0.1.0, o.0.1.1, o.0.1.2, given_at 1 makes.part o)), makes.carries)) in found
  act_accepted (Tick side now) before makes = absurd makes

  pub was_accepted : (e : WorldEvent) (before : PlayState) (makes : MakesMessage e before m c.centre.rows.parts) → WasAccepted e c before m makes
  was_accepted (Whole act) before makes = act_accepted act before makes
  was_accepted (Stopped Before act) before makes = absurd makes
  was_accepted (Stopped After act) before makes = act_accepted act before makes
  was_accepted (Restart side) before makes = absurd makes

delivered_of : (s : Setup) (events : List WorldEvent) (c : PlayState) (m : MessageRow) → ((p : PartRow) → Among p c.centre.rows.parts → p.number < 256) → DeliveredOnce c → AreFromEvents s events c
    → Among m c.centre.rows.messages → m.state ≡ Some Delivered → IsDeliveredFrom s events c m
delivered_of s events c m few once come i e =
    let o = come m i in (o, was_accepted c m few (λ p j of. once m p i e j of) o.event o.before o.makes)

pub delivered_from : DeliveredLaw
delivered_from script some others c d is on timely =
    let x = run_is script some others c d is on in
    let k : PlayRefines c x.0 = x.2.1 in
    let few : (p : PartRow) → Among p c.centre.rows.parts → p.number < 256 = λ p i. small p.number ((k.sound.rows.messages.each_part p i).few) in
    let once : DeliveredOnce c = delivered_is script some others c d is on timely in
    let come : AreFromEvents script.setup some c = origin_is script some others c d is on in (
      λ r i e.
          let f = from_report r c.centre.rows.messages c.centre.rows.reports i in
          let among : Among f.message c.centre.rows.messages = found_among message_key f.report.id f.message c.centre.rows.messages f.found in
          (f.message, (among, f.id, delivered_of script.setup some c f.message few once come among (f.state ∙ ap (λ (z : FinalState). Some z) e))),
      λ l i e.
          let r = row_of_line l c.centre.rows.messages i in
          (r.0, (r.1.0, sym (ap (λ (z : ReportedMessage). z.id) r.1.1), delivered_of script.setup some c r.0 few once come r.1.0 (state_final r.0.state Delivered (sym (ap (λ (z : ReportedMessage). z.state) r.1.1) ∙ e)))),
    )

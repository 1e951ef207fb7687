-- What the claims of the world say of the centre's rows.
use Rattle.std.proofs.Common.{◌≡◌, ℕ, ◌<◌, [], true, false, refl, sym, ◌∙◌, ap, subst, Option, Some}
use Rattle.sms_base.specs.Among.{Among}
use Rattle.sms_base.specs.declared.final_state.FinalState.{FinalState}
use Rattle.sms_base.specs.declared.final_state.FinalState.TheVariants.{Delivered}
use Rattle.sms_base.specs.declared.holder.Holder.TheVariants.{Part}
use Rattle.sms_centre_rows.specs.messages.Messages.{message_at, message_key, part_at}
use Rattle.sms_centre_rows.specs.declared.messages.message.MessageRow.{MessageRow}
use Rattle.sms_centre_rows.specs.declared.messages.part.PartRow.{PartRow}
use Rattle.sms_rows.proofs.table.Tables.{found_key}
use Rattle.sms_tpdu.specs.MoreMessages.{compared}
use Rattle.sms_centre_spec.specs.Draft.{Core, draft_of}
use Rattle.sms_world_model.proofs.Faithful.{delivered_accepted, faithful_empty, faithful_run, no_part_twice}
use Rattle.sms_world_model.proofs.Runs.{sound_empty, sound_run}
use Rattle.sms_world_model.proofs.Tables.{same_message}
use Rattle.sms_world_model.specs.Agreement.{DeliveredAccepted, NoPartTwice, ReceiptsAgree}
use Rattle.sms_world_model.specs.Groups.{OccursOnce}
use Rattle.sms_world_model.specs.WorldStep.{end}
use Rattle.sms_world_model.specs.ScriptRun.{items}
use Rattle.sms_world_model.specs.Submission.{IsDeliverOf}
use Rattle.sms_world_model.specs.World.{Accepted, Final, Allocation, IsRecorded, State, World, empty, pair_given}
use Rattle.sms_world.specs.centres_refine_the_world.CentreRefinement.{CentreRefines}
use Rattle.sms_world.specs.centres_refine_the_world.RefinesGiven.{given_part}
use Rattle.sms_world.specs.headline.SeenWorld.{IsStateOf, PartSeen, part_seen, parts_by}
use Rattle.sms_world.specs.centres_refine_the_world.RefinesReports.{report_seen}
use Rattle.sms_world.proofs.centres_refine_the_world.ByOctets.{by_octet_is}
use Rattle.sms_world.proofs.headline.Tables.{same_end}
use Rattle.sms_world.specs.centre_runs_are_steps.Run.{Others, Restart, Stopped, Whole}
use Rattle.sms_world.specs.centre_runs_are_steps.RunEvents.{moment_at}
use Rattle.sms_world.specs.centre_runs_are_steps.TruthfulRows.{DeliveredLaw, EpisodeLaw, OnceLaw, ReportedLaw, ReportedRows}
use Rattle.sms_world.specs.headline.Claims.{IsAsSubmitted, pair_in_row}

-- ---- an episode is a run

pub episode_runs : EpisodeLaw
episode_runs (Whole number event) c w v may (steps, (are, run, same, bag)) = (items (moment_at event c) false steps, (run, same))
episode_runs (Stopped number event handsets sessions) c w v may (steps, (are, run, same, bag)) = (items (moment_at event c) true steps, (run, same))
episode_runs (Restart handsets sessions) c w v may same = ([], (tt, same))
episode_runs (Others handset m b steps) c w v may same = (items m b steps, (may.1, same))

-- ---- rows

module _ (c : Core) (w : World) (s : CentreRefines w (draft_of c) w) where
  module _ (id number : ℕ) (m : MessageRow) (p : PartRow) (there : message_at id c.rows.messages ≡ Some m) (at : part_at id number c.rows.parts ≡ Some p) (small : number < 256) where
    abbrev seen : PartSeen
    seen = record { reference = p.reference; tpdu = compared p.tpdu; is_done = p.progress.is_done }

    part_is : parts_by c.rows.parts id number ≡ Some seen
    part_is = by_octet_is number (part_seen (part_at id number c.rows.parts)) small ∙ ap part_seen at

    own : m.id ≡ id
    own = found_key message_key id m c.rows.messages there

    -- what was given to the part says what its row says
    given_is : (g : Allocation) → Among g w.down → g.holder ≡ Part id number → (pair_given g ≡ pair_in_row m p)
    given_is g among holder =
        let x = s.rows.holders.of_part g id number among holder in
        let rows : Some x.0 ≡ Some m = sym x.2.0 ∙ there in
        let row : x.0 ≡ m = cc in
        let parts : Some x.1 ≡ Some seen = sym x.2.1 ∙ part_is in
        let part : x.1 ≡ seen = cc in
        ap pair_given x.2.2 ∙ (λ t. record { handset = (row t).handset; reference = (part t).reference; tpdu = (part t).tpdu })

    delivered_row : DeliveredAccepted w → m.state ≡ Some Delivered → OccursOnce (pair_in_row m p) w.accepted × IsAsSubmitted m number p
    delivered_row all final =
        let x = s.rows.table.there id m there in
        let ended : IsStateOf (Some Delivered) (parts_by c.rows.parts id) x.1 = subst (λ (o : Option FinalState). IsStateOf o (parts_by c.rows.parts id) x.1) final x.2.2 in
        let stands : IsRecorded w.table id x.0 (Final Delivered) = subst (λ (k : ℕ). IsRecorded w.table k x.0 (Final Delivered)) own (subst (λ (z : State). IsRecorded w.table m.id x.0 z) ended x.2.0) in
        let has = x.2.3.there number seen part_is in
        let y = all id x.0 number has.0 stands has.1 in
        let same : pair_given y.0 ≡ pair_in_row m p = given_is y.0 y.1.0 y.1.1 in (
          subst (λ (a : Accepted). OccursOnce a w.accepted) same y.1.4,
          (x.0, has.0, y.0.moment, (x.2.1, has.1, subst (λ (a : Accepted). IsDeliverOf x.0 has.0 y.0.moment a.tpdu) same y.1.3)),
        )

    once_row : NoPartTwice w → Among (pair_in_row m p) w.accepted → OccursOnce (pair_in_row m p) w.accepted
    once_row none among =
        let g = s.rows.holders.part id number m seen there part_is in
        none (given_part m number seen g.0) m.id number g.1 refl among

  reported_row : ReceiptsAgree w → ReportedRows c w
  reported_row agree id r at =
      let x = s.rows.reports.there id (record { kind = r.kind; is_done = r.progress.is_done }) (ap report_seen at) in
      let y = agree id x.0 x.1 in
      let m = s.rows.table.only id y.1.0 (Final x.0) y.1.1 in
      let z = s.rows.table.there id m.0 m.1 in
      let own : m.0.id ≡ id = found_key message_key id m.0 c.rows.messages m.1 in
      let both = same_message w.table id z.0 y.1.0 z.1 (Final x.0) (subst (λ (k : ℕ). IsRecorded w.table k z.0 z.1) own z.2.0) y.1.1 in
      (m.0, x.0, (m.1, same_end m.0.state x.0 (parts_by c.rows.parts id) z.1 z.2.2 both.1, y.0))

-- ---- wherever a run led

pub reported_is_true : ReportedLaw
reported_is_true steps c run s = reported_row c (end empty steps) s (λ id f i. (sound_run empty steps sound_empty run).receipt id f i)

pub delivered_is_true : DeliveredLaw
delivered_is_true steps c run timely s id number m p there final at small =
    delivered_row c (end empty steps) s id number m p there at small (delivered_accepted (end empty steps) (faithful_run empty steps sound_empty faithful_empty run timely)) final

pub once_is_true : OnceLaw
once_is_true steps c run timely s id number m p there at small =
    once_row c (end empty steps) s id number m p there at small (no_part_twice (end empty steps) (sound_run empty steps sound_empty run) (faithful_run empty steps sound_empty faithful_empty run timely))

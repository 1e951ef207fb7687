-- What the centre's rows hold at a handset, the world holds there.
use Rattle.std.proofs.Common.{◌≡◌, ℕ, ◌<◌, List, true, false, refl, sym, ◌∙◌, ap, subst, Option, Some, None}
use Rattle.sms_base.specs.Among.{Among}
use Rattle.sms_base.specs.declared.final_state.FinalState.{FinalState}
use Rattle.sms_base.specs.declared.holder.Holder.{Holder}
use Rattle.sms_base.specs.declared.holder.Holder.TheVariants.{Part, Report, Entry, Memory}
use Rattle.sms_centre_spec.specs.Draft.{Core, draft_of}
use Rattle.sms_centre_spec.specs.SoundCore.{IsSoundCore}
use Rattle.sms_centre_rows.specs.messages.Messages.{message_key, part_at, part_key}
use Rattle.sms_centre_rows.specs.reports.Reports.{is_status}
use Rattle.sms_centre_rows.specs.declared.reports.report.ReportKind.{ReportKind}
use Rattle.sms_rows.proofs.table.Tables.{among_found, found_key}
use Rattle.sms_tpdu.specs.MoreMessages.{compared}
use Rattle.sms_world_model.specs.Agreement.{HeldDiffer as WorldHeldDiffer}
use Rattle.sms_world_model.specs.World.{Allocation, IsHeld, IsUnanswered, Pending, IsRecorded, State, World}
use Rattle.sms_world.proofs.centres_refine_the_world.ByOctets.{by_octet_is}
use Rattle.sms_world.proofs.SeenParts.{small as small_number}
use Rattle.sms_world.specs.centres_refine_the_world.CentreRefinement.{CentreRefines}
use Rattle.sms_world.specs.centres_refine_the_world.RefinesGiven.{given_part, given_report}
use Rattle.sms_world.specs.headline.SeenWorld.{IsStateOf, PartSeen, part_seen, parts_by}
use Rattle.sms_world.specs.centres_refine_the_world.RefinesReports.{ReportSeen, report_seen, reports_by}
use Rattle.sms_world.specs.headline.Claims.{Holds}

-- the world holds it, for the same
abbrev IsHeldFor : World → List ℕ → ℕ → Holder → Type 0
IsHeldFor w h r holder = (g : Allocation) × (IsHeld w g × (g.handset ≡ h) × (g.reference ≡ r) × (g.holder ≡ holder))

not_done : true ≡ false → ⊥
not_done e = absurd cc

module _ (c : Core) (w : World) (sound : IsSoundCore c) (s : CentreRefines w (draft_of c) w) where
  part_held : (h : List ℕ) (r id number : ℕ) → Holds c.rows h r (Part id number) → IsHeldFor w h r (Part id number)
  part_held h r id number (p, m, x) =
      let small : p.number < 256 = small_number p.number ((sound.rows.messages.each_part p x.0).few) in
      let at : part_at p.id p.number c.rows.parts ≡ Some p = among_found part_key p c.rows.parts sound.rows.messages.part_keys x.0 in
      let seen : PartSeen = record { reference = p.reference; tpdu = compared p.tpdu; is_done = p.progress.is_done } in
      let is : parts_by c.rows.parts p.id p.number ≡ Some seen = by_octet_is p.number (part_seen (part_at p.id p.number c.rows.parts)) small ∙ ap part_seen at in
      let there : parts_by c.rows.parts id number ≡ Some seen = (λ j. parts_by c.rows.parts (sym x.1 j) (sym x.2 j)) ∙ is in
      let g = s.rows.holders.part id number m seen x.5 there in
      let own : m.id ≡ id = found_key message_key id m c.rows.messages x.5 in
      let y = s.rows.table.there id m x.5 in
      let pending : IsStateOf None (parts_by c.rows.parts id) y.1 = subst (λ (o : Option FinalState). IsStateOf o (parts_by c.rows.parts id) y.1) x.6 y.2.2 in
      let stands : IsRecorded w.table id y.0 (Pending pending.0) =
      subst (λ (k : ℕ). IsRecorded w.table k y.0 (Pending pending.0)) own (subst (λ (z : State). IsRecorded w.table m.id y.0 z) pending.1.0 y.2.0) in
      let open_one : IsUnanswered w.table w.reports (Part id number) =
      (y.0, pending.0, (stands, λ i. not_done (sym ((pending.1.1 number seen there).1 i) ∙ x.4))) in
      let mine : given_part m number seen g.0 ≡ record (given_part m number seen g.0) { holder = Part id number } = λ j. record (given_part m number seen g.0) { holder = Part (own j) number } in (
        record (given_part m number seen g.0) { holder = Part id number },
        ((subst (λ (z : Allocation). Among z w.down) mine g.1, open_one), x.7, x.3, refl),
      )

  report_held : (h : List ℕ) (r id : ℕ) → Holds c.rows h r (Report id) → IsHeldFor w h r (Report id)
  report_held h r id (q, m, tpdu, x) =
      let seen : ReportSeen = record { kind = q.kind; is_done = q.progress.is_done } in
      let there : reports_by c.rows.reports id ≡ Some seen = ap report_seen x.0 in
      let g = s.rows.holders.report id r tpdu m seen x.3 there x.1 in
      let own : m.id ≡ id = found_key message_key id m c.rows.messages x.3 in
      let status : is_status q.kind ≡ true = ap (λ (k : ReportKind). is_status k) x.1 in
      let mine : given_report m r tpdu g.0 ≡ record (given_report m r tpdu g.0) { holder = Report id } = λ j. record (given_report m r tpdu g.0) { holder = Report (own j) } in (
        record (given_report m r tpdu g.0) { holder = Report id },
        ((subst (λ (z : Allocation). Among z w.down) mine g.1, s.rows.reports.still id seen there status x.2), x.4, refl, refl),
      )

  held_for : (h : List ℕ) (r : ℕ) (a : Holder) → Holds c.rows h r a → IsHeldFor w h r a
  held_for h r (Part id number) x = part_held h r id number x
  held_for h r (Report id) x = report_held h r id x
  held_for h r (Entry n) x = absurd x
  held_for h r (Memory n) x = absurd x

  pub held_apart : WorldHeldDiffer w → (h : List ℕ) (r : ℕ) (a b : Holder) → Holds c.rows h r a → Holds c.rows h r b → a ≡ b
  held_apart differ h r a b x y =
      let f = held_for h r a x in
      let g = held_for h r b y in
      sym f.1.3 ∙ differ f.0 g.0 f.1.0 g.1.0 (f.1.1 ∙ sym g.1.1) (f.1.2 ∙ sym g.1.2) ∙ g.1.3

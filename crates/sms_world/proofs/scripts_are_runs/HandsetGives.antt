-- What an event of a handset leaves told of the references that handsets gave, in a course.
use Rattle.sms_base.specs.Among.{Among}
use Rattle.sms_base.specs.declared.holder.Holder.TheVariants.{Entry}
use Rattle.sms_handset.specs.declared.event.HandsetEvent.{HandsetEvent}
use Rattle.sms_handset_draft.specs.Draft.{Draft}
use Rattle.sms_play.specs.PlayState.{PlayState, Party}
use Rattle.sms_play.specs.HandsetSide.{given_by, happened, party_after}
use Rattle.sms_world.proofs.entries_keep_references.Elsewhere.{other_elsewhere}
use Rattle.sms_world.proofs.entries_keep_references.EntriesAgreeing.{Ends, event_ends}
use Rattle.sms_world.proofs.scripts_are_runs.Agreeing.{goes_on}
use Rattle.sms_world.proofs.scripts_are_runs.UpGrown.{HasEntry, UpGrown, UpSingle, entries_made, entries_were, played_so, single_there, steps_up}
use Rattle.sms_world.proofs.scripts_are_runs.UpReported.{own_notices, own_still, own_up, up_still}
use Rattle.sms_world.specs.entries_keep_references.ReportedEntries.{AreBelow}
use Rattle.sms_world.specs.scripts_are_runs.PlayRefinement.{PlayRefines, OwnAllocations, PartyRefines}
use Rattle.sms_world.specs.headline.SeenWorld.{AgreesUp}
use Rattle.sms_world_model.specs.WorldStep.{end}
use Rattle.sms_world_model.specs.ScriptRun.{items}
use Rattle.sms_world_model.specs.World.{Allocation, World}
use Rattle.sms_world.specs.handset_runs_are_steps.PlanLaws.{event_seen}
use Rattle.sms_world.specs.handset_runs_are_steps.Stages.{Happens}
use Rattle.std.proofs.Common.{inl, refl, subst, sym, ⊎_elim, ◌∙◌}
use Rattle.std.proofs.lemmas.Bool.{both_ways, cases_Bool}
use Rattle.std.proofs.lemmas.Slice.Eq.{bytes_eq-Decides}
use Rattle.std.specs.Prelude.{List, Ok, false, true, ℕ, ◌++◌, ◌≡◌, ◌⊎◌}
use Rattle.std.specs.Str.{bytes_eq}

-- of each handset, and of each that has its number in the course
pub record GivesOn (c : PlayState) (p : Party) (d : Draft) (up : List Allocation) : Type 0 where
  pub told : (h : List ℕ) → AgreesUp h (c.given ++ given_by p d) up
  pub own : OwnAllocations (party_after p d) (c.given ++ given_by p d) up
  pub others : (q : Party) → Among q c.parties → ¬ (p.number ≡ q.number) → OwnAllocations q (c.given ++ given_by p d) up

module _ (c : PlayState) (w : World) (s : PlayRefines c w) (p : Party) (there : Among p c.parties) (m number : ℕ) (e : HandsetEvent) (d : Draft) (q : happened e p.core ≡ Ok d)
    (x : Happens m (event_seen number e) p.number w d w) where
  abbrev v : World
  v = end w (items m false x.0)

  mine : PartyRefines p w
  mine = s.parties p there

  below : AreBelow p.core.rows.counters.notice p.core.notices
  below n j = let g = mine.refines.notices.given n j in mine.refines.notices.used n.number _ g.1 refl refl

  grown : UpGrown p.number w.up v.up
  grown = steps_up p.number w m false x.0 x.1.0.1 x.1.1

  so : (y : Allocation) (n : ℕ) → y.holder ≡ Entry n → Among y v.up → Among y w.up ⊎ HasEntry v.outbox y.handset n
  so y n holder i = ⊎_elim
      (λ none. inl (entries_were w m false x.0 y n none holder i))
      (λ none. entries_made w m false x.0 y n none holder i)
      (played_so w (event_seen number e) x.0 x.1.0.0)

  single : UpSingle v.up
  single = single_there v (goes_on w m false x.0 s.reached x.1.1)

  ends : Ends p.number c.given p.core.rows.outbox p.core.rows.counters.notice p.core.rows.counters.entry d
  ends = event_ends e p d c.given mine.sound below q (s.own p there).entries

  told_of : (h : List ℕ) → AgreesUp h (c.given ++ given_by p d) v.up
  told_of h = ⊎_elim
      (λ (t : bytes_eq p.number h ≡ true).
      subst (λ (z : List ℕ). AgreesUp z (c.given ++ given_by p d) v.up) ((bytes_eq-Decides p.number h).0 t)
      (own_up p d c.given w v x.0 grown so mine.refines x.1.2 single ends (s.up p.number) (s.own p there)))
      (λ (f : bytes_eq p.number h ≡ false).
      let ne : ¬ (p.number ≡ h) = (λ is. both_ways (bytes_eq p.number h) f ((bytes_eq-Decides p.number h).1 is)) in
      up_still h c.given (given_by p d) w.up grown.more v.up grown.is (other_elsewhere h p d ne) (λ y i own. ne (sym (grown.mine y i) ∙ own)) (s.up h))
      (cases_Bool (bytes_eq p.number h))

  pub gives_on : GivesOn c p d v.up
  gives_on = record {
    told = told_of;
    own = record { entries = ends.held; notices = own_notices p d c.given w v x.0 grown so mine.refines x.1.2 single ends (s.up p.number) (s.own p there) };
    others = λ z i ne. own_still z c.given (given_by p d) w.up grown.more v.up grown.is (other_elsewhere z.number p d ne) (s.own z i);
  }

-- Each event of a script.
use Rattle.std.proofs.Common.{◌≡◌, ℕ, List, [], Bool, true, false, refl, subst, Option, Some, None, Result, Ok, Err}
use Rattle.std.specs.Prelude.{if◌then◌else◌}
use Rattle.sms_base.specs.Reading.{◌>>=◌}
use Rattle.sms_script.specs.declared.report.answers.Answered.TheVariants.{Stopped as AnsweredStopped}
use Rattle.sms_script.specs.declared.event.Act.{Act}
use Rattle.sms_script.specs.declared.event.EventSide.{EventSide}
use Rattle.sms_script.specs.declared.event.EventSide.TheVariants.{Centre, Handset}
use Rattle.sms_script.specs.declared.event.StopPoint.{StopPoint}
use Rattle.sms_script.specs.declared.event.StopPoint.TheVariants.{Before, After}
use Rattle.sms_script.specs.declared.event.WorldEvent.TheVariants.{Whole, Stopped, Restart}
use Rattle.sms_script.specs.declared.play_fault.PlayFault.{PlayFault}
use Rattle.sms_play.specs.PlayState.{PlayState, Party, answer, party_at}
use Rattle.sms_play.specs.Meeting.{AtCentre, AtHandset, Meeting, is_answered, meeting_of}
use Rattle.sms_play.specs.PlayedEvent.{handset_restarts, stored, met, restart, restarted, stopped}
use Rattle.sms_world_model.specs.WorldStep.{end}
use Rattle.sms_world_model.specs.ScriptRun.{Event, items}
use Rattle.sms_world_model.specs.World.{World}
use Rattle.sms_world.specs.scripts_are_runs.PlayRuns.{EventLaw, LeadsTo}
use Rattle.sms_world.specs.scripts_are_runs.PlayRefinement.{PlayRefines}
use Rattle.sms_world.specs.headline.OneRun.{act_moment, event_of}
use Rattle.sms_world.proofs.scripts_are_runs.CentreMeets.{centre_goes, centre_restarts, centre_stops}
use Rattle.sms_world.proofs.scripts_are_runs.HandsetMeets.{EventIsSteps, answer_refines, handset_goes, handset_stops, restart_refines, restarted_refines}
use Rattle.sms_world.proofs.scripts_are_runs.Meetings.{Meets, meets, number_of}
use Rattle.sms_world.proofs.scripts_are_runs.Parties.{party_found}
use Rattle.sms_play.proofs.answers.PlayAnswers.{ok_play, same_play}

-- what comes of a meeting
then_ok : (r : Result Meeting PlayFault) (f : Meeting → PlayState) (d : PlayState) → (r >>= λ (m : Meeting). ok_play (f m)) ≡ ok_play d → (m : Meeting) × ((r ≡ Ok m) × (f m ≡ d))
then_ok (Ok m) f d e = (m, (refl, same_play (f m) d e))
then_ok (Err fault) f d e = absurd cc

module _ (c : PlayState) (w : World) (s : PlayRefines c w) (n : ℕ) (act : Act) where
  met_goes : (m : Meeting) → Meets act c w m → EventIsSteps (event_of act) (act_moment act c.centre.moment) false w (met n m c)
  met_goes (AtCentre e) k =
      subst (λ (moment : ℕ). EventIsSteps (event_of act) moment false w (met n (AtCentre e) c)) k.moment (centre_goes c w s n (number_of act) e (event_of act) k.is k.may k.plays)
  met_goes (AtHandset p e) k =
      subst (λ (event : Event). EventIsSteps event (act_moment act c.centre.moment) false w (met n (AtHandset p e) c)) k.plays
      (handset_goes c w s p k.there (act_moment act c.centre.moment) n (number_of act) e k.handed)

  -- ---- stopped

  back_is_steps : (m : Meeting) → PlayRefines (restarted m c) w
  back_is_steps (AtCentre e) = centre_restarts c w s
  back_is_steps (AtHandset p e) = restarted_refines c w s p.number (party_at p.number c.parties) refl

  after_is_steps : (m : Meeting) → Meets act c w m → EventIsSteps (event_of act) (act_moment act c.centre.moment) true w (restarted m (stored After m c))
  after_is_steps (AtCentre e) k =
      subst (λ (moment : ℕ). EventIsSteps (event_of act) moment true w (restarted (AtCentre e) (stored After (AtCentre e) c))) k.moment
      (centre_stops c w s (number_of act) e (event_of act) k.scripted k.is k.may k.plays)
  after_is_steps (AtHandset p e) k =
      subst (λ (event : Event). EventIsSteps event (act_moment act c.centre.moment) true w (restarted (AtHandset p e) (stored After (AtHandset p e) c))) k.plays
      (handset_stops c w s p k.there (act_moment act c.centre.moment) (number_of act) e k.handed)

answered_if : (b : Bool) (n : ℕ) (d : PlayState) (w : World) → PlayRefines d w → PlayRefines (if b then answer n AnsweredStopped d else d) w
answered_if true n d w s = answer_refines n AnsweredStopped d w s
answered_if false n d w s = s

stopped_leads : (stop : StopPoint) (act : Act) (n : ℕ) (c : PlayState) (w : World) → PlayRefines c w → (m : Meeting) → Meets act c w m → LeadsTo (Stopped stop act) c w (stopped n act stop m c)
stopped_leads Before act n c w s m k = ([], (refl, tt, answered_if (is_answered act) n (restarted m c) w (back_is_steps c w s n act m)))
stopped_leads After act n c w s m k =
    let x = after_is_steps c w s n act m k in
    let moment : ℕ = act_moment act c.centre.moment in
    (x.0, (x.1.0, x.1.1, answered_if (is_answered act) n (restarted m (stored After m c)) (end w (items moment true x.0)) x.1.2))

handset_back : (n : ℕ) (h : List ℕ) (o : Option Party) (c d : PlayState) (w : World) → PlayRefines c w → party_at h c.parties ≡ o → handset_restarts n o c ≡ Ok d → PlayRefines d w
handset_back n h None c d w s e q = absurd cc
handset_back n h (Some p) c d w s e q = subst (λ (z : PlayState). PlayRefines z w) (same_play _ d q) (restart_refines c w s p (party_found h c.parties p e).0)

side_back : (n : ℕ) (side : EventSide) (c d : PlayState) (w : World) → PlayRefines c w → restart n side c ≡ Ok d → PlayRefines d w
side_back n Centre c d w s q = subst (λ (z : PlayState). PlayRefines z w) (same_play _ d q) (centre_restarts c w s)
side_back n (Handset h) c d w s q = handset_back n h (party_at h c.parties) c d w s refl q

pub event_leads : EventLaw
event_leads n (Whole act) c d w s good octets q =
    let x = then_ok (meeting_of n act c) (λ m. met n m c) d q in
    subst (λ (z : PlayState). LeadsTo (Whole act) c w z) x.1.1 (met_goes c w s n act x.0 (meets c w s n act good octets x.0 x.1.0))
event_leads n (Stopped stop act) c d w s good octets q =
    let x = then_ok (meeting_of n act c) (λ m. stopped n act stop m c) d q in
    subst (λ (z : PlayState). LeadsTo (Stopped stop act) c w z) x.1.1 (stopped_leads stop act n c w s x.0 (meets c w s n act good octets x.0 x.1.0))
event_leads n (Restart side) c d w s good octets q = ([], (refl, tt, side_back n side c d w s q))

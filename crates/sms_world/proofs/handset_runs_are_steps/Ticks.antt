-- A tick of a handset: what its links send again, what has failed, and what follows.
use Rattle.std.proofs.Common.{◌≡◌, ℕ, ◌+◌, max, List, [], ◌∷◌, ◌++◌, refl, sym, ◌∙◌, ap, subst, inr, Option, Some, None, length}
use Rattle.std.specs.Option.{option_map}
use Rattle.std.proofs.lemmas.List.{append-nil, append_assoc}
use Rattle.sms_control.specs.declared.link_state.Answer.{Answer}
use Rattle.sms_control.specs.declared.link_state.Begun.{Begun}
use Rattle.sms_control.specs.declared.link_state.LinkState.{LinkState}
use Rattle.sms_control.specs.declared.link_state.Opened.{Opened}
use Rattle.sms_control.proofs.FiringCases.{firing_cases}
use Rattle.sms_control.specs.declared.transaction.TransactionFlag.{TransactionFlag}
use Rattle.sms_control.specs.declared.transaction.TransactionFlag.TheVariants.{FromOriginator, ToOriginator}
use Rattle.sms_control.specs.LinkStep.{Step, answer_frames, begun_fired, begun_frames, failed_by, fire_step, fired as links_fired, frames_of, if_again, opened_fired}
use Rattle.sms_control.specs.Timers.{begun_firing, opened_firing, sent_again}
use Rattle.sms_base.specs.declared.carried.Carried.{Carried as Carries}
use Rattle.sms_link.specs.declared.outgoing.Outgoing.{Outgoing}
use Rattle.sms_handset_draft.specs.Draft.{Core, Draft, draft_of, link_of}
use Rattle.sms_link.specs.LinkTurn.{carried_by, passed_up, from_links, heard, of_links, still_under_way}
use Rattle.sms_link.specs.declared.ending.Side.TheVariants.{Handset as HandsetSide}
use Rattle.sms_link.specs.declared.ending.Ending.TheVariants.{Lost as LostEnd}
use Rattle.sms_link.specs.declared.ending.Upward.TheVariants.{Ended}
use Rattle.sms_handset.specs.HandsetEvent.{ticked}
use Rattle.sms_handset_draft.specs.FramesAndTicks.{at_moment, timed_out, timers_fired}
use Rattle.sms_handset_draft.specs.Outbox.{follow}
use Rattle.sms_handset.specs.SoundCore.{IsSoundCore, IsUnderWay}
use Rattle.sms_handset.proofs.SoundDrafts.{SoundAt, sound_from}
use Rattle.sms_handset.proofs.SoundEvents.{timed_out_sound}
use Rattle.sms_world_model.specs.World.{World, Sent, Frame}
use Rattle.sms_world_model.specs.WorldStep.{Again}
use Rattle.sms_world_model.specs.ScriptRun.{Tick_handset}
use Rattle.sms_world.specs.headline.SeenFrames.{line_up, octets_of, sent_as}
use Rattle.sms_world.specs.handset_runs_are_steps.RefinesLink.{RefinesAnswer, RefinesBegun, RefinesLinks, RefinesOpened, WasSent}
use Rattle.sms_world.specs.handset_runs_are_steps.Refinement.{Refines}
use Rattle.sms_world.specs.handset_runs_are_steps.Stages.{AllMine, Happens, Moves}
use Rattle.sms_world.proofs.handset_runs_are_steps.Concluding.{failed_law}
use Rattle.sms_world.proofs.handset_runs_are_steps.Hearing.{again_carries, hears, hears_again}
use Rattle.sms_world.proofs.handset_runs_are_steps.Moving.{moves_then, stays, ticks}
use Rattle.sms_world.proofs.handset_runs_are_steps.Offering.{follow_law}

-- ---- frames that were sent are sent again

-- each was sent, and the draft knows what it carries
abbrev pub AllAgain : List ℕ → List Sent → Option Carries → Option Carries → List (List ℕ) → Type 0
AllAgain h bag under_way answered [] = Unit {0}
AllAgain h bag under_way answered (f ∷ fs) =
    ((flag : TransactionFlag) × (c : Carries) × (WasSent h bag flag f c × (carried_by flag under_way answered ≡ Some c))) × AllAgain h bag under_way answered fs

all_more : (h : List ℕ) (bag : List Sent) (x : Sent) (u a : Option Carries) (fs : List (List ℕ)) → AllAgain h bag u a fs → AllAgain h (x ∷ bag) u a fs
all_more h bag x u a [] k = tt
all_more h bag x u a (f ∷ fs) k =
    let s = k.0.2.0 in ((k.0.0, k.0.1, ((s.0, s.1, (s.2.0, inr s.2.1)), k.0.2.1)), all_more h bag x u a fs k.1)

all_both : (h : List ℕ) (bag : List Sent) (u a : Option Carries) (fs gs : List (List ℕ)) → AllAgain h bag u a fs → AllAgain h bag u a gs → AllAgain h bag u a (fs ++ gs)
all_both h bag u a [] gs k l = l
all_both h bag u a (f ∷ fs) gs k l = (k.0, all_both h bag u a fs gs k.1 l)

again_list : (m : ℕ) (h : List ℕ) (b : World) (fs : List (List ℕ)) (d : Draft) (w : World) → AllAgain h w.bag d.under_way d.answered fs → Refines h b d w
    → Moves (AllMine h) m h b (record d { frames = d.frames ++ from_links d.under_way d.answered fs }) w
again_list m h b [] d w k s =
    ([], (tt, tt, subst (λ (z : List Outgoing). Refines h b (record d { frames = z }) w) (sym (append-nil d.frames)) s))
again_list m h b (f ∷ fs) d w k s =
    let flag = k.0.0 in
    let c = k.0.1 in
    let sent = k.0.2.0 in
    let u : Frame = record { number = sent.2.0; handset = h; line = line_up c.kind; kind = c.kind; reference = c.reference; tpdu = octets_of c.kind f; tag = c.tag } in
    let x : Outgoing = of_links f (Some c) in
    let e : Draft = record d { frames = d.frames ++ x ∷ [] } in
    let new : Sent = sent_as h (length w.bag + 1) f (Some c) in
    let v : World = record w { bag = new ∷ w.bag } in
    let y = again_list m h b fs e v (all_more h w.bag new d.under_way d.answered fs k.1) (hears_again h b d w flag f c sent s) in
    let q : (d.frames ++ x ∷ []) ++ from_links d.under_way d.answered fs ≡ d.frames ++ from_links d.under_way d.answered (f ∷ fs) =
    append_assoc d.frames (x ∷ []) (from_links d.under_way d.answered fs)
    ∙ ap (λ (z : Option Carries). d.frames ++ of_links f z ∷ from_links d.under_way d.answered fs) (sym (again_carries h w.bag flag f c d.under_way d.answered sent ∙ k.0.2.1)) in
    let z : Moves (AllMine h) m h b (record d { frames = (d.frames ++ x ∷ []) ++ from_links d.under_way d.answered fs }) w =
    (Again u ∷ y.0, ((tt, refl, y.1.0), (sent.2.1, y.1.1), y.1.2)) in
    subst (λ (t : List Outgoing). Moves (AllMine h) m h b (record d { frames = t }) w) q z

-- ---- what the timers leave

module _ (h : List ℕ) (bag : List Sent) (now : ℕ) (u a : Option Carries) where
  repeated : (o : Option Begun) → RefinesBegun h bag u o → RefinesBegun h bag u (option_map (λ (x : Begun). record x { repetition = option_map (sent_again now) x.repetition }) o)
  repeated None k = tt
  repeated (Some x) k = k

  answer_preserved : (o : Option Answer) → RefinesAnswer h bag a o → RefinesAnswer h bag a (option_map (λ (x : Answer). record x { repetition = sent_again now x.repetition }) o)
  answer_preserved None k = tt
  answer_preserved (Some x) k = k

  opened_repeated : (o : Option Opened) → RefinesOpened h bag a o
      → RefinesOpened h bag a (option_map (λ (x : Opened). record x { answer = option_map (λ (y : Answer). record y { repetition = sent_again now y.repetition }) x.answer }) o)
  opened_repeated None k = tt
  opened_repeated (Some x) k = (k.0, answer_preserved x.answer k.1)

  begun_again : (o : Option Begun) → RefinesBegun h bag u o → AllAgain h bag u a (begun_frames o)
  begun_again None k = tt
  begun_again (Some x) k = ((FromOriginator, k.0, (k.1.1, k.1.0)), tt)

  frames_again : (o : Option Answer) → RefinesAnswer h bag a o → AllAgain h bag u a (frames_of o)
  frames_again None k = tt
  frames_again (Some x) k = ((ToOriginator, k.0, (k.1.1, k.1.0)), tt)

  answer_again : (o : Option Opened) → RefinesOpened h bag a o → AllAgain h bag u a (answer_frames o)
  answer_again None k = tt
  answer_again (Some x) k = frames_again x.answer k.1

-- ---- the timers fire

-- what is under way after a timer of the begun transaction
abbrev left_by : ℕ → Draft → Option Carries
left_by now d = still_under_way (failed_by (begun_firing now d.links.begun)) d.under_way

module _ (h : List ℕ) (bag : List Sent) (now : ℕ) (d : Draft) (s : RefinesLinks h bag d.links d.under_way d.answered) where
  begun_preserved : RefinesBegun h bag (left_by now d) (begun_fired now (begun_firing now d.links.begun) d.links.begun)
  begun_preserved =
      firing_cases (λ f. RefinesBegun h bag (still_under_way (failed_by f) d.under_way) (begun_fired now f d.links.begun)) s.begun (repeated h bag now d.under_way d.answered d.links.begun s.begun) tt
      (begun_firing now d.links.begun)

  opened_preserved : RefinesOpened h bag d.answered (opened_fired now (opened_firing now d.links.opened) d.links.opened)
  opened_preserved =
      firing_cases (λ f. RefinesOpened h bag d.answered (opened_fired now f d.links.opened)) s.opened (opened_repeated h bag now d.under_way d.answered d.links.opened s.opened) tt
      (opened_firing now d.links.opened)

  begun_sent : AllAgain h bag d.under_way d.answered (if_again (begun_firing now d.links.begun) (begun_frames d.links.begun))
  begun_sent =
      firing_cases (λ f. AllAgain h bag d.under_way d.answered (if_again f (begun_frames d.links.begun))) tt (begun_again h bag now d.under_way d.answered d.links.begun s.begun) tt
      (begun_firing now d.links.begun)

  answer_sent : AllAgain h bag d.under_way d.answered (if_again (opened_firing now d.links.opened) (answer_frames d.links.opened))
  answer_sent =
      firing_cases (λ f. AllAgain h bag d.under_way d.answered (if_again f (answer_frames d.links.opened))) tt (answer_again h bag now d.under_way d.answered d.links.opened s.opened) tt
      (opened_firing now d.links.opened)

-- what the timers have the link do
abbrev pub fires : ℕ → LinkState → Step
fires now l = links_fired now (begun_firing now l.begun) (opened_firing now l.opened) l

fires_heard : (m : ℕ) (h : List ℕ) (b : World) (d : Draft) (w : World) (now : ℕ) → Refines h b d w → Moves (AllMine h) m h b (hears (fires now d.links) d) w
fires_heard m h b d w now s =
    let fs : List (List ℕ) = if_again (begun_firing now d.links.begun) (begun_frames d.links.begun) ++ if_again (opened_firing now d.links.opened) (answer_frames d.links.opened) in
    let e : Draft = record d { frames = d.frames ++ from_links d.under_way d.answered fs } in
    moves_then m h b e (hears (fires now d.links) d) w
    (again_list m h b fs d w
    (all_both h w.bag d.under_way d.answered (if_again (begun_firing now d.links.begun) (begun_frames d.links.begun)) (if_again (opened_firing now d.links.opened) (answer_frames d.links.opened)) (begun_sent h w.bag now d s.links) (answer_sent h w.bag now d s.links)) s)
    (λ v y. stays m h b (hears (fires now d.links) d) v (record {
      frames = y.frames;
      whole = y.whole;
      links = record { next = y.links.next; opened = opened_preserved h v.bag now d y.links; begun = begun_preserved h v.bag now d y.links };
      last = y.last;
      accepted = y.accepted;
      joined = y.joined;
      out = y.out;
      notices = y.notices;
      groups = y.groups;
    }))

-- a transfer that a timer ended is lost
closes_law : (m : ℕ) (h : List ℕ) (b : World) (e : Draft) (v : World) (c : Option Carries) → IsUnderWay c e.rows.outbox → Refines h b e v
    → Moves (AllMine h) m h b (timed_out (option_map (λ (transfer : Carries). Ended transfer LostEnd) c) e) v
closes_law m h b e v None x s = stays m h b e v s
closes_law m h b e v (Some c) x s = failed_law m h b e v c x s

timed_law : (m : ℕ) (h : List ℕ) (b : World) (d e : Draft) (v : World) (now : ℕ) → IsUnderWay d.under_way e.rows.outbox → Refines h b e v
    → Moves (AllMine h) m h b (timed_out (passed_up HandsetSide d.under_way (failed_by (begun_firing now d.links.begun))) e) v
timed_law m h b d e v now x s =
    firing_cases (λ f. Moves (AllMine h) m h b (timed_out (passed_up HandsetSide d.under_way (failed_by f)) e) v)
    (stays m h b e v s) (stays m h b e v s) (closes_law m h b e v d.under_way x s) (begun_firing now d.links.begun)

pub fire_is : (now : ℕ) (l : LinkState) → fire_step now l ≡ fires now l
unfolding fire_step
fire_is now l = refl

pub tick_event : (m : ℕ) (h : List ℕ) (now : ℕ) (c : Core) (w : World) → IsSoundCore c → Refines h w (draft_of c) w → Happens m Tick_handset h w (ticked now c) w
tick_event m h now c w sound s =
    let t : ℕ = max c.moment now in
    let d : Draft = at_moment now (draft_of c) in
    let at : SoundAt d = sound_from c sound in
    let k : Refines h w d w = record { frames = s.frames; whole = s.whole; links = s.links; last = s.last; accepted = s.accepted; joined = s.joined; out = s.out; notices = s.notices; groups = s.groups } in
    let z : Step = fires t c.links in
    let e : Draft = hears z d in
    let y : Draft = timers_fired (heard z (link_of d)) d in
    let fired_law : Moves (AllMine h) m h w y w =
    moves_then m h w e y w (fires_heard m h w d w t k) (λ v x. timed_law m h w d e v t at.under_way x) in
    let after : SoundAt y = timed_out_sound z.out.up c.under_way e refl at in
    subst (λ (x : Step). Happens m Tick_handset h w (follow (timers_fired (heard x (link_of d)) d)) w) (sym (fire_is t c.links))
    (ticks m h w (follow y) w (moves_then m h w y (follow y) w fired_law (λ v x. follow_law m h w y v after x)))

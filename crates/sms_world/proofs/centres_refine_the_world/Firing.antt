-- Timers of the links fire: frames that were sent go again, and a transfer that a timer ends is lost.
use Rattle.std.proofs.Common.{◌≡◌, ℕ, ◌+◌, List, [], ◌∷◌, ◌++◌, Bool, false, refl, sym, ◌∙◌, ap, subst, inl, inr, Option, Some, None, Result, length}
use Rattle.std.specs.Prelude.{if◌then◌else◌}
use Rattle.std.specs.Option.{option_map}
use Rattle.std.proofs.lemmas.Bool.{cond_both}
use Rattle.std.proofs.lemmas.List.{append-nil, append_assoc}
use Rattle.sms_base.specs.Among.{Among}
use Rattle.sms_base.specs.declared.carried.Carried.{Carried}
use Rattle.sms_control.proofs.ControlFrames.{cp_again}
use Rattle.sms_control.proofs.FiringCases.{firing_cases}
use Rattle.sms_control.specs.ControlReading.{cp_at}
use Rattle.sms_control.specs.LinkStep.{Step, answer_frames, begun_fired, begun_frames, failed_by, frames_of, if_again, opened_fired}
use Rattle.sms_control.specs.Timers.{begun_firing, opened_firing, sent_again}
use Rattle.sms_control.specs.declared.fault.CpFault.{CpFault}
use Rattle.sms_control.specs.declared.link_state.Answer.{Answer}
use Rattle.sms_control.specs.declared.link_state.Begun.{Begun}
use Rattle.sms_control.specs.declared.link_state.LinkState.{LinkState}
use Rattle.sms_control.specs.declared.link_state.Opened.{Opened}
use Rattle.sms_control.specs.declared.message.Cp.{Cp}
use Rattle.sms_control.specs.declared.message.Cp.TheVariants.{DataUnit as CpData}
use Rattle.sms_control.specs.declared.transaction.TransactionFlag.{TransactionFlag}
use Rattle.sms_control.specs.declared.transaction.TransactionFlag.TheVariants.{FromOriginator, ToOriginator}
use Rattle.sms_link.specs.LinkTurn.{passed_up, carried_by, carried_in, from_links, heard, of_links, still_under_way}
use Rattle.sms_link.specs.declared.ending.Ending.{Ending}
use Rattle.sms_link.specs.declared.ending.Ending.TheVariants.{Lost as LostEnd}
use Rattle.sms_link.specs.declared.ending.Side.{Side}
use Rattle.sms_link.specs.declared.ending.Upward.TheVariants.{Ended}
use Rattle.sms_centre_rows.specs.waiting.Links.{link_at, link_of, to_handset, turn_link, turned}
use Rattle.sms_centre_rows.specs.waiting.References.{handset_at}
use Rattle.sms_centre_rows.specs.declared.waiting.handset.HandsetRow.{HandsetRow}
use Rattle.sms_centre_rows.specs.declared.waiting.handset_link.HandsetLink.{HandsetLink}
use Rattle.sms_centre_rows.specs.declared.waiting.handset_link.Sent.{Sent as SentRow}
use Rattle.sms_centre_spec.proofs.SoundAccepted.{sound_still}
use Rattle.sms_centre_spec.proofs.SoundLinks.{link_found}
use Rattle.sms_centre_spec.proofs.SoundStores.{SoundStore}
use Rattle.sms_centre_spec.proofs.Steady.{concluded_steady, due_now_steady}
use Rattle.sms_centre_spec.specs.Transfers.{conclude}
use Rattle.sms_centre_spec.proofs.Ticking.{fire_at_says, fire_mentioned_says, fired_says}
use Rattle.sms_centre_spec.specs.CentreEvent.{fire_at, fire_link, fire_mentioned, fire_others, fired, is_mentioned, raise, raise_all, timed_out}
use Rattle.sms_centre_spec.specs.Draft.{Draft, handsets_in, on_links}
use Rattle.sms_world.proofs.frames_pass_between_sides.RunsOn.{end_both, run_both}
use Rattle.sms_world.specs.headline.SeenFrames.{frame_down, sent_down}
use Rattle.sms_world_model.specs.WorldStep.{Run, end, Again, Step as WorldStep}
use Rattle.sms_world_model.specs.ScriptRun.{items}
use Rattle.sms_world_model.specs.World.{Sent, World}
use Rattle.sms_world.specs.centres_refine_the_world.CentreRefinement.{CentreRefines}
use Rattle.sms_world.specs.centres_refine_the_world.RefinesLinks.{RefinesAnswerDown, RefinesBegunDown, RefinesLink, RefinesOpenedDown, WasSentDown}
use Rattle.sms_world.proofs.centres_refine_the_world.Aging.{InTick, tick_both}
use Rattle.sms_world.proofs.centres_refine_the_world.LinksChange.{lost_law, raise_law}
use Rattle.sms_world.proofs.centres_refine_the_world.Offers.{links_with, stacked_both, whole_both}
use Rattle.sms_world.proofs.centres_refine_the_world.Staying.{link_still}
use Rattle.sms_world.proofs.handset_runs_are_steps.Ticks.{fire_is, fires}

-- ---- one stage after another

abbrev pub StageIsSteps : ℕ → World → Draft → World → Type 0
StageIsSteps m b d w = (steps : List WorldStep) × (InTick steps × Run w (items m false steps) × CentreRefines b d (end w (items m false steps)))

pub steps_then : (m : ℕ) (b : World) (e f : Draft) (w : World) → StageIsSteps m b e w → ((v : World) → CentreRefines b e v → StageIsSteps m b f v) → StageIsSteps m b f w
steps_then m b e f w (xs, (kx, rx, sx)) further =
    let y = further (end w (items m false xs)) sx in
    (xs ++ y.0, (tick_both xs y.0 kx y.1.0, run_both m w xs y.0 rx y.1.1, subst (λ (v : World). CentreRefines b f v) (sym (end_both m w xs y.0)) y.1.2))

pub steps_still : (m : ℕ) (b : World) (d : Draft) (w : World) → CentreRefines b d w → StageIsSteps m b d w
steps_still m b d w s = ([], ((tt, tt), tt, s))

-- ---- frames that were sent are sent again

-- each was sent, and the link knows what it carries
abbrev AllAgain : List ℕ → List Sent → Option Carried → Option Carried → List (List ℕ) → Type 0
AllAgain h bag under_way answered [] = Unit {0}
AllAgain h bag under_way answered (f ∷ fs) =
    ((flag : TransactionFlag) × (c : Carried) × (WasSentDown h bag flag f c × (carried_by flag under_way answered ≡ Some c))) × AllAgain h bag under_way answered fs

all_more : (h : List ℕ) (bag : List Sent) (x : Sent) (u a : Option Carried) (fs : List (List ℕ)) → AllAgain h bag u a fs → AllAgain h (x ∷ bag) u a fs
all_more h bag x u a [] k = tt
all_more h bag x u a (f ∷ fs) k =
    let s = k.0.2.0 in ((k.0.0, k.0.1, ((s.0, s.1, (s.2.0, inr s.2.1)), k.0.2.1)), all_more h bag x u a fs k.1)

all_both : (h : List ℕ) (bag : List Sent) (u a : Option Carried) (fs gs : List (List ℕ)) → AllAgain h bag u a fs → AllAgain h bag u a gs → AllAgain h bag u a (fs ++ gs)
all_both h bag u a [] gs k l = l
all_both h bag u a (f ∷ fs) gs k l = (k.0, all_both h bag u a fs gs k.1 l)

pub again_carries : (h : List ℕ) (bag : List Sent) (flag : TransactionFlag) (frame : List ℕ) (c : Carried) (under_way answered : Option Carried) → WasSentDown h bag flag frame c
    → carried_in (cp_at frame) under_way answered ≡ carried_by flag under_way answered
again_carries h bag flag frame c under_way answered sent =
    let i = sent.0 in
    ap (λ (z : Result Cp CpFault). carried_in z under_way answered) (cp_again frame (CpData i.transaction i.unit) i.frame)
    ∙ ap (λ (z : TransactionFlag). carried_by z under_way answered) (i.flag ∙ sent.1)

again_list : (m : ℕ) (h : List ℕ) (u a : Option Carried) (b : World) (fs : List (List ℕ)) (d : Draft) (w : World) → AllAgain h w.bag u a fs → CentreRefines b d w
    → StageIsSteps m b (record d { links = record d.links { frames = d.links.frames ++ to_handset h (from_links u a fs) } }) w
again_list m h u a b [] d w k s =
    steps_still m b (record d { links = record d.links { frames = d.links.frames ++ [] } }) w
    (subst (λ (z : List SentRow). CentreRefines b (record d { links = record d.links { frames = z } }) w) (sym (append-nil d.links.frames)) s)
again_list m h u a b (f ∷ fs) d w k s =
    let flag = k.0.0 in
    let c = k.0.1 in
    let sent = k.0.2.0 in
    let x : SentRow = record { handset = h; frame = of_links f (Some c) } in
    let e : Draft = record d { links = record d.links { frames = d.links.frames ++ x ∷ [] } } in
    let new : Sent = sent_down h (length w.bag + 1) f (Some c) in
    let v : World = record w { bag = new ∷ w.bag } in
    let refines : CentreRefines b e v = record {
      frames = ap (λ (bag : List Sent). sent_down h (length bag + 1) f (Some c) ∷ bag) s.frames ∙ sym (stacked_both d.links.frames (x ∷ []) b.bag);
      whole = whole_both d.links.frames (x ∷ []) s.whole (sent.0, tt);
      links = λ y i. link_still w.bag v.bag (λ z j. inr j) y (s.links y i);
      rows = record { table = s.rows.table; reports = s.rows.reports; holders = s.rows.holders; seconds = s.rows.seconds };
    } in
    let y = again_list m h u a b fs e v (all_more h w.bag new u a fs k.1) refines in
    let q : (d.links.frames ++ x ∷ []) ++ to_handset h (from_links u a fs) ≡ d.links.frames ++ to_handset h (from_links u a (f ∷ fs)) =
    append_assoc d.links.frames (x ∷ []) (to_handset h (from_links u a fs))
    ∙ ap (λ (z : Option Carried). d.links.frames ++ record { handset = h; frame = of_links f z } ∷ to_handset h (from_links u a fs)) (sym (again_carries h w.bag flag f c u a sent ∙ k.0.2.1)) in
    let z : StageIsSteps m b (record d { links = record d.links { frames = (d.links.frames ++ x ∷ []) ++ to_handset h (from_links u a fs) } }) w =
    (Again (frame_down h sent.2.0 f c) ∷ y.0, (((inl tt, y.1.0.0), (tt, y.1.0.1)), (sent.2.1, y.1.1), y.1.2)) in
    subst (λ (t : List SentRow). StageIsSteps m b (record d { links = record d.links { frames = t } }) w) q z

-- ---- what the timers leave

module _ (h : List ℕ) (bag : List Sent) (now : ℕ) (u a : Option Carried) where
  repeated : (o : Option Begun) → RefinesBegunDown h bag u o → RefinesBegunDown h bag u (option_map (λ (x : Begun). record x { repetition = option_map (sent_again now) x.repetition }) o)
  repeated None k = tt
  repeated (Some x) k = k

  answer_preserved : (o : Option Answer) → RefinesAnswerDown h bag a o → RefinesAnswerDown h bag a (option_map (λ (x : Answer). record x { repetition = sent_again now x.repetition }) o)
  answer_preserved None k = tt
  answer_preserved (Some x) k = k

  opened_repeated : (o : Option Opened) → RefinesOpenedDown h bag a o
      → RefinesOpenedDown h bag a (option_map (λ (x : Opened). record x { answer = option_map (λ (y : Answer). record y { repetition = sent_again now y.repetition }) x.answer }) o)
  opened_repeated None k = tt
  opened_repeated (Some x) k = (k.0, answer_preserved x.answer k.1)

  begun_again : (o : Option Begun) → RefinesBegunDown h bag u o → AllAgain h bag u a (begun_frames o)
  begun_again None k = tt
  begun_again (Some x) k = ((FromOriginator, k.0, (k.1.1, k.1.0)), tt)

  frames_again : (o : Option Answer) → RefinesAnswerDown h bag a o → AllAgain h bag u a (frames_of o)
  frames_again None k = tt
  frames_again (Some x) k = ((ToOriginator, k.0, (k.1.1, k.1.0)), tt)

  answer_again : (o : Option Opened) → RefinesOpenedDown h bag a o → AllAgain h bag u a (answer_frames o)
  answer_again None k = tt
  answer_again (Some x) k = frames_again x.answer k.1

module _ (bag : List Sent) (now : ℕ) (link : HandsetLink) (s : RefinesLink bag link) where
  abbrev links : LinkState
  links = link.near_end.links

  begun_preserved : RefinesBegunDown link.handset bag (still_under_way (failed_by (begun_firing now link.near_end.links.begun)) link.near_end.under_way) (begun_fired now (begun_firing now link.near_end.links.begun) link.near_end.links.begun)
  begun_preserved =
      firing_cases (λ f. RefinesBegunDown link.handset bag (still_under_way (failed_by f) link.near_end.under_way) (begun_fired now f link.near_end.links.begun)) s.begun
      (repeated link.handset bag now link.near_end.under_way link.near_end.answered link.near_end.links.begun s.begun) tt (begun_firing now link.near_end.links.begun)

  opened_preserved : RefinesOpenedDown link.handset bag link.near_end.answered (opened_fired now (opened_firing now link.near_end.links.opened) link.near_end.links.opened)
  opened_preserved =
      firing_cases (λ f. RefinesOpenedDown link.handset bag link.near_end.answered (opened_fired now f link.near_end.links.opened)) s.opened
      (opened_repeated link.handset bag now link.near_end.under_way link.near_end.answered link.near_end.links.opened s.opened) tt (opened_firing now link.near_end.links.opened)

  begun_sent : AllAgain link.handset bag link.near_end.under_way link.near_end.answered (if_again (begun_firing now link.near_end.links.begun) (begun_frames link.near_end.links.begun))
  begun_sent =
      firing_cases (λ f. AllAgain link.handset bag link.near_end.under_way link.near_end.answered (if_again f (begun_frames link.near_end.links.begun))) tt
      (begun_again link.handset bag now link.near_end.under_way link.near_end.answered link.near_end.links.begun s.begun) tt (begun_firing now link.near_end.links.begun)

  answer_sent : AllAgain link.handset bag link.near_end.under_way link.near_end.answered (if_again (opened_firing now link.near_end.links.opened) (answer_frames link.near_end.links.opened))
  answer_sent =
      firing_cases (λ f. AllAgain link.handset bag link.near_end.under_way link.near_end.answered (if_again f (answer_frames link.near_end.links.opened))) tt
      (answer_again link.handset bag now link.near_end.under_way link.near_end.answered link.near_end.links.opened s.opened) tt (opened_firing now link.near_end.links.opened)

-- ---- the timers of a link fire

link_fires : (m : ℕ) (b : World) (link : HandsetLink) (d : Draft) (w : World) (now : ℕ) → Among link d.links.all → CentreRefines b d w
    → StageIsSteps m b (on_links (turn_link link (heard (fires now link.near_end.links) link.near_end) d.links) d) w
link_fires m b link d w now among s =
    let u : Option Carried = link.near_end.under_way in
    let a : Option Carried = link.near_end.answered in
    let begun_ones : List (List ℕ) = if_again (begun_firing now link.near_end.links.begun) (begun_frames link.near_end.links.begun) in
    let answers : List (List ℕ) = if_again (opened_firing now link.near_end.links.opened) (answer_frames link.near_end.links.opened) in
    let e : Draft = record d { links = record d.links { frames = d.links.frames ++ to_handset link.handset (from_links u a (begun_ones ++ answers)) } } in
    let f : Draft = on_links (turn_link link (heard (fires now link.near_end.links) link.near_end) d.links) d in
    let l : RefinesLink w.bag link = s.links link among in
    steps_then m b e f w
    (again_list m link.handset u a b (begun_ones ++ answers) d w
    (all_both link.handset w.bag u a begun_ones answers (begun_sent w.bag now link l) (answer_sent w.bag now link l)) s)
    (λ v y.
    let k : RefinesLink v.bag link = y.links link among in
    steps_still m b f v (record {
      frames = y.frames;
      whole = y.whole;
      links = links_with v.bag (turned (heard (fires now link.near_end.links) link.near_end) link) d.links.all
          (record { next = k.next; opened = opened_preserved v.bag now link k; begun = begun_preserved v.bag now link k }) y.links;
      rows = y.rows;
    }))

-- a transfer that a timer ended is lost
closes_law : (b : World) (h : List ℕ) (c : Option Carried) (d : Draft) (w : World) → SoundStore d.store → CentreRefines b d w → CentreRefines b (timed_out h (option_map (λ (t : Carried). Ended t LostEnd) c) d) w
closes_law b h None d w sound s = s
closes_law b h (Some t) d w sound s = lost_law b h (Some t) d w sound s

timed_law : (b : World) (h : List ℕ) (side : Side) (c : Option Carried) (now : ℕ) (o : Option Begun) (d : Draft) (w : World) → SoundStore d.store → CentreRefines b d w
    → CentreRefines b (timed_out h (passed_up side c (failed_by (begun_firing now o))) d) w
timed_law b h side c now o d w sound s =
    firing_cases (λ f. CentreRefines b (timed_out h (passed_up side c (failed_by f)) d) w) s s (closes_law b h c d w sound s) (begun_firing now o)

fire_link_is_steps : (m : ℕ) (b : World) (link : HandsetLink) (d : Draft) (w : World) → Among link d.links.all → SoundStore d.store → CentreRefines b d w → StageIsSteps m b (fire_link link d) w
fire_link_is_steps m b link d w among sound s =
    let now : ℕ = d.store.moment in
    let z : Step = fires now link.near_end.links in
    let e : Draft = on_links (turn_link link (heard z link.near_end) d.links) d in
    subst (λ (x : Step). StageIsSteps m b (timed_out link.handset (heard x link.near_end).out.up (on_links (turn_link link (heard x link.near_end) d.links) d)) w) (sym (fire_is now link.near_end.links))
    (steps_then m b e (timed_out link.handset (heard z link.near_end).out.up e) w (link_fires m b link d w now among s)
    (λ v y. steps_still m b (timed_out link.handset (heard z link.near_end).out.up e) v (timed_law b link.handset link.near_end.side link.near_end.under_way now link.near_end.links.begun e v sound y)))

-- ---- one link after another

abbrev Sound : Draft → Type 0
Sound d = SoundStore d.store

ended_sound : (h : List ℕ) (t : Carried) (e : Ending) (d : Draft) → Sound d → Sound (conclude h t e d)
ended_sound h t e d k = concluded_steady SoundStore sound_still t.tag e d.store k

at_sound : (o : Option HandsetLink) (d : Draft) → Sound d → Sound (fire_at o d)
at_sound o d k = fire_at_says Sound ended_sound (λ links e kept. kept) o d k

mentioned_sound : (hs : List HandsetRow) (d : Draft) → Sound d → Sound (fire_mentioned hs d)
mentioned_sound hs d k = fire_mentioned_says Sound ended_sound (λ links e kept. kept) hs d k

pub fired_sound : (d : Draft) → SoundStore d.store → SoundStore (fired d).store
fired_sound d k = fired_says Sound ended_sound (λ links e kept. kept) d k

fire_at_is_steps : (m : ℕ) (b : World) (number : List ℕ) (o : Option HandsetLink) (d : Draft) (w : World) → link_at number d.links.all ≡ o → SoundStore d.store → CentreRefines b d w → StageIsSteps m b (fire_at o d) w
fire_at_is_steps m b number None d w e sound s = steps_still m b d w s
fire_at_is_steps m b number (Some link) d w e sound s = fire_link_is_steps m b link d w (link_found number link d.links.all e).0 sound s

mentioned_is_steps : (m : ℕ) (b : World) (hs : List HandsetRow) (d : Draft) (w : World) → SoundStore d.store → CentreRefines b d w → StageIsSteps m b (fire_mentioned hs d) w
mentioned_is_steps m b [] d w sound s = steps_still m b d w s
mentioned_is_steps m b (h ∷ hs) d w sound s =
    let o : Option HandsetLink = link_at h.number d.links.all in
    let e : Draft = fire_at o d in
    steps_then m b e (fire_mentioned hs e) w (fire_at_is_steps m b h.number o d w refl sound s) (λ v y. mentioned_is_steps m b hs e v (at_sound o d sound) y)

others_is_steps : (m : ℕ) (b : World) (hs : List HandsetRow) (ls : List HandsetLink) (d : Draft) (w : World) → SoundStore d.store → CentreRefines b d w → StageIsSteps m b (fire_others hs ls d) w
others_is_steps m b hs [] d w sound s = steps_still m b d w s
others_is_steps m b hs (l ∷ ls) d w sound s =
    let known : Bool = is_mentioned (handset_at l.handset hs) in
    let o : Option HandsetLink = link_at l.handset d.links.all in
    let e : Draft = if known then d else fire_at o d in
    let one = cond_both known d (fire_at o d) (λ (x : Draft). StageIsSteps m b x w × SoundStore x.store) (λ t. (steps_still m b d w s, sound)) (λ t. (fire_at_is_steps m b l.handset o d w refl sound s, at_sound o d sound)) in
    steps_then m b e (fire_others hs ls e) w one.0 (λ v y. others_is_steps m b hs ls e v one.1 y)

pub fired_goes : (m : ℕ) (b : World) (d : Draft) (w : World) → SoundStore d.store → CentreRefines b d w → StageIsSteps m b (fired d) w
fired_goes m b d w sound s =
    let hs : List HandsetRow = handsets_in d.store in
    let e : Draft = fire_mentioned hs d in
    steps_then m b e (fired d) w (mentioned_is_steps m b hs d w sound s) (λ v y. others_is_steps m b hs d.links.all e v (mentioned_sound hs d sound) y)

-- ---- links that were up come up

pub raise_all_refines : (b : World) (ls : List HandsetLink) (d : Draft) (w : World) → SoundStore d.store → CentreRefines b d w → CentreRefines b (raise_all ls d) w
raise_all_refines b [] d w sound s = s
raise_all_refines b (l ∷ ls) d w sound s =
    let one = cond_both l.is_awaited (raise l.handset d) d (λ (e : Draft). CentreRefines b e w × SoundStore e.store)
    (λ t. (raise_law b d w sound s l.handset, due_now_steady SoundStore sound_still (link_of l.handset d.links.all).handset d.store sound))
    (λ t. (s, sound)) in
    raise_all_refines b ls (if l.is_awaited then raise l.handset d else d) w one.1 one.0

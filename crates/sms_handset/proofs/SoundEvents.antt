-- Each event leaves a sound handset sound, and what is planned of it too.
use Rattle.std.proofs.Common.{◌≡◌, Option, sym, ◌∙◌, subst, None, refl, Some, ℕ, List, Result, Ok, Err, Bool, IfOk}
use Rattle.sms_base.specs.declared.carried.Carried.{Carried}
use Rattle.sms_base.specs.declared.holder.Holder.{Holder}
use Rattle.sms_control.specs.declared.out.Up.{Up}
use Rattle.sms_control.specs.declared.out.Up.TheVariants.{Unit as UnitUp, Failed as FailedUp}
use Rattle.sms_control.specs.declared.transaction.TransactionFlag.TheVariants.{FromOriginator, ToOriginator}
use Rattle.sms_control.specs.LinkStep.{Step, take_step, fire_step}
use Rattle.sms_relay.specs.RelayReading.{down_at as unit_at}
use Rattle.sms_link.specs.declared.ending.Side.TheVariants.{Handset as HandsetSide}
use Rattle.sms_link.specs.declared.ending.Ending.TheVariants.{Lost as LostEnd}
use Rattle.sms_link.specs.Ending.{ended_by, unit_at as unit_for}
use Rattle.sms_link.specs.LinkTurn.{passed_up, still_under_way, Turn, taken, fired}
use Rattle.sms_handset_draft.specs.Draft.{Draft, Core, draft_of, link_of, with_turn, HandsetOf, core_of}
use Rattle.sms_handset.proofs.SoundDrafts.{Sound, SoundAt, outbox_moves, sound_from, sound_core}
use Rattle.sms_handset_draft.specs.FramesAndTicks.{went_up, timed_out, frame_heard, at_moment, timers_fired}
use Rattle.sms_handset.specs.HandsetEvent.{frame_received, ticked, acted, wrote, deleted, discarded, tag_of}
use Rattle.sms_handset.proofs.SoundReceiving.{unit_sound}
use Rattle.sms_handset.proofs.SoundTransfers.{transfer_sound, follow_sound}
use Rattle.sms_handset.specs.SoundCore.{IsSoundCore}
use Rattle.sms_handset.specs.declared.refusal.Refusal.{Refusal}
use Rattle.sms_handset.proofs.SoundActs.{SoundIfDone, write_sound, delete_sound, discard_sound}
use Rattle.sms_handset.specs.OwnersActs.{write, delete, discard}
use Rattle.sms_handset_draft.specs.declared.rows.Rows.{Rows}
use Rattle.sms_handset_draft.specs.Outcome.{Outcome}
use Rattle.sms_handset.specs.Planning.{IsPlanOf, PlanOf, IsRevised, adopted, IsRevisedIfDone, Plans, OfDelete, OfDiscard, OfFrame, OfTick, OfWrite}
use Rattle.sms_handset.specs.declared.refusal.PlanError.{PlanError}
use Rattle.sms_handset.specs.declared.event.HandsetEvent.{HandsetEvent}
use Rattle.sms_handset.specs.declared.event.HandsetEvent.TheVariants.{Frame, Tick, Write, Delete, Discard}
use Rattle.sms_handset.proofs.Resting.{delete_rests, discard_rests, frame_rests, tick_rests, write_rests}
use Rattle.sms_handset.proofs.KeptByStages.{acted_keeps}

-- ---- what goes up from the link

-- as what was under way is sound with what is under way now
pub still_sound : (w v : Option Carried) (d : Draft) → d.under_way ≡ v → Sound d.rows w d.is_recovered d.notices → w ≡ v → SoundAt d
still_sound w v d e s q = subst (λ (u : Option Carried). Sound d.rows u d.is_recovered d.notices) (q ∙ sym e) s

pub over_sound : (w : Option Carried) (d : Draft) → d.under_way ≡ None → Sound d.rows w d.is_recovered d.notices → SoundAt d
over_sound w d e s =
    subst (λ (u : Option Carried). Sound d.rows u d.is_recovered d.notices) (sym e)
    (outbox_moves d.rows w None d.is_recovered d.is_recovered d.notices d.rows.outbox s.outbox (λ t. refl) tt s)

pub went_up_sound : (tag : Holder) (up : Option Up) (w : Option Carried) (d : Draft) → d.under_way ≡ still_under_way up w → Sound d.rows w d.is_recovered d.notices
    → SoundAt (went_up tag (passed_up HandsetSide w up) d)
went_up_sound tag None w d e s = still_sound w w d e s refl
went_up_sound tag (Some (UnitUp FromOriginator unit)) w d e s = unit_sound tag unit (unit_at unit) d (still_sound w w d e s refl)
went_up_sound tag (Some (UnitUp ToOriginator unit)) None d e s = over_sound None d e s
went_up_sound tag (Some (UnitUp ToOriginator unit)) (Some c) d e s = transfer_sound c (ended_by c.reference (unit_for HandsetSide unit)) d s.under_way e (over_sound (Some c) d e s)
went_up_sound tag (Some FailedUp) None d e s = over_sound None d e s
went_up_sound tag (Some FailedUp) (Some c) d e s = transfer_sound c LostEnd d s.under_way e (over_sound (Some c) d e s)

pub timed_out_sound : (up : Option Up) (w : Option Carried) (d : Draft) → d.under_way ≡ still_under_way up w → Sound d.rows w d.is_recovered d.notices
    → SoundAt (timed_out (passed_up HandsetSide w up) d)
timed_out_sound None w d e s = still_sound w w d e s refl
timed_out_sound (Some (UnitUp FromOriginator unit)) w d e s = still_sound w w d e s refl
timed_out_sound (Some (UnitUp ToOriginator unit)) None d e s = over_sound None d e s
timed_out_sound (Some (UnitUp ToOriginator unit)) (Some c) d e s = transfer_sound c (ended_by c.reference (unit_for HandsetSide unit)) d s.under_way e (over_sound (Some c) d e s)
timed_out_sound (Some FailedUp) None d e s = over_sound None d e s
timed_out_sound (Some FailedUp) (Some c) d e s = transfer_sound c LostEnd d s.under_way e (over_sound (Some c) d e s)

-- ---- events

pub frame_sound : (octets : List ℕ) (tag : Holder) (c : Core) → IsSoundCore c → SoundAt (frame_received octets tag c)
frame_sound octets tag c s =
    let turn : Turn = taken octets (link_of (draft_of c)) in
    let step : Step = take_step octets c.links in
    follow_sound (frame_heard tag turn (draft_of c)) (went_up_sound tag step.out.up c.under_way (with_turn turn (draft_of c)) refl (sound_from c s))

pub tick_sound : (now : ℕ) (c : Core) → IsSoundCore c → SoundAt (ticked now c)
tick_sound now c s =
    let d : Draft = at_moment now (draft_of c) in
    let turn : Turn = fired d.moment (link_of d) in
    let step : Step = fire_step d.moment c.links in
    follow_sound (timers_fired turn d) (timed_out_sound step.out.up c.under_way (with_turn turn d) refl (sound_from c s))

pub acted_sound : (r : Result Draft Refusal) → SoundIfDone r → SoundIfDone (acted r)
acted_sound r s = acted_keeps SoundAt SoundAt follow_sound r s

pub wrote_sound : (text to : List ℕ) (report : Bool) (c : Core) → IsSoundCore c → SoundIfDone (wrote text to report c)
wrote_sound text to report c s = acted_sound (write text to report (draft_of c)) (write_sound text to report (draft_of c) (sound_from c s))

pub deleted_sound : (n : ℕ) (c : Core) → IsSoundCore c → SoundIfDone (deleted n c)
deleted_sound n c s = acted_sound (delete n (draft_of c)) (delete_sound n (draft_of c) (sound_from c s))

pub discarded_sound : (n : ℕ) (c : Core) → IsSoundCore c → SoundIfDone (discarded n c)
discarded_sound n c s = acted_sound (discard n (draft_of c)) (discard_sound n (draft_of c) (sound_from c s))

-- ---- plans

-- the handset that adopts the plan is the one that the event leads to
sound_of : (s : HandsetOf) (d : Draft) (p : PlanOf) → IsPlanOf d s p → IsRevised s.core.rows d → SoundAt d → IsSoundCore (adopted p.outcome s.core)
sound_of s d p is rests sound =
    subst (λ (o : Outcome). IsSoundCore (adopted o s.core)) (sym is.outcome)
    (subst (λ (r : Rows). IsSoundCore (record (core_of d) { rows = r })) rests (sound_core d sound))

sound_done : (w : Result Draft Refusal) (d : Draft) → w ≡ Ok d → SoundIfDone w → SoundAt d
sound_done w d e h = subst (λ (r : Result Draft Refusal). SoundIfDone r) e h

rests_done : (base : Rows) (w : Result Draft Refusal) (d : Draft) → w ≡ Ok d → IsRevisedIfDone base w → IsRevised base d
rests_done base w d e h = subst (λ (r : Result Draft Refusal). IsRevisedIfDone base r) e h

abbrev pub AdoptsSound : HandsetOf → PlanOf → Type 0
AdoptsSound s p = IsSoundCore (adopted p.outcome s.core)

pub plans_sound : (r : Result PlanOf PlanError) (s : HandsetOf) (w : Result Draft Refusal) → IsRevisedIfDone s.core.rows w → SoundIfDone w → Plans r s w → IfOk r (AdoptsSound s)
plans_sound (Ok p) s w rests sound h = sound_of s h.0 p h.1.1 (rests_done s.core.rows w h.0 h.1.0 rests) (sound_done w h.0 h.1.0 sound)
plans_sound (Err e) s w rests sound h = tt

pub event_sound : (event : HandsetEvent) (r : Result PlanOf PlanError) (s : HandsetOf)
    → OfFrame event (λ octets tag. Plans r s (Ok (frame_received octets (tag_of tag) s.core)))
    → OfTick event (λ now. Plans r s (Ok (ticked now s.core)))
    → OfWrite event (λ text to report. Plans r s (wrote text to report s.core))
    → OfDelete event (λ entry. Plans r s (deleted entry s.core))
    → OfDiscard event (λ entry. Plans r s (discarded entry s.core))
    → IsSoundCore s.core → IfOk r (AdoptsSound s)
event_sound (Frame octets tag) r s a b c d e h = plans_sound r s (Ok (frame_received octets (tag_of tag) s.core)) (frame_rests octets (tag_of tag) s.core) (frame_sound octets (tag_of tag) s.core h) a
event_sound (Tick now) r s a b c d e h = plans_sound r s (Ok (ticked now s.core)) (tick_rests now s.core) (tick_sound now s.core h) b
event_sound (Write text to report) r s a b c d e h = plans_sound r s (wrote text to report s.core) (write_rests text to report s.core) (wrote_sound text to report s.core h) c
event_sound (Delete entry) r s a b c d e h = plans_sound r s (deleted entry s.core) (delete_rests entry s.core) (deleted_sound entry s.core h) d
event_sound (Discard entry) r s a b c d e h = plans_sound r s (discarded entry s.core) (discard_rests entry s.core) (discarded_sound entry s.core h) e

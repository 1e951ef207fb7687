-- Timers fire at the links that are found as the walk begins, whatever comes of those that fired before.
use Rattle.std.proofs.Common.{◌≡◌, ℕ, ◌+◌, List, [], ◌∷◌, ◌++◌, Bool, true, false, Option, Some, None, refl, sym, ◌∙◌, ap, ⊎_elim, is_none, append-nil, arith}
use Rattle.std.specs.Prelude.{◌&&◌, filter, if◌then◌else◌}
use Rattle.sms_base.proofs.OctetLaws.{cases_octets}
use Rattle.sms_control.specs.DueTimers.{is_due}
use Rattle.sms_control.specs.LinkStep.{Step, quiet}
use Rattle.sms_control.proofs.QuietTimers.{quiet_timers}
use Rattle.sms_link.specs.declared.ending.Upward.{Upward}
use Rattle.sms_link.specs.declared.ending.Upward.TheVariants.{Opened, Ended}
use Rattle.sms_link.specs.LinkTurn.{Turn, fired as fired_link, heard}
use Rattle.sms_centre_rows.specs.declared.waiting.handset.HandsetRow.{HandsetRow}
use Rattle.sms_centre_rows.specs.declared.waiting.handset_link.HandsetLink.{HandsetLink}
use Rattle.sms_centre_rows.specs.declared.waiting.handset_link.Sent.{Sent}
use Rattle.sms_centre_rows.specs.waiting.Links.{Links, filled, link_at, link_of, or_new_link_to, turn_link, turned}
use Rattle.sms_centre_rows.specs.waiting.References.{handset_at}
use Rattle.sms_centre_rows.specs.waiting.SoundAllocations.{SoundAllocations}
use Rattle.sms_centre_rows.proofs.waiting.LinksRepresented.{link_of_handset, link_put_other}
use Rattle.sms_centre_rows.proofs.waiting.Mentions.{number_behind, number_here}
use Rattle.sms_centre_queue.specs.declared.queues.concern.ConcernedHandset.{ConcernedHandset}
use Rattle.sms_centre_queue.specs.declared.queues.concern.Concern.TheVariants.{Fire, FireUnmentioned}
use Rattle.sms_centre_queue.specs.queues.LinkOrder.{AreLinks}
use Rattle.sms_centre_queue.specs.queues.Stops.{is_stop, link_stops, mention_stops}
use Rattle.sms_centre_queue.specs.queues.Walks.{walk}
use Rattle.sms_centre_queue.proofs.queues.StopsApart.{links_apart, mentions_apart}
use Rattle.sms_centre_spec.specs.declared.verdict.Verdict.{Verdict}
use Rattle.sms_centre_spec.specs.declared.verdict.Verdict.TheVariants.{Settled, HandsetFull, Again, Refused, Late}
use Rattle.sms_centre_spec.specs.CentreEvent.{fire_at, fire_link, fire_mentioned, fire_others, fired, is_mentioned, link_fired, timed_out}
use Rattle.sms_centre_spec.specs.Draft.{Draft, handsets_in, on_links, references_in, waiting_in}
use Rattle.sms_centre_spec.specs.Transfers.{link_ended, verdict_on}
use Rattle.sms_centre_spec.proofs.SoundLinks.{link_found}
use Rattle.sms_centre_draft.specs.walks.Stepping.{fire_on, stops_in}
use Rattle.sms_centre_draft.proofs.walks.Acting.{walk_acting}
use Rattle.sms_centre_draft.proofs.walks.LinksStay.{put_same}
use Rattle.sms_centre_spec.proofs.MomentStays.{conclude_moment}

-- the timers of the handset's link fire, where it has one
abbrev fire_there : List ℕ → Draft → Draft
fire_there number d = fire_at (link_at number d.links.all) d

-- whether one of them is due
abbrev concerns : List ℕ → Draft → Bool
concerns number d = is_due d.store.moment (link_of number d.links.all).near_end.links

-- ---- where none is due, nothing is done

still_there : (number : List ℕ) (l : HandsetLink) (d : Draft) → link_at number d.links.all ≡ Some l → link_fired l (heard (quiet l.near_end.links) l.near_end) d ≡ d
still_there number l d is =
    ap (λ (ls : List HandsetLink). on_links (record d.links { all = ls; frames = d.links.frames ++ [] }) d) (put_same number l d.links.all is)
    ∙ ap (λ (fs : List Sent). on_links (record d.links { frames = fs }) d) (append-nil d.links.frames)

rests_at : (number : List ℕ) (o : Option HandsetLink) (d : Draft) → link_at number d.links.all ≡ o → is_due d.store.moment (or_new_link_to number o).near_end.links ≡ false → fire_at o d ≡ d
rests_at number None d is none = refl
rests_at number (Some l) d is none =
    ap (λ (step : Step). link_fired l (heard step l.near_end) d) (quiet_timers d.store.moment l.near_end.links none) ∙ still_there number l d is

rests : (number : List ℕ) (d : Draft) → concerns number d ≡ false → fire_there number d ≡ d
rests number d e = rests_at number (link_at number d.links.all) d refl e

-- ---- where one is due, there is a link

acts_at : (number : List ℕ) (o : Option HandsetLink) (d : Draft) → is_due d.store.moment (or_new_link_to number o).near_end.links ≡ true → fire_at o d ≡ fire_link (or_new_link_to number o) d
acts_at number None d e = absurd cc
acts_at number (Some l) d e = refl

acts : (number : List ℕ) (d : Draft) → concerns number d ≡ true → fire_there number d ≡ fire_on number d
acts number d e = acts_at number (link_at number d.links.all) d e

-- ---- the links of others stay, and the moment

ended_other : (v : Verdict) (handset other : List ℕ) (links : Links) → ¬ (handset ≡ other) → link_of other (link_ended v handset links).all ≡ link_of other links.all
ended_other Settled handset other links ne = refl
ended_other HandsetFull handset other links ne =
    link_put_other other (filled (link_of handset links.all)) links.all (λ e. ne (sym (link_of_handset handset links.all) ∙ e))
ended_other Again handset other links ne = refl
ended_other Refused handset other links ne = refl
ended_other Late handset other links ne = refl

-- another handset's link, and the moment, are as they were
record Leaves (other : List ℕ) (before after : Draft) : Type 0 where
  link : link_of other after.links.all ≡ link_of other before.links.all
  moment : after.store.moment ≡ before.store.moment

timed_out_leaves : (handset other : List ℕ) (u : Option Upward) (d : Draft) → ¬ (handset ≡ other) → Leaves other d (timed_out handset u d)
timed_out_leaves handset other None d ne = record { link = refl; moment = refl }
timed_out_leaves handset other (Some (Opened unit)) d ne = record { link = refl; moment = refl }
timed_out_leaves handset other (Some (Ended transfer ending)) d ne = record {
  link = ended_other (verdict_on transfer.tag ending d.store) handset other d.links ne;
  moment = conclude_moment handset transfer ending d;
}

fired_leaves : (l : HandsetLink) (turn : Turn) (other : List ℕ) (d : Draft) → ¬ (l.handset ≡ other) → Leaves other d (link_fired l turn d)
fired_leaves l turn other d ne =
    let after = timed_out_leaves l.handset other turn.out.up (on_links (turn_link l turn d.links) d) ne in
    record { link = after.link ∙ link_put_other other (turned turn l) d.links.all ne; moment = after.moment }

at_leaves : (number other : List ℕ) (o : Option HandsetLink) (d : Draft) → link_at number d.links.all ≡ o → ¬ (number ≡ other) → Leaves other d (fire_at o d)
at_leaves number other None d is ne = record { link = refl; moment = refl }
at_leaves number other (Some l) d is ne =
    fired_leaves l (fired_link d.store.moment l.near_end) other d (λ e. ne (sym (link_found number l d.links.all is).1 ∙ e))

leaves : (number other : List ℕ) (d : Draft) → ¬ (number ≡ other) → Leaves other d (fire_there number d)
leaves number other d ne = at_leaves number other (link_at number d.links.all) d refl ne

due_alike : (other : List ℕ) (before after : Draft) → Leaves other before after → concerns other after ≡ concerns other before
due_alike other before after l =
    ap (λ (n : ℕ). is_due n (link_of other after.links.all).near_end.links) l.moment ∙ ap (λ (x : HandsetLink). is_due before.store.moment x.near_end.links) l.link

others : (number other : List ℕ) (d : Draft) → ¬ (number ≡ other) → concerns other (fire_there number d) ≡ concerns other d
others number other d ne = due_alike other d (fire_there number d) (leaves number other d ne)

-- ---- the handsets that were given a reference

mentioned_walks : (hs : List HandsetRow) (d : Draft) → fire_mentioned hs d ≡ walk fire_there (mention_stops hs) d
mentioned_walks [] d = refl
mentioned_walks (h ∷ hs) d = mentioned_walks hs (fire_there h.number d)

mentioned_found : (d : Draft) → SoundAllocations (handsets_in d.store) (references_in d.store) → fire_mentioned (handsets_in d.store) d ≡ walk fire_on (stops_in (Fire d.store.moment) d) d
mentioned_found d sound =
    mentioned_walks (handsets_in d.store) d
    ∙ walk_acting fire_there fire_on concerns (is_stop (Fire d.store.moment) (handsets_in d.store) d.links.all (λ (n : List ℕ). waiting_in n d.store)) (mention_stops (handsets_in d.store)) d
    (record { rests = rests; acts = acts; others = others }) (mentions_apart (handsets_in d.store) sound.handset_keys sound.apart) (λ x m. refl)

-- a handset that was given none is left
unmentioned_left : (hs : List HandsetRow) (number : List ℕ) (d : Draft) → handset_at number hs ≡ None → Leaves number d (fire_mentioned hs d)
unmentioned_left [] number d none = record { link = refl; moment = refl }
unmentioned_left (h ∷ hs) number d none = ⊎_elim
    (λ (e : h.number ≡ number). let bad : Some h ≡ None = sym (number_here number h hs e) ∙ none in absurd cc)
    (λ (ne : h.number ≡ number → ⊥).
    let here = leaves h.number number d ne in
    let rest = unmentioned_left hs number (fire_there h.number d) (sym (number_behind number h hs ne) ∙ none) in
    record { link = rest.link ∙ here.link; moment = rest.moment ∙ here.moment })
    (cases_octets h.number number)

-- ---- the handsets that were given none

module _ (hs : List HandsetRow) where
  abbrev fire_other : List ℕ → Draft → Draft
  fire_other number d = if is_mentioned (handset_at number hs) then d else fire_there number d

  abbrev concerns_other : List ℕ → Draft → Bool
  concerns_other number d = is_none (handset_at number hs) && concerns number d

  others_walk : (n : ℕ) (ls : List HandsetLink) (d : Draft) → fire_others hs ls d ≡ walk fire_other (link_stops n ls) d
  others_walk n [] d = refl
  others_walk n (l ∷ ls) d = others_walk (n + 1) ls (fire_other l.handset d)

  other_rests : (number : List ℕ) (o : Option HandsetRow) (d : Draft) → is_none o && concerns number d ≡ false → (if is_mentioned o then d else fire_there number d) ≡ d
  other_rests number None d e = rests number d e
  other_rests number (Some h) d e = refl

  other_acts : (number : List ℕ) (o : Option HandsetRow) (d : Draft) → is_none o && concerns number d ≡ true → (if is_mentioned o then d else fire_there number d) ≡ fire_on number d
  other_acts number None d e = acts number d e
  other_acts number (Some h) d e = absurd cc

  other_others : (number other : List ℕ) (o : Option HandsetRow) (d : Draft) → ¬ (number ≡ other) → concerns other (if is_mentioned o then d else fire_there number d) ≡ concerns other d
  other_others number other None d ne = others number other d ne
  other_others number other (Some h) d ne = refl

  -- a link is due after the walk over those that were given a reference where it was before
  due_before : (number : List ℕ) (o : Option HandsetRow) (d : Draft) → handset_at number hs ≡ o → is_none o && concerns number d ≡ is_none o && concerns number (fire_mentioned hs d)
  due_before number None d none = sym (due_alike number d (fire_mentioned hs d) (unmentioned_left hs number d none))
  due_before number (Some h) d is = refl

  others_found : (d : Draft) (ls : List HandsetLink) → AreLinks ls
      → fire_others hs ls (fire_mentioned hs d)
      ≡ walk fire_on (filter (λ (s : ConcernedHandset). is_none (handset_at s.number hs) && concerns s.number d) (link_stops 1 ls)) (fire_mentioned hs d)
  others_found d ls apart =
      others_walk 1 ls (fire_mentioned hs d)
      ∙ walk_acting fire_other fire_on concerns_other (λ (s : ConcernedHandset). is_none (handset_at s.number hs) && concerns s.number d) (link_stops 1 ls) (fire_mentioned hs d)
      (record {
        rests = λ n e t. other_rests n (handset_at n hs) e t;
        acts = λ n e t. other_acts n (handset_at n hs) e t;
        others = λ n k e ne. ap (λ (b : Bool). is_none (handset_at k hs) && b) (other_others n k (handset_at n hs) e ne);
      })
      (links_apart 1 ls (omega arith) apart) (λ x m. due_before x.number (handset_at x.number hs) d refl)

-- ---- all of it

pub fires_found : (d : Draft) → SoundAllocations (handsets_in d.store) (references_in d.store) → AreLinks d.links.all
    → fired d ≡ walk fire_on (stops_in (FireUnmentioned d.store.moment) d) (walk fire_on (stops_in (Fire d.store.moment) d) d)
fires_found d sound apart =
    others_found (handsets_in d.store) d d.links.all apart
    ∙ ap (λ (e : Draft). walk fire_on (stops_in (FireUnmentioned d.store.moment) d) e) (mentioned_found d sound)

-- A tick is walked once: what is said of a draft, and stays so where a transfer ends and where links change, stays so where timers fire; and what stays
-- so where a link comes up stays so where each that is awaited does.
use Rattle.std.proofs.Common.{List, ℕ, [], ◌∷◌, Option, Some, None}
use Rattle.std.specs.Prelude.{if◌then◌else◌}
use Rattle.std.proofs.lemmas.Bool.{cond_both}
use Rattle.sms_base.specs.declared.carried.Carried.{Carried}
use Rattle.sms_link.specs.declared.ending.Ending.{Ending}
use Rattle.sms_link.specs.declared.ending.Upward.{Upward}
use Rattle.sms_link.specs.declared.ending.Upward.TheVariants.{Opened, Ended}
use Rattle.sms_link.specs.LinkTurn.{fired as fired_link}
use Rattle.sms_centre_rows.specs.declared.waiting.handset.HandsetRow.{HandsetRow}
use Rattle.sms_centre_rows.specs.declared.waiting.handset_link.HandsetLink.{HandsetLink}
use Rattle.sms_centre_rows.specs.waiting.Links.{Links, link_at, turn_link}
use Rattle.sms_centre_rows.specs.waiting.References.{handset_at}
use Rattle.sms_centre_spec.specs.CentreEvent.{fire_at, fire_link, fire_mentioned, fire_others, fired, is_mentioned, raise, raise_all, raised, timed_out}
use Rattle.sms_centre_spec.specs.Draft.{Draft, handsets_in, on_links}
use Rattle.sms_centre_spec.specs.Transfers.{conclude}

module _ (Says : Draft → Type 0) (concludes : (h : List ℕ) (t : Carried) (e : Ending) (d : Draft) → Says d → Says (conclude h t e d))
    (changes : (links : Links) (d : Draft) → Says d → Says (on_links links d)) where
  timed_out_says : (h : List ℕ) (u : Option Upward) (d : Draft) → Says d → Says (timed_out h u d)
  timed_out_says h None d k = k
  timed_out_says h (Some (Opened unit)) d k = k
  timed_out_says h (Some (Ended transfer ending)) d k = concludes h transfer ending d k

  fire_link_says : (l : HandsetLink) (d : Draft) → Says d → Says (fire_link l d)
  fire_link_says l d k =
      let links : Links = turn_link l (fired_link d.store.moment l.near_end) d.links in
      timed_out_says l.handset (fired_link d.store.moment l.near_end).out.up (on_links links d) (changes links d k)

  pub fire_at_says : (o : Option HandsetLink) (d : Draft) → Says d → Says (fire_at o d)
  fire_at_says None d k = k
  fire_at_says (Some l) d k = fire_link_says l d k

  pub fire_mentioned_says : (hs : List HandsetRow) (d : Draft) → Says d → Says (fire_mentioned hs d)
  fire_mentioned_says [] d k = k
  fire_mentioned_says (h ∷ hs) d k =
      let o : Option HandsetLink = link_at h.number d.links.all in fire_mentioned_says hs (fire_at o d) (fire_at_says o d k)

  fire_others_says : (hs : List HandsetRow) (ls : List HandsetLink) (d : Draft) → Says d → Says (fire_others hs ls d)
  fire_others_says hs [] d k = k
  fire_others_says hs (l ∷ ls) d k =
      let o : Option HandsetLink = link_at l.handset d.links.all in
      fire_others_says hs ls (if is_mentioned (handset_at l.handset hs) then d else fire_at o d)
      (cond_both (is_mentioned (handset_at l.handset hs)) d (fire_at o d) Says (λ t. k) (λ t. fire_at_says o d k))

  pub fired_says : (d : Draft) → Says d → Says (fired d)
  fired_says d k =
      let hs : List HandsetRow = handsets_in d.store in
      let e : Draft = fire_mentioned hs d in
      fire_others_says hs d.links.all e (fire_mentioned_says hs d k)

module _ (Says : Draft → Type 0) (raises : (h : List ℕ) (d : Draft) → Says d → Says (raise h d)) where
  raise_all_says : (ls : List HandsetLink) (d : Draft) → Says d → Says (raise_all ls d)
  raise_all_says [] d k = k
  raise_all_says (l ∷ ls) d k =
      raise_all_says ls (if l.is_awaited then raise l.handset d else d)
      (cond_both l.is_awaited (raise l.handset d) d Says (λ t. raises l.handset d k) (λ t. k))

  pub raised_says : (d : Draft) → Says d → Says (raised d)
  raised_says d k = raise_all_says d.links.all d k

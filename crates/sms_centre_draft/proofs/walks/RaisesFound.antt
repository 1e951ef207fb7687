-- Links that were up before a recovery are raised where they are found.
use Rattle.std.proofs.Common.{◌≡◌, ℕ, ◌+◌, List, [], ◌∷◌, Bool, true, false, refl, sym, ◌∙◌, ap, inl, inr, ⊎_elim}
use Rattle.std.specs.Prelude.{filter}
use Rattle.std.proofs.lemmas.Bool.{cases_Bool, cond-true, cond-false}
use Rattle.sms_base.specs.Among.{Among}
use Rattle.sms_centre_rows.specs.declared.waiting.handset_link.HandsetLink.{HandsetLink}
use Rattle.sms_centre_rows.specs.waiting.Links.{link_of}
use Rattle.sms_centre_queue.specs.declared.queues.concern.ConcernedHandset.{ConcernedHandset}
use Rattle.sms_centre_queue.specs.declared.queues.concern.Concern.TheVariants.{Awaited}
use Rattle.sms_centre_queue.specs.queues.LinkOrder.{AreLinks}
use Rattle.sms_centre_queue.specs.queues.Stops.{link_stops}
use Rattle.sms_centre_queue.specs.queues.Walks.{walk}
use Rattle.sms_centre_spec.specs.CentreEvent.{raise, raise_all, raised}
use Rattle.sms_centre_spec.specs.Draft.{Draft}
use Rattle.sms_centre_draft.specs.walks.Stepping.{stops_in}
use Rattle.sms_centre_draft.proofs.walks.LinksStay.{link_own}

module _ (all : List HandsetLink) where
  -- its link was up before a recovery, as the walk begins
  abbrev is_awaited_at : ConcernedHandset → Bool
  is_awaited_at s = (link_of s.number all).is_awaited

  walks : (n : ℕ) (ls : List HandsetLink) (d : Draft) → ((l : HandsetLink) → Among l ls → link_of l.handset all ≡ l) → raise_all ls d ≡ walk raise (filter is_awaited_at (link_stops n ls)) d
  walks n [] d own = refl
  walks n (l ∷ ls) d own =
      let s : ConcernedHandset = record { order = n; number = l.handset } in
      let rest : List ConcernedHandset = filter is_awaited_at (link_stops (n + 1) ls) in
      let same : is_awaited_at s ≡ l.is_awaited = ap (λ (x : HandsetLink). x.is_awaited) (own l (inl refl)) in
      ⊎_elim
      (λ (t : l.is_awaited ≡ true).
      ap (λ (e : Draft). raise_all ls e) (cond-true l.is_awaited (raise l.handset d) d t)
      ∙ walks (n + 1) ls (raise l.handset d) (λ x m. own x (inr m))
      ∙ sym (ap (λ (ss : List ConcernedHandset). walk raise ss d) (cond-true (is_awaited_at s) (s ∷ rest) rest (same ∙ t))))
      (λ (t : l.is_awaited ≡ false).
      ap (λ (e : Draft). raise_all ls e) (cond-false l.is_awaited (raise l.handset d) d t)
      ∙ walks (n + 1) ls d (λ x m. own x (inr m))
      ∙ sym (ap (λ (ss : List ConcernedHandset). walk raise ss d) (cond-false (is_awaited_at s) (s ∷ rest) rest (same ∙ t))))
      (cases_Bool l.is_awaited)

pub raises_found : (d : Draft) → AreLinks d.links.all → raised d ≡ walk raise (stops_in Awaited d) d
raises_found d apart = walks d.links.all 1 d.links.all d (λ l m. link_own l d.links.all apart m)

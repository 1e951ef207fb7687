-- No handset stands twice in the order of first mention, nor among links.
use Rattle.std.proofs.Common.{ℕ, ◌+◌, ◌<◌, List, [], ◌∷◌, refl, sym, ◌∙◌, ap, inl, inr, arith}
use Rattle.sms_rows.specs.table.Table.{Rises}
use Rattle.sms_centre_rows.specs.declared.waiting.handset.HandsetRow.{HandsetRow}
use Rattle.sms_centre_rows.specs.declared.waiting.handset_link.HandsetLink.{HandsetLink}
use Rattle.sms_centre_rows.specs.waiting.Keys.{handset_key}
use Rattle.sms_centre_rows.specs.waiting.SoundAllocations.{AreApart as AreRowsApart}
use Rattle.sms_centre_queue.specs.declared.queues.concern.ConcernedHandset.{ConcernedHandset}
use Rattle.sms_centre_queue.specs.queues.LinkOrder.{AreLinks}
use Rattle.sms_centre_queue.specs.queues.Stops.{link_stops, mention_stops}
use Rattle.sms_centre_queue.specs.queues.Walks.{AreApart}
use Rattle.sms_centre_queue.proofs.queues.Places.{above_among}
use Rattle.sms_centre_queue.proofs.queues.StopOrder.{among_link_stop, among_mention, none_later}

pub mentions_apart : (hs : List HandsetRow) → Rises handset_key hs → AreRowsApart hs → AreApart (mention_stops hs)
mentions_apart [] rises apart = tt
mentions_apart (h ∷ hs) rises apart = (
  λ t m e.
      let r = among_mention t hs m in
      let number = ap (λ (s : ConcernedHandset). s.number) r.1.1 in
      let place = apart h r.0 (inl refl) (inr r.1.0) (e ∙ number) in
      let above = above_among h.place r.0 hs rises.0 r.1.0 in
      absurd (omega (arith, place, above)),
  mentions_apart hs rises.1 (λ f g a b e. apart f g (inr a) (inr b) e),
)

pub links_apart : (n : ℕ) (ls : List HandsetLink) → 0 < n → AreLinks ls → AreApart (link_stops n ls)
links_apart n [] some apart = tt
links_apart n (l ∷ ls) some apart = (
  λ t m e.
      let r = among_link_stop (n + 1) t ls (omega arith) apart.1 m in
      none_later n l.handset r.0 ls apart.0 r.1.0 (sym r.1.1 ∙ sym e),
  links_apart (n + 1) ls (omega arith) apart.1,
)

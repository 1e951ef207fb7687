-- Stops in their order, and where each handset has its own.
use Rattle.std.proofs.Common.{◌≡◌, ℕ, ◌+◌, ◌<◌, List, [], ◌∷◌, Some, None, refl, sym, ◌∙◌, ap, inl, inr, ⊎_elim, arith}
use Rattle.sms_base.proofs.OctetLaws.{cases_octets}
use Rattle.sms_base.specs.Among.{Among}
use Rattle.sms_rows.specs.table.Table.{AllAbove, Rises}
use Rattle.sms_centre_rows.specs.declared.waiting.handset.HandsetRow.{HandsetRow}
use Rattle.sms_centre_rows.specs.declared.waiting.handset_link.HandsetLink.{HandsetLink}
use Rattle.sms_centre_rows.specs.waiting.Keys.{handset_key}
use Rattle.sms_centre_rows.specs.waiting.Links.{link_at}
use Rattle.sms_centre_rows.proofs.waiting.LinksRepresented.{link_behind, link_here}
use Rattle.sms_centre_queue.specs.declared.queues.concern.ConcernedHandset.{ConcernedHandset}
use Rattle.sms_centre_queue.specs.queues.Keys.{stop_key}
use Rattle.sms_centre_queue.specs.queues.LinkOrder.{AreLinks, link_place_from}
use Rattle.sms_centre_queue.specs.queues.Stops.{link_stops, mention_stops}
use Rattle.sms_centre_queue.proofs.queues.LinkPlaces.{arrived_behind, arrived_here}

-- ---- handsets

abbrev pub mention_stop : HandsetRow → ConcernedHandset
mention_stop h = record { order = h.place; number = h.number }

mention_above : (n : ℕ) (hs : List HandsetRow) → AllAbove handset_key n hs → AllAbove stop_key n (mention_stops hs)
mention_above n [] a = tt
mention_above n (h ∷ hs) a = (a.0, mention_above n hs a.1)

pub mentions_rise : (hs : List HandsetRow) → Rises handset_key hs → Rises stop_key (mention_stops hs)
mentions_rise [] r = tt
mentions_rise (h ∷ hs) r = (mention_above h.place hs r.0, mentions_rise hs r.1)

pub mention_among : (h : HandsetRow) (hs : List HandsetRow) → Among h hs → Among (mention_stop h) (mention_stops hs)
mention_among h [] m = elim m [ ]
mention_among h (g ∷ gs) m = ⊎_elim (λ (e : h ≡ g). inl (ap mention_stop e)) (λ (r : Among h gs). inr (mention_among h gs r)) m

pub among_mention : (s : ConcernedHandset) (hs : List HandsetRow) → Among s (mention_stops hs) → (h : HandsetRow) × (Among h hs × (s ≡ mention_stop h))
among_mention s [] m = elim m [ ]
among_mention s (h ∷ hs) m = ⊎_elim
    (λ (e : s ≡ mention_stop h). (h, (inl refl, e)))
    (λ (r : Among s (mention_stops hs)). let q = among_mention s hs r in (q.0, (inr q.1.0, q.1.1)))
    m

-- ---- links

links_above : (m n : ℕ) (ls : List HandsetLink) → m < n → AllAbove stop_key m (link_stops n ls)
links_above m n [] l = tt
links_above m n (x ∷ xs) l = (l, links_above m (n + 1) xs (omega (arith, l)))

pub links_rise : (n : ℕ) (ls : List HandsetLink) → Rises stop_key (link_stops n ls)
links_rise n [] = tt
links_rise n (l ∷ ls) = (links_above n (n + 1) ls (omega arith), links_rise (n + 1) ls)

-- the place of a link that came is that of its stop
pub link_stop_among : (n k : ℕ) (number : List ℕ) (ls : List HandsetLink) → link_place_from n number ls ≡ k → 0 < k → Among (record { order = k; number = number }) (link_stops n ls)
link_stop_among n k number [] e some = absurd (omega (arith, e, some))
link_stop_among n k number (l ∷ ls) e some = ⊎_elim
    (λ (t : l.handset ≡ number).
    let order : k ≡ n = sym e ∙ arrived_here n number l ls t in
    let here : record { order = k; number = number } ≡ record { order = n; number = l.handset } = ap (λ (o : ℕ). record { order = o; number = number }) order ∙ ap (λ (x : List ℕ). record { order = n; number = x }) (sym t) in
    inl here)
    (λ (t : l.handset ≡ number → ⊥). inr (link_stop_among (n + 1) k number ls (sym (arrived_behind n number l ls t) ∙ e) some))
    (cases_octets l.handset number)

pub none_later : (n : ℕ) (number : List ℕ) (l : HandsetLink) (ls : List HandsetLink) → link_at number ls ≡ None → Among l ls → l.handset ≡ number → ⊥
none_later n number l [] none m e = elim m [ ]
none_later n number l (x ∷ xs) none m e = ⊎_elim
    (λ (t : x.handset ≡ number). let bad : Some x ≡ None = sym (link_here number x xs t) ∙ none in absurd cc)
    (λ (t : x.handset ≡ number → ⊥). ⊎_elim
    (λ (q : l ≡ x). t (ap (λ (y : HandsetLink). y.handset) (sym q) ∙ e))
    (λ (r : Among l xs). none_later n number l xs (sym (link_behind number x xs t) ∙ none) r e)
    m)
    (cases_octets x.handset number)

-- each stop of links is that of one that came in that place
pub among_link_stop : (n : ℕ) (s : ConcernedHandset) (ls : List HandsetLink) → 0 < n → AreLinks ls → Among s (link_stops n ls) → (l : HandsetLink) × (Among l ls × (s.number ≡ l.handset) × (link_place_from n s.number ls ≡ s.order) × (0 < s.order))
among_link_stop n s [] some apart m = elim m [ ]
among_link_stop n s (l ∷ ls) some apart m = ⊎_elim
    (λ (e : s ≡ record { order = n; number = l.handset }).
    let number : s.number ≡ l.handset = ap (λ (x : ConcernedHandset). x.number) e in
    let order : s.order ≡ n = ap (λ (x : ConcernedHandset). x.order) e in
    (l, (inl refl, number, arrived_here n s.number l ls (sym number) ∙ sym order, omega (arith, order, some))))
    (λ (r : Among s (link_stops (n + 1) ls)).
    let q = among_link_stop (n + 1) s ls (omega arith) apart.1 r in
    let ne : ¬ (l.handset ≡ s.number) = λ e. none_later n l.handset q.0 ls apart.0 q.1.0 (sym q.1.1 ∙ sym e) in
    (q.0, (inr q.1.0, q.1.1, arrived_behind n s.number l ls ne ∙ q.1.2, q.1.3)))
    m

-- A link that is put as it stands changes nothing, and each link stands as that of its handset.
use Rattle.std.proofs.Common.{◌≡◌, ℕ, List, [], ◌∷◌, Option, Some, sym, ◌∙◌, ap, ⊎_elim}
use Rattle.sms_base.proofs.OctetLaws.{cases_octets}
use Rattle.sms_base.specs.Among.{Among}
use Rattle.sms_centre_rows.specs.declared.waiting.handset_link.HandsetLink.{HandsetLink}
use Rattle.sms_centre_rows.specs.waiting.Links.{link_at, link_of, or_new_link_to, with_link}
use Rattle.sms_centre_rows.proofs.waiting.LinksRepresented.{link_behind, link_here}
use Rattle.sms_centre_queue.specs.queues.LinkOrder.{AreLinks}
use Rattle.sms_centre_queue.proofs.queues.LinkPlaces.{put_behind, put_here}
use Rattle.sms_centre_queue.proofs.queues.StopOrder.{none_later}
use Rattle.sms_centre_spec.proofs.SoundLinks.{link_found}

pub put_same : (number : List ℕ) (l : HandsetLink) (ls : List HandsetLink) → link_at number ls ≡ Some l → with_link l ls ≡ ls
put_same number l [] e = absurd cc
put_same number l (x ∷ xs) e = ⊎_elim
    (λ (q : x.handset ≡ number).
    let some : Some x ≡ Some l = sym (link_here number x xs q) ∙ e in
    let same : x ≡ l = cc in
    put_here l x xs (ap (λ (y : HandsetLink). y.handset) same) ∙ ap (λ (y : HandsetLink). y ∷ xs) (sym same))
    (λ (ne : x.handset ≡ number → ⊥).
    let later : link_at number xs ≡ Some l = sym (link_behind number x xs ne) ∙ e in
    let own : l.handset ≡ number = (link_found number l xs later).1 in
    put_behind l x xs (λ q. ne (q ∙ own)) ∙ ap (λ (ls : List HandsetLink). x ∷ ls) (put_same number l xs later))
    (cases_octets x.handset number)

pub link_own : (l : HandsetLink) (ls : List HandsetLink) → AreLinks ls → Among l ls → link_of l.handset ls ≡ l
link_own l [] apart m = elim m [ ]
link_own l (x ∷ xs) apart m = ⊎_elim
    (λ (e : l ≡ x). ap (λ (o : Option HandsetLink). or_new_link_to l.handset o) (link_here l.handset x xs (ap (λ (y : HandsetLink). y.handset) (sym e))) ∙ sym e)
    (λ (a : Among l xs).
    ap (λ (o : Option HandsetLink). or_new_link_to l.handset o) (link_behind l.handset x xs (λ q. none_later 1 x.handset l xs apart.0 a (sym q)))
    ∙ link_own l xs apart.1 a)
    m

-- What came in two parts.
use Rattle.std.proofs.Common.{◌≡◌, List, [], ◌∷◌, ◌++◌, Option, Some, None, refl, sym, ap, subst, ◌∙◌, append_assoc, append-nil}
use Rattle.std.proofs.lemmas.Option.{none-some, same_Some}
use Rattle.std.specs.declared.net.socket_addr.SocketAddr.{SocketAddr}
use Rattle.smsc_arrivals.specs.declared.arrival.Arrival.{Arrival}
use Rattle.smsc_arrivals.specs.declared.arrival.PeerKind.{PeerKind}
use Rattle.smsc_arrivals.specs.declared.arrival.PeerKind.TheVariants.{Application, Handset}
use Rattle.smsc_arrivals.specs.declared.doors.Doors.{Doors}
use Rattle.smsc_arrivals.specs.Arriving.{AddsAll, HaveCome, at_applications, at_applications_if, at_links, at_links_if}

module _ {A : Type 0} where
  adds_none : (a b : Option (List A)) → b ≡ a → AddsAll a b []
  adds_none None b e = tt
  adds_none (Some a) b e = e ∙ ap Some (sym (append-nil a))

  adds_join : (a b c : Option (List A)) (one other : List A) → AddsAll a b one → AddsAll b c other → AddsAll a c (one ++ other)
  adds_join None b c one other p q = tt
  adds_join (Some a) None c one other p q = absurd (none-some (a ++ one) p)
  adds_join (Some a) (Some b) c one other p q =
      q ∙ ap Some (ap (λ (l : List A). l ++ other) (same_Some b (a ++ one) p) ∙ append_assoc a one other)

module _ {S : Type 0} where
  applications_if : (side : PeerKind) (a : Arrival S) (xs ys : List (S × SocketAddr)) → at_applications_if side a (xs ++ ys) ≡ at_applications_if side a xs ++ ys
  applications_if Application a xs ys = refl
  applications_if Handset a xs ys = refl

  links_if : (side : PeerKind) (a : Arrival S) (xs ys : List (S × SocketAddr)) → at_links_if side a (xs ++ ys) ≡ at_links_if side a xs ++ ys
  links_if Application a xs ys = refl
  links_if Handset a xs ys = refl

  pub applications_join : (one other : List (Arrival S)) → at_applications (one ++ other) ≡ at_applications one ++ at_applications other
  applications_join [] other = refl
  applications_join (a ∷ one) other =
      ap (at_applications_if a.side a) (applications_join one other) ∙ applications_if a.side a (at_applications one) (at_applications other)

  pub links_join : (one other : List (Arrival S)) → at_links (one ++ other) ≡ at_links one ++ at_links other
  links_join [] other = refl
  links_join (a ∷ one) other = ap (at_links_if a.side a) (links_join one other) ∙ links_if a.side a (at_links one) (at_links other)

module _ {L S : Type 0} (came : L → Option (List (S × SocketAddr))) where
  pub came_none : (a : Doors L) → HaveCome came a a []
  came_none a = record { applications = adds_none _ _ refl; links = adds_none _ _ refl }

  pub came_join : (a b c : Doors L) (one other : List (Arrival S)) → HaveCome came a b one → HaveCome came b c other → HaveCome came a c (one ++ other)
  came_join a b c one other p q = record {
    applications = subst (λ (l : List (S × SocketAddr)). AddsAll (came a.applications) (came c.applications) l) (sym (applications_join one other))
        (adds_join _ _ _ (at_applications one) (at_applications other) p.applications q.applications);
    links = subst (λ (l : List (S × SocketAddr)). AddsAll (came a.links) (came c.links) l) (sym (links_join one other))
        (adds_join _ _ _ (at_links one) (at_links other) p.links q.links);
  }

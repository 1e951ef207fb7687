-- The connections that came, each with the seat that took it.
use Rattle.std.proofs.Common.{◌≡◌, ◌≢◌, ◌==◌, ◌<◌, ℕ, Bool, true, false, if◌then◌else◌, List, [], ◌∷◌, ◌++◌, Option, Some, None, refl, sym, ap, subst, ◌∙◌, append-nil, slice_get, arith}
use Rattle.std.proofs.lemmas.Bool.{ne_eqb}
use Rattle.std.specs.declared.net.socket_addr.SocketAddr.{SocketAddr}
use Rattle.smsc_arrivals.specs.Arriving.{HaveCome}
use Rattle.smsc_arrivals.specs.Sharing.{AreShared, items_of, of}
use Rattle.smsc_arrivals.specs.Ways.{given_by, known_by, made_by, settled_at}
use Rattle.smsc_arrivals.proofs.SharingKeeps.{items_join, of_join}
use Rattle.smsc_arrivals.specs.declared.arrival.Arrival.{Arrival}
use Rattle.smsc_arrivals.specs.declared.doors.Doors.{Doors}
use Rattle.smsc_arrivals.specs.declared.sharing.ends.Giver.{Giver}
use Rattle.smsc_server.specs.declared.serving.entrance.Entrance.{Entrance}
use Rattle.smsc_server.specs.serving.Entering.{Came, HaveEntered, arrivals_among}

module _ {A : Type 0} where
  pub among_join : (a b : List (Option A)) → arrivals_among (a ++ b) ≡ arrivals_among a ++ arrivals_among b
  among_join [] b = refl
  among_join (Some x ∷ a) b = ap (λ (l : List A). x ∷ l) (among_join a b)
  among_join (None ∷ a) b = among_join a b

  -- those of what was taken that are connections
  strip_one : ℕ → Option A → List (ℕ × A) → List (ℕ × A)
  strip_one n (Some a) l = (n, a) ∷ l
  strip_one n None l = l

  strip : List (ℕ × Option A) → List (ℕ × A)
  strip [] = []
  strip (x ∷ l) = strip_one x.0 x.1 (strip l)

  items_one : (n : ℕ) (o : Option A) (l : List (ℕ × A)) → items_of (strip_one n o l) ≡ arrivals_among (o ∷ []) ++ items_of l
  unfolding strip_one
  items_one n (Some a) l = refl
  items_one n None l = refl

  among_one : (o : Option A) (l : List (Option A)) → arrivals_among (o ∷ l) ≡ arrivals_among (o ∷ []) ++ arrivals_among l
  among_one (Some a) l = refl
  among_one None l = refl

  strip_items : (l : List (ℕ × Option A)) → items_of (strip l) ≡ arrivals_among (items_of l)
  unfolding strip
  strip_items [] = refl
  strip_items (x ∷ l) =
      items_one x.0 x.1 (strip l) ∙ (ap (λ (m : List A). arrivals_among (x.1 ∷ []) ++ m) (strip_items l) ∙ sym (among_one x.1 (items_of l)))

  of_one : (s n : ℕ) (o : Option A) (l : List (ℕ × A)) (m : List (Option A)) → of s l ≡ arrivals_among m
      → of s (strip_one n o l) ≡ arrivals_among (if s == n then o ∷ m else m)
  unfolding strip_one
  of_one s n (Some a) l m e = here (s == n)
    where
      here : (b : Bool) → (if b then a ∷ of s l else of s l) ≡ arrivals_among (if b then Some a ∷ m else m)
      here true = ap (λ (k : List A). a ∷ k) e
      here false = e
  of_one s n None l m e = here (s == n)
    where
      here : (b : Bool) → of s l ≡ arrivals_among (if b then None ∷ m else m)
      here true = e
      here false = e

  strip_of : (s : ℕ) (l : List (ℕ × Option A)) → of s (strip l) ≡ arrivals_among (of s l)
  unfolding strip
  strip_of s [] = refl
  strip_of s (x ∷ l) = of_one s x.0 x.1 (strip l) (of s l) (strip_of s l)

  -- no seat took these
  untaken : List A → List (ℕ × A)
  untaken [] = []
  untaken (a ∷ l) = (32, a) ∷ untaken l

  untaken_items : (l : List A) → items_of (untaken l) ≡ l
  unfolding untaken
  untaken_items [] = refl
  untaken_items (a ∷ l) = ap (λ (m : List A). a ∷ m) (untaken_items l)

  untaken_of : (s : ℕ) (l : List A) → s ≢ 32 → of s (untaken l) ≡ []
  unfolding untaken
  untaken_of s [] apart = refl
  untaken_of s (a ∷ l) apart = ap (λ (b : Bool). if b then a ∷ of s (untaken l) else of s (untaken l)) (ne_eqb s 32 apart) ∙ untaken_of s l apart

module _ {L S : Type 0} (came : L → Option (List (S × SocketAddr))) where
  pub arrivals_in : List (ℕ × Option (Arrival S)) → List (Arrival S) → List (ℕ × Arrival S)
  arrivals_in handed lost = strip handed ++ untaken lost

  of_arrivals : (s : ℕ) (handed : List (ℕ × Option (Arrival S))) (lost : List (Arrival S)) → s ≢ 32 → of s (arrivals_in handed lost) ≡ arrivals_among (of s handed)
  unfolding arrivals_in
  of_arrivals s handed lost apart =
      of_join s (strip handed) (untaken lost) ∙ (ap (λ (l : List (Arrival S)). of s (strip handed) ++ l) (untaken_of s lost apart)
      ∙ (append-nil (of s (strip handed)) ∙ strip_of s handed))

  pub seated : (start end : Doors L) (given : List (Option (Arrival S))) (lost : List (Arrival S)) (handed : List (ℕ × Option (Arrival S)))
      → HaveCome came start end (arrivals_among given ++ lost) → given ≡ items_of handed ++ [] → ((s : ℕ) → 32 < s → of s handed ≡ [])
      → Came came start end (arrivals_in handed lost)
  unfolding arrivals_in
  seated start end given lost handed h e none = record {
    came_so = subst (λ (l : List (Arrival S)). HaveCome came start end l)
        (ap (λ (l : List (Arrival S)). l ++ lost) (ap arrivals_among (e ∙ append-nil (items_of handed)) ∙ sym (strip_items handed))
        ∙ (ap (λ (l : List (Arrival S)). items_of (strip handed) ++ l) (sym (untaken_items lost)) ∙ sym (items_join (strip handed) (untaken lost)))) h;
    few = λ s less. of_arrivals s handed lost (λ same. absurd (omega (arith, less, same))) ∙ ap arrivals_among (none s less);
  }

  pub seat_share : (s : ℕ) (handed : List (ℕ × Option (Arrival S))) (lost : List (Arrival S)) (took : List (Option (Arrival S))) → s < 32 → of s handed ≡ took
      → of s (arrivals_in handed lost) ≡ arrivals_among took
  seat_share s handed lost took less e = of_arrivals s handed lost (λ same. absurd (omega (arith, less, same))) ∙ ap arrivals_among e

  -- once all came back
  pub closed : (start : Doors L) (e : Entrance L S) (g : Giver (Option (Arrival S))) → HaveEntered came start e → AreShared (known_by g) []
      → made_by g ≡ 32 → given_by g ≡ given_by e.giver → (arrivals : List (ℕ × Arrival S)) × Came came start e.doors arrivals
      × ((n : ℕ) (took : List (Option (Arrival S))) → n < 32 → slice_get (settled_at g) n ≡ Some took → of n arrivals ≡ arrivals_among took)
  closed start e g entered shared made given = (
    arrivals_in shared.0 entered.lost,
    seated start e.doors (given_by e.giver) entered.lost shared.0 entered.came_so (sym given ∙ shared.1)
        (λ s less. shared.3 s (subst (λ (m : ℕ). m < s) (sym made) less)),
    (λ n took less there. seat_share n shared.0 entered.lost took less (shared.4 n took there)),
  )

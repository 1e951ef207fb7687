-- The number of a frame is its own.
use Rattle.std.proofs.Common.{◌≡◌, ℕ, ◌+◌, ◌≤◌, List, [], ◌∷◌, Bool, true, false, cond, refl, sym, ◌∙◌, ap, ⊎_elim, length, arith}
use Rattle.sms_base.specs.Among.{Among}
use Rattle.sms_world_model.specs.World.{Sent, Carried, Bare, World}
use Rattle.sms_world_model.specs.WorldStep.{Step, Offer, Take, Take_again, Refuse, Offer_up, Offer_memory, Repeat_memory, Receive, Reject, Memory_free, Again, Control, after, Item, after_item, end}
use Rattle.sms_world_model.specs.Agreement.{FramesDiffer}

abbrev pub number_sent : Sent → ℕ
number_sent (Carried u) = u.number
number_sent (Bare n a) = n

-- numbered in the order sent
abbrev pub Numbered : List Sent → Type 0
Numbered [] = Unit {0}
Numbered (x ∷ xs) = (number_sent x ≡ length xs + 1) × Numbered xs

numbered_step : (w : World) (m : ℕ) (step : Step) → Numbered w.bag → Numbered (after w m step).bag
numbered_step w m (Offer g o) h = (refl, h)
numbered_step w m (Take u) h = (refl, h)
numbered_step w m (Take_again u) h = (refl, h)
numbered_step w m (Refuse u) h = (refl, h)
numbered_step w m (Offer_up g e o) h = (refl, h)
numbered_step w m (Offer_memory a n r) h = (refl, h)
numbered_step w m (Repeat_memory g n) h = (refl, h)
numbered_step w m (Receive u s ts) h = (refl, h)
numbered_step w m (Reject u) h = (refl, h)
numbered_step w m (Memory_free u) h = (refl, h)
numbered_step w m (Again u) h = (refl, h)
numbered_step w m (Control a) h = (refl, h)
numbered_step w m _ h = h

numbered_item : (w : World) (i : Item) → Numbered w.bag → Numbered (after_item w i).bag
numbered_item w i h = at i.stopped
  where
    at : (b : Bool) → Numbered (cond b w.bag (after w i.moment i.step).bag)
    at true = h
    at false = numbered_step w i.moment i.step h

pub numbered_run : (w : World) (items : List Item) → Numbered w.bag → Numbered (end w items).bag
numbered_run w [] h = h
numbered_run w (i ∷ is) h = numbered_run (after_item w i) is (numbered_item w i h)

pub below : (xs : List Sent) (x : Sent) → Numbered xs → Among x xs → number_sent x ≤ length xs
below [] x h i = absurd i
below (y ∷ ys) x h i =
    ⊎_elim
    (λ (e : x ≡ y). let q : number_sent x ≡ length ys + 1 = ap (λ (z : Sent). number_sent z) e ∙ h.0 in omega (arith, q))
    (λ (j : Among x ys). let l = below ys x h.1 j in omega (arith, l))
    i

pub one_number : (xs : List Sent) (x y : Sent) → Numbered xs → Among x xs → Among y xs → number_sent x ≡ number_sent y → x ≡ y
one_number [] x y h i j e = absurd i
one_number (z ∷ zs) x y h i j e =
    ⊎_elim
    (λ (a : x ≡ z). ⊎_elim
    (λ (b : y ≡ z). a ∙ sym b)
    (λ (b : Among y zs).
    let l = below zs y h.1 b in
    let q : number_sent x ≡ length zs + 1 = ap (λ (v : Sent). number_sent v) a ∙ h.0 in absurd (omega (arith, l, q, e))) j)
    (λ (a : Among x zs). ⊎_elim
    (λ (b : y ≡ z).
    let l = below zs x h.1 a in
    let q : number_sent y ≡ length zs + 1 = ap (λ (v : Sent). number_sent v) b ∙ h.0 in absurd (omega (arith, l, q, e)))
    (λ (b : Among y zs). one_number zs x y h.1 a b e) j)
    i

pub frames_differ : (w : World) → Numbered w.bag → FramesDiffer w
frames_differ w h u v i j e = let q : Carried u ≡ Carried v = one_number w.bag (Carried u) (Carried v) h i j e in cc

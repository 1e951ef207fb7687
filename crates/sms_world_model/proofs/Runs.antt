-- The same over whole runs.
use Rattle.std.proofs.Common.{◌≡◌, ℕ, List, [], ◌∷◌, ◌++◌, Bool, true, false, cond, refl, sym, ◌∙◌, ap, subst, inr, ⊎_elim}
use Rattle.sms_base.specs.Among.{Among}
use Rattle.sms_base.specs.declared.final_state.FinalState.TheVariants.{Expired, Deleted, Undeliverable}
use Rattle.sms_world_model.specs.World.{Pending, Final, Allocation, Sent, Carried, World, IsRecorded, SameReference, IsLatest, empty}
use Rattle.sms_world_model.specs.WorldStep.{Step, Submit, Offer, Take, Take_again, Refuse, Settle, Expire, Delete, Fail, Offer_up, Offer_memory, Repeat_memory, Receive, Reject, Memory_free, Again, Control, Can, after, marked, Item, after_item, Run, end}
use Rattle.sms_world_model.specs.Agreement.{MessagesStay, FinalForGood, HeldDiffer}
use Rattle.sms_world_model.proofs.Tables.{Grows, changed_grows, entered_grows}
use Rattle.sms_world_model.proofs.Sound.{Sound, IsSound, sound_bag, grows_same}
use Rattle.sms_world_model.proofs.Keeps.{sound_step, part_named}

-- no frame leaves the bag
pub bag_grows : (w : World) (m : ℕ) (step : Step) (x : Sent) → Among x w.bag → Among x (after w m step).bag
bag_grows w m (Offer g o) x i = inr i
bag_grows w m (Take u) x i = inr i
bag_grows w m (Take_again u) x i = inr i
bag_grows w m (Refuse u) x i = inr i
bag_grows w m (Offer_up g e first) x i = inr i
bag_grows w m (Offer_memory a n r) x i = inr i
bag_grows w m (Repeat_memory g n) x i = inr i
bag_grows w m (Receive u s rs) x i = inr i
bag_grows w m (Reject u) x i = inr i
bag_grows w m (Memory_free u) x i = inr i
bag_grows w m (Again u) x i = inr i
bag_grows w m (Control a) x i = inr i
bag_grows w m _ x i = i

pub sound_item : (w : World) (i : Item) → IsSound w → Can w i.moment i.step → IsSound (after_item w i)
sound_item w i h can = at i.stopped
  where
    v : World
    v = after w i.moment i.step

    at : (b : Bool) → Sound v.table v.receipts v.reports v.down v.accepted (cond b w.bag v.bag)
    at true = sound_bag v.table v.receipts v.reports v.down v.accepted v.bag (sound_step w i.moment i.step h can) w.bag (λ u x. bag_grows w i.moment i.step (Carried u) x)
    at false = sound_step w i.moment i.step h can

pub sound_run : (w : World) (items : List Item) → IsSound w → Run w items → IsSound (end w items)
sound_run w [] h run = h
sound_run w (i ∷ is) h run = sound_run (after_item w i) is (sound_item w i h run.0) run.1

pub sound_empty : IsSound empty
sound_empty = record {
  held = λ g i. absurd i;
  given = tt;
  known = λ g i. absurd i;
  single = λ g x i. absurd i;
  sent = λ u i. absurd i;
  offered = λ p i. absurd i;
  receipt = λ id f i. absurd i;
}

-- two latest allocations of one reference are one
pub latest_same : (g x : Allocation) (gs : List Allocation) → IsLatest g gs → IsLatest x gs → SameReference g x → g ≡ x
latest_same g x [] h k e = absurd h
latest_same g x (y ∷ ys) h k e =
    ⊎_elim
    (λ (p : g ≡ y). ⊎_elim
    (λ (q : x ≡ y). p ∙ sym q)
    (λ (q : ¬ SameReference x y × IsLatest x ys). absurd (q.0 (sym e.0 ∙ ap (λ (z : Allocation). z.handset) p, sym e.1 ∙ ap (λ (z : Allocation). z.reference) p))) k)
    (λ (p : ¬ SameReference g y × IsLatest g ys). ⊎_elim
    (λ (q : x ≡ y). absurd (p.0 (e.0 ∙ ap (λ (z : Allocation). z.handset) q, e.1 ∙ ap (λ (z : Allocation). z.reference) q)))
    (λ (q : ¬ SameReference x y × IsLatest x ys). latest_same g x ys p.1 q.1 e) k)
    h

pub held_differ : (w : World) → IsSound w → HeldDiffer w
held_differ w h g x i j a r = ap (λ (z : Allocation). z.holder) (latest_same g x w.down (h.held g i.0 i.1) (h.held x j.0 j.1) (a, r))

pub table_grows : (w : World) (m : ℕ) (step : Step) → Can w m step → Grows w.table (after w m step).table
table_grows w m (Submit s rs) can = entered_grows w.table s (Pending []) can.0
table_grows w m (Receive u s rs) can = entered_grows w.table s (Pending []) can.2.0
table_grows w m (Settle u g id k) can =
    let x = part_named w g id k can.1.0 can.1.1 in changed_grows w.table id (λ e. marked k e.submission.parts e.state) x.0 x.1 x.2.0
table_grows w m (Expire id) (s, done, x) = changed_grows w.table id (λ e. Final Expired) s done x.0
table_grows w m (Delete id) (s, done, x) = changed_grows w.table id (λ e. Final Deleted) s done x
table_grows w m (Fail u g id k) can =
    let x = part_named w g id k can.1.0 can.1.1 in changed_grows w.table id (λ e. Final Undeliverable) x.0 x.1 x.2.0
table_grows w m _ can = grows_same w.table

pub final_stays : (w : World) (items : List Item) → Run w items → FinalForGood w (end w items)
final_stays w [] run id s f h = h
final_stays w (i ∷ is) run id s f h =
    let y = table_grows w i.moment i.step run.0 id s (Final f) h in
    final_stays (after_item w i) is run.1 id s f (subst (λ z. IsRecorded (after w i.moment i.step).table id s z) y.1.1 y.1.0)

pub messages_stay : (w : World) (items : List Item) → Run w items → MessagesStay w (end w items)
messages_stay w [] run id s st h = (st, h)
messages_stay w (i ∷ is) run id s st h =
    let y = table_grows w i.moment i.step run.0 id s st h in
    messages_stay (after_item w i) is run.1 id s y.0 y.1.0

-- a run in two parts
pub run_parts : (w : World) (before later : List Item) → Run w (before ++ later) → Run w before × Run (end w before) later × (end w (before ++ later) ≡ end (end w before) later)
run_parts w [] later run = (tt, run, refl)
run_parts w (i ∷ is) later run = let x = run_parts (after_item w i) is later run.1 in ((run.0, x.0), x.1, x.2)

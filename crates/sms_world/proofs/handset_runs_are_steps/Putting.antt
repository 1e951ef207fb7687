-- What changes put, in order: of the last accepted, and of joined messages.
use Rattle.std.proofs.Common.{◌≡◌, ℕ, List, [], ◌∷◌, ◌++◌, Bool, refl, sym, ◌∙◌}
use Rattle.std.proofs.lemmas.Bool.{cond-true, cond-false, false_from_ne_true}
use Rattle.sms_rows.specs.declared.table.change.Change.{Change}
use Rattle.sms_handset_rows.specs.declared.inbox.entry.Entry.{Entry}
use Rattle.sms_handset_rows.specs.declared.inbox.last_accepted.LastAccepted.{LastAccepted}
use Rattle.sms_world_model.specs.World.{is_same_handset, Accepted, Joined, World, pair_of}
use Rattle.sms_world_model.specs.ScriptRun.{items}
use Rattle.sms_world_model.specs.Sides.{AllOfCentre, AllOfHandset, IsOfCentre, IsOfHandset}
use Rattle.sms_world_model.specs.WorldStep.{Step, Take, Join, after, after_item, end}
use Rattle.sms_world.specs.headline.SeenWorld.{JoinedText, accepted_at, joined_at, text_of}
use Rattle.sms_world.specs.handset_runs_are_steps.PutInOrder.{joined_by, joined_one, taken_by, taken_one}
use Rattle.sms_world.proofs.handset_runs_are_steps.OutboxRows.{digits_same, same_digits}

-- ---- one more change

pub taken_push : (h : List ℕ) (cs : List (Change LastAccepted)) (c : Change LastAccepted) (ps : List Accepted) → taken_by h (cs ++ c ∷ []) ps ≡ taken_one h c (taken_by h cs ps)
taken_push h [] c ps = refl
taken_push h (x ∷ xs) c ps = taken_push h xs c (taken_one h x ps)

pub joined_push : (cs : List (Change Entry)) (c : Change Entry) (js : List JoinedText) → joined_by (cs ++ c ∷ []) js ≡ joined_one c (joined_by cs js)
joined_push [] c js = refl
joined_push (x ∷ xs) c js = joined_push xs c (joined_one x js)

-- ---- one more of this handset

pub accepted_here : (h : List ℕ) (p : Accepted) (ps : List Accepted) → p.handset ≡ h → accepted_at h (p ∷ ps) ≡ p ∷ accepted_at h ps
accepted_here h p ps e = cond-true (is_same_handset p.handset h) (p ∷ accepted_at h ps) (accepted_at h ps) (same_digits p.handset h e)

pub joined_here : (h : List ℕ) (j : Joined) (js : List Joined) → j.handset ≡ h → joined_at h (j ∷ js) ≡ text_of j ∷ joined_at h js
joined_here h j js e = cond-true (is_same_handset j.handset h) (text_of j ∷ joined_at h js) (joined_at h js) (same_digits j.handset h e)

-- ---- what others do adds nothing of this handset

accepted_there : (h : List ℕ) (p : Accepted) (ps : List Accepted) → ¬ (p.handset ≡ h) → accepted_at h (p ∷ ps) ≡ accepted_at h ps
accepted_there h p ps ne =
    cond-false (is_same_handset p.handset h) (p ∷ accepted_at h ps) (accepted_at h ps) (false_from_ne_true (is_same_handset p.handset h) (λ t. ne (digits_same p.handset h t)))

joined_there : (h : List ℕ) (j : Joined) (js : List Joined) → ¬ (j.handset ≡ h) → joined_at h (j ∷ js) ≡ joined_at h js
joined_there h j js ne =
    cond-false (is_same_handset j.handset h) (text_of j ∷ joined_at h js) (joined_at h js) (false_from_ne_true (is_same_handset j.handset h) (λ t. ne (digits_same j.handset h t)))

abbrev pub Stays : List ℕ → World → World → Type 0
Stays h w v = (accepted_at h v.accepted ≡ accepted_at h w.accepted) × (joined_at h v.joined ≡ joined_at h w.joined)

other_step : (h g : List ℕ) (w : World) (m : ℕ) (s : Step) → ¬ (g ≡ h) → IsOfHandset g s → Stays h w (after w m s)
other_step h g w m (Take u) ne o = (accepted_there h (pair_of u) w.accepted (λ q. ne (sym o ∙ q)), refl)
other_step h g w m (Join j) ne o = (refl, joined_there h j w.joined (λ q. ne (sym o ∙ q)))
other_step h g w m _ ne o = (refl, refl)

centre_step : (h : List ℕ) (w : World) (m : ℕ) (s : Step) → IsOfCentre s → Stays h w (after w m s)
centre_step h w m (Take u) o = absurd o
centre_step h w m (Join j) o = absurd o
centre_step h w m _ o = (refl, refl)

pub others_stay : (h g : List ℕ) (w : World) (m : ℕ) (b : Bool) (ss : List Step) → ¬ (g ≡ h) → AllOfHandset g ss → Stays h w (end w (items m b ss))
others_stay h g w m b [] ne o = (refl, refl)
others_stay h g w m b (s ∷ ss) ne o =
    let x = other_step h g w m s ne o.0 in
    let y = others_stay h g (after_item w (record { step = s; moment = m; stopped = b })) m b ss ne o.1 in
    (y.0 ∙ x.0, y.1 ∙ x.1)

pub centre_stays : (h : List ℕ) (w : World) (m : ℕ) (b : Bool) (ss : List Step) → AllOfCentre ss → Stays h w (end w (items m b ss))
centre_stays h w m b [] o = (refl, refl)
centre_stays h w m b (s ∷ ss) o =
    let x = centre_step h w m s o.0 in
    let y = centre_stays h (after_item w (record { step = s; moment = m; stopped = b })) m b ss o.1 in
    (y.0 ∙ x.0, y.1 ∙ x.1)

-- While frames come in time on the centre's line, what counts as delivered was accepted. Nothing is asked of the handsets' own line.
use Rattle.std.proofs.Common.{◌≡◌, ℕ, List, [], ◌∷◌, ◌++◌, Bool, true, false, refl, sym, ◌∙◌, ap, subst, ⊎_elim}
use Rattle.sms_base.specs.Among.{Among}
use Rattle.sms_world_model.specs.WorldStep.{Run, after_item, end, Acknowledged, Can, Fail, Memory_free, Receive, Refuse, Refused, Reject, Settle, Step, Take, Take_again}
use Rattle.sms_world_model.specs.ScriptRun.{After, AllMayFollow, Asked, Before, Belongs, Cancelled, Event, Handed, Happening, IsInOrder, Reads, Removed, Restarted, Submitted, Tick_centre, Tick_handset, Went, Whole, Wrote, happened, is_stopped, items}
use Rattle.std.specs.Prelude.{◌⊎◌}
use Rattle.sms_world_model.specs.Premises.{HandsTimely, IsTimely, Timely}
use Rattle.sms_world_model.specs.World.{Carried, Down, Frame, World}
use Rattle.sms_world_model.proofs.Faithful.{IsFaithful, faithful_run, faithful_step}
use Rattle.sms_world_model.proofs.Runs.{sound_run}
use Rattle.sms_world_model.proofs.Scripts.{script_timely, follow_timely, control_timely, stays_timely}
use Rattle.sms_world_model.proofs.Sound.{IsSound}

-- a frame that is handed over and is of the centre's line is timely
abbrev pub HandsDown : World → Event → Type 0
HandsDown w (Handed n) = (u : Frame) → Among (Carried u) w.bag → u.number ≡ n → u.line ≡ Down → IsTimely w u
HandsDown w _ = Unit {0}

-- ---- steps that read no frame

pub follows_timely : (w : World) (m n : ℕ) (b : Bool) (ss : List Step) → AllMayFollow (Handed n) ss → Timely w (items m b ss)
follows_timely w m n b [] f = tt
follows_timely w m n b (s ∷ ss) f = (follow_timely w s f.0, follows_timely (after_item w (record { step = s; moment = m; stopped = b })) m n b ss f.1)

-- ---- the step that reads the frame

pub one_faithful : (w : World) (m : ℕ) (u : Frame) (s : Step) → Reads u s → (u.line ≡ Down → IsTimely w u) → IsSound w → IsFaithful w → Can w m s → IsFaithful (after_item w (record { step = s; moment = m; stopped = true }))
one_faithful w m u (Take x) r t sound h can =
    faithful_step w m (Take x) sound h can (subst (λ (z : Frame). IsTimely w z) (sym r) (t (ap (λ (z : Frame). z.line) (sym r) ∙ can.0.1)))
one_faithful w m u (Settle x g id n) r t sound h can =
    faithful_step w m (Settle x g id n) sound h can (subst (λ (z : Frame). IsTimely w z) (sym r) (t (ap (λ (z : Frame). z.line) (sym r) ∙ can.0.1)))
one_faithful w m u (Acknowledged x g e) r t sound h can = h
one_faithful w m u (Take_again x) r t sound h can = faithful_step w m (Take_again x) sound h can tt
one_faithful w m u (Refuse x) r t sound h can = faithful_step w m (Refuse x) sound h can tt
one_faithful w m u (Fail x g id n) r t sound h can = faithful_step w m (Fail x g id n) sound h can tt
one_faithful w m u (Receive x s ts) r t sound h can = faithful_step w m (Receive x s ts) sound h can tt
one_faithful w m u (Reject x) r t sound h can = faithful_step w m (Reject x) sound h can tt
one_faithful w m u (Memory_free x) r t sound h can = faithful_step w m (Memory_free x) sound h can tt
one_faithful w m u (Refused x g e st) r t sound h can = faithful_step w m (Refused x g e st) sound h can tt
one_faithful w m u _ r t sound h can = absurd r

-- ---- some steps and then others

pub run_parts : (w : World) (m : ℕ) (b : Bool) (a c : List Step) → Run w (items m b (a ++ c)) → Run w (items m b a) × Run (end w (items m b a)) (items m b c)
run_parts w m b [] c run = (tt, run)
run_parts w m b (s ∷ a) c run =
    let x = run_parts (after_item w (record { step = s; moment = m; stopped = b })) m b a c run.1 in ((run.0, x.0), x.1)

pub end_parts : (w : World) (m : ℕ) (b : Bool) (a c : List Step) → end w (items m b (a ++ c)) ≡ end (end w (items m b a)) (items m b c)
end_parts w m b [] c = refl
end_parts w m b (s ∷ a) c = end_parts (after_item w (record { step = s; moment = m; stopped = b })) m b a c

-- of one of the frame's steps, or none
own_faithful : (w v : World) (m n : ℕ) (b : Bool) (own : List Step)
    → (own ≡ []) ⊎ ((u : Frame) × (s : Step) × (Among (Carried u) w.bag × (u.number ≡ n) × Reads u s × (own ≡ s ∷ []))) → ((u : Frame) → IsTimely w u → IsTimely v u) → HandsDown w (Handed n)
    → IsSound v → IsFaithful v → Run v (items m b own) → IsFaithful (end v (items m b own))
own_faithful w v m n b own x more hands sound h run = ⊎_elim
    (λ (e : own ≡ []). subst (λ (ss : List Step). IsFaithful (end v (items m b ss))) (sym e) h)
    (λ (e : (u : Frame) × (s : Step) × (Among (Carried u) w.bag × (u.number ≡ n) × Reads u s × (own ≡ s ∷ []))).
    let one : Run v (items m b (e.1 ∷ [])) = subst (λ (ss : List Step). Run v (items m b ss)) e.2.3 run in
    subst (λ (ss : List Step). IsFaithful (end v (items m b ss))) (sym e.2.3)
    (one_faithful v m e.0 e.1 e.2.2 (λ l. more e.0 (hands e.0 e.2.0 e.2.1 l)) sound h one.0))
    x

handed_faithful : (w : World) (m n : ℕ) (b : Bool) (steps : List Step) → IsInOrder w (Handed n) steps → HandsDown w (Handed n) → IsSound w → IsFaithful w → Run w (items m b steps) → IsFaithful (end w (items m b steps))
handed_faithful w m n b steps (control, own, follows, x) hands sound h run =
    let whole : Run w (items m b (control ++ (own ++ follows))) = subst (λ (ss : List Step). Run w (items m b ss)) x.3 run in
    let first = run_parts w m b control (own ++ follows) whole in
    let v : World = end w (items m b control) in
    let second = run_parts v m b own follows first.1 in
    let z : World = end v (items m b own) in
    let sound_v : IsSound v = sound_run w (items m b control) sound first.0 in
    let sound_z : IsSound z = sound_run v (items m b own) sound_v second.0 in
    let at_v : IsFaithful v = faithful_run w (items m b control) sound h first.0 (control_timely w m b control x.0) in
    let at_z : IsFaithful z = own_faithful w v m n b own x.1 (λ u t. stays_timely w m b control u x.0 t) hands sound_v at_v second.0 in
    let at_end : IsFaithful (end z (items m b follows)) = faithful_run z (items m b follows) sound_z at_z second.1 (follows_timely z m n b follows x.2) in
    subst (λ (ss : List Step). IsFaithful (end w (items m b ss))) (sym x.3)
    (subst (λ (y : World). IsFaithful y) (sym (end_parts w m b control (own ++ follows) ∙ end_parts v m b own follows)) at_end)

-- ---- an event, however it went

other_faithful : (w : World) (h : Happening) (steps : List Step) → Belongs w h h.went steps → HandsTimely w h.event → Run w (happened h steps) → IsSound w → IsFaithful w → IsFaithful (end w (happened h steps))
other_faithful w h steps belongs hands run sound f =
    let x = script_timely w (end w (happened h steps)) (h ∷ []) (steps, (belongs, run, hands, refl)) in
    subst (λ (v : World). IsFaithful v) x.1.1 (faithful_run w x.0 sound f x.1.0 x.1.2)

handed_went : (w : World) (n m : ℕ) (went : Went) (steps : List Step) → Belongs w (record { event = Handed n; went = went; moment = m }) went steps → HandsDown w (Handed n)
    → Run w (items m (is_stopped went) steps) → IsSound w → IsFaithful w → IsFaithful (end w (items m (is_stopped went) steps))
handed_went w n m Whole steps belongs hands run sound f = handed_faithful w m n false steps belongs hands sound f run
handed_went w n m After steps belongs hands run sound f = handed_faithful w m n true steps belongs hands sound f run
handed_went w n m Before steps belongs hands run sound f = subst (λ (ss : List Step). IsFaithful (end w (items m true ss))) (sym belongs) f

pub event_faithful : (w : World) (event : Event) (went : Went) (m : ℕ) (steps : List Step) → Belongs w (record { event = event; went = went; moment = m }) went steps → HandsDown w event
    → Run w (items m (is_stopped went) steps) → IsSound w → IsFaithful w → IsFaithful (end w (items m (is_stopped went) steps))
event_faithful w (Handed n) went m steps belongs hands run sound f = handed_went w n m went steps belongs hands run sound f
event_faithful w Submitted went m steps belongs hands run sound f = other_faithful w (record { event = Submitted; went = went; moment = m }) steps belongs tt run sound f
event_faithful w Cancelled went m steps belongs hands run sound f = other_faithful w (record { event = Cancelled; went = went; moment = m }) steps belongs tt run sound f
event_faithful w Asked went m steps belongs hands run sound f = other_faithful w (record { event = Asked; went = went; moment = m }) steps belongs tt run sound f
event_faithful w Tick_centre went m steps belongs hands run sound f = other_faithful w (record { event = Tick_centre; went = went; moment = m }) steps belongs tt run sound f
event_faithful w Tick_handset went m steps belongs hands run sound f = other_faithful w (record { event = Tick_handset; went = went; moment = m }) steps belongs tt run sound f
event_faithful w Wrote went m steps belongs hands run sound f = other_faithful w (record { event = Wrote; went = went; moment = m }) steps belongs tt run sound f
event_faithful w Removed went m steps belongs hands run sound f = other_faithful w (record { event = Removed; went = went; moment = m }) steps belongs tt run sound f
event_faithful w Restarted went m steps belongs hands run sound f = other_faithful w (record { event = Restarted; went = went; moment = m }) steps belongs tt run sound f

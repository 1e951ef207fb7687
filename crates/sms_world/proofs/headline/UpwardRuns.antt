-- While frames come in time, what a handset counts as sent has its message.
use Rattle.std.proofs.Common.{◌≡◌, ℕ, List, [], ◌∷◌, ◌++◌, Bool, true, false, refl, sym, ◌∙◌, ap, subst, ⊎_elim}
use Rattle.std.specs.Prelude.{◌⊎◌}
use Rattle.sms_base.specs.Among.{Among}
use Rattle.sms_base.specs.declared.carried.Kind.TheVariants.{Ack}
use Rattle.sms_world_model.specs.WorldStep.{Run, after_item, end, Acknowledged, Again, Can, Control, HasReferenceUp, Settle, Step, Take}
use Rattle.sms_world_model.specs.ScriptRun.{After, AllControl, Asked, Before, Belongs, Cancelled, Event, Handed, Happening, IsInOrder, Reads, Removed, Restarted, Submitted, Tick_centre, Tick_handset, Went, Whole, Wrote, happened, is_stopped, items}
use Rattle.sms_world_model.specs.Premises.{HandsTimely, IsTimely, ReadsTimely}
use Rattle.sms_world_model.specs.World.{Down, Frame, Allocation, OutEntry, Up, World}
use Rattle.sms_world_model.proofs.Scripts.{script_timely, control_timely, stays_timely}
use Rattle.sms_world_model.proofs.Upward.{IsUpward, up_run}
use Rattle.sms_world.proofs.headline.AnswersTimely.{HandsAnswers}
use Rattle.sms_world.proofs.headline.FaithfulRuns.{HandsDown, end_parts, follows_timely, run_parts}
use Rattle.sms_world.proofs.headline.FreshRuns.{HandsOne}

-- control frames leave the outboxes, and what handsets gave
pub control_leaves : (w : World) (m : ℕ) (b : Bool) (ss : List Step) → AllControl ss → ((end w (items m b ss)).up ≡ w.up) × ((end w (items m b ss)).outbox ≡ w.outbox)
control_leaves w m b [] c = (refl, refl)
control_leaves w m b (Again u ∷ ss) c = control_leaves (after_item w (record { step = Again u; moment = m; stopped = b })) m b ss c.1
control_leaves w m b (Control a ∷ ss) c = control_leaves (after_item w (record { step = Control a; moment = m; stopped = b })) m b ss c.1
control_leaves w m b (_ ∷ ss) c = absurd c.0

-- what the step that reads the frame asks of it
module _ (w v : World) (u : Frame) (same : (v.up ≡ w.up) × (v.outbox ≡ w.outbox)) (more : IsTimely w u → IsTimely v u) (hands : u.line ≡ Down → IsTimely w u)
    (answers : u.line ≡ Up → u.kind ≡ Ack → (g : Allocation) (e : OutEntry) → HasReferenceUp w u g e → IsTimely w u) where
  held_before : (x : Frame) (g : Allocation) (e : OutEntry) → x ≡ u → HasReferenceUp v x g e → HasReferenceUp w u g e
  held_before x g e r has = (
    (
      subst (λ (gs : List Allocation). Among g gs) same.0 has.0.0,
      subst (λ (es : List OutEntry). Among e es) same.1 has.0.1,
      has.0.2,
      has.0.3,
      has.0.4,
    ),
    has.1 ∙ ap (λ (z : Frame). z.handset) r,
    has.2 ∙ ap (λ (z : Frame). z.reference) r,
  )

  pub reads_timely : (m : ℕ) (s : Step) → Reads u s → Can v m s → ReadsTimely v s
  reads_timely m (Take x) r can = subst (λ (z : Frame). IsTimely v z) (sym r) (more (hands (ap (λ (z : Frame). z.line) (sym r) ∙ can.0.1)))
  reads_timely m (Settle x g id n) r can = subst (λ (z : Frame). IsTimely v z) (sym r) (more (hands (ap (λ (z : Frame). z.line) (sym r) ∙ can.0.1)))
  reads_timely m (Acknowledged x g e) r can =
      subst (λ (z : Frame). IsTimely v z) (sym r)
      (more (answers (ap (λ (z : Frame). z.line) (sym r) ∙ can.0.1) (ap (λ (z : Frame). z.kind) (sym r) ∙ can.0.2) g e (held_before x g e r can.1)))
  reads_timely m _ r can = tt

-- ---- an event

own_upward : (w v : World) (m n : ℕ) (b : Bool) (own : List Step) → (own ≡ []) ⊎ HandsOne w n own → ((v.up ≡ w.up) × (v.outbox ≡ w.outbox)) → ((u : Frame) → IsTimely w u → IsTimely v u) → HandsDown w (Handed n)
    → HandsAnswers w (Handed n) → IsUpward v → Run v (items m b own) → IsUpward (end v (items m b own))
own_upward w v m n b own x same more hands answers h run = ⊎_elim
    (λ (e : own ≡ []). subst (λ (ss : List Step). IsUpward (end v (items m b ss))) (sym e) h)
    (λ (y : HandsOne w n own).
    let u : Frame = y.0 in
    let s : Step = y.1 in
    let one : Run v (items m b (s ∷ [])) = subst (λ (ss : List Step). Run v (items m b ss)) y.2.3 run in
    let timely : ReadsTimely v s = reads_timely w v u same (more u) (λ l. hands u y.2.0 y.2.1 l) (λ l k g e has. answers u y.2.0 y.2.1 l k g e has) m s y.2.2 one.0 in
    subst (λ (ss : List Step). IsUpward (end v (items m b ss))) (sym y.2.3) (up_run v (items m b (s ∷ [])) h one (timely, tt)))
    x

handed_upward : (w : World) (m n : ℕ) (b : Bool) (steps : List Step) → IsInOrder w (Handed n) steps → HandsDown w (Handed n) → HandsAnswers w (Handed n) → IsUpward w → Run w (items m b steps) → IsUpward (end w (items m b steps))
handed_upward w m n b steps (control, own, follows, x) hands answers h run =
    let whole : Run w (items m b (control ++ (own ++ follows))) = subst (λ (ss : List Step). Run w (items m b ss)) x.3 run in
    let first = run_parts w m b control (own ++ follows) whole in
    let v : World = end w (items m b control) in
    let second = run_parts v m b own follows first.1 in
    let z : World = end v (items m b own) in
    let at_v : IsUpward v = up_run w (items m b control) h first.0 (control_timely w m b control x.0) in
    let at_z : IsUpward z = own_upward w v m n b own x.1 (control_leaves w m b control x.0) (λ u t. stays_timely w m b control u x.0 t) hands answers at_v second.0 in
    let at_end : IsUpward (end z (items m b follows)) = up_run z (items m b follows) at_z second.1 (follows_timely z m n b follows x.2) in
    subst (λ (ss : List Step). IsUpward (end w (items m b ss))) (sym x.3)
    (subst (λ (y : World). IsUpward y) (sym (end_parts w m b control (own ++ follows) ∙ end_parts v m b own follows)) at_end)

other_upward : (w : World) (h : Happening) (steps : List Step) → Belongs w h h.went steps → HandsTimely w h.event → Run w (happened h steps) → IsUpward w → IsUpward (end w (happened h steps))
other_upward w h steps belongs hands run up =
    let x = script_timely w (end w (happened h steps)) (h ∷ []) (steps, (belongs, run, hands, refl)) in
    subst (λ (v : World). IsUpward v) x.1.1 (up_run w x.0 up x.1.0 x.1.2)

handed_went : (w : World) (n m : ℕ) (went : Went) (steps : List Step) → Belongs w (record { event = Handed n; went = went; moment = m }) went steps → HandsDown w (Handed n) → HandsAnswers w (Handed n)
    → Run w (items m (is_stopped went) steps) → IsUpward w → IsUpward (end w (items m (is_stopped went) steps))
handed_went w n m Whole steps belongs hands answers run h = handed_upward w m n false steps belongs hands answers h run
handed_went w n m After steps belongs hands answers run h = handed_upward w m n true steps belongs hands answers h run
handed_went w n m Before steps belongs hands answers run h = subst (λ (ss : List Step). IsUpward (end w (items m true ss))) (sym belongs) h

pub event_upward : (w : World) (event : Event) (went : Went) (m : ℕ) (steps : List Step) → Belongs w (record { event = event; went = went; moment = m }) went steps → HandsDown w event → HandsAnswers w event
    → Run w (items m (is_stopped went) steps) → IsUpward w → IsUpward (end w (items m (is_stopped went) steps))
event_upward w (Handed n) went m steps belongs hands answers run h = handed_went w n m went steps belongs hands answers run h
event_upward w Submitted went m steps belongs hands answers run h = other_upward w (record { event = Submitted; went = went; moment = m }) steps belongs tt run h
event_upward w Cancelled went m steps belongs hands answers run h = other_upward w (record { event = Cancelled; went = went; moment = m }) steps belongs tt run h
event_upward w Asked went m steps belongs hands answers run h = other_upward w (record { event = Asked; went = went; moment = m }) steps belongs tt run h
event_upward w Tick_centre went m steps belongs hands answers run h = other_upward w (record { event = Tick_centre; went = went; moment = m }) steps belongs tt run h
event_upward w Tick_handset went m steps belongs hands answers run h = other_upward w (record { event = Tick_handset; went = went; moment = m }) steps belongs tt run h
event_upward w Wrote went m steps belongs hands answers run h = other_upward w (record { event = Wrote; went = went; moment = m }) steps belongs tt run h
event_upward w Removed went m steps belongs hands answers run h = other_upward w (record { event = Removed; went = went; moment = m }) steps belongs tt run h
event_upward w Restarted went m steps belongs hands answers run h = other_upward w (record { event = Restarted; went = went; moment = m }) steps belongs tt run h

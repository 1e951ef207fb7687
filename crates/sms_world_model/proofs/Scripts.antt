-- A script of events is a list of steps; where frames that are handed over are timely, so are its steps.
use Rattle.std.proofs.Common.{◌≡◌, ℕ, List, [], ◌∷◌, ◌++◌, Bool, refl, sym, ◌∙◌, ap, subst, ⊎_elim}
use Rattle.sms_base.specs.Among.{Among}
use Rattle.sms_world_model.specs.Submission.{Submission}
use Rattle.sms_world_model.specs.World.{Allocation, Line, Down, Up, Frame, Sent, Carried, World, OutEntry, IsLatest, with_frames}
use Rattle.sms_world_model.specs.References.{Ticket}
use Rattle.sms_world_model.specs.WorldStep.{Step, Submit, Take, Settle, Delete, Expire, Remove, Acknowledged, Again, Control, Item, after_item, Run, end}
use Rattle.sms_world_model.specs.Premises.{allocations, IsTimely, ReadsTimely, Timely, Fresh, HandsTimely, PlaysTimely, PlaysFresh}
use Rattle.sms_world_model.specs.ScriptRun.{Event, Submitted, Cancelled, Asked, Handed, Tick_centre, Tick_handset, Wrote, Removed, Restarted, Went, Whole, Before, After, Happening, items, Follows, IsExpiry, MayFollow, Reads, AllControl, AllMayFollow, AllWrite, IsOwn, IsInOrder, IsPlayed, is_stopped, Belongs, happened, Plays}

-- ---- lists of steps

pub items_join : (m : ℕ) (b : Bool) (a c : List Step) → items m b (a ++ c) ≡ items m b a ++ items m b c
items_join m b [] c = refl
items_join m b (s ∷ a) c = ap (λ (l : List Item). record { step = s; moment = m; stopped = b } ∷ l) (items_join m b a c)

pub run_joins : (w : World) (a b : List Item) → Run w a → Run (end w a) b → Run w (a ++ b)
run_joins w [] b x y = y
run_joins w (i ∷ is) b x y = (x.0, run_joins (after_item w i) is b x.1 y)

pub end_joins : (w : World) (a b : List Item) → end w (a ++ b) ≡ end (end w a) b
end_joins w [] b = refl
end_joins w (i ∷ is) b = end_joins (after_item w i) is b

timely_joins : (w : World) (a b : List Item) → Timely w a → Timely (end w a) b → Timely w (a ++ b)
timely_joins w [] b x y = y
timely_joins w (i ∷ is) b x y = (x.0, timely_joins (after_item w i) is b x.1 y)

fresh_joins : (w : World) (a b : List Item) → Fresh w a → Fresh (end w a) b → Fresh w (a ++ b)
fresh_joins w [] b x y = y
fresh_joins w (i ∷ is) b x y = (x.0, fresh_joins (after_item w i) is b x.1 y)

-- ---- steps that read in time

pub same_allocations : (w : World) (bag : List Sent) (l : Line) → allocations w l ≡ allocations (with_frames bag w) l
same_allocations w bag Down = refl
same_allocations w bag Up = refl

-- frames alone change nothing of it
pub timely_frames : (w : World) (bag : List Sent) (u : Frame) → IsTimely w u → IsTimely (with_frames bag w) u
timely_frames w bag u (g, x) = (g, (subst (λ (gs : List Allocation). IsLatest g gs) (same_allocations w bag u.line) x.0, x.1, x.2, x.3))

pub follow_timely : (w : World) (s : Step) → Follows s → ReadsTimely w s
follow_timely w (Take u) f = absurd f
follow_timely w (Settle u g id n) f = absurd f
follow_timely w (Acknowledged u g e) f = absurd f
follow_timely w _ f = tt

expiry_timely : (w : World) (s : Step) → IsExpiry s → ReadsTimely w s
expiry_timely w (Expire id) x = tt
expiry_timely w _ x = absurd x

may_timely : (w : World) (event : Event) (s : Step) → MayFollow event s → ReadsTimely w s
may_timely w Tick_centre s f = ⊎_elim (λ (x : Follows s). follow_timely w s x) (λ (x : IsExpiry s). expiry_timely w s x) f
may_timely w _ s f = follow_timely w s f

read_timely : (w : World) (v : Frame) (s : Step) → Reads v s → IsTimely w v → ReadsTimely w s
read_timely w v (Take u) r t = subst (λ (x : Frame). IsTimely w x) (sym r) t
read_timely w v (Settle u g id n) r t = subst (λ (x : Frame). IsTimely w x) (sym r) t
read_timely w v (Acknowledged u g e) r t = subst (λ (x : Frame). IsTimely w x) (sym r) t
read_timely w v _ r t = tt

-- ---- events

follows_timely : (w : World) (m : ℕ) (b : Bool) (event : Event) (ss : List Step) → AllMayFollow event ss → Timely w (items m b ss)
follows_timely w m b event [] f = tt
follows_timely w m b event (s ∷ ss) f = (may_timely w event s f.0, follows_timely (after_item w (record { step = s; moment = m; stopped = b })) m b event ss f.1)

pub control_timely : (w : World) (m : ℕ) (b : Bool) (ss : List Step) → AllControl ss → Timely w (items m b ss)
control_timely w m b [] c = tt
control_timely w m b (Again u ∷ ss) c = (tt, control_timely (after_item w (record { step = Again u; moment = m; stopped = b })) m b ss c.1)
control_timely w m b (Control a ∷ ss) c = (tt, control_timely (after_item w (record { step = Control a; moment = m; stopped = b })) m b ss c.1)
control_timely w m b (_ ∷ ss) c = absurd c.0

-- what is timely stays so while control frames go
pub stays_timely : (w : World) (m : ℕ) (b : Bool) (ss : List Step) (u : Frame) → AllControl ss → IsTimely w u → IsTimely (end w (items m b ss)) u
stays_timely w m b [] u c t = t
stays_timely w m b (Again v ∷ ss) u c t =
    let x = after_item w (record { step = Again v; moment = m; stopped = b }) in stays_timely x m b ss u c.1 (timely_frames w x.bag u t)
stays_timely w m b (Control a ∷ ss) u c t =
    let x = after_item w (record { step = Control a; moment = m; stopped = b }) in stays_timely x m b ss u c.1 (timely_frames w x.bag u t)
stays_timely w m b (_ ∷ ss) u c t = absurd c.0

writes_timely : (w : World) (m : ℕ) (b : Bool) (ss : List Step) → AllWrite ss → Timely w (items m b ss)
writes_timely w m b [] x = tt
writes_timely w m b (s ∷ ss) x =
    (subst (λ (y : Step). ReadsTimely w y) (sym x.0.2) tt, writes_timely (after_item w (record { step = s; moment = m; stopped = b })) m b ss x.1)

-- no step, or one that reads in time
none_timely : (w : World) (m : ℕ) (b : Bool) (own : List Step) → own ≡ [] → Timely w (items m b own)
none_timely w m b own e = subst (λ ss. Timely w (items m b ss)) (sym e) tt

one_timely : (w : World) (m : ℕ) (b : Bool) (own : List Step) (s : Step) → own ≡ s ∷ [] → ReadsTimely w s → Timely w (items m b own)
one_timely w m b own s e t = subst (λ ss. Timely w (items m b ss)) (sym e) (t, tt)

own_timely : (w v : World) (m : ℕ) (b : Bool) (event : Event) (own : List Step) → IsOwn w event own → ((u : Frame) → IsTimely w u → IsTimely v u) → HandsTimely w event → Timely v (items m b own)
own_timely w v m b Submitted own x more t =
    ⊎_elim (λ (e : own ≡ []). none_timely v m b own e)
    (λ (e : (s : Submission) × (tickets : List Ticket) × (own ≡ Submit s tickets ∷ [])). one_timely v m b own (Submit e.0 e.1) e.2 tt) x
own_timely w v m b Cancelled own x more t =
    ⊎_elim (λ (e : own ≡ []). none_timely v m b own e)
    (λ (e : (id : ℕ) × (own ≡ Delete id ∷ [])). one_timely v m b own (Delete e.0) e.1 tt) x
own_timely w v m b Asked own x more t = none_timely v m b own x
own_timely w v m b (Handed n) own x more t =
    ⊎_elim (λ (e : own ≡ []). none_timely v m b own e)
    (λ (e : (u : Frame) × (s : Step) × (Among (Carried u) w.bag × (u.number ≡ n) × Reads u s × (own ≡ s ∷ []))).
    one_timely v m b own e.1 e.2.3 (read_timely v e.0 e.1 e.2.2 (more e.0 (t e.0 e.2.0 e.2.1)))) x
own_timely w v m b Tick_centre own x more t = none_timely v m b own x
own_timely w v m b Tick_handset own x more t = none_timely v m b own x
own_timely w v m b Wrote own x more t = writes_timely v m b own x
own_timely w v m b Removed own x more t =
    ⊎_elim (λ (e : own ≡ []). none_timely v m b own e)
    (λ (e : (y : OutEntry) × (own ≡ Remove y ∷ [])). one_timely v m b own (Remove e.0) e.1 tt) x
own_timely w v m b Restarted own x more t = none_timely v m b own x

order_timely : (w : World) (m : ℕ) (b : Bool) (event : Event) (steps : List Step) → IsInOrder w event steps → HandsTimely w event → Timely w (items m b steps)
order_timely w m b event steps (control, own, follows, x) t =
    let v = end w (items m b control) in
    subst (λ ss. Timely w (items m b ss)) (sym x.3)
    (subst (λ is. Timely w is) (sym (items_join m b control (own ++ follows)))
    (timely_joins w (items m b control) (items m b (own ++ follows))
    (control_timely w m b control x.0)
    (subst (λ is. Timely v is) (sym (items_join m b own follows))
    (timely_joins v (items m b own) (items m b follows)
    (own_timely w v m b event own x.1 (λ u. stays_timely w m b control u x.0) t)
    (follows_timely (end v (items m b own)) m b event follows x.2)))))

played_timely : (w : World) (m : ℕ) (b : Bool) (event : Event) (steps : List Step) → IsPlayed w event steps → HandsTimely w event → Timely w (items m b steps)
played_timely w m b Asked steps x t = none_timely w m b steps x
played_timely w m b Restarted steps x t = none_timely w m b steps x
played_timely w m b Submitted steps x t = order_timely w m b Submitted steps x t
played_timely w m b Cancelled steps x t = order_timely w m b Cancelled steps x t
played_timely w m b (Handed n) steps x t = order_timely w m b (Handed n) steps x t
played_timely w m b Tick_centre steps x t = order_timely w m b Tick_centre steps x t
played_timely w m b Tick_handset steps x t = order_timely w m b Tick_handset steps x t
played_timely w m b Wrote steps x t = order_timely w m b Wrote steps x t
played_timely w m b Removed steps x t = order_timely w m b Removed steps x t

event_timely : (w : World) (h : Happening) (went : Went) (b : Bool) (steps : List Step) → Belongs w h went steps → HandsTimely w h.event → Timely w (items h.moment b steps)
event_timely w h Whole b steps x t = played_timely w h.moment b h.event steps x t
event_timely w h After b steps x t = played_timely w h.moment b h.event steps x t
event_timely w h Before b steps x t = none_timely w h.moment b steps x

-- ---- scripts

pub script_steps : (w v : World) (hs : List Happening) → Plays w hs v → (is : List Item) × (Run w is × (end w is ≡ v))
script_steps w v [] p = ([], (tt, p))
script_steps w v (h ∷ hs) (steps, (belongs, run, rest)) =
    let a = happened h steps in
    let x = script_steps (end w a) v hs rest in
    (a ++ x.0, (run_joins w a x.0 run x.1.0, end_joins w a x.0 ∙ x.1.1))

pub script_timely : (w v : World) (hs : List Happening) → PlaysTimely w hs v → (is : List Item) × (Run w is × (end w is ≡ v) × Timely w is)
script_timely w v [] p = ([], (tt, p, tt))
script_timely w v (h ∷ hs) (steps, (belongs, run, hands, rest)) =
    let a = happened h steps in
    let x = script_timely (end w a) v hs rest in
    (a ++ x.0, (run_joins w a x.0 run x.1.0, end_joins w a x.0 ∙ x.1.1, timely_joins w a x.0 (event_timely w h h.went (is_stopped h.went) steps belongs hands) x.1.2))

pub script_fresh : (w v : World) (hs : List Happening) → PlaysFresh w hs v → (is : List Item) × (Run w is × (end w is ≡ v) × Timely w is × Fresh w is)
script_fresh w v [] p = ([], (tt, p, tt, tt))
script_fresh w v (h ∷ hs) (steps, (belongs, run, hands, fresh, rest)) =
    let a = happened h steps in
    let x = script_fresh (end w a) v hs rest in (
      a ++ x.0,
      (
        run_joins w a x.0 run x.1.0,
        end_joins w a x.0 ∙ x.1.1,
        timely_joins w a x.0 (event_timely w h h.went (is_stopped h.went) steps belongs hands) x.1.2,
        fresh_joins w a x.0 fresh x.1.3,
      ),
    )

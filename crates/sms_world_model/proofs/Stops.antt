-- A stopped event leaves the world from before it, or that from after it without the event's frames.
use Rattle.std.proofs.Common.{◌≡◌, ℕ, suc, List, [], ◌∷◌, ◌++◌, true, false, refl, sym, ◌∙◌, ap, subst, inl, inr, ⊎_elim}
use Rattle.sms_base.specs.Among.{Among}
use Rattle.sms_world_model.specs.Submission.{Submission}
use Rattle.sms_world_model.specs.World.{Frame, Sent, Carried, World, OutEntry, give, with_frames}
use Rattle.sms_world_model.specs.References.{Ticket, part_allocation, CanGiveParts}
use Rattle.sms_world_model.specs.WorldStep.{enter, Step, Submit, Offer, Take, Take_again, Refuse, Settle, Expire, Delete, Fail, Receipt, Status, Close, Join, Write, Remove, Offer_up, Offer_memory, Repeat_memory, Receive, Reject, Memory_free, Lapse, Acknowledged, Refused, Again, Control, Can, after, Run, end}
use Rattle.sms_world_model.specs.ScriptRun.{Event, Submitted, Cancelled, Asked, Handed, Tick_centre, Tick_handset, Wrote, Removed, Restarted, Went, Whole, Before, After, Happening, items, Follows, IsExpiry, MayFollow, Reads, AllControl, AllMayFollow, AllWrite, Belongs, IsOwn, IsInOrder, IsPlayed, Plays, happened}
use Rattle.sms_world_model.specs.Stops.{AllWent, IsAfterAll, Leads, LeadsWhole, IsBeforeOrAfter}
use Rattle.sms_world_model.specs.Sides.{IsOfCentre, IsOfHandset, AllOfCentre, AllOfHandset}
use Rattle.sms_world_model.proofs.Runs.{bag_grows}

-- ---- one step, with other frames

gives_kept : (w : World) (bag : List Sent) (s : Submission) (m n : ℕ) (ts : List Ticket) → CanGiveParts w s m n ts → CanGiveParts (with_frames bag w) s m n ts
gives_kept w bag s m n [] can = can
gives_kept w bag s m n (t ∷ ts) can = (can.0, can.1, gives_kept (give w (part_allocation s m n t)) bag s m (suc n) ts can.2)

-- the frame that the step reads, or copies, is one of these
abbrev Needs : List Sent → Step → Type 0
Needs bag (Take u) = Among (Carried u) bag
Needs bag (Take_again u) = Among (Carried u) bag
Needs bag (Refuse u) = Among (Carried u) bag
Needs bag (Settle u g id n) = Among (Carried u) bag
Needs bag (Fail u g id n) = Among (Carried u) bag
Needs bag (Receive u s ts) = Among (Carried u) bag
Needs bag (Reject u) = Among (Carried u) bag
Needs bag (Memory_free u) = Among (Carried u) bag
Needs bag (Acknowledged u g e) = Among (Carried u) bag
Needs bag (Refused u g e st) = Among (Carried u) bag
Needs bag (Again u) = Among (Carried u) bag
Needs bag _ = Unit {0}

needs : (w : World) (m : ℕ) (s : Step) → Can w m s → Needs w.bag s
needs w m (Take u) can = can.0.0
needs w m (Take_again u) can = can.0.0
needs w m (Refuse u) can = can.0.0
needs w m (Settle u g id n) can = can.0.0
needs w m (Fail u g id n) can = can.0.0
needs w m (Receive u s ts) can = can.0.0
needs w m (Reject u) can = can.0
needs w m (Memory_free u) can = can.0.0
needs w m (Acknowledged u g e) can = can.0.0
needs w m (Refused u g e st) can = can.0.0
needs w m (Again u) can = can
needs w m _ can = tt

needs_more : (a b : List Sent) (s : Step) → ((x : Sent) → Among x a → Among x b) → Needs a s → Needs b s
needs_more a b (Take u) more x = more (Carried u) x
needs_more a b (Take_again u) more x = more (Carried u) x
needs_more a b (Refuse u) more x = more (Carried u) x
needs_more a b (Settle u g id n) more x = more (Carried u) x
needs_more a b (Fail u g id n) more x = more (Carried u) x
needs_more a b (Receive u s ts) more x = more (Carried u) x
needs_more a b (Reject u) more x = more (Carried u) x
needs_more a b (Memory_free u) more x = more (Carried u) x
needs_more a b (Acknowledged u g e) more x = more (Carried u) x
needs_more a b (Refused u g e st) more x = more (Carried u) x
needs_more a b (Again u) more x = more (Carried u) x
needs_more a b _ more x = tt

-- all else that a step asks for hangs on no frame
can_with : (w : World) (bag : List Sent) (m : ℕ) (s : Step) → Needs bag s → Can w m s → Can (with_frames bag w) m s
can_with w bag m (Submit s ts) x can = (can.0, can.1, can.2, gives_kept (enter w s) bag s m 1 ts can.3)
can_with w bag m (Offer g o) x can = can
can_with w bag m (Take u) x can = ((x, can.0.1, can.0.2), can.1)
can_with w bag m (Take_again u) x can = ((x, can.0.1, can.0.2), can.1)
can_with w bag m (Refuse u) x can = ((x, can.0.1, can.0.2), can.1)
can_with w bag m (Settle u g id n) x can = ((x, can.0.1, can.0.2), can.1)
can_with w bag m (Expire id) x can = can
can_with w bag m (Delete id) x can = can
can_with w bag m (Fail u g id n) x can = ((x, can.0.1, can.0.2), can.1)
can_with w bag m (Receipt s f) x can = can
can_with w bag m (Status s f t) x can = can
can_with w bag m (Close id) x can = can
can_with w bag m (Join j) x can = can
can_with w bag m (Write e r) x can = can
can_with w bag m (Remove e) x can = can
can_with w bag m (Offer_up g e o) x can = can
can_with w bag m (Offer_memory a n r) x can = can
can_with w bag m (Repeat_memory g n) x can = can
can_with w bag m (Receive u s ts) x can = ((x, can.0.1, can.0.2), can.1, (can.2.0, can.2.1, can.2.2, gives_kept (enter w s) bag s m 1 ts can.2.3))
can_with w bag m (Reject u) x can = (x, can.1, can.2)
can_with w bag m (Memory_free u) x can = ((x, can.0.1, can.0.2), can.1)
can_with w bag m (Lapse e st) x can = can
can_with w bag m (Acknowledged u g e) x can = ((x, can.0.1, can.0.2), can.1)
can_with w bag m (Refused u g e st) x can = ((x, can.0.1, can.0.2), can.1, can.2)
can_with w bag m (Again u) x can = x
can_with w bag m (Control a) x can = can

after_with : (w : World) (bag : List Sent) (m : ℕ) (s : Step) → with_frames bag (after w m s) ≡ with_frames bag (after (with_frames bag w) m s)
after_with w bag m (Submit s ts) = refl
after_with w bag m _ = refl

-- ---- from a stopped event to the whole one

whole_run : (w : World) (bag : List Sent) (m : ℕ) (ss : List Step) → ((x : Sent) → Among x bag → Among x w.bag) → Run (with_frames bag w) (items m true ss)
    → Run w (items m false ss) × (end (with_frames bag w) (items m true ss) ≡ with_frames bag (end w (items m false ss)))
whole_run w bag m [] more run = (tt, refl)
whole_run w bag m (s ∷ ss) more run =
    let e : with_frames bag (after (with_frames bag w) m s) ≡ with_frames bag (after w m s) = sym (after_with w bag m s) in
    let rest = whole_run (after w m s) bag m ss (λ x i. bag_grows w m s x (more x i)) (subst (λ v. Run v (items m true ss)) e run.1) in
    let can = can_with (with_frames bag w) w.bag m s (needs_more bag w.bag s more (needs (with_frames bag w) m s run.0)) run.0 in
    ((can, rest.0), ap (λ (v : World). end v (items m true ss)) e ∙ rest.1)

-- ---- from a whole event to the stopped one

-- the step, unless it changes the bag alone
abbrev with_act : Step → List Step → List Step
with_act (Again u) ss = ss
with_act (Control a) ss = ss
with_act s ss = s ∷ ss

abbrev acts : List Step → List Step
acts [] = []
acts (s ∷ ss) = with_act s (acts ss)

-- the frame that the step reads is one of these
abbrev ReadsFrom : List Sent → Step → Type 0
ReadsFrom bag (Again u) = Unit {0}
ReadsFrom bag s = Needs bag s

abbrev AllReadFrom : List Sent → List Step → Type 0
AllReadFrom bag [] = Unit {0}
AllReadFrom bag (s ∷ ss) = ReadsFrom bag s × AllReadFrom bag ss

stop_one : (w v : World) (bag : List Sent) (m : ℕ) (s : Step) (ss : List Step) → Needs bag s → Can w m s
    → Run (with_frames bag (after w m s)) (items m true ss) × (end (with_frames bag (after w m s)) (items m true ss) ≡ v)
    → Run (with_frames bag w) (items m true (s ∷ ss)) × (end (with_frames bag w) (items m true (s ∷ ss)) ≡ v)
stop_one w v bag m s ss x can rest =
    let e = after_with w bag m s in
    ((can_with w bag m s x can, subst (λ y. Run y (items m true ss)) e rest.0), ap (λ (y : World). end y (items m true ss)) (sym e) ∙ rest.1)

stop_step : (w v : World) (bag : List Sent) (m : ℕ) (s : Step) (ss : List Step) → ReadsFrom bag s → Can w m s
    → Run (with_frames bag (after w m s)) (items m true ss) × (end (with_frames bag (after w m s)) (items m true ss) ≡ v)
    → Run (with_frames bag w) (items m true (with_act s ss)) × (end (with_frames bag w) (items m true (with_act s ss)) ≡ v)
stop_step w v bag m (Again u) ss x can rest = rest
stop_step w v bag m (Control a) ss x can rest = rest
stop_step w v bag m s ss x can rest = stop_one w v bag m s ss x can rest

stop_run : (w : World) (bag : List Sent) (m : ℕ) (ss : List Step) → AllReadFrom bag ss → Run w (items m false ss)
    → Run (with_frames bag w) (items m true (acts ss)) × (end (with_frames bag w) (items m true (acts ss)) ≡ with_frames bag (end w (items m false ss)))
stop_run w bag m [] x run = (tt, refl)
stop_run w bag m (s ∷ ss) x run =
    stop_step w (with_frames bag (end (after w m s) (items m false ss))) bag m s (acts ss) x.0 run.0 (stop_run (after w m s) bag m ss x.1 run.1)

-- ---- the stopped event is in order

join_act : (s : Step) (a b : List Step) → with_act s (a ++ b) ≡ with_act s a ++ b
join_act (Again u) a b = refl
join_act (Control h) a b = refl
join_act _ a b = refl

acts_join : (a b : List Step) → acts (a ++ b) ≡ acts a ++ acts b
acts_join [] b = refl
acts_join (s ∷ a) b = ap (λ (l : List Step). with_act s l) (acts_join a b) ∙ join_act s (acts a) (acts b)

control_acts : (ss : List Step) → AllControl ss → acts ss ≡ []
control_acts [] c = refl
control_acts (Again u ∷ ss) c = control_acts ss c.1
control_acts (Control a ∷ ss) c = control_acts ss c.1
control_acts (_ ∷ ss) c = absurd c.0

read_acts : (u : Frame) (s : Step) → Reads u s → acts (s ∷ []) ≡ s ∷ []
read_acts u (Again v) r = absurd r
read_acts u (Control a) r = absurd r
read_acts u _ r = refl

write_acts : (ss : List Step) → AllWrite ss → acts ss ≡ ss
write_acts [] x = refl
write_acts (s ∷ ss) x =
    subst (λ (y : Step). with_act y (acts ss) ≡ y ∷ ss) (sym x.0.2) (ap (λ (l : List Step). Write x.0.0 x.0.1 ∷ l) (write_acts ss x.1))

one_act : (own : List Step) (s : Step) → own ≡ s ∷ [] → acts (s ∷ []) ≡ s ∷ [] → acts own ≡ own
one_act own s e same = subst (λ (l : List Step). acts l ≡ l) (sym e) same

no_act : (own : List Step) → own ≡ [] → acts own ≡ own
no_act own e = subst (λ (l : List Step). acts l ≡ l) (sym e) refl

own_acts : (w : World) (event : Event) (own : List Step) → IsOwn w event own → acts own ≡ own
own_acts w Submitted own x =
    ⊎_elim (λ (e : own ≡ []). no_act own e) (λ (e : (s : Submission) × (tickets : List Ticket) × (own ≡ Submit s tickets ∷ [])). one_act own (Submit e.0 e.1) e.2 refl) x
own_acts w Cancelled own x = ⊎_elim (λ (e : own ≡ []). no_act own e) (λ (e : (id : ℕ) × (own ≡ Delete id ∷ [])). one_act own (Delete e.0) e.1 refl) x
own_acts w Asked own x = no_act own x
own_acts w (Handed n) own x =
    ⊎_elim (λ (e : own ≡ []). no_act own e)
    (λ (e : (u : Frame) × (s : Step) × (Among (Carried u) w.bag × (u.number ≡ n) × Reads u s × (own ≡ s ∷ []))). one_act own e.1 e.2.3 (read_acts e.0 e.1 e.2.2)) x
own_acts w Tick_centre own x = no_act own x
own_acts w Tick_handset own x = no_act own x
own_acts w Wrote own x = write_acts own x
own_acts w Removed own x = ⊎_elim (λ (e : own ≡ []). no_act own e) (λ (e : (y : OutEntry) × (own ≡ Remove y ∷ [])). one_act own (Remove e.0) e.1 refl) x
own_acts w Restarted own x = no_act own x

may_act : (event : Event) (s : Step) (ss : List Step) → MayFollow event s → AllMayFollow event ss → AllMayFollow event (with_act s ss)
may_act event (Again u) ss x rest = rest
may_act event (Control a) ss x rest = rest
may_act event s ss x rest = (x, rest)

may_acts : (event : Event) (ss : List Step) → AllMayFollow event ss → AllMayFollow event (acts ss)
may_acts event [] x = tt
may_acts event (s ∷ ss) x = may_act event s (acts ss) x.0 (may_acts event ss x.1)

order_acts : (w : World) (event : Event) (ss : List Step) → IsInOrder w event ss → IsInOrder w event (acts ss)
order_acts w event ss (control, own, follows, x) = (
  [],
  own,
  acts follows,
  (
    tt,
    x.1,
    may_acts event follows x.2,
    ap acts x.3
        ∙ acts_join control (own ++ follows)
        ∙ ap (λ (l : List Step). l ++ acts (own ++ follows)) (control_acts control x.0)
        ∙ acts_join own follows
        ∙ ap (λ (l : List Step). l ++ acts follows) (own_acts w event own x.1),
  ),
)

-- ---- which frames an event reads

control_reads : (bag : List Sent) (ss : List Step) → AllControl ss → AllReadFrom bag ss
control_reads bag [] c = tt
control_reads bag (Again u ∷ ss) c = (tt, control_reads bag ss c.1)
control_reads bag (Control a ∷ ss) c = (tt, control_reads bag ss c.1)
control_reads bag (_ ∷ ss) c = absurd c.0

follow_reads : (bag : List Sent) (s : Step) → Follows s → ReadsFrom bag s
follow_reads bag (Take u) f = absurd f
follow_reads bag (Take_again u) f = absurd f
follow_reads bag (Refuse u) f = absurd f
follow_reads bag (Settle u g id n) f = absurd f
follow_reads bag (Fail u g id n) f = absurd f
follow_reads bag (Receive u s ts) f = absurd f
follow_reads bag (Reject u) f = absurd f
follow_reads bag (Memory_free u) f = absurd f
follow_reads bag (Acknowledged u g e) f = absurd f
follow_reads bag (Refused u g e st) f = absurd f
follow_reads bag _ f = tt

expiry_reads : (bag : List Sent) (s : Step) → IsExpiry s → ReadsFrom bag s
expiry_reads bag (Expire id) x = tt
expiry_reads bag _ x = absurd x

may_reads : (bag : List Sent) (event : Event) (s : Step) → MayFollow event s → ReadsFrom bag s
may_reads bag Tick_centre s f = ⊎_elim (λ (x : Follows s). follow_reads bag s x) (λ (x : IsExpiry s). expiry_reads bag s x) f
may_reads bag _ s f = follow_reads bag s f

follows_read : (bag : List Sent) (event : Event) (ss : List Step) → AllMayFollow event ss → AllReadFrom bag ss
follows_read bag event [] x = tt
follows_read bag event (s ∷ ss) x = (may_reads bag event s x.0, follows_read bag event ss x.1)

read_reads : (bag : List Sent) (u : Frame) (s : Step) → Reads u s → Among (Carried u) bag → ReadsFrom bag s
read_reads bag u (Take v) r i = subst (λ (x : Frame). Among (Carried x) bag) (sym r) i
read_reads bag u (Take_again v) r i = subst (λ (x : Frame). Among (Carried x) bag) (sym r) i
read_reads bag u (Refuse v) r i = subst (λ (x : Frame). Among (Carried x) bag) (sym r) i
read_reads bag u (Settle v g id n) r i = subst (λ (x : Frame). Among (Carried x) bag) (sym r) i
read_reads bag u (Fail v g id n) r i = subst (λ (x : Frame). Among (Carried x) bag) (sym r) i
read_reads bag u (Receive v s ts) r i = subst (λ (x : Frame). Among (Carried x) bag) (sym r) i
read_reads bag u (Reject v) r i = subst (λ (x : Frame). Among (Carried x) bag) (sym r) i
read_reads bag u (Memory_free v) r i = subst (λ (x : Frame). Among (Carried x) bag) (sym r) i
read_reads bag u (Acknowledged v g e) r i = subst (λ (x : Frame). Among (Carried x) bag) (sym r) i
read_reads bag u (Refused v g e st) r i = subst (λ (x : Frame). Among (Carried x) bag) (sym r) i
read_reads bag u _ r i = absurd r

write_reads : (bag : List Sent) (ss : List Step) → AllWrite ss → AllReadFrom bag ss
write_reads bag [] x = tt
write_reads bag (s ∷ ss) x = (subst (λ (y : Step). ReadsFrom bag y) (sym x.0.2) tt, write_reads bag ss x.1)

no_reads : (bag : List Sent) (own : List Step) → own ≡ [] → AllReadFrom bag own
no_reads bag own e = subst (λ ss. AllReadFrom bag ss) (sym e) tt

one_reads : (bag : List Sent) (own : List Step) (s : Step) → own ≡ s ∷ [] → ReadsFrom bag s → AllReadFrom bag own
one_reads bag own s e x = subst (λ ss. AllReadFrom bag ss) (sym e) (x, tt)

own_reads : (w : World) (event : Event) (own : List Step) → IsOwn w event own → AllReadFrom w.bag own
own_reads w Submitted own x =
    ⊎_elim (λ (e : own ≡ []). no_reads w.bag own e) (λ (e : (s : Submission) × (tickets : List Ticket) × (own ≡ Submit s tickets ∷ [])). one_reads w.bag own (Submit e.0 e.1) e.2 tt) x
own_reads w Cancelled own x = ⊎_elim (λ (e : own ≡ []). no_reads w.bag own e) (λ (e : (id : ℕ) × (own ≡ Delete id ∷ [])). one_reads w.bag own (Delete e.0) e.1 tt) x
own_reads w Asked own x = no_reads w.bag own x
own_reads w (Handed n) own x =
    ⊎_elim (λ (e : own ≡ []). no_reads w.bag own e)
    (λ (e : (u : Frame) × (s : Step) × (Among (Carried u) w.bag × (u.number ≡ n) × Reads u s × (own ≡ s ∷ []))). one_reads w.bag own e.1 e.2.3 (read_reads w.bag e.0 e.1 e.2.2 e.2.0)) x
own_reads w Tick_centre own x = no_reads w.bag own x
own_reads w Tick_handset own x = no_reads w.bag own x
own_reads w Wrote own x = write_reads w.bag own x
own_reads w Removed own x = ⊎_elim (λ (e : own ≡ []). no_reads w.bag own e) (λ (e : (y : OutEntry) × (own ≡ Remove y ∷ [])). one_reads w.bag own (Remove e.0) e.1 tt) x
own_reads w Restarted own x = no_reads w.bag own x

reads_join : (bag : List Sent) (a b : List Step) → AllReadFrom bag a → AllReadFrom bag b → AllReadFrom bag (a ++ b)
reads_join bag [] b x y = y
reads_join bag (s ∷ a) b x y = (x.0, reads_join bag a b x.1 y)

order_reads : (w : World) (event : Event) (ss : List Step) → IsInOrder w event ss → AllReadFrom w.bag ss
order_reads w event ss (control, own, follows, x) =
    subst (λ l. AllReadFrom w.bag l) (sym x.3)
    (reads_join w.bag control (own ++ follows) (control_reads w.bag control x.0)
    (reads_join w.bag own follows (own_reads w event own x.1) (follows_read w.bag event follows x.2)))

-- ---- the claims

-- an event that may be played whole may be stopped after its store call
stop_played : (w : World) (event : Event) (ss : List Step) → IsPlayed w event ss → IsPlayed w event (acts ss) × AllReadFrom w.bag ss
stop_played w Asked ss x = (ap acts x, no_reads w.bag ss x)
stop_played w Restarted ss x = (ap acts x, no_reads w.bag ss x)
stop_played w Submitted ss x = (order_acts w Submitted ss x, order_reads w Submitted ss x)
stop_played w Cancelled ss x = (order_acts w Cancelled ss x, order_reads w Cancelled ss x)
stop_played w (Handed n) ss x = (order_acts w (Handed n) ss x, order_reads w (Handed n) ss x)
stop_played w Tick_centre ss x = (order_acts w Tick_centre ss x, order_reads w Tick_centre ss x)
stop_played w Tick_handset ss x = (order_acts w Tick_handset ss x, order_reads w Tick_handset ss x)
stop_played w Wrote ss x = (order_acts w Wrote ss x, order_reads w Wrote ss x)
stop_played w Removed ss x = (order_acts w Removed ss x, order_reads w Removed ss x)

pub may_stop : (w x : World) (event : Event) (m : ℕ) → Leads w (record { event = event; went = Whole; moment = m }) x
    → Leads w (record { event = event; went = After; moment = m }) (with_frames w.bag x)
may_stop w x event m (ss, (played, run, e)) =
    let stop = stop_played w event ss played in
    let rest = stop_run w w.bag m ss stop.1 run in
    (acts ss, (stop.0, rest.0, rest.1 ∙ ap (λ (y : World). with_frames w.bag y) e))

act_mine : (h : List ℕ) (s : Step) (ss : List Step) → IsOfHandset h s → AllOfHandset h ss → AllOfHandset h (with_act s ss)
act_mine h (Again u) ss o a = a
act_mine h (Control x) ss o a = a
act_mine h s ss o a = (o, a)

acts_mine : (h : List ℕ) (ss : List Step) → AllOfHandset h ss → AllOfHandset h (acts ss)
acts_mine h [] o = tt
acts_mine h (s ∷ ss) o = act_mine h s (acts ss) o.0 (acts_mine h ss o.1)

-- what is stopped of a handset's event is the handset's own
pub stopped_so : (h : List ℕ) (w : World) (event : Event) (m : ℕ) (ss : List Step) → IsPlayed w event ss → AllOfHandset h ss → Run w (items m false ss)
    → (rs : List Step) × ((IsPlayed w event rs × AllOfHandset h rs) × Run w (items m true rs) × (end w (items m true rs) ≡ with_frames w.bag (end w (items m false ss))))
stopped_so h w event m ss played mine run =
    let stop = stop_played w event ss played in
    let rest = stop_run w w.bag m ss stop.1 run in
    (acts ss, ((stop.0, acts_mine h ss mine), rest.0, rest.1))

act_centre : (s : Step) (ss : List Step) → IsOfCentre s → AllOfCentre ss → AllOfCentre (with_act s ss)
act_centre (Again u) ss o a = a
act_centre (Control x) ss o a = a
act_centre s ss o a = (o, a)

acts_centre : (ss : List Step) → AllOfCentre ss → AllOfCentre (acts ss)
acts_centre [] o = tt
acts_centre (s ∷ ss) o = act_centre s (acts ss) o.0 (acts_centre ss o.1)

-- what is stopped of the centre's event is the centre's own
pub centre_stopped_so : (w : World) (event : Event) (m : ℕ) (ss : List Step) → IsPlayed w event ss → AllOfCentre ss → Run w (items m false ss)
    → (rs : List Step) × ((IsPlayed w event rs × AllOfCentre rs) × Run w (items m true rs) × (end w (items m true rs) ≡ with_frames w.bag (end w (items m false ss))))
centre_stopped_so w event m ss played own run =
    let stop = stop_played w event ss played in
    let rest = stop_run w w.bag m ss stop.1 run in
    (acts ss, ((stop.0, acts_centre ss own), rest.0, rest.1))

-- after its store call it leaves the world from after it without its frames
after_leaves : (w v : World) (event : Event) (m : ℕ) → Leads w (record { event = event; went = After; moment = m }) v
    → (x : World) × (LeadsWhole w (record { event = event; went = After; moment = m }) x × (v ≡ with_frames w.bag x))
after_leaves w v event m (ss, (played, run, e)) =
    let rest = whole_run w w.bag m ss (λ x i. i) run in
    (end w (items m false ss), ((ss, (played, rest.0, refl)), sym e ∙ rest.1))

stop_leaves_in : (w v : World) (event : Event) (went : Went) (m : ℕ) → ¬ (went ≡ Whole) → Leads w (record { event = event; went = went; moment = m }) v
    → IsBeforeOrAfter w (record { event = event; went = went; moment = m }) v
stop_leaves_in w v event Whole m n x = absurd (n refl)
stop_leaves_in w v event Before m n (ss, (none, run, e)) = inl (sym e ∙ ap (λ (l : List Step). end w (items m true l)) none)
stop_leaves_in w v event After m n leads = inr (after_leaves w v event m leads)

pub stop_leaves : (w v : World) (h : Happening) → ¬ (h.went ≡ Whole) → Leads w h v → IsBeforeOrAfter w h v
stop_leaves w v h n x = stop_leaves_in w v h.event h.went h.moment n x

-- ---- a group of events

after_event : (w v : World) (event : Event) (went : Went) (m : ℕ) → went ≡ After → Leads w (record { event = event; went = went; moment = m }) v
    → (x : World) × (LeadsWhole w (record { event = event; went = went; moment = m }) x × (v ≡ with_frames w.bag x))
after_event w v event Whole m is leads = absurd cc
after_event w v event Before m is leads = absurd cc
after_event w v event After m is leads = after_leaves w v event m leads

pub all_after : (w v : World) (group : List Happening) → AllWent After group → Plays w group v → IsAfterAll w group v × (v.bag ≡ w.bag)
all_after w v [] went plays = (sym plays, ap (λ (x : World). x.bag) (sym plays))
all_after w v (h ∷ group) went (ss, (belongs, run, plays)) =
    let y = end w (happened h ss) in
    let one = after_event w y h.event h.went h.moment went.0 (ss, (belongs, run, refl)) in
    let rest = all_after y v group went.1 plays in (
      (one.0, (one.1.0, subst (λ (x : World). IsAfterAll x group v) one.1.1 rest.0)),
      rest.1 ∙ ap (λ (x : World). x.bag) one.1.1,
    )

before_event : (w : World) (event : Event) (went : Went) (m : ℕ) (ss : List Step) → went ≡ Before → Belongs w (record { event = event; went = went; moment = m }) went ss
    → end w (happened (record { event = event; went = went; moment = m }) ss) ≡ w
before_event w event Whole m ss is belongs = absurd cc
before_event w event Before m ss is belongs = ap (λ (l : List Step). end w (items m true l)) belongs
before_event w event After m ss is belongs = absurd cc

pub all_before : (w v : World) (group : List Happening) → AllWent Before group → Plays w group v → v ≡ w
all_before w v [] went plays = sym plays
all_before w v (h ∷ group) went (ss, (belongs, run, plays)) =
    all_before (end w (happened h ss)) v group went.1 plays ∙ before_event w h.event h.went h.moment ss went.0 belongs

-- ---- a run that stops in a group

plays_cut : (w v : World) (earlier group : List Happening) → Plays w (earlier ++ group) v → (x : World) × (Plays w earlier x × Plays x group v)
plays_cut w v [] group plays = (w, (refl, plays))
plays_cut w v (h ∷ earlier) group (ss, (belongs, run, plays)) =
    let rest = plays_cut (end w (happened h ss)) v earlier group plays in (rest.0, ((ss, (belongs, run, rest.1.0)), rest.1.1))

pub stops_before : (w v : World) (earlier group : List Happening) → AllWent Before group → Plays w (earlier ++ group) v → Plays w earlier v
stops_before w v earlier group went plays =
    let cut = plays_cut w v earlier group plays in
    subst (λ (x : World). Plays w earlier x) (sym (all_before cut.0 v group went cut.1.1)) cut.1.0

pub stops_after : (w v : World) (earlier group : List Happening) → AllWent After group → Plays w (earlier ++ group) v
    → (x : World) × (Plays w earlier x × IsAfterAll x group v × (v.bag ≡ x.bag))
stops_after w v earlier group went plays =
    let cut = plays_cut w v earlier group plays in
    let stop = all_after cut.0 v group went cut.1.1 in (cut.0, (cut.1.0, stop.0, stop.1))

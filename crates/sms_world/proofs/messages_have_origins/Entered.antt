-- A message comes into the world's table by an event's own step, where the event submits or hands over a frame, and by no other.
use Rattle.std.proofs.Common.{◌≡◌, ◌⊎◌, inl, inr, ℕ, List, [], ◌∷◌, ◌++◌, Bool, true, false, Some, sym, ◌∙◌, ap, subst, ⊎_elim}
use Rattle.std.specs.Prelude.{◌==◌}
use Rattle.std.proofs.lemmas.Bool.{cases_Bool, cond-false, cond-true, cond_both}
use Rattle.std.proofs.lemmas.Option.{same_Some}
use Rattle.sms_base.specs.Among.{Among}
use Rattle.sms_base.specs.declared.carried.Kind.TheVariants.{Data}
use Rattle.sms_base.specs.declared.final_state.FinalState.TheVariants.{Deleted, Expired, Undeliverable}
use Rattle.sms_world_model.specs.WorldStep.{Run, after_item, end, Asks, Can, Delete, Expire, Fail, Receive, Remove, Settle, Step, Submit, Take, after, marked}
use Rattle.sms_world_model.specs.ScriptRun.{After, Asked, Before, Belongs, Cancelled, Event, Handed, Happening, IsInOrder, IsOwn, IsPlayed, Reads, Removed, Restarted, Submitted, Tick_centre, Tick_handset, Went, Whole, Wrote, is_stopped, items}
use Rattle.sms_world_model.specs.Submission.{Submission}
use Rattle.sms_world_model.specs.World.{Carried, Final, Frame, Message, OutEntry, Pending, IsRecorded, State, Up, World, changed, find}
use Rattle.sms_world_model.proofs.Tables.{entered_back}
use Rattle.sms_world.proofs.headline.FaithfulRuns.{end_parts, run_parts}
use Rattle.sms_world.proofs.headline.FreshRuns.{AllQuiet, HandsOne, IsQuiet, control_quiet, follows_quiet, writes_quiet}

-- the message of that id is that submission, whatever its state
abbrev pub IsInTable : ℕ → Submission → List Message → Type 0
IsInTable id u table = (st : State) × IsRecorded table id u st

-- ---- a message whose state changes

still_here : (id : ℕ) (e : Message) (z : State) (es rest : List Message) (u : Submission) (st : State) → (IsRecorded rest id u st → IsInTable id u es) → IsRecorded (record { submission = e.submission; state = z } ∷ rest) id u st → IsInTable id u (e ∷ es)
still_here id e z es rest u st more k =
    let y : Message = record { submission = e.submission; state = z } in
    let x : Message = record { submission = u; state = st } in
    ⊎_elim
    (λ (t : (e.submission.id == id) ≡ true).
    let same : y ≡ x = same_Some y x (sym (cond-true (e.submission.id == id) (Some y) (find id rest) t) ∙ k) in
    let found : IsInTable id u (e ∷ es) =
    (e.state, cond-true (e.submission.id == id) (Some e) (find id es) t ∙ ap (λ (m : Message). let w : Message = record { submission = m.submission; state = e.state } in Some w) same) in found)
    (λ (t : (e.submission.id == id) ≡ false).
    let was = more (sym (cond-false (e.submission.id == id) (Some y) (find id rest) t) ∙ k) in
    let found : IsInTable id u (e ∷ es) = (was.0, cond-false (e.submission.id == id) (Some e) (find id es) t ∙ was.1) in found)
    (cases_Bool (e.submission.id == id))

changed_still : (j : ℕ) (f : Message → State) (t : List Message) (id : ℕ) (u : Submission) (st : State) → IsRecorded (changed j f t) id u st → IsInTable id u t
changed_still j f [] id u st k = absurd cc
changed_still j f (e ∷ es) id u st k =
    cond_both (e.submission.id == j) (record { submission = e.submission; state = f e }) e (λ (y : Message). IsRecorded (y ∷ changed j f es) id u st → IsInTable id u (e ∷ es))
    (λ b h. still_here id e (f e) es (changed j f es) u st (λ q. changed_still j f es id u st q) h)
    (λ b h. still_here id e e.state es (changed j f es) u st (λ q. changed_still j f es id u st q) h)
    k

-- ---- steps that take in no message

quiet_was : (w : World) (m : ℕ) (s : Step) (id : ℕ) (u : Submission) (st : State) → IsQuiet s → IsRecorded (after w m s).table id u st → IsInTable id u w.table
quiet_was w m (Submit x ts) id u st q k = absurd q
quiet_was w m (Receive f x ts) id u st q k = absurd q
quiet_was w m (Take f) id u st q k = absurd q
quiet_was w m (Settle f g j n) id u st q k = changed_still j (λ (e : Message). marked n e.submission.parts e.state) w.table id u st k
quiet_was w m (Expire j) id u st q k = changed_still j (λ (e : Message). Final Expired) w.table id u st k
quiet_was w m (Delete j) id u st q k = changed_still j (λ (e : Message). Final Deleted) w.table id u st k
quiet_was w m (Fail f g j n) id u st q k = changed_still j (λ (e : Message). Final Undeliverable) w.table id u st k
quiet_was w m _ id u st q k = (st, k)

pub all_quiet_was : (w : World) (m : ℕ) (b : Bool) (ss : List Step) (id : ℕ) (u : Submission) → AllQuiet ss → IsInTable id u (end w (items m b ss)).table → IsInTable id u w.table
all_quiet_was w m b [] id u q k = k
all_quiet_was w m b (s ∷ ss) id u q k =
    let x = all_quiet_was (after_item w (record { step = s; moment = m; stopped = b })) m b ss id u q.1 k in quiet_was w m s id u x.0 q.0 x.1

none_was : (w : World) (m : ℕ) (b : Bool) (own : List Step) (id : ℕ) (u : Submission) → own ≡ [] → IsInTable id u (end w (items m b own)).table → IsInTable id u w.table
none_was w m b own id u e k = subst (λ (ss : List Step). IsInTable id u (end w (items m b ss)).table) e k

-- ---- an event's own step

-- an application submits, or a frame is handed over that asks for it
abbrev pub Enters : World → Event → Submission → Type 0
Enters w Submitted u = Unit {0}
Enters w Cancelled u = ⊥
Enters w Asked u = ⊥
Enters w (Handed n) u = (f : Frame) × (Among (Carried f) w.bag × (f.number ≡ n) × (f.line ≡ Up) × (f.kind ≡ Data) × Asks f u)
Enters w Tick_centre u = ⊥
Enters w Tick_handset u = ⊥
Enters w Wrote u = ⊥
Enters w Removed u = ⊥
Enters w Restarted u = ⊥

module _ (w v : World) (m : ℕ) (id : ℕ) (u : Submission) where
  module _ (n : ℕ) (f : Frame) (there : Among (Carried f) w.bag) (number : f.number ≡ n) where
    read_was : (s : Step) (st : State) → Reads f s → Can v m s → IsRecorded (after v m s).table id u st → IsInTable id u v.table ⊎ Enters w (Handed n) u
    read_was (Submit x ts) st r can k = absurd r
    read_was (Receive g x ts) st r can k = ⊎_elim
        (λ (e : (id ≡ x.id) × (u ≡ x) × (st ≡ Pending [])).
        let asks : Asks f u = subst (λ (z : Frame × Submission). Asks z.0 z.1) (λ j. (r j, sym e.1 j)) can.1 in
        let found : IsInTable id u v.table ⊎ Enters w (Handed n) u =
        inr (f, (there, number, ap (λ (z : Frame). z.line) (sym r) ∙ can.0.1, ap (λ (z : Frame). z.kind) (sym r) ∙ can.0.2, asks)) in found)
        (λ (old : IsRecorded v.table id u st). let found : IsInTable id u v.table ⊎ Enters w (Handed n) u = inl (st, old) in found)
        (entered_back v.table x u (Pending []) st id k)
    read_was (Settle g h j i) st r can k = inl (changed_still j (λ (e : Message). marked i e.submission.parts e.state) v.table id u st k)
    read_was (Fail g h j i) st r can k = inl (changed_still j (λ (e : Message). Final Undeliverable) v.table id u st k)
    read_was (Expire j) st r can k = absurd r
    read_was (Delete j) st r can k = absurd r
    read_was _ st r can k = inl (st, k)

  module _ (b : Bool) where
    abbrev Behind : List Step → Type 0
    Behind ss = IsInTable id u (end v (items m b ss)).table

    handed_was : (n : ℕ) (own : List Step) → HandsOne w n own → Run v (items m b own) → Behind own → IsInTable id u v.table ⊎ Enters w (Handed n) u
    handed_was n own (f, s, x) run k =
        let one : Run v (items m b (s ∷ [])) = subst (λ (ss : List Step). Run v (items m b ss)) x.3 run in
        let behind : Behind (s ∷ []) = subst (λ (ss : List Step). Behind ss) x.3 k in
        read_was n f x.0 x.1 s behind.0 x.2 one.0 behind.1

    own_was : (event : Event) (own : List Step) → IsOwn w event own → Run v (items m b own) → Behind own → IsInTable id u v.table ⊎ Enters w event u
    own_was Submitted own o run k = inr tt
    own_was Cancelled own o run k = inl (⊎_elim (λ (e : own ≡ []). none_was v m b own id u e k)
        (λ (x : (j : ℕ) × (own ≡ Delete j ∷ [])). all_quiet_was v m b (Delete x.0 ∷ []) id u (tt, tt) (subst (λ (ss : List Step). Behind ss) x.1 k)) o)
    own_was Asked own o run k = inl (none_was v m b own id u o k)
    own_was (Handed n) own o run k = ⊎_elim (λ (e : own ≡ []). let found : IsInTable id u v.table ⊎ Enters w (Handed n) u = inl (none_was v m b own id u e k) in found) (λ (x : HandsOne w n own). handed_was n own x run k) o
    own_was Tick_centre own o run k = inl (none_was v m b own id u o k)
    own_was Tick_handset own o run k = inl (none_was v m b own id u o k)
    own_was Wrote own o run k = inl (all_quiet_was v m b own id u (writes_quiet own o) k)
    own_was Removed own o run k = inl (⊎_elim (λ (e : own ≡ []). none_was v m b own id u e k)
        (λ (x : (e : OutEntry) × (own ≡ Remove e ∷ [])). all_quiet_was v m b (Remove x.0 ∷ []) id u (tt, tt) (subst (λ (ss : List Step). Behind ss) x.1 k)) o)
    own_was Restarted own o run k = inl (none_was v m b own id u o k)

-- ---- an event

order_was : (w : World) (m : ℕ) (b : Bool) (event : Event) (steps : List Step) (id : ℕ) (u : Submission) → IsInOrder w event steps → Run w (items m b steps) → IsInTable id u (end w (items m b steps)).table
    → IsInTable id u w.table ⊎ Enters w event u
order_was w m b event steps id u (control, own, follows, x) run k =
    let whole : Run w (items m b (control ++ (own ++ follows))) = subst (λ (ss : List Step). Run w (items m b ss)) x.3 run in
    let first = run_parts w m b control (own ++ follows) whole in
    let v : World = end w (items m b control) in
    let second = run_parts v m b own follows first.1 in
    let z : World = end v (items m b own) in
    let last : IsInTable id u (end z (items m b follows)).table =
    subst (λ (y : World). IsInTable id u y.table) (end_parts w m b control (own ++ follows) ∙ end_parts v m b own follows) (subst (λ (ss : List Step). IsInTable id u (end w (items m b ss)).table) x.3 k) in
    let behind : IsInTable id u z.table = all_quiet_was z m b follows id u (follows_quiet event follows x.2) last in
    ⊎_elim
    (λ (y : IsInTable id u v.table). let found : IsInTable id u w.table ⊎ Enters w event u = inl (all_quiet_was w m b control id u (control_quiet control x.0) y) in found)
    (λ (y : Enters w event u). inr y)
    (own_was w v m id u b event own x.1 second.0 behind)

module _ (w : World) (m : ℕ) (b : Bool) (steps : List Step) (id : ℕ) (u : Submission) (run : Run w (items m b steps)) (k : IsInTable id u (end w (items m b steps)).table) where
  played_was : (event : Event) → IsPlayed w event steps → IsInTable id u w.table ⊎ Enters w event u
  played_was Asked p = inl (none_was w m b steps id u p k)
  played_was Restarted p = inl (none_was w m b steps id u p k)
  played_was Submitted p = order_was w m b Submitted steps id u p run k
  played_was Cancelled p = order_was w m b Cancelled steps id u p run k
  played_was (Handed n) p = order_was w m b (Handed n) steps id u p run k
  played_was Tick_centre p = order_was w m b Tick_centre steps id u p run k
  played_was Tick_handset p = order_was w m b Tick_handset steps id u p run k
  played_was Wrote p = order_was w m b Wrote steps id u p run k
  played_was Removed p = order_was w m b Removed steps id u p run k

abbrev pub EntersAs : World → Event → Went → Submission → Type 0
EntersAs w event Whole u = Enters w event u
EntersAs w event After u = Enters w event u
EntersAs w event Before u = ⊥

pub event_was : (w : World) (h : Happening) (went : Went) (steps : List Step) (id : ℕ) (u : Submission) → Belongs w h went steps → Run w (items h.moment (is_stopped went) steps)
    → IsInTable id u (end w (items h.moment (is_stopped went) steps)).table → IsInTable id u w.table ⊎ EntersAs w h.event went u
event_was w h Whole steps id u belongs run k = played_was w h.moment false steps id u run k h.event belongs
event_was w h After steps id u belongs run k = played_was w h.moment true steps id u run k h.event belongs
event_was w h Before steps id u belongs run k = inl (none_was w h.moment true steps id u belongs k)

-- The references that the centre gives stand in one octet, and so does that of each frame of data that it sends.
use Rattle.std.proofs.Common.{◌≡◌, ℕ, suc, ◌<◌, List, [], ◌∷◌, sym, subst, ⊎_elim}
use Rattle.sms_base.specs.Among.{Among}
use Rattle.sms_base.specs.declared.carried.Kind.{Kind}
use Rattle.sms_base.specs.declared.carried.Kind.TheVariants.{Data}
use Rattle.sms_world_model.specs.References.{CanGiveParts, Ticket, given_parts, part_allocation, report_allocation}
use Rattle.sms_world_model.specs.WorldStep.{Item, Run, after_item, end, Can, Receive, Status, Step, Submit, after, enter}
use Rattle.sms_world_model.specs.Submission.{Submission}
use Rattle.sms_world_model.specs.World.{Carried, Down, Frame, Allocation, Line, World, empty, give}
use Rattle.sms_world_model.proofs.Sound.{Says}
use Rattle.sms_world.specs.scripts_are_runs.AllocationLaws.{IsReached}
use Rattle.sms_world.proofs.scripts_are_runs.Agreeing.{sound_there}

abbrev AreSmall : List Allocation → Type 0
AreSmall down = (g : Allocation) → Among g down → g.reference < 256

one_more : (x : Allocation) (down : List Allocation) → x.reference < 256 → AreSmall down → AreSmall (x ∷ down)
one_more x down l all g i = ⊎_elim (λ (e : g ≡ x). subst (λ (z : Allocation). z.reference < 256) (sym e) l) (λ (j : Among g down). all g j) i

parts_small : (w : World) (s : Submission) (m n : ℕ) (ts : List Ticket) (down : List Allocation) → CanGiveParts w s m n ts → AreSmall down → AreSmall (given_parts s m n ts down)
parts_small w s m n [] down can all = all
parts_small w s m n (t ∷ ts) down can all =
    parts_small (give w (part_allocation s m n t)) s m (suc n) ts (part_allocation s m n t ∷ down) can.2 (one_more (part_allocation s m n t) down can.0.0 all)

step_small : (w : World) (m : ℕ) (step : Step) → Can w m step → AreSmall w.down → AreSmall (after w m step).down
step_small w m (Submit s ts) can all = parts_small (enter w s) s m 1 ts w.down can.3 all
step_small w m (Receive u s ts) can all = parts_small (enter w s) s m 1 ts w.down can.2.3 all
step_small w m (Status s f t) can all = one_more (report_allocation s m t) w.down can.2.0 all
step_small w m _ can all = all

run_small : (w : World) (is : List Item) → Run w is → AreSmall w.down → AreSmall (end w is).down
run_small w [] run all = all
run_small w (i ∷ is) run all = run_small (after_item w i) is run.1 (step_small w i.moment i.step run.0 all)

down_small : (w : World) → IsReached w → AreSmall w.down
down_small w (is, (run, at)) = subst (λ (v : World). AreSmall v.down) at (run_small empty is run (λ g i. absurd i))

-- data that the centre sent have the reference of a giving
pub data_small : (w : World) (u : Frame) → IsReached w → Among (Carried u) w.bag → u.line ≡ Down → u.kind ≡ Data → u.reference < 256
data_small w u reached i line kind =
    let says : Says w.down w.accepted u.line u.kind u = (sound_there w reached).sent u i in
    let down : Says w.down w.accepted Down u.kind u = subst (λ (l : Line). Says w.down w.accepted l u.kind u) line says in
    let given : Says w.down w.accepted Down Data u = subst (λ (k : Kind). Says w.down w.accepted Down k u) kind down in
    subst (λ (n : ℕ). n < 256) given.1.1.1 (down_small w reached given.0 given.1.0)

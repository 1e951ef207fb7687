-- Reasons to leave.
use Rattle.std.proofs.Common.{◌≡◌, ◌⊎◌, ℕ, List, Bool, true, false, Result, Ok, Err, sym, subst, inl, inr}
use Rattle.std.specs.Prelude.{IfOk}
use Rattle.smsc_loop.specs.declared.note.LeaveReason.{LeaveReason}
use Rattle.smsc_loop.specs.declared.note.LeaveReason.TheVariants.{Closed, Over, Silent, Stalled, Unanswered, Inactive, Ordered, Replaced, NoMemory}
use Rattle.smsc_loop.specs.declared.turn_end.TurnEnd.{TurnEnd}
use Rattle.smsc_loop.specs.declared.turn_end.TurnEnd.TheVariants.{Stays, Rests, Leaves}
use Rattle.smsc_loop.specs.Phases.{Phase, Serves, IsHere, behind}
use Rattle.smsc_loop.specs.Served.{Meant, MeantAt, MeantLast, SideEnd}

pub here_behind : (went : Bool) → IsHere (behind went Serves)
here_behind true = tt
here_behind false = tt

module _ {V : Type 0} (waits : V → List ℕ) (over owing : V → Bool) where
  -- a reason that rests on no end of the run
  pub meant_in : (run_over : Type 0) (side : SideEnd) (closed : Bool) (v : V) (p : Phase) (why : LeaveReason)
      → Meant waits over owing ⊥ side closed v p why → Meant waits over owing run_over side closed v p why
  meant_in run_over side closed v p Closed (e, inl f) = absurd f
  meant_in run_over side closed v p Closed (e, inr f) = (e, inr f)
  meant_in run_over side closed v p _ m = m

  pub meant_last : (run_over : Type 0) (side : SideEnd) (closed : Bool) (v : V) (p : Phase) (why : LeaveReason)
      → Meant waits over owing run_over side closed v p why → MeantLast waits over owing run_over side closed v p why
  meant_last run_over side closed v p Closed m = m
  meant_last run_over side closed v p Over m = m
  meant_last run_over side closed v p Silent m = subst IsHere (sym m) tt
  meant_last run_over side closed v p Stalled m = m
  meant_last run_over side closed v p Unanswered m = m
  meant_last run_over side closed v p Inactive m = m
  meant_last run_over side closed v p Ordered m = m
  meant_last run_over side closed v p Replaced m = m
  meant_last run_over side closed v p NoMemory m = m

  -- a turn that ends otherwise than by leaving
  pub goes_on : (side : SideEnd) (closed : Bool) (v : V) (end : TurnEnd) → (end ≡ Stays) ⊎ (end ≡ Rests) → MeantAt waits over owing side closed v end
  goes_on side closed v end (inl e) = subst (λ (x : TurnEnd). MeantAt waits over owing side closed v x) (sym e) tt
  goes_on side closed v end (inr e) = subst (λ (x : TurnEnd). MeantAt waits over owing side closed v x) (sym e) tt

  pub goes_on_if : {E : Type 0} (side : SideEnd) (closed : Bool) (v : V) (result : Result TurnEnd E) → IfOk result (λ end. (end ≡ Stays) ⊎ (end ≡ Rests))
      → IfOk result (λ end. MeantAt waits over owing side closed v end)
  goes_on_if side closed v (Ok end) h = goes_on side closed v end h
  goes_on_if side closed v (Err e) h = tt

  pub here_of : (run_over : Type 0) (side : SideEnd) (closed : Bool) (v : V) (p : Phase) (why : LeaveReason)
      → MeantLast waits over owing run_over side closed v p why → IsHere p
  here_of run_over side closed v p Closed m = subst IsHere (sym m.0) tt
  here_of run_over side closed v p Over m = subst IsHere (sym m.0) tt
  here_of run_over side closed v p Silent m = m
  here_of run_over side closed v p Stalled m = subst IsHere (sym m) tt
  here_of run_over side closed v p Unanswered m = subst IsHere (sym m) tt
  here_of run_over side closed v p Inactive m = subst IsHere (sym m) tt
  here_of run_over side closed v p Ordered m = subst IsHere (sym m) tt
  here_of run_over side closed v p Replaced m = subst IsHere (sym m) tt
  here_of run_over side closed v p NoMemory m = subst IsHere (sym m) tt

  -- a turn that ended by leaving
  pub meant_ok : (side : SideEnd) (closed : Bool) (v : V) (end : TurnEnd) (why : LeaveReason) → end ≡ Leaves why
      → MeantAt waits over owing side closed v end → MeantAt waits over owing side closed v (Leaves why)
  meant_ok side closed v end why e m = subst (λ (x : TurnEnd). MeantAt waits over owing side closed v x) e m

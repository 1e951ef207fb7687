-- Whether an endpoint stays whose octets the wire took.
use Rattle.std.proofs.Common.{◌≡◌, ◌<◌, ◌≤◌, ℕ, Bool, true, false, if◌then◌else◌, sym, ap, ◌∙◌}
use Rattle.std.proofs.lemmas.Bool.{le-ltb, lt-ltb}
use Rattle.smsc_loop.specs.declared.note.LeaveReason.TheVariants.{Closed, Over, Stalled}
use Rattle.smsc_loop.specs.declared.turn_end.TurnEnd.{TurnEnd}
use Rattle.smsc_loop.specs.declared.turn_end.TurnEnd.TheVariants.{Stays, Leaves}
use Rattle.smsc_loop.specs.Flowing.{answered_end, flowing_end, is_answered, most_waiting}

pub over_ends : (over ended : Bool) → over ≡ true → Leaves Over ≡ answered_end over ended
over_ends over ended e = ap (λ (b : Bool). answered_end b ended) (sym e)

pub closed_ends : (over ended : Bool) → over ≡ false → ended ≡ true → Leaves Closed ≡ answered_end over ended
closed_ends over ended e f = ap (λ (b : Bool). answered_end false b) (sym f) ∙ ap (λ (b : Bool). answered_end b ended) (sym e)

pub none_ends : (over ended : Bool) → over ≡ false → ended ≡ false → Stays ≡ answered_end over ended
none_ends over ended e f = ap (λ (b : Bool). answered_end false b) (sym f) ∙ ap (λ (b : Bool). answered_end b ended) (sym e)

module _ (waiting : ℕ) (owing over ended : Bool) where
  -- by whether too many wait, and whether the endpoint is answered
  abbrev ends_by : Bool → Bool → TurnEnd
  ends_by many answered = if many then Leaves Stalled else (if answered then answered_end over ended else Stays)

  pub flows_stalled : most_waiting < waiting → Leaves Stalled ≡ flowing_end waiting owing over ended
  flows_stalled l = ap (λ (b : Bool). ends_by b (is_answered waiting owing)) (sym (lt-ltb most_waiting waiting l))

  pub flows_by : (answered : Bool) (end : TurnEnd) → waiting ≤ most_waiting → answered ≡ is_answered waiting owing
      → end ≡ (if answered then answered_end over ended else Stays) → end ≡ flowing_end waiting owing over ended
  flows_by answered end l e f =
      f ∙ ap (λ (b : Bool). if b then answered_end over ended else Stays) e
      ∙ ap (λ (b : Bool). ends_by b (is_answered waiting owing)) (sym (le-ltb most_waiting waiting l))

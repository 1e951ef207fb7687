use Rattle.std.proofs.Common.{◌∙◌, sym}
use Rattle.smsc_server.proofs.serving.Threads.{admitted_so, started_at, threads_count, threads_have, ways_kept}
use Rattle.smsc_server.proofs.serving.run.serve_machine.Goals as goal

pub start_all-requires-clause-new : goal.start_all-requires-clause-new
start_all-requires-clause-new g c = λ lifetimes bounds n s e. let new = c.in_ok-keeper.ensures.seats n s e in (new.put, new.taken)

pub run_started-requires-clause-seats : goal.run_started-requires-clause-seats
run_started-requires-clause-seats g c = λ lifetimes bounds. started_at _ c.in_ok-keeper.keeper _ c.in_ok-keeper.seats.items _ c.in_ok-keeper.ensures.seats c.in-Ok.ensures.seats.1

pub run_started-requires-clause-count : goal.run_started-requires-clause-count
run_started-requires-clause-count g c = λ lifetimes bounds. threads_count _ _ _ c.in-Ok.ensures.seats.1.threads_so ∙ c.in_ok-keeper.ensures.count

pub run_started-requires-clause-ways : goal.run_started-requires-clause-ways
run_started-requires-clause-ways g c = λ lifetimes bounds. let h = c.in-Ok.ensures.seats in ways_kept h.0 c.in-Ok.entrance.promise.entrance.value.giver _ h.2.same h.1.ways

pub run_started-requires-clause-made : goal.run_started-requires-clause-made
run_started-requires-clause-made g c = λ lifetimes bounds.
    let h = c.in-Ok.ensures.seats in
    (h.2.made ∙ (h.1.made ∙ (threads_count _ _ _ h.1.threads_so ∙ c.in_ok-keeper.ensures.count)), h.2.settled ∙ h.1.settled)

pub returns-in-Ok-clause-history : goal.returns-in-Ok-clause-history
returns-in-Ok-clause-history g c =
    admitted_so _ _ _ _ _ _ c.run_started.result c.in_ok-shared.ensures c.run_started.ensures.history (threads_have _ _ _ c.in-Ok.ensures.seats.1.threads_so) c.in-Ok.ensures.entrance

use Rattle.std.proofs.Common.{◌≡◌, ◌<◌, ◌∙◌, ℕ, List, length, ap, sym, subst}
use Rattle.std.specs.Prelude.{Vec}
use Rattle.std.specs.declared.alloc.Global.{Global}
use Rattle.sms_hub.proofs.Sessions.{closed_kept}
use Rattle.smsc_server.specs.serving.SeatThreads.{AreAt, AreWays, HaveAdmitted, SeatThread}
use Rattle.smsc_server.proofs.serving.Ran.{keeper_count, one_history}
use Rattle.smsc_server.proofs.serving.Threads.{at_kept, ways_kept}
use Rattle.smsc_server.proofs.serving.run.run_started.Goals as goal

pub close_all-requires-clause-seats : goal.close_all-requires-clause-seats
close_all-requires-clause-seats g c = λ lifetimes bounds.
    let k = c.args.keeper in
    let ran = c.run_keeper-ended.new.keeper in
    let known = c.know_others.new.self in
    at_kept ran known c.end-threads.result.items c.know_others.ensures.keeper.hub
    (at_kept k ran c.end-threads.result.items c.in-Ok.ensures.ran.did.hub
    (subst (λ (v : Vec (SeatThread g.row.S.Denot) Global). AreAt k v.items) (sym c.end-threads.ensures) c.requires.seats))

pub close_all-requires-clause-closed : goal.close_all-requires-clause-closed
close_all-requires-clause-closed g c = λ lifetimes bounds. closed_kept c.run_keeper-ended.new.keeper c.know_others.new.self c.know_others.ensures.keeper c.run_keeper-ended.ensures.closed

pub close_all-requires-clause-count : goal.close_all-requires-clause-count
close_all-requires-clause-count g c = λ lifetimes bounds. (
  ap (λ (v : Vec (SeatThread g.row.S.Denot) Global). length v.items) c.end-threads.ensures ∙ c.requires.count,
  keeper_count _ _ _ _ _ _ _ _ c.args.keeper c.run_keeper-ended.new.keeper c.know_others.new.self c.requires.new c.in-Ok.ensures.ran c.run_keeper-ended.ensures.closed
      c.know_others.ensures.keeper,
)

pub close_all-requires-clause-ways : goal.close_all-requires-clause-ways
close_all-requires-clause-ways g c = λ lifetimes bounds.
    let h = c.join-entrance.ensures.1 in (
      ways_kept c.args.entrance.promise.entrance.value.giver c.join-entrance.result.giver c.end-threads.result.items h.same (subst (λ (v : Vec (SeatThread g.row.S.Denot) Global). AreWays c.args.entrance.promise.entrance.value.giver v.items) (sym c.end-threads.ensures) c.requires.ways),
      h.made ∙ c.requires.made.0,
      h.settled ∙ c.requires.made.1,
    )

pub returns-in-Ok-clause-history : goal.returns-in-Ok-clause-history
returns-in-Ok-clause-history g c = λ admitted doors have entered.
    let closed = c.close_all.ensures.did doors (c.join-entrance.ensures.0 doors entered) in
    one_history _ _ _ _ _ _ _ _ c.args.keeper c.run_keeper-ended.new.keeper c.know_others.new.self c.requires.new c.in-Ok.ensures.ran c.run_keeper-ended.ensures.closed
    c.know_others.ensures.keeper g.S.Read.remaining g.S.Write.contents admitted g.L.Door.came doors _ closed.0 closed.1
    (closed.2 admitted (subst (λ (v : Vec (SeatThread g.row.S.Denot) Global). HaveAdmitted admitted v.items) (sym c.end-threads.ensures) have))
    c.know_others.ensures.none

pub close_all-doors-requires-clause-seats : goal.close_all-doors-requires-clause-seats
close_all-doors-requires-clause-seats g c = λ lifetimes bounds.
    let k = c.args.keeper in
    let ran = c.run_keeper-ended.new.keeper in
    let known = c.know_others-in-Err.new.self in
    at_kept ran known c.end-threads.result.items c.know_others-in-Err.ensures.keeper.hub
    (at_kept k ran c.end-threads.result.items c.in-Err.ensures.failed.did.hub
    (subst (λ (v : Vec (SeatThread g.row.S.Denot) Global). AreAt k v.items) (sym c.end-threads.ensures) c.requires.seats))

pub close_all-doors-requires-clause-closed : goal.close_all-doors-requires-clause-closed
close_all-doors-requires-clause-closed g c = λ lifetimes bounds. closed_kept c.run_keeper-ended.new.keeper c.know_others-in-Err.new.self c.know_others-in-Err.ensures.keeper c.run_keeper-ended.ensures.closed

pub close_all-doors-requires-clause-count : goal.close_all-doors-requires-clause-count
close_all-doors-requires-clause-count g c = λ lifetimes bounds. (
  ap (λ (v : Vec (SeatThread g.row.S.Denot) Global). length v.items) c.end-threads.ensures ∙ c.requires.count,
  keeper_count _ _ _ _ _ _ _ _ c.args.keeper c.run_keeper-ended.new.keeper c.know_others-in-Err.new.self c.requires.new c.in-Err.ensures.failed c.run_keeper-ended.ensures.closed
      c.know_others-in-Err.ensures.keeper,
)

pub close_all-doors-requires-clause-ways : goal.close_all-doors-requires-clause-ways
close_all-doors-requires-clause-ways g c = λ lifetimes bounds.
    let h = c.join-entrance.ensures.1 in (
      ways_kept c.args.entrance.promise.entrance.value.giver c.join-entrance.result.giver c.end-threads.result.items h.same (subst (λ (v : Vec (SeatThread g.row.S.Denot) Global). AreWays c.args.entrance.promise.entrance.value.giver v.items) (sym c.end-threads.ensures) c.requires.ways),
      h.made ∙ c.requires.made.0,
      h.settled ∙ c.requires.made.1,
    )

pub returns-clause-failed : goal.returns-clause-failed
returns-clause-failed g c = λ admitted doors have entered.
    let closed = c.close_all-doors.ensures.did doors (c.join-entrance.ensures.0 doors entered) in (
      c.close_all-doors.result,
      one_history _ _ _ _ _ _ _ _ c.args.keeper c.run_keeper-ended.new.keeper c.know_others-in-Err.new.self c.requires.new c.in-Err.ensures.failed c.run_keeper-ended.ensures.closed
          c.know_others-in-Err.ensures.keeper g.S.Read.remaining g.S.Write.contents admitted g.L.Door.came doors c.close_all-doors.result closed.0 closed.1
          (closed.2 admitted (subst (λ (v : Vec (SeatThread g.row.S.Denot) Global). HaveAdmitted admitted v.items) (sym c.end-threads.ensures) have))
          c.know_others-in-Err.ensures.none,
    )

use Rattle.std.proofs.Common.{◌∷◌, [], List, ap, length, subst}
use Rattle.sms_keeper.specs.History.{answers_in}
use Rattle.sms_hub.specs.Running.{SessionsRan, lists_of}
use Rattle.sms_hub.proofs.Sessions.{answer_count}
use Rattle.sms_hub.proofs.run.two.two_sessions.Goals as goal

pub apart-requires : goal.apart-requires
apart-requires g c = let ran = c.in_ok-answers.ensures.ran in
    answer_count c.in_ok-answers.answers.items (length (lists_of c.in_ok-lists.lists.items)) 2 (λ n. answers_in n ran.items) ran.answered (ap (λ l. length (lists_of l)) c.in_ok-lists.ensures)

pub returns-clause-ran : goal.returns-clause-ran
returns-clause-ran g c =
    let Run : List (List g.row.J.Denot) → List (List g.row.O.Denot) → Type 0 = λ lists answers. SessionsRan (g.C.Clock.reads c.args.clock.now) g.M.Machine.gives g.M.Machine.after
    (g.M.Machine.is_honest c.many_sessions.new.machine) (λ s. g.M.Machine.stands c.args.machine.now s s) (λ s. g.M.Machine.stands c.many_sessions.new.machine s s)
    (g.B.Recorder.has c.args.recorder.now) (g.B.Recorder.has c.many_sessions.new.recorder) lists answers in
    subst (λ (answers : List (List g.row.O.Denot)). Run (c.args.jobs_a.items ∷ c.args.jobs_b.items ∷ []) answers) c.apart.ensures
    (subst (λ (lists : List (List g.row.J.Denot)). Run lists (lists_of c.in_ok-answers.answers.items)) (ap lists_of c.in_ok-lists.ensures) c.in_ok-answers.ensures.ran)

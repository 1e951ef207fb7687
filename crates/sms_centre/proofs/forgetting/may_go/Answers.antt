use Rattle.std.proofs.Common.{◌≡◌, Bool, sym, ◌∙◌, ap, subst}
use Rattle.std.specs.Prelude.{◌&&◌, is_some}
use Rattle.std.proofs.lemmas.Bool.{and_left, and_right}
use Rattle.sms_centre_rows.specs.reports.Reports.{report_of}
use Rattle.sms_centre_spec.specs.forgetting.Forgetting.{is_before, is_reported, leaves_number, leaves_split}
use Rattle.sms_centre.specs.state.CentreState.{CentreStateOf, Represents as StateRepresents}
use Rattle.sms_centre.proofs.forgetting.may_go.Goals as goal

pub returns-then-not-has_ended : goal.returns-then-not-has_ended
returns-then-not-has_ended c = λ core represents.
    let m = c.args.message.now in
    sym (and_left (is_some m.state && is_before c.args.before m.done) (is_reported core.rows.reports (report_of m.id core.rows.reports) && (leaves_split m core.rows.messages && leaves_number m core.rows.messages))
    (sym c.has_ended.ensures ∙ c.if-not-has_ended.true))

pub returns-then-not-is_reported : goal.returns-then-not-is_reported
returns-then-not-is_reported c = λ core represents.
    let s : CentreStateOf = record { setup = c.state.inside.setup; moment = c.state.inside.moment; messages = c.state.inside.messages; reference_index = c.state.inside.reference_index; queues = c.state.inside.queues; reports = c.state.inside.reports; log = c.state.inside.log; sessions = c.state.inside.sessions } in
    let was : StateRepresents core s = subst (λ (x : CentreStateOf). StateRepresents core x) (sym c.state.view_is) represents in
    let m = c.args.message.now in
    sym (and_right (is_some m.state && is_before c.args.before m.done) (is_reported core.rows.reports (report_of m.id core.rows.reports) && (leaves_split m core.rows.messages && leaves_number m core.rows.messages))
    (and_left (is_reported core.rows.reports (report_of m.id core.rows.reports)) (leaves_split m core.rows.messages && leaves_number m core.rows.messages)
    (sym (c.is_reported.ensures core.rows.messages core.rows.reports was.centre.reports_are was.log was.centre.sound.rows.reports) ∙ c.if-not-is_reported.true)))

pub returns-then-not-leaves_split : goal.returns-then-not-leaves_split
returns-then-not-leaves_split c = λ core represents.
    let s : CentreStateOf = record { setup = c.state.inside.setup; moment = c.state.inside.moment; messages = c.state.inside.messages; reference_index = c.state.inside.reference_index; queues = c.state.inside.queues; reports = c.state.inside.reports; log = c.state.inside.log; sessions = c.state.inside.sessions } in
    let was : StateRepresents core s = subst (λ (x : CentreStateOf). StateRepresents core x) (sym c.state.view_is) represents in
    let m = c.args.message.now in
    sym (and_right (is_some m.state && is_before c.args.before m.done) (is_reported core.rows.reports (report_of m.id core.rows.reports) && (leaves_split m core.rows.messages && leaves_number m core.rows.messages))
    (and_right (is_reported core.rows.reports (report_of m.id core.rows.reports)) (leaves_split m core.rows.messages && leaves_number m core.rows.messages)
    (and_left (leaves_split m core.rows.messages) (leaves_number m core.rows.messages)
    (sym (c.leaves_split.ensures core.rows.bars core.rows.messages core.rows.parts was.reference_index) ∙ c.if-not-leaves_split.true))))

pub returns : goal.returns
returns c = λ core represents.
    let s : CentreStateOf = record { setup = c.state.inside.setup; moment = c.state.inside.moment; messages = c.state.inside.messages; reference_index = c.state.inside.reference_index; queues = c.state.inside.queues; reports = c.state.inside.reports; log = c.state.inside.log; sessions = c.state.inside.sessions } in
    let was : StateRepresents core s = subst (λ (x : CentreStateOf). StateRepresents core x) (sym c.state.view_is) represents in
    let m = c.args.message.now in
    let ended = sym c.has_ended.ensures ∙ c.if-not-has_ended.false in
    let reported = sym (c.is_reported.ensures core.rows.messages core.rows.reports was.centre.reports_are was.log was.centre.sound.rows.reports) ∙ c.if-not-is_reported.false in
    let split = sym (c.leaves_split.ensures core.rows.bars core.rows.messages core.rows.parts was.reference_index) ∙ c.if-not-leaves_split.false in
    c.leaves_number.ensures core.rows.messages core.rows.parts was.centre.messages_are
    ∙ ap (λ (b : Bool). b && leaves_number m core.rows.messages) (sym split)
    ∙ ap (λ (b : Bool). b && (leaves_split m core.rows.messages && leaves_number m core.rows.messages)) (sym reported)
    ∙ ap (λ (b : Bool). b && (is_reported core.rows.reports (report_of m.id core.rows.reports) && (leaves_split m core.rows.messages && leaves_number m core.rows.messages))) (sym ended)

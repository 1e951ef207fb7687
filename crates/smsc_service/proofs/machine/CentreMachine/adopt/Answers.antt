use Rattle.std.proofs.Common.{◌≡◌, ◌∙◌, ap, subst, sym}
use Rattle.sms_centre.specs.state.CentreState.{Represents, CentreStateOf}
use Rattle.sms_centre_group.specs.Grouping.{Spans, held_in, store_of}
use Rattle.sms_centre_group.specs.HeldRoom.{HasRoomFor}
use Rattle.sms_centre_spec.specs.Draft.{rows_after}
use Rattle.sms_centre_spec.specs.declared.rows.Changes.{Changes}
use Rattle.sms_centre_spec.specs.declared.rows.Rows.{Rows}
use Rattle.smsc_service.specs.Accounts.{bare}
use Rattle.smsc_service.proofs.Stepped.{rows_then}
use Rattle.smsc_service.proofs.machine.CentreMachine.adopt.Goals as goal
use Rattle.sms_centre.proofs.Archived.{rows_left}

pub hold-requires : goal.hold-requires
hold-requires g c = subst (λ (x : Changes). HasRoomFor x c.args.self.now.keep.held) (sym c.in-Ok.ensures.changes) c.requires.room

pub returns-in-Ok-clause-outcome : goal.returns-in-Ok-clause-outcome
returns-in-Ok-clause-outcome g c = λ event core base is centre_state plan spans. record {
  centre = c.in-Ok.ensures.centre_state event core centre_state is plan;
  rows = subst (λ (rows : Rows). Spans (g.K.RowStore.state (store_of c.hold.new.self)) (held_in c.hold.new.self) base (bare rows))
      (ap (λ (x : Changes). rows_after x core.rows) c.in-Ok.ensures.changes ∙ rows_then event core c.args.planned.plan plan) (c.hold.ensures.rows base (bare core.rows) spans);
}

pub returns-in-Ok-clause-forgotten : goal.returns-in-Ok-clause-forgotten
returns-in-Ok-clause-forgotten g c = λ before from most core base centre_state plan spans. record {
  centre = c.in-Ok.ensures.forgotten before from most core centre_state plan;
  rows = subst (λ (rows : Rows). Spans (g.K.RowStore.state (store_of c.hold.new.self)) (held_in c.hold.new.self) base (bare rows))
      (ap (λ (x : Changes). rows_after x core.rows) c.in-Ok.ensures.changes ∙ rows_left before from most core c.args.planned.plan plan) (c.hold.ensures.rows base (bare core.rows) spans);
}

pub returns-in-Err-clause-forgotten : goal.returns-in-Err-clause-forgotten
returns-in-Err-clause-forgotten g c = λ before from most core base centre_state plan spans. record {
  centre = subst (λ (x : CentreStateOf). Represents core x) (sym c.in-Err.ensures.same) centre_state;
  rows = spans;
}

pub returns-in-Err-clause-outcome : goal.returns-in-Err-clause-outcome
returns-in-Err-clause-outcome g c = λ event core base is centre_state plan spans. record {
  centre = subst (λ (x : CentreStateOf). Represents core x) (sym c.in-Err.ensures.same) centre_state;
  rows = spans;
}

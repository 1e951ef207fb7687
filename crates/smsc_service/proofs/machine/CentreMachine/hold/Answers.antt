use Rattle.std.proofs.Common.{◌∙◌, ap, subst, sym}
use Rattle.sms_centre_group.specs.HeldRoom.{HasRoomFor}
use Rattle.sms_centre_spec.specs.Draft.{rows_after}
use Rattle.sms_centre_spec.specs.declared.rows.Changes.{Changes}
use Rattle.smsc_service.proofs.machine.CentreMachine.hold.Goals as goal

pub adopt-requires-clause-room : goal.adopt-requires-clause-room
adopt-requires-clause-room g c = subst (λ (x : Changes). HasRoomFor x c.make_room.new.self.held) c.changes.ensures c.in-Ok.ensures.room

pub returns-in-Ok-clause-outcome : goal.returns-in-Ok-clause-outcome
returns-in-Ok-clause-outcome g c = λ event core base is centre_state plan spans.
    c.adopt.ensures.outcome event core base is centre_state plan (
      subst (λ (k : g.row.K.Denot). (g.K.RowStore.state k).holds base) (sym c.in-Ok.ensures.store) spans.0,
      spans.1 ∙ ap (λ (x : Changes). rows_after x base) (sym c.in-Ok.ensures.held),
    )

pub returns-in-Ok-clause-forgotten : goal.returns-in-Ok-clause-forgotten
returns-in-Ok-clause-forgotten g c = λ before from most core base centre_state plan spans.
    c.adopt.ensures.forgotten before from most core base centre_state plan (
      subst (λ (k : g.row.K.Denot). (g.K.RowStore.state k).holds base) (sym c.in-Ok.ensures.store) spans.0,
      spans.1 ∙ ap (λ (x : Changes). rows_after x base) (sym c.in-Ok.ensures.held),
    )

pub returns-in-Err-clause-forgotten : goal.returns-in-Err-clause-forgotten
returns-in-Err-clause-forgotten g c = λ before from most core base centre_state plan spans. record {
  centre = centre_state;
  rows = (
    subst (λ (k : g.row.K.Denot). (g.K.RowStore.state k).holds base) (sym c.in-Err.ensures.store) spans.0,
    spans.1 ∙ ap (λ (x : Changes). rows_after x base) (sym c.in-Err.ensures.held),
  );
}

pub returns-in-Err-clause-outcome : goal.returns-in-Err-clause-outcome
returns-in-Err-clause-outcome g c = λ event core base is centre_state plan spans. record {
  centre = centre_state;
  rows = (
    subst (λ (k : g.row.K.Denot). (g.K.RowStore.state k).holds base) (sym c.in-Err.ensures.store) spans.0,
    spans.1 ∙ ap (λ (x : Changes). rows_after x base) (sym c.in-Err.ensures.held),
  );
}

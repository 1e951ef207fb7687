use Rattle.std.proofs.Common.{[], ◌∷◌, sym, subst}
use Rattle.sms_rows.specs.declared.table.change.Change.{Change}
use Rattle.sms_centre_rows.specs.declared.messages.bar.BarRow.{BarRow}
use Rattle.sms_centre_messages.specs.references.ReferenceIndex.{Barred}
use Rattle.sms_centre_messages.proofs.references.Adopted.{barred_none, room_less}
use Rattle.sms_centre_messages.proofs.references.reference_index.ReferenceIndex.apply_bar.Goals as goal

pub returns-in-Put-clause-barred : goal.returns-in-Put-clause-barred
returns-in-Put-clause-barred c =
    subst (λ (x : Change BarRow). Barred (x ∷ []) c.args.self.now c.put_bar.new.self) (sym c.in-Put.is) c.put_bar.ensures.barred

pub returns-in-Remove-clause-barred : goal.returns-in-Remove-clause-barred
returns-in-Remove-clause-barred c = subst (λ (x : Change BarRow). Barred (x ∷ []) c.args.self.now c.args.self.now) (sym c.in-Remove.is) (barred_none c.in-Remove.field-0 c.args.self.now)

pub returns-in-Remove-clause-room : goal.returns-in-Remove-clause-room
returns-in-Remove-clause-room c = λ n room. room_less n c.args.self.now room

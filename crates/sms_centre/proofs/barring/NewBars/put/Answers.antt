use Rattle.std.proofs.Common.{◌+◌, ◌<◌, ◌∷◌, ◌++◌, [], ◌∙◌, ap}
use Rattle.sms_rows.specs.declared.table.change.Change.TheVariants.{Put}
use Rattle.sms_centre_rows.specs.declared.messages.bar.BarRow.{BarRow}
use Rattle.sms_centre.proofs.Barred.{added_one}
use Rattle.sms_centre.proofs.barring.NewBars.put.Goals as goal

pub returns : goal.returns
returns c = record {
  place = c.in-Some.place;
  was = c.in-Some.is;
  changes = c.in_ok-push.ensures.items ∙ ap (λ (b : BarRow). c.args.self.now.changes.items ++ Put b ∷ []) c.bar_of.ensures;
  next = λ n e. added_one (c.in-Some.place + 1 < 18446744073709551616) c.checked_add-self.result c.in-Some.place n c.checked_add-self.ensures e;
}

use Rattle.std.proofs.Common.{◌∙◌, ap}
use Rattle.sms_store_memory.specs.centre.RowsInKeep.{rows_in}
use Rattle.sms_store_memory.specs.declared.centre.keep.MemoryKeep.{MemoryKeep}
use Rattle.sms_centre_spec.specs.SoundRows.{first_rows}
use Rattle.sms_centre_spec.specs.declared.setup.Setup.{Setup}
use Rattle.sms_player.proofs.centre.starting.with_first_keep.Goals as goal

pub lend-requires : goal.lend-requires
lend-requires g c = λ lent is. c.requires lent (ap (λ (k : MemoryKeep). rows_in k) is ∙ c.new.ensures ∙ ap (λ (s : Setup). first_rows s) c.in_ok-setup.ensures)

pub returns : goal.returns
returns g c = (c.new.result, c.lend.ensures.0, c.new.ensures ∙ ap (λ (s : Setup). first_rows s) c.in_ok-setup.ensures, c.lend.ensures.1)

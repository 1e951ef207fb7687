use Rattle.std.proofs.Common.{List, All, sym, subst}
use Rattle.sms_concat.specs.declared.content.Part.{Part}
use Rattle.sms_concat.specs.UserData.{IsPart}
use Rattle.sms_concat.proofs.Room.{split_read}
use Rattle.sms_handset.proofs.writing.write.Goals as goal

pub write_all-requires-clause-parts : goal.write_all-requires-clause-parts
write_all-requires-clause-parts c =
    let content = c.in_ok-content in
    subst (λ (parts : List Part). All IsPart parts) (sym c.as_slice.ensures)
    (split_read content.content c.counters.result.concat_reference c.in-Ok.parts content.ensures.coding content.ensures.units c.in-Ok.ensures.found.0)

use Rattle.std.proofs.Common.{◌≡◌, ◌⊎◌, drop, true}
use Rattle.sms_base.specs.Among.{Among}
use Rattle.sms_centre_rows.specs.declared.messages.message.MessageRow.{MessageRow}
use Rattle.sms_centre_rows.specs.messages.SplitReferences.{is_among}
use Rattle.sms_centre_spec.specs.Draft.{Core}
use Rattle.sms_centre.specs.Archiving.{Stays, parts_in}
use Rattle.sms_centre.specs.state.CentreState.{Represents as StateRepresents}
use Rattle.sms_centre.proofs.archiving.take_each.Given as goal

-- what is not behind was taken
abbrev pub invariant-loop-id : goal.invariant-loop-id
invariant-loop-id g l =
    ((c : Core) → StateRepresents c l.state → (m : MessageRow) → Among m c.rows.messages → is_among m.id l.ids ≡ true
    → (g.A.Archive.took l.archive m (parts_in c.rows m.id)) ⊎ (is_among m.id (drop l.id-index l.ids) ≡ true))
    × Stays (g.A.Archive.keeps l.initial.archive) (g.A.Archive.keeps l.archive)

-- To whom a handset gave the references that the entries of its outbox hold.
use Rattle.std.specs.Prelude.{◌≡◌, ℕ, ◌<◌, List, ◌++◌, true, Some, None, Ok}
use Rattle.sms_base.specs.Among.{Among}
use Rattle.sms_base.specs.declared.holder.Holder.TheVariants.{Entry}
use Rattle.sms_handset_rows.specs.outbox.References.{is_unfinished}
use Rattle.sms_handset_rows.specs.declared.outbox.notice.Notice.{Notice}
use Rattle.sms_handset_rows.specs.declared.outbox.out_entry.OutEntry.{OutEntry}
use Rattle.sms_script.specs.declared.report.rows.Direction.TheVariants.{Up}
use Rattle.sms_script.specs.declared.report.rows.GivenRow.{GivenRow}
use Rattle.sms_handset.specs.SoundCore.{IsSoundCore}
use Rattle.sms_handset.specs.declared.event.HandsetEvent.{HandsetEvent}
use Rattle.sms_handset_draft.specs.Draft.{Draft}
use Rattle.sms_play.specs.PlayState.{Party}
use Rattle.sms_play.specs.HandsetSide.{given_by, happened}
use Rattle.sms_play.specs.Premises.{last_holder}

-- the reference of each entry that has not ended was given to it last
abbrev pub EntriesAgree : List ℕ → List OutEntry → List GivenRow → Type 0
EntriesAgree handset outbox given =
    (o : OutEntry) → Among o outbox → is_unfinished o.state ≡ true → last_holder None handset Up o.reference given ≡ Some (Entry o.number)

-- each RP-SMMA that has not ended has a number below that one
abbrev pub AreBelow : ℕ → List Notice → Type 0
AreBelow next notices = (n : Notice) → Among n notices → n.number < next

abbrev pub EventLaw : Type 0
EventLaw =
    (event : HandsetEvent) (p : Party) (d : Draft) (given : List GivenRow) → IsSoundCore p.core → AreBelow p.core.rows.counters.notice p.core.notices
    → happened event p.core ≡ Ok d
    → EntriesAgree p.number p.core.rows.outbox given → EntriesAgree p.number d.rows.outbox (given ++ given_by p d)

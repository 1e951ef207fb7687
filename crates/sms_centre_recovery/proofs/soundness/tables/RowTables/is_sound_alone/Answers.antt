use Rattle.sms_centre_recovery.specs.soundness.RowsOf.{rows_of}
use Rattle.sms_centre_recovery.proofs.soundness.Together.{alone_from, alone_to}
use Rattle.sms_centre_recovery.proofs.soundness.tables.RowTables.is_sound_alone.Goals as goal

pub returns : goal.returns
returns c =
    let rows = rows_of c.args.self.now in
    let a = c.has_setup-setup in
    let b = c.times_are_sound-times in
    let d = c.report_addresses_are_sound-addresses in
    let e = c.messages_are_sound-messages in
    record {
      alone = alone_from rows a.result b.result d.result e.result c.both.result c.both-2.result c.both-3.result a.ensures b.ensures d.ensures e.ensures c.as_slice-bars.ensures.order
          c.both.ensures c.both-2.ensures c.both-3.ensures;
      only = alone_to rows a.result b.result d.result e.result c.both.result c.both-2.result c.both-3.result a.ensures b.ensures d.ensures e.ensures c.both.ensures c.both-2.ensures c.both-3.ensures;
    }

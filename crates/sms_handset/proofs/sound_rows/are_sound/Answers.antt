use Rattle.std.proofs.Common.{sym, ◌∙◌}
use Rattle.sms_handset.proofs.Soundness.{told}
use Rattle.sms_handset.proofs.sound_rows.are_sound.Goals as goal

pub returns : goal.returns
returns c =
    told c.args.rows.now c.all_hold.result c.keys_rise-rise.result c.inbox_passes-inbox.result c.outbox_passes-outbox.result c.requires
    (sym c.are_few.ensures ∙ c.if-not-are_few.false) c.keys_rise-rise.ensures c.inbox_passes-inbox.ensures c.outbox_passes-outbox.ensures c.all_hold.ensures

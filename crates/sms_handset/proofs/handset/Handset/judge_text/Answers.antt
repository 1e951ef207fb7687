use Rattle.std.proofs.Common.{sym, ◌∙◌}
use Rattle.std.specs.Str.{chars}
use Rattle.sms_handset_draft.specs.Draft.{draft_of}
use Rattle.sms_handset.proofs.JudgedTexts.{goes}
use Rattle.sms_handset.proofs.handset.Handset.judge_text.Goals as goal

pub returns-then-fits_outbox : goal.returns-then-fits_outbox
returns-then-fits_outbox c =
    let core = c.args.self.now.core in
    goes (chars c.args.text.now) (chars c.args.to.now) (draft_of core) c.in-Ok.parts c.in-Ok-new.destination (c.in-Ok.ensures core.rows.counters.concat_reference)
    (sym c.in-Ok-new.ensures.exact) c.in-Ok-new.ensures.found.valid (sym c.fits_outbox.ensures ∙ c.if-fits_outbox.true)

use Rattle.std.proofs.Common.{sym}
use Rattle.sms_script.proofs.owner.Judged.{judged_good, judged_bad, good_reads}
use Rattle.sms_script.specs.owner.OwnersText.{acts_in}
use Rattle.sms_script.proofs.owner.reading.read_acts.Goals as goal

pub returns-in-Ok : goal.returns-in-Ok
returns-in-Ok c = good_reads c.build.result (acts_in c.args.text.now) c.build.ensures (judged_good c.args.text.now (sym c.in-Ok.ensures))

pub returns-in-Err : goal.returns-in-Err
returns-in-Err c = judged_bad c.args.text.now c.in-Err.number (sym c.in-Err.ensures)

use Rattle.std.proofs.Common.{◌∙◌, sym, subst}
use Rattle.sms_player.specs.playing.Plays.{Represents}
use Rattle.sms_player.specs.playing.Played.{PlayingOf}
use Rattle.sms_player.proofs.playing.Lines.{same_lines, same_receipts}
use Rattle.sms_player.proofs.playing.Playing.read.Goals as goal

pub returns-clause-table : goal.returns-clause-table
returns-clause-table c = λ play shown.
    let was = subst (λ (p : PlayingOf). Represents play p) (sym c.self.view_is) shown in
    c.in_ok-table.ensures play.centre was.centre ∙ same_lines play.centre.rows.messages

pub returns-clause-receipts : goal.returns-clause-receipts
returns-clause-receipts c = λ play shown.
    let was = subst (λ (p : PlayingOf). Represents play p) (sym c.self.view_is) shown in
    c.in_ok-receipts.ensures play.centre was.centre ∙ same_receipts play.centre.rows.messages play.centre.rows.reports

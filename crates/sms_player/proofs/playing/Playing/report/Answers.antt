use Rattle.std.proofs.Common.{◌∙◌, ap, List, sym, subst}
use Rattle.sms_play.specs.PlayState.{Party}
use Rattle.sms_play.specs.Playing.{all_outbox_lines, joined_lines}
use Rattle.sms_player.specs.playing.Plays.{Represents}
use Rattle.sms_player.specs.playing.Played.{PlayingOf}
use Rattle.sms_player.proofs.playing.Lines.{report_is}
use Rattle.sms_player.proofs.playing.Playing.report.Goals as goal

pub returns : goal.returns
returns c = λ play shown.
    let was = subst (λ (p : PlayingOf). Represents play p) (sym c.self.view_is) shown in
    let read = c.in_ok-read.ensures in
    report_is play _ _ _ _ _ _ _ _ was.answers (read.table play shown) (read.accepted play shown) (read.joined ∙ ap (λ (ps : List Party). joined_lines ps) shown.parties)
    (read.receipts play shown) (read.outboxes ∙ ap (λ (ps : List Party). all_outbox_lines ps) shown.parties) was.given was.bag

use Rattle.std.proofs.Common.{◌∙◌, ap}
use Rattle.sms_centre_spec.specs.declared.rows.Rows.{Rows}
use Rattle.sms_centre_rows.specs.messages.Messages.{message_at}
use Rattle.sms_player.specs.playing.Played.{PlayingOf}
use Rattle.sms_player.proofs.playing.watching.PlayingScene.message.Goals as goal

pub returns : goal.returns
returns c = λ play shown.
    c.message.ensures ∙ ap (λ (p : PlayingOf). message_at c.args.id p.centre.rows.messages) c.self.view_is
    ∙ ap (λ (r : Rows). message_at c.args.id r.messages) shown.centre.same_rows

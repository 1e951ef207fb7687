use Rattle.std.proofs.Common.{◌∙◌, ap}
use Rattle.std.specs.Prelude.{option_map}
use Rattle.sms_centre_spec.specs.declared.rows.Rows.{Rows}
use Rattle.sms_centre_rows.specs.messages.Messages.{part_at}
use Rattle.sms_centre_rows.specs.declared.messages.part.PartRow.{PartRow}
use Rattle.sms_player.specs.playing.Played.{PlayingOf}
use Rattle.sms_player.proofs.playing.watching.PlayingScene.part_tpdu.Goals as goal

pub returns : goal.returns
returns c = λ play shown.
    c.part_tpdu.ensures ∙ ap (λ (p : PlayingOf). option_map (λ (x : PartRow). x.tpdu) (part_at c.args.id c.args.number p.centre.rows.parts)) c.self.view_is
    ∙ ap (λ (r : Rows). option_map (λ (x : PartRow). x.tpdu) (part_at c.args.id c.args.number r.parts)) shown.centre.same_rows

use Rattle.std.proofs.lemmas.Result.{on_ok_weaker}
use Rattle.std.specs.Prelude.{◌-◌, length}
use Rattle.smsc_status.specs.Charts.{caption_text, figure_end, figure_text, points_text}
use Rattle.smsc_status.proofs.Chains.{chain3}
use Rattle.smsc_status.proofs.chart.put_figure.Goals as goal

pub returns : goal.returns
unfolding figure_text
returns c =
    let values = c.args.values.now in
    on_ok_weaker c.end_figure.result
    (λ e. chain3 c.args.out.now
    (caption_text c.args.title.now c.args.greatest) (points_text (600 - length values) c.args.greatest values) figure_end
    c.in_ok-put_caption.ensures c.in_ok-put_points.ensures e)
    c.end_figure.ensures

use Rattle.std.proofs.lemmas.Result.{on_ok_weaker}
use Rattle.std.specs.Prelude.{codes}
use Rattle.smsc_status.specs.Charts.{chart_text}
use Rattle.smsc_status.specs.Page.{charts_text, tiles_end}
use Rattle.smsc_status.proofs.Chains.{chain4}
use Rattle.smsc_status.proofs.page.put_both_charts.Goals as goal

pub returns : goal.returns
unfolding charts_text
returns c =
    on_ok_weaker c.end_tiles.result
    (λ e. chain4 c.args.out.now
    (codes "<div class=\"charts\">") (chart_text (codes "Submissions, ten minutes") c.args.submissions.now)
    (chart_text (codes "Deliveries, ten minutes") c.args.deliveries.now) tiles_end
    c.in_ok-append.ensures.ok c.in_ok-put_chart.ensures c.in_ok-put_chart-2.ensures e)
    c.end_tiles.ensures

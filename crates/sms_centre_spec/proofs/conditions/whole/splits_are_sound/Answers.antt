use Rattle.std.proofs.Common.{sym, ◌∙◌, ap, filter_map}
use Rattle.sms_centre_rows.specs.conditions.SplitTest.{split_of, splits_differ}
use Rattle.sms_centre_spec.proofs.conditions.SplitsTested.{splits_from, splits_to}
use Rattle.sms_centre_spec.proofs.conditions.whole.splits_are_sound.Goals as goal

pub returns : goal.returns
returns c =
    let ms = c.args.messages.now.rows in
    let is = c.in_ok-apart.ensures ∙ ap (λ l. splits_differ (filter_map split_of l)) c.as_slice.ensures.rows in
    (λ e. splits_from ms (sym is ∙ e), λ apart. is ∙ splits_to ms c.as_slice.ensures.order apart)

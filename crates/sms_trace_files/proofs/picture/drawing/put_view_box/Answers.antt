use Rattle.std.proofs.Common.{ap, ◌∙◌}
use Rattle.sms_trace_files.specs.picture.Drawing.{pair, tall, view_box, wide}
use Rattle.sms_trace_files.proofs.picture.Pieces.{three_pieces}
use Rattle.sms_trace_files.proofs.picture.drawing.put_view_box.Goals as goal

pub returns : goal.returns
unfolding view_box
returns c =
    three_pieces c.args.out.now _ _ _ _ _ _ (pair (wide c.args.extent.now) (tall c.args.extent.now)) c.in_ok-append.ensures.ok c.in_ok-put_pair.ensures c.in_ok-append-2.ensures.ok
    (ap (λ w. pair w c.height.result) c.width.ensures ∙ ap (λ h. pair (wide c.args.extent.now) h) c.height.ensures)

use Rattle.sms_trace_files.specs.picture.Drawing.{head}
use Rattle.sms_trace_files.proofs.picture.Pieces.{four_pieces}
use Rattle.sms_trace_files.proofs.picture.drawing.put_head.Goals as goal

pub returns : goal.returns
unfolding head
returns c =
    four_pieces c.args.out.now _ _ _ _ _ _ _ _ c.in_ok-append.ensures.ok c.in_ok-put_view_box.ensures c.in_ok-put_size.ensures c.in_ok-append-2.ensures.ok

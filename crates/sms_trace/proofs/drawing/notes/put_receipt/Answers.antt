use Rattle.sms_trace.specs.drawing.Notes.{receipt_note}
use Rattle.sms_trace_files.proofs.picture.Pieces.{four_pieces}
use Rattle.sms_trace.proofs.drawing.notes.put_receipt.Goals as goal

pub returns : goal.returns
unfolding receipt_note
returns c =
    four_pieces c.args.out.now _ _ _ _ _ _ _ _ c.in_ok-put_numbered.ensures c.in_ok-put_numbered-2.ensures c.in_ok-append.ensures.ok c.in_ok-put_state.ensures

use Rattle.sms_trace_files.specs.picture.Elements.{sign_element}
use Rattle.sms_trace_files.proofs.picture.Pieces.{five_pieces}
use Rattle.sms_trace_files.proofs.picture.markup.put_sign.Goals as goal

pub returns : goal.returns
unfolding sign_element
returns c =
    five_pieces c.args.out.now _ _ _ _ _ _ _ _ _ _ c.in_ok-append.ensures.ok c.in_ok-append-2.ensures.ok c.in_ok-append-3.ensures.ok c.in_ok-put_place.ensures c.in_ok-append-4.ensures.ok

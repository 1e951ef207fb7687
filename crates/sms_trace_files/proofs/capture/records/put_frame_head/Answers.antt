use Rattle.sms_trace_files.proofs.capture.Chains.{behind}
use Rattle.sms_trace_files.proofs.capture.records.put_frame_head.Goals as goal

pub returns : goal.returns
returns c =
    behind c.args.out.now _ _ _ _ _ _ _ _ c.in_ok-put_both.ensures c.in_ok-append.ensures.ok c.frame_route.ensures c.frame_datagram.ensures c.gsmtap_head.ensures

use Rattle.sms_trace_files.proofs.capture.Chains.{three}
use Rattle.sms_trace_files.proofs.capture.records.put_pdu.Goals as goal

pub returns : goal.returns
returns c =
    three c.args.out.now _ _ _ _ _ _ _ _ c.in_ok-append-2.ensures.ok c.in_ok-put_pdu_head.ensures c.in_ok-append.ensures.ok c.pdu_record_head.ensures c.as_slice.ensures

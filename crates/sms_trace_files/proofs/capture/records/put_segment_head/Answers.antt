use Rattle.sms_trace_files.proofs.capture.Chains.{both}
use Rattle.sms_trace_files.proofs.capture.records.put_segment_head.Goals as goal

pub returns : goal.returns
returns c = both c.args.out.now _ _ _ _ _ c.in_ok-put_both.ensures c.segment_route-route.ensures c.checked_fields-fields.ensures

use Rattle.sms_tpdu.proofs.Lengths.{status_whole}
use Rattle.sms_tpdu.proofs.status_report.status_report_octets.Goals as goal

pub returns : goal.returns
returns c = (
  c.to_scts.result,
  c.to_scts-2.result,
  c.requires.address,
  c.to_scts.ensures,
  c.to_scts-2.ensures,
  c.requires.user_data,
  status_whole c.in_ok-out.out c.push.new.self c.push-2.new.self c.put_address.new.out c.append.new.self c.append-2.new.self c.push-3.new.self c.put_tail.new.out
      _ c.to_scts.result c.to_scts-2.result _ c.head_of.result _ _ _ c.in_ok-out.ensures c.head_of.ensures c.in_ok-push.ensures.ok c.in_ok-push-2.ensures.ok c.in_ok-put_address.ensures c.in_ok-append.ensures.ok c.in_ok-append-2.ensures.ok c.in_ok-push-3.ensures.ok c.in_ok-put_tail.ensures,
)

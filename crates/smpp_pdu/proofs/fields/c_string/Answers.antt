use Rattle.std.proofs.Common.{◌∙◌}
use Rattle.std.proofs.lemmas.Result.{err_from_is_err_and}
use Rattle.sms_base.proofs.Steps.{octet_takes}
use Rattle.smpp_pdu.specs.declared.fault.PduFault.TheVariants.{NoTerminator}
use Rattle.smpp_pdu.proofs.Scans.{scan_reads_further, scan_ends, scan_cut, scan_full, octet_cut, begun}
use Rattle.smpp_pdu.proofs.fields.c_string.Goals as goal

pub returns-in_err-octet : goal.returns-in_err-octet
returns-in_err-octet c =
    let p = err_from_is_err_and c.from_residual.result c.from_residual.ensures.1 in
    let e = octet_cut c.loop-len.cursor c.in_err-octet.field-0.0 c.in_err-octet.ensures in
    rw (p.1, p.2, e.1)
    (begun c.args.limit c.rest-octets.result.now c.args.cursor.now c.if-is_empty.ensures c.rest-octets.ensures
    ∙ scan_cut c.args.limit c.loop-len.len c.rest-octets.result.now c.loop-len.cursor c.loop-len.invariant c.loop-len-test.true e.0)

pub returns-then-branch-eq0 : goal.returns-then-branch-eq0
returns-then-branch-eq0 c =
    let cur = octet_takes NoTerminator c.loop-len.cursor (c.in_ok-octet.field-0, c.octet.new.self) c.in_ok-octet.ensures in
    rw c.of.ensures
    (begun c.args.limit c.rest-octets.result.now c.args.cursor.now c.if-is_empty.ensures c.rest-octets.ensures
    ∙ scan_ends c.args.limit c.loop-len.len c.in_ok-octet.field-0 c.rest-octets.result.now c.loop-len.cursor c.octet.new.self c.loop-len.invariant c.loop-len-test.true cur c.if-branch-eq0.true)

pub loop-len-preserved : goal.loop-len-preserved
loop-len-preserved c =
    scan_reads_further c.args.limit c.loop-len.len c.in_ok-octet.field-0 c.rest-octets.result.now c.loop-len.cursor c.octet.new.self c.loop-len.invariant c.loop-len-test.true
    (octet_takes NoTerminator c.loop-len.cursor (c.in_ok-octet.field-0, c.octet.new.self) c.in_ok-octet.ensures) c.if-branch-eq0.false

pub returns : goal.returns
returns c =
    begun c.args.limit c.rest-octets.result.now c.args.cursor.now c.if-is_empty.ensures c.rest-octets.ensures
    ∙ scan_full c.args.limit c.loop-len.len c.rest-octets.result.now c.loop-len.cursor c.loop-len.invariant c.loop-len-test.false

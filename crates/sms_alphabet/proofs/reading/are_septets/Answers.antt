use Rattle.std.proofs.Common.{◌+◌, get_or, drop, arith}
use Rattle.std.proofs.lemmas.List.{length-drop}
use Rattle.sms_alphabet.proofs.TextReads.{most_turn, most_end, next_septet}
use Rattle.sms_alphabet.proofs.reading.are_septets.Goals as goal

pub loop-octet-preserved : goal.loop-octet-preserved
loop-octet-preserved c =
    let l = c.loop-octet in
    let octets = c.args.octets.now in
    rw c.max-most.ensures (most_turn octets (drop l.octet-index octets) (drop (l.octet-index + 1) octets) l.most (get_or octets l.octet-index 0) (next_septet octets l.octet-index c.loop-octet-test.true) l.invariant)

pub returns : goal.returns
returns c =
    let l = c.loop-octet in
    let octets = c.args.octets.now in
    most_end octets (drop l.octet-index octets) l.most (omega (arith, length-drop l.octet-index octets, c.loop-octet-test.false)) l.invariant

use Rattle.std.proofs.Common.{rules, ◌≤◌, length}
use Rattle.smsc_endpoint.proofs.Secrets.{all_found}
use Rattle.smsc_endpoint.proofs.first_frame.is_same.Goals as goal

pub returns : goal.returns
returns c =
    let l = c.loop-octet in
    let past : length c.args.given.now ≤ l.octet-index = search rules in
    all_found c.args.secret.now c.args.given.now l.left.now l.octet-index l.differs past l.invariant

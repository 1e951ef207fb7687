use Rattle.std.proofs.Common.{◌≡◌, length, subst, ◌∙◌, arith, rules}
use Rattle.sqlite_disk.specs.Disk.{Holds}
use Rattle.sms_store_files.proofs.Octets.{mark_of_head}
use Rattle.sms_store_files.proofs.reading.mark_at.Goals as goal

pub returns-clause-mark : goal.returns-clause-mark
returns-clause-mark g c clean =
    let head = c.read_at.new.buf in
    let len : length head ≡ 100 = search rules in
    let held = subst (λ f. Holds f 0 head) c.len.ensures.seen (c.in_ok-read_at.ensures.read clean (omega arith)) in
    c.mark_in.ensures ∙ mark_of_head (g.D.Disk.seen c.args.disk.now) head len held

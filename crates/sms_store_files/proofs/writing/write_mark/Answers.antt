use Rattle.std.proofs.Common.{◌≡◌, length, subst, sym, ◌∙◌, arith, rules}
use Rattle.sms_store_files.specs.Writing.{IsMarked}
use Rattle.sms_store_files.proofs.Marked.{marked}
use Rattle.sms_store_files.proofs.writing.write_mark.Goals as goal

pub returns-clause-marked : goal.returns-clause-marked
returns-clause-marked g c clean =
    let before = g.D.Disk.seen c.args.files.now.db in
    let between = g.D.Disk.seen c.write_at.new.self in
    let after = g.D.Disk.seen c.write_at-2.new.self in
    let name_long : length c.octets_of.result ≡ 4 = search rules in
    let number_long : length c.octets_of-2.result ≡ 4 = search rules in
    subst (λ f. IsMarked c.args.mark before f) (sym c.sync.ensures.seen)
    (marked c.args.mark before between after c.octets_of.result c.octets_of-2.result
    c.write_at.ensures.others (c.in_ok-write_at.ensures.written (omega arith)) c.write_at-2.ensures.others (c.in_ok-write_at-2.ensures.written (omega arith))
    name_long number_long c.octets_of.ensures (c.octets_of-2.ensures ∙ c.in-Some.ensures.found))

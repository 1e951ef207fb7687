use Rattle.std.proofs.lemmas.Result.{on_ok_weaker}
use Rattle.std.specs.Prelude.{codes, get_or}
use Rattle.smsc_status.specs.Numbers.{clock_text, date_text, stamp_text}
use Rattle.smsc_status.proofs.Chains.{chain4}
use Rattle.smsc_status.proofs.numbers.put_stamp.Goals as goal

pub returns : goal.returns
unfolding stamp_text
returns c =
    let s = c.args.stamp.now in
    on_ok_weaker c.append-2.result
    (λ e. chain4 c.args.out.now
    (date_text (get_or s 0 0) (get_or s 1 0) (get_or s 2 0)) (codes "T") (clock_text (get_or s 3 0) (get_or s 4 0) (get_or s 5 0)) (codes "Z")
    c.in_ok-put_date.ensures c.in_ok-append.ensures.ok c.in_ok-put_clock.ensures e)
    c.append-2.ensures.ok

use Rattle.smsc_cli.proofs.centre_table.Times.{two_pieces}
use Rattle.smsc_cli.specs.centre_table.CentreTable.{time_of}
use Rattle.smsc_cli.proofs.centre_table.messages.put_time.Goals as goal

pub returns : goal.returns
unfolding time_of
returns c = two_pieces c.append-2.result c.args.out.now c.append.new.self c.append-2.new.self c.date_digits.result c.second_digits.result
    _ _ c.date_digits.ensures c.second_digits.ensures c.in_ok-append.ensures.ok c.append-2.ensures.ok

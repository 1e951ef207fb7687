use Rattle.smsc_cli.proofs.centre_table.Ids.{id_put}
use Rattle.smsc_cli.proofs.centre_table.messages.put_id.Goals as goal

pub returns : goal.returns
returns c = id_put c.put_cell.result c.args.out.now c.put_cell.new.out c.digits.result c.args.id c.number-range.ensures.range c.digits.ensures c.put_cell.ensures

use Rattle.sqlite.specs.Held.{state}
use Rattle.sms_store.specs.centre.Founding.{MakesNext}
use Rattle.sms_store.proofs.keeping.Made.{three_made}
use Rattle.sms_store.proofs.centre.TablesMade.{next_made}
use Rattle.sms_store.proofs.centre.tables.make_next_tables.Goals as goal

pub returns-clause-done : goal.returns-clause-done
returns-clause-done g c clean live inside =
    let at = state g.S.Store in
    three_made (at c.args.tx.now.conn.now) (at c.make.new.tx.conn.now) (at c.make-2.new.tx.conn.now) (at c.make-3.new.tx.conn.now) _ _ _ MakesNext (next_made _ _ _ _) c.make-3.result
    c.make-2.ensures.survives c.make-3.ensures.survives c.in_ok-make.ensures.done c.in_ok-make-2.ensures.done c.make-3.ensures.done clean live inside

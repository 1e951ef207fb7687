use Rattle.sqlite.specs.Files.{file_state}
use Rattle.sms_store_sql.proofs.listing.Steps.{if_ok}
use Rattle.sms_store.proofs.keeping.Closed.{left_whole, store_committed}
use Rattle.sms_store.proofs.keeping.closing.StoreKeep+P+FileStore+D.close.Goals as goal

pub returns-clause-whole : goal.returns-clause-whole
returns-clause-whole g c = if_ok c.close_files.result (λ files h clean rows held.
    let of = g.P.Kept.stores in
    let conn = c.args.self.conn in
    let copied = h clean in
    left_whole of g.D.Disk files (file_state conn).committed rows (c.schema.ensures.live copied.was_open).1
    (store_committed of c.args.self.setup (file_state conn) rows held) copied.seen copied.left) c.close_files.ensures.copied

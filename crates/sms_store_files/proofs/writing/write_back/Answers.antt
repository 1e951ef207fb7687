use Rattle.sqlite_wal.specs.Files.{outcomes, seen_image}
use Rattle.sqlite_wal.specs.PageSize.{bytes_of}
use Rattle.sms_store_files.proofs.WrittenBack.{back_of_read, if_ok, nothing_of_read, size_is}
use Rattle.sms_store_files.proofs.writing.write_back.Goals as goal

pub returns-in-Some-clause-whole : goal.returns-in-Some-clause-whole
returns-in-Some-clause-whole g c =
    let was = c.args.files in
    let read = c.probe_page_size.new.files in
    let probed = c.in_ok-size.ensures in
    if_ok c.written_back.result c.written_back.ensures.whole c.written_back.ensures.honest
    (λ back w h clean size page names.
    back_of_read was.log read.log was.db read.db probed.log probed.db (bytes_of c.in-Some.size) size (seen_image g.D.Disk back.log back.db)
    (size_is c.in_ok-size.field-0 c.in-Some.size (seen_image g.D.Disk was.log was.db) size c.in-Some.is (probed.by_log (h clean)) (probed.by_file (h clean)) names)
    (w clean))

pub returns-in-Some-clause-crash : goal.returns-in-Some-clause-crash
returns-in-Some-clause-crash g c =
    let was = c.args.files in
    let read = c.probe_page_size.new.files in
    let probed = c.in_ok-size.ensures in
    if_ok c.written_back.result c.written_back.ensures.crash c.written_back.ensures.honest
    (λ back a h clean size names.
    nothing_of_read was.log read.log was.db read.db probed.log probed.db (bytes_of c.in-Some.size) size (outcomes g.D.Disk back.log back.db)
    (size_is c.in_ok-size.field-0 c.in-Some.size (seen_image g.D.Disk was.log was.db) size c.in-Some.is (probed.by_log (h clean)) (probed.by_file (h clean)) names)
    (a clean))

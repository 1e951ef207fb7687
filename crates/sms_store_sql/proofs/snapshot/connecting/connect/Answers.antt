use Rattle.std.proofs.Common.{ℕ, List, ap₂, subst}
use Rattle.sqlite_wal.specs.Recovery.{Image}
use Rattle.sqlite.specs.Files.{file_state}
use Rattle.sqlite.specs.Start.{FindsIn}
use Rattle.sms_store_sql.proofs.snapshot.connecting.connect.Goals as goal

abbrev image : List ℕ → List ℕ → Image
image log db = record { log = log; db = db }

pub returns-in-Ok-clause-found : goal.returns-in-Ok-clause-found
returns-in-Ok-clause-found c = λ clean.
    let found = c.in-Ok.ensures.found clean in
    let same = ap₂ image c.in_ok-files.ensures.log c.in_ok-files.ensures.db in
    subst (λ i. FindsIn i (file_state c.in-Ok.conn)) same (record { holds = found.holds; reads = found.reads })

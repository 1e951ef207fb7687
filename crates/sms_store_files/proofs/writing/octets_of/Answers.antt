use Rattle.std.proofs.Common.{arith}
use Rattle.sqlite_wal.specs.Format.{be32}
use Rattle.sms_store_files.proofs.writing.octets_of.Goals as goal

pub returns : goal.returns
unfolding be32
returns c = omega arith

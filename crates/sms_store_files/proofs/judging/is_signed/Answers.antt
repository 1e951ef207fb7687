use Rattle.sqlite_wal.specs.Format.{part}
use Rattle.sms_store_files.proofs.judging.is_signed.Goals as goal

pub returns : goal.returns
unfolding part
returns c = c.is_signed_head.ensures

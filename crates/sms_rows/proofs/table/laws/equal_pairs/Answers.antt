use Rattle.sms_rows.proofs.table.KeyLaws.{pairs_apart}
use Rattle.sms_rows.proofs.table.laws.equal_pairs.Goals as goal

pub returns : goal.returns
returns c = λ a b m n l k e. pairs_apart a b m n l k e

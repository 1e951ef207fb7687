-- The counters are at place 1.
use Rattle.std.specs.Prelude.{ℕ}
use Rattle.sms_store.specs.handset.Types.{CountersRow}

abbrev pub counters_key : CountersRow → ℕ
counters_key row = 1

-- The keys of the outbox and of the RP-SMMA that were sent and have not ended: their numbers.
use Rattle.std.specs.Prelude.{ℕ}
use Rattle.sms_handset_rows.specs.declared.outbox.out_entry.OutEntry.{OutEntry}
use Rattle.sms_handset_rows.specs.declared.outbox.notice.Notice.{Notice}

abbrev pub out_key : OutEntry → ℕ
out_key o = o.number

-- of the RP-SMMA that were sent and have not ended
abbrev pub notice_key : Notice → ℕ
notice_key n = n.number

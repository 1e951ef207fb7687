use Rattle.sms_rows.specs.table.Table.{put}
use Rattle.sms_rows.proofs.table.Tables.{row_at_put, row_at_put_other}
use Rattle.sms_centre_rows.specs.messages.Messages.{part_key, part_reaching}
use Rattle.sms_centre_rows.proofs.messages.PartRows.{numbered_amended, numbered_put, part_amended, part_amended_other}
use Rattle.sms_centre_rows.specs.waiting.Revisions.{amended}
use Rattle.sms_centre_rows.proofs.reports.WaitingChanges.{part_changes}
use Rattle.sms_centre_rows.proofs.reports.laws.a_part_waits_while_it_is_undone.Goals as goal

pub returns : goal.returns
returns c = record {
  put = λ h ms qs ps rs p numbered alone some small. part_changes h ms qs ps (put part_key p ps) rs p numbered (numbered_put p ps numbered some small) alone (row_at_put part_key p ps) (λ k ne. row_at_put_other part_key k p ps ne);
  amended = λ h ms qs ps rs p q numbered alone there.
      part_changes h ms qs ps (amended part_key part_reaching (part_key p) q ps) rs (part_reaching q p) numbered (numbered_amended (part_key p) q ps numbered) alone (part_amended p q ps there) (λ k ne. part_amended_other p q ps k ne);
}

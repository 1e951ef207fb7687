use Rattle.smsc_server.proofs.LinkWritten.{is_link_read}
use Rattle.smsc_server.proofs.answer_laws.what_a_handset_reads.Goals as goal

pub returns : goal.returns
returns c = is_link_read c.frames_become_jobs.ensures c.frames_are_sent_behind_their_lengths.ensures

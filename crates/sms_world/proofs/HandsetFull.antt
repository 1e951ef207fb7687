-- A handset without memory, and its owner who deletes an entry.
use Rattle.std.proofs.Common.{◌≡◌, [], ◌∷◌, None, refl}
use Rattle.std.specs.Prelude.{codes}
use Rattle.sms_base.specs.declared.final_state.FinalState.TheVariants.{Delivered}
use Rattle.sms_script.specs.declared.report.answers.Answered.TheVariants.{Accepted, Done}
use Rattle.sms_centre_rows.specs.declared.report_lines.MessageState.TheVariants.{Final}
use Rattle.sms_world.proofs.Everything.{everything}
use Rattle.sms_world.proofs.Worked.{told, RunReports, all_hex}

memory_comes :
    told (codes "start 1709251198\ncentre 447700900000\naccount app1 secret 447700900001\nhandset 447700900456 1\nsubmit app1 447700900456 0 00 1 - 68656C6C6F\ndeliver 1\ndeliver 2\ndeliver 3\ndeliver 4\nsubmit app1 447700900456 0 00 1 - 68656C6C6F\ndeliver 5\ndeliver 6\ndeliver 7\ndeliver 8\ndelete 447700900456 1\ndeliver 9\ndeliver 10\ndeliver 11\ndeliver 12\ndeliver 14\ndeliver 15\n")
    ≡ RunReports (record {
      answers = record { event = 1; answered = Accepted 1 } ∷ record { event = 6; answered = Accepted 2 } ∷ record { event = 11; answered = Done } ∷ [];
      states = Final Delivered ∷ Final Delivered ∷ [];
      accepted = all_hex (codes "240C9144770009001000004220923295850005E8329BFD06" ∷ codes "240C9144770009001000004220923295850005E8329BFD06" ∷ []);
      joined = [];
      receipts = record { id = 1; state = Delivered } ∷ record { id = 2; state = Delivered } ∷ [];
      frames = all_hex (
          codes "090124010007914477000900000018240C9144770009001000004220923295850005E8329BFD06"
          ∷ codes "8904"
          ∷ codes "890106020041020000"
          ∷ codes "0904"
          ∷ codes "190124010107914477000900000018240C9144770009001000004220923295850005E8329BFD06"
          ∷ codes "9904"
          ∷ codes "99010904010116410300D300"
          ∷ codes "1904"
          ∷ codes "0901020600"
          ∷ codes "8904"
          ∷ codes "8901020300"
          ∷ codes "290124010107914477000900000018240C9144770009001000004220923295850005E8329BFD06"
          ∷ codes "0904"
          ∷ codes "A904"
          ∷ codes "A90106020141020000"
          ∷ codes "2904"
          ∷ []);
      broken = None;
    })
unfolding everything
memory_comes = refl

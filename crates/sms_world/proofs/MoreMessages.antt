-- More messages wait, and then they do not.
use Rattle.std.proofs.Common.{◌≡◌, [], ◌∷◌, None, refl}
use Rattle.std.specs.Prelude.{codes}
use Rattle.smpp_pdu.specs.declared.status.CommandStatus.TheVariants.{ESME_ROK}
use Rattle.sms_base.specs.declared.final_state.FinalState.TheVariants.{Delivered, Deleted}
use Rattle.sms_script.specs.declared.report.answers.Answered.TheVariants.{Accepted, Status}
use Rattle.sms_centre_rows.specs.declared.report_lines.MessageState.TheVariants.{Final}
use Rattle.sms_world.proofs.Everything.{everything}
use Rattle.sms_world.proofs.Worked.{told, RunReports, all_hex}

bit_tells :
    told (codes "start 1709251198\ncentre 447700900000\naccount app1 secret 447700900001\nhandset 447700900456 3\nsubmit app1 447700900456 0 00 1 - 68656C6C6F\nsubmit app1 447700900456 0 00 1 - 68656C6C6F\nsubmit app1 447700900456 0 00 1 - 68656C6C6F\ndeliver 1\ndeliver 2\ndeliver 3\ndeliver 5\ncancel app1 0000000003\ndeliver 6\ntick centre 1709251238\ntick centre 1709251298\ndeliver 8\ndeliver 9\ndeliver 10\n")
    ≡ RunReports (record {
      answers = record { event = 1; answered = Accepted 1 } ∷ record { event = 2; answered = Accepted 2 } ∷ record { event = 3; answered = Accepted 3 } ∷ record { event = 8; answered = Status ESME_ROK } ∷ [];
      states = Final Delivered ∷ Final Delivered ∷ Final Deleted ∷ [];
      accepted = all_hex (codes "240C9144770009001000004220923295850005E8329BFD06" ∷ codes "200C9144770009001000004220923295850005E8329BFD06" ∷ []);
      joined = [];
      receipts = record { id = 1; state = Delivered } ∷ record { id = 3; state = Deleted } ∷ record { id = 2; state = Delivered } ∷ [];
      frames = all_hex (
          codes "090124010007914477000900000018240C9144770009001000004220923295850005E8329BFD06"
          ∷ codes "8904"
          ∷ codes "890106020041020000"
          ∷ codes "0904"
          ∷ codes "190124010107914477000900000018200C9144770009001000004220923295850005E8329BFD06"
          ∷ codes "9904"
          ∷ codes "990106020141020000"
          ∷ codes "290124010107914477000900000018240C9144770009001000004220923295850005E8329BFD06"
          ∷ codes "A904"
          ∷ codes "A90106020141020000"
          ∷ codes "2904"
          ∷ []);
      broken = None;
    })
unfolding everything
bit_tells = refl

-- The acknowledgement is lost: the part goes again after its minute, and the handset knows it as a double.
use Rattle.std.proofs.Common.{◌≡◌, [], ◌∷◌, None, refl}
use Rattle.std.specs.Prelude.{codes}
use Rattle.sms_base.specs.declared.final_state.FinalState.TheVariants.{Delivered}
use Rattle.sms_script.specs.declared.report.answers.Answered.TheVariants.{Accepted}
use Rattle.sms_centre_rows.specs.declared.report_lines.MessageState.TheVariants.{Final}
use Rattle.sms_world.proofs.Everything.{everything}
use Rattle.sms_world.proofs.Worked.{told, RunReports, all_hex}

once_for_all :
    told (codes "start 1709251198\ncentre 447700900000\naccount app1 secret 447700900001\nhandset 447700900456 1\nsubmit app1 447700900456 0 00 1 - 68656C6C6F\ndeliver 1\ndeliver 2\ntick centre 1709251238\ntick centre 1709251298\ndeliver 4\ndeliver 5\ndeliver 6\n")
    ≡ RunReports (record {
      answers = record { event = 1; answered = Accepted 1 } ∷ [];
      states = Final Delivered ∷ [];
      accepted = all_hex (codes "240C9144770009001000004220923295850005E8329BFD06" ∷ []);
      joined = [];
      receipts = record { id = 1; state = Delivered } ∷ [];
      frames = all_hex (
          codes "090124010007914477000900000018240C9144770009001000004220923295850005E8329BFD06"
          ∷ codes "8904"
          ∷ codes "890106020041020000"
          ∷ codes "190124010007914477000900000018240C9144770009001000004220923295850005E8329BFD06"
          ∷ codes "9904"
          ∷ codes "990106020041020000"
          ∷ codes "1904"
          ∷ []);
      broken = None;
    })
unfolding everything
once_for_all = refl

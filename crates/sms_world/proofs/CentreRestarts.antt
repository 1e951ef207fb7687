-- The centre restarts while an acknowledgement is under way.
use Rattle.std.proofs.Common.{◌≡◌, [], ◌∷◌, None, refl}
use Rattle.std.specs.Prelude.{codes}
use Rattle.sms_base.specs.declared.final_state.FinalState.TheVariants.{Delivered}
use Rattle.sms_script.specs.declared.report.answers.Answered.TheVariants.{Accepted}
use Rattle.sms_centre_rows.specs.declared.report_lines.MessageState.TheVariants.{Final}
use Rattle.sms_world.proofs.Everything.{everything}
use Rattle.sms_world.proofs.Worked.{told, RunReports, all_hex}

goes_on :
    told (codes "start 1709251198\ncentre 447700900000\naccount app1 secret 447700900001\nhandset 447700900456 3\nsubmit app1 447700900456 0 00 1 - 68656C6C6F\ndeliver 1\nrestart centre\ndeliver 3\ndeliver 4\ntick centre 1709251198\ndeliver 5\ndeliver 6\ndeliver 7\n")
    ≡ RunReports (record {
      answers = record { event = 1; answered = Accepted 1 } ∷ [];
      states = Final Delivered ∷ [];
      accepted = all_hex (codes "240C9144770009001000004220923295850005E8329BFD06" ∷ []);
      joined = [];
      receipts = record { id = 1; state = Delivered } ∷ [];
      frames = all_hex (
          codes "090124010007914477000900000018240C9144770009001000004220923295850005E8329BFD06"
          ∷ codes "8904"
          ∷ codes "890106020041020000"
          ∷ codes "091051"
          ∷ codes "090124010007914477000900000018240C9144770009001000004220923295850005E8329BFD06"
          ∷ codes "8904"
          ∷ codes "890106020041020000"
          ∷ codes "0904"
          ∷ []);
      broken = None;
    })
unfolding everything
goes_on = refl

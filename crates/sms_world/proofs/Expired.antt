-- A validity period that ends while the acknowledgement is under way.
use Rattle.std.proofs.Common.{◌≡◌, [], ◌∷◌, None, refl}
use Rattle.std.specs.Prelude.{codes}
use Rattle.sms_base.specs.declared.final_state.FinalState.TheVariants.{Expired}
use Rattle.sms_script.specs.declared.report.answers.Answered.TheVariants.{Accepted}
use Rattle.sms_centre_rows.specs.declared.report_lines.MessageState.TheVariants.{Final}
use Rattle.sms_world.proofs.Everything.{everything}
use Rattle.sms_world.proofs.Worked.{told, RunReports, all_hex}

late_answer :
    told (codes "start 1709251198\ncentre 447700900000\naccount app1 secret 447700900001\nhandset 447700900456 3\nsubmit app1 447700900456 0 00 1 000000000030000R 68656C6C6F\ndeliver 1\ndeliver 2\ntick centre 1709251228\ndeliver 3\n")
    ≡ RunReports (record {
      answers = record { event = 1; answered = Accepted 1 } ∷ [];
      states = Final Expired ∷ [];
      accepted = all_hex (codes "240C9144770009001000004220923295850005E8329BFD06" ∷ []);
      joined = [];
      receipts = record { id = 1; state = Expired } ∷ [];
      frames = all_hex (
          codes "090124010007914477000900000018240C9144770009001000004220923295850005E8329BFD06"
          ∷ codes "8904"
          ∷ codes "890106020041020000"
          ∷ codes "0904"
          ∷ []);
      broken = None;
    })
unfolding everything
late_answer = refl

-- A long message that an application sent in three parts arrives in disorder, one part twice, and is joined.
use Rattle.std.proofs.Common.{◌≡◌, [], ◌∷◌, None, refl}
use Rattle.std.specs.Prelude.{codes}
use Rattle.sms_base.specs.declared.final_state.FinalState.TheVariants.{Delivered}
use Rattle.sms_script.specs.declared.report.answers.Answered.TheVariants.{Accepted}
use Rattle.sms_centre_rows.specs.declared.report_lines.MessageState.TheVariants.{Final}
use Rattle.sms_world.proofs.Everything.{everything}
use Rattle.sms_world.proofs.Worked.{told, RunReports, all_hex}

in_order :
    told (codes "start 1709251198\ncentre 447700900000\naccount app1 secret 447700900001\nhandset 447700900456 3\nsubmit app1 447700900456 0 40 1 - 0500032A030363\nsubmit app1 447700900456 0 40 1 - 0500032A030161\nsubmit app1 447700900456 0 40 1 - 0500032A030262\ndeliver 1\ndeliver 3\ndeliver 5\ndeliver 5\ndeliver 7\ndeliver 11\ndeliver 13\n")
    ≡ RunReports (record {
      answers = record { event = 1; answered = Accepted 1 } ∷ record { event = 2; answered = Accepted 2 } ∷ record { event = 3; answered = Accepted 3 } ∷ [];
      states = Final Delivered ∷ Final Delivered ∷ Final Delivered ∷ [];
      accepted = all_hex (codes "640C91447700090010000042209232958500080500032A0303C6" ∷ codes "600C91447700090010000042209232958500080500032A0301C2" ∷ codes "640C91447700090010000042209232958500080500032A0302C4" ∷ []);
      joined = codes "abc" ∷ [];
      receipts = record { id = 1; state = Delivered } ∷ record { id = 2; state = Delivered } ∷ record { id = 3; state = Delivered } ∷ [];
      frames = all_hex (
          codes "09012601000791447700090000001A640C91447700090010000042209232958500080500032A0303C6"
          ∷ codes "8904"
          ∷ codes "890106020041020000"
          ∷ codes "0904"
          ∷ codes "19012601010791447700090000001A600C91447700090010000042209232958500080500032A0301C2"
          ∷ codes "9904"
          ∷ codes "990106020141020000"
          ∷ codes "9904"
          ∷ codes "990106020141020000"
          ∷ codes "1904"
          ∷ codes "29012601020791447700090000001A640C91447700090010000042209232958500080500032A0302C4"
          ∷ codes "A904"
          ∷ codes "A90106020241020000"
          ∷ codes "2904"
          ∷ []);
      broken = None;
    })
unfolding everything
in_order = refl

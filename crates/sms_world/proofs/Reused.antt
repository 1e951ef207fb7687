-- A source that begins a message under a concatenation reference whose last message has not arrived.
use Rattle.std.proofs.Common.{◌≡◌, [], ◌∷◌, Some, refl}
use Rattle.std.specs.Prelude.{codes}
use Rattle.sms_script.specs.declared.report.answers.Answered.TheVariants.{Accepted}
use Rattle.sms_centre_rows.specs.declared.report_lines.MessageState.TheVariants.{Enroute}
use Rattle.sms_script.specs.declared.report.Broken.TheVariants.{Reused}
use Rattle.sms_world.proofs.Everything.{everything}
use Rattle.sms_world.proofs.Worked.{told, RunReports, all_hex}

two_first_parts :
    told (codes "start 1709251198\ncentre 447700900000\naccount app1 secret 447700900001\nhandset 447700900456 3\nsubmit app1 447700900456 0 40 0 - 0500032A020161\nsubmit app1 447700900456 0 40 0 - 0500032A020161\n")
    ≡ RunReports (record {
      answers = record { event = 1; answered = Accepted 1 } ∷ record { event = 2; answered = Accepted 2 } ∷ [];
      states = Enroute ∷ Enroute ∷ [];
      accepted = [];
      joined = [];
      receipts = [];
      frames = all_hex (
          codes "09012601000791447700090000001A440C91447700090010000042209232958500080500032A0201C2"
          ∷ []);
      broken = Some (Reused 2);
    })
unfolding everything
two_first_parts = refl

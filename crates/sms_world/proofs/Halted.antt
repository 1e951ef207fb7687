-- Events that are stopped before or after their store call, and events that can not be played.
use Rattle.std.proofs.Common.{◌≡◌, [], ◌∷◌, None, refl}
use Rattle.std.specs.Prelude.{codes}
use Rattle.sms_script.specs.declared.report.answers.Answered.TheVariants.{Stopped}
use Rattle.sms_centre_rows.specs.declared.report_lines.MessageState.TheVariants.{Enroute}
use Rattle.sms_script.specs.declared.play_fault.PlayFault.TheVariants.{NoSuchFrame, BadSetup}
use Rattle.sms_world.proofs.Everything.{everything}
use Rattle.sms_world.proofs.Worked.{told, RunReports, Fails}

before :
    told (codes "start 1709251198\ncentre 447700900000\naccount app1 secret 447700900001\nhandset 447700900456 3\nstopped before submit app1 447700900456 0 00 1 - 68656C6C6F\n")
    ≡ RunReports (record {
      answers = record { event = 1; answered = Stopped } ∷ [];
      states = [];
      accepted = [];
      joined = [];
      receipts = [];
      frames = [];
      broken = None;
    })
unfolding everything
before = refl

after :
    told (codes "start 1709251198\ncentre 447700900000\naccount app1 secret 447700900001\nhandset 447700900456 3\nstopped after submit app1 447700900456 0 00 1 - 68656C6C6F\n")
    ≡ RunReports (record {
      answers = record { event = 1; answered = Stopped } ∷ [];
      states = Enroute ∷ [];
      accepted = [];
      joined = [];
      receipts = [];
      frames = [];
      broken = None;
    })
unfolding everything
after = refl

no_frame :
    told (codes "start 1709251198\ncentre 447700900000\naccount app1 secret 447700900001\nhandset 447700900456 3\nsubmit app1 447700900456 0 00 1 - 68656C6C6F\ndeliver 9\n")
    ≡ Fails (NoSuchFrame 2)
unfolding everything
no_frame = refl

no_handsets :
    told (codes "start 1709251198\ncentre 447700900000\naccount app1 secret 447700900001\nsubmit app1 447700900456 0 00 1 - 68656C6C6F\n")
    ≡ Fails BadSetup
unfolding everything
no_handsets = refl

use Rattle.std.proofs.Common.{refl}
use Rattle.sms_centre_recovery.specs.soundness.RowsOf.{rows_of}
use Rattle.sms_centre.specs.state.CentreState.{CentreStateOf}
use Rattle.sms_centre.proofs.state.Begun.{begun_represents}
use Rattle.sms_centre.proofs.state.centre_state.CentreState.on_sound.Goals as goal

pub returns-in-Ok : goal.returns-in-Ok
returns-in-Ok c =
    let rows = rows_of c.args.tables in
    let memory = c.in-Ok.memory in
    let holds = c.in-Ok.ensures in
    let centre_state : CentreStateOf = record {
      setup = c.setup_of.result;
      moment = c.moment_of-moment.result;
      messages = memory.messages;
      reference_index = memory.reference_index;
      queues = memory.queues;
      reports = memory.reports;
      log = memory.log;
      sessions = c.args.sessions;
    } in
    begun_represents c.args.are_up rows c.args.handsets.now c.args.sessions.rows c.requires.sound c.are_numbers.ensures c.requires.apart c.requires.sessions c.as_slice-seats.ensures.order
    centre_state c.setup_of.ensures c.moment_of-moment.ensures holds.messages holds.reference_index holds.queues holds.reports holds.log refl

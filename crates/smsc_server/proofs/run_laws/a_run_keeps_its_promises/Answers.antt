use Rattle.smsc_server.proofs.RunKept.{run_keeps}
use Rattle.smsc_server.proofs.run_laws.a_run_keeps_its_promises.Goals as goal

pub returns : goal.returns
returns c = run_keeps c.an_answer_names_a_message.ensures

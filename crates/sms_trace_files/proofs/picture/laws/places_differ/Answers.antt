use Rattle.std.proofs.Common.{arith}
use Rattle.sms_trace_files.proofs.picture.laws.places_differ.Goals as goal

pub returns-clause-lanes : goal.returns-clause-lanes
returns-clause-lanes c = λ one other e. omega arith

pub returns-clause-rows : goal.returns-clause-rows
returns-clause-rows c = λ one other e. omega arith

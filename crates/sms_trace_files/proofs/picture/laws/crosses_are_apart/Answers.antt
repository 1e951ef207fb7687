use Rattle.std.proofs.Common.{arith}
use Rattle.sms_trace_files.proofs.picture.laws.crosses_are_apart.Goals as goal

pub returns-clause-lanes : goal.returns-clause-lanes
returns-clause-lanes c = λ lane lanes row before. omega arith

pub returns-clause-note : goal.returns-clause-note
returns-clause-note c = λ lanes row. omega arith

use Rattle.sms_centre_spec.proofs.bodies.Bodies.{part_body, report_body}
use Rattle.sms_centre_spec.proofs.bodies.laws.sound_rows_have_their_octets.Goals as goal

pub returns-clause-parts : goal.returns-clause-parts
returns-clause-parts c = part_body

pub returns-clause-reports : goal.returns-clause-reports
returns-clause-reports c = report_body

use Rattle.sms_centre_group.proofs.StoredBodies.{part_given, report_given}
use Rattle.sms_centre_group.proofs.laws.a_group_gives_its_bodies.Goals as goal

pub returns-clause-parts : goal.returns-clause-parts
returns-clause-parts c = part_given

pub returns-clause-reports : goal.returns-clause-reports
returns-clause-reports c = report_given

use Rattle.smsc_endpoint.proofs.LoopCourses.{loop_course}
use Rattle.smsc_endpoint.proofs.laws.the_loop_makes_a_course.Goals as goal

pub returns : goal.returns
returns c = loop_course

use Rattle.std.proofs.Common.{false, List, sym, ap, ◌∙◌}
use Rattle.sms_world_model.specs.WorldStep.{Step, end}
use Rattle.sms_world_model.specs.ScriptRun.{items}
use Rattle.sms_world_model.proofs.restart_leaves_the_world.Goals as goal

pub returns : goal.returns
returns c = λ w v m leads. let e = leads.1 in sym e.2 ∙ ap (λ (l : List Step). end w (items m false l)) e.0

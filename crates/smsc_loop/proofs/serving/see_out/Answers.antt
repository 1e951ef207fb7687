use Rattle.smsc_loop.specs.Phases.{Serves, behind}
use Rattle.smsc_loop.proofs.Reasons.{here_behind, meant_last}
use Rattle.smsc_loop.proofs.Joins.{did_at, did_join}
use Rattle.smsc_loop.proofs.serving.see_out.Goals as goal

pub returns-in_default : goal.returns-in_default
returns-in_default g c = (c.stay.ensures.0, c.stay.ensures.1, meant_last g.G.Endpoint.waits g.G.Endpoint.over g.G.Endpoint.owing _ _ _ _ _ c.stay.result c.stay.ensures.2)

pub returns-in-Silent : goal.returns-in-Silent
returns-in-Silent g c = (
  behind c.say_farewell.result Serves,
  did_join g.G.Endpoint.does _ _ _ (did_at g.G.Endpoint.does _ _ _ Serves _ _ _ c.in-Silent.ensures.2 c.in-Silent.ensures.1) (c.say_farewell.ensures _),
  here_behind _,
)

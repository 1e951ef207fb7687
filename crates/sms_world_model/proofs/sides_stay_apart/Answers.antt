use Rattle.sms_world_model.proofs.Apart.{handset_leaves_handset, centre_leaves_handset, handset_leaves_centre}
use Rattle.sms_world_model.proofs.sides_stay_apart.Goals as goal

pub returns-clause-handsets : goal.returns-clause-handsets
returns-clause-handsets c g h w m b ss n o = handset_leaves_handset g h w m b ss n o

pub returns-clause-handset : goal.returns-clause-handset
returns-clause-handset c h w m b ss o = centre_leaves_handset h w m b ss o

pub returns-clause-centre : goal.returns-clause-centre
returns-clause-centre c h w m b ss o = handset_leaves_centre h w m b ss o

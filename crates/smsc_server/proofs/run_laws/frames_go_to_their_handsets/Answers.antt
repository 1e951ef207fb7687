use Rattle.smsc_server.proofs.FramesGo.{frames_go}
use Rattle.smsc_server.proofs.run_laws.frames_go_to_their_handsets.Goals as goal

pub returns : goal.returns
returns c = frames_go

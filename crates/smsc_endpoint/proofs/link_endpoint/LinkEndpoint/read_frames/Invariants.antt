use Rattle.std.proofs.Common.{ℕ, List, length}
use Rattle.smsc_endpoint.proofs.LinkSteps.{AreRead}
use Rattle.smsc_endpoint.proofs.link_endpoint.LinkEndpoint.read_frames.Given as goal

abbrev pub invariant-reading : goal.invariant-reading
invariant-reading l = (frames : List (List ℕ)) × AreRead l.fn.self frames l.self

abbrev pub decreases-reading : goal.decreases-reading
decreases-reading l = length l.self.unread

use Rattle.std.proofs.Common.{◌∙◌, ◌++◌, ◌∷◌, [], ap}
use Rattle.smsc_server.proofs.serving.server.Server.start_endpoints.Goals as goal

pub returns : goal.returns
returns g c = let h = c.in_ok-thread.ensures in
    (c.in_ok-thread.thread, c.push_reserved.ensures.items ∙ ap (λ l. l ++ c.in_ok-thread.thread ∷ []) c.reserve.ensures.items, (h.0, h.2), h.1)

use Rattle.std.proofs.Common.{◌≡◌, None, replicate}
use Rattle.smsc_server.proofs.serving.link_seats.no_links.Given as goal

abbrev pub invariant-loop : goal.invariant-loop
invariant-loop l = l.handsets.items ≡ replicate l.counter None

use Rattle.smsc_arrivals.proofs.pieces.calls.open_pieces.Given as goal

abbrev pub ghosts-open_from : goal.ghosts-open_from
ghosts-open_from g a = record { octets = g.S.Read.remaining a.stream.now }

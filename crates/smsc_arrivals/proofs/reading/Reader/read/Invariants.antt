use Rattle.smsc_arrivals.specs.PieceEnds.{given_by, source_of}
use Rattle.smsc_arrivals.specs.Pieces.{IsReadSo}
use Rattle.smsc_arrivals.proofs.reading.Reader.read.Given as goal

abbrev pub invariant-loop : goal.invariant-loop
invariant-loop g l = IsReadSo (source_of l.pieces) (given_by l.pieces) (g.S.Read.remaining l.stream)

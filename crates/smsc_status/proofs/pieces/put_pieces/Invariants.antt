use Rattle.std.proofs.Common.{◌≡◌, ◌++◌, drop}
use Rattle.std.specs.Prelude.{flat_map}
use Rattle.smsc_status.specs.Pieces.{piece_text}
use Rattle.smsc_status.proofs.pieces.put_pieces.Given as goal

abbrev pub invariant-loop-piece : goal.invariant-loop-piece
invariant-loop-piece l = l.out ++ flat_map piece_text (drop l.piece-index l.pieces) ≡ l.fn.out ++ flat_map piece_text l.pieces

use Rattle.std.proofs.Common.{◌≡◌, List, [], ◌∷◌, refl, inl, Some, None}
use Rattle.sms_world.specs.wrong_reports.Literals.{setup, events, reports, joined_of_nothing}
use Rattle.sms_script.specs.declared.report.rows.JoinedRow.{JoinedRow}
use Rattle.sms_world.specs.headline.PlainReport.{AreJoined, IsJoined, Piece}
use Rattle.sms_world.specs.wrong_reports.Tried.{JoinedLaw}

-- no message has a line, so there is no piece, and of none nothing is joined
none : (row : JoinedRow) (pieces : List Piece) → IsJoined setup events (reports joined_of_nothing) joined_of_nothing row pieces → ⊥
none row [] j = no j.joins
  where
    no : None ≡ Some j.content → ⊥
    no e = absurd cc
none row (x ∷ xs) j = absurd (j.each x (inl refl)).among

round : (rounds : List (List Piece)) → AreJoined setup events (reports joined_of_nothing) joined_of_nothing joined_of_nothing.joined rounds → ⊥
round [] a = absurd a
round (g ∷ gs) a = none _ g a.0

pub refused : JoinedLaw
refused j = round j.0 j.1.0

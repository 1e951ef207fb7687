-- A text that was joined where nothing was accepted.
use Rattle.std.proofs.Common.{List, [], ◌∷◌, refl, inl}
use Rattle.sms_handset_draft.specs.Draft.{recovered as handset_recovered}
use Rattle.sms_handset_draft.specs.FirstRows.{first_rows}
use Rattle.sms_play.specs.PlayState.{Party, PlayState}
use Rattle.sms_play.specs.Setups.{handset_setup}
use Rattle.sms_world.specs.headline.Claims.{AreJoinedRounds, IsJoinedFrom}
use Rattle.sms_world.specs.wrong_plays.Plays.{joined, of_handset, setup}
use Rattle.sms_world.specs.wrong_plays.Told.{JoinedOfNoneLaw, SplitOfNoneLaw}
use Rattle.sms_world.specs.wrong_reports.Literals.{handset, joined_row}
use Rattle.sms_world_model.specs.World.{Accepted}
use Rattle.sms_world.proofs.wrong_plays.PiecesJoined.{nothing_joins}

abbrev play : PlayState
play = joined (joined_row ∷ [])

abbrev the_party : Party
the_party = record { number = handset; core = handset_recovered (first_rows (handset_setup setup of_handset)); accepted = []; joined = joined_row ∷ [] }

from_none : (group : List Accepted) → IsJoinedFrom play the_party joined_row group → ⊥
from_none [] j = nothing_joins j.key.total j.content j.joins
from_none (x ∷ xs) j = absurd (j.parts x (inl refl)).accepted

rounds : (gs : List (List Accepted)) → AreJoinedRounds play the_party (joined_row ∷ []) gs → ⊥
rounds [] are = absurd are
rounds (g ∷ gs) are = from_none g are.0.joined

pub of_none : JoinedOfNoneLaw
of_none all = let x = all the_party (inl refl) in rounds x.0 x.1.0

pub split_of_none : SplitOfNoneLaw
split_of_none all = let x = all the_party (inl refl) in rounds x.0 x.1.0

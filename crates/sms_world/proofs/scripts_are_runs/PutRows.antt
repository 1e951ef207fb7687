-- What a handset's changes put, as a course collects it.
use Rattle.std.proofs.Common.{◌≡◌, ℕ, List, [], ◌∷◌, ◌++◌, refl, sym, ◌∙◌}
use Rattle.std.proofs.lemmas.List.{append-nil, append_assoc}
use Rattle.sms_handset_rows.specs.declared.inbox.entry.Entry.{Entry}
use Rattle.sms_handset_rows.specs.declared.inbox.entry.Message.{Message}
use Rattle.sms_handset_rows.specs.declared.inbox.entry.Message.TheVariants.{Single, Part, Joined}
use Rattle.sms_handset_rows.specs.declared.inbox.last_accepted.LastAccepted.{LastAccepted}
use Rattle.sms_script.specs.declared.report.rows.AcceptedRow.{AcceptedRow}
use Rattle.sms_script.specs.declared.report.rows.JoinedRow.{JoinedRow}
use Rattle.sms_rows.specs.declared.table.change.Change.{Change}
use Rattle.sms_rows.specs.declared.table.change.Change.TheVariants.{Put, Remove}
use Rattle.sms_tpdu.specs.MoreMessages.{compared}
use Rattle.sms_play.specs.HandsetSide.{accepted_in, joined_as, joined_in}
use Rattle.sms_play.specs.Premises.{pairs_of}
use Rattle.sms_world_model.specs.World.{Accepted}
use Rattle.sms_world.specs.headline.SeenWorld.{JoinedText, row_joined, rows_joined}
use Rattle.sms_world.specs.handset_runs_are_steps.PutInOrder.{joined_by, pair_of_last, taken_by, text_put}

-- ---- accepted

pairs_put : (h : List ℕ) (cs : List (Change LastAccepted)) (ps : List Accepted) → pairs_of ps (accepted_in h cs) ≡ taken_by h cs ps
pairs_put h [] ps = refl
pairs_put h (Put l ∷ cs) ps = pairs_put h cs (pair_of_last h l ∷ ps)
pairs_put h (Remove n ∷ cs) ps = pairs_put h cs ps

pub pairs_more : (h : List ℕ) (cs : List (Change LastAccepted)) (rows : List AcceptedRow) (ps : List Accepted) → pairs_of ps (rows ++ accepted_in h cs) ≡ taken_by h cs (pairs_of ps rows)
pairs_more h cs [] ps = pairs_put h cs ps
pairs_more h cs (a ∷ rows) ps = pairs_more h cs rows (record { handset = a.handset; reference = a.reference; tpdu = compared a.tpdu } ∷ ps)

-- ---- joined

one_joined : (h : List ℕ) (m : Message) (js : List JoinedText) (rest : List JoinedRow) → rows_joined h (text_put m js) ++ rest ≡ rows_joined h js ++ (joined_as h m ++ rest)
one_joined h (Single tpdu) js rest = refl
one_joined h (Part g n tpdu) js rest = refl
one_joined h (Joined source content) js rest =
    append_assoc (rows_joined h js) (row_joined h (record { source = source; content = content }) ∷ []) rest

pub rows_more : (h : List ℕ) (cs : List (Change Entry)) (js : List JoinedText) → rows_joined h (joined_by cs js) ≡ rows_joined h js ++ joined_in h cs
rows_more h [] js = sym (append-nil (rows_joined h js))
rows_more h (Put e ∷ cs) js = rows_more h cs (text_put e.message js) ∙ one_joined h e.message js (joined_in h cs)
rows_more h (Remove n ∷ cs) js = rows_more h cs js

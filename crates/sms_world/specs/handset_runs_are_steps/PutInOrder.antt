-- What changes put, in order: messages that are accepted, and long messages that are joined.
use Rattle.std.specs.Prelude.{◌≡◌, ℕ, List, [], ◌∷◌}
use Rattle.sms_rows.specs.declared.table.change.Change.{Change}
use Rattle.sms_rows.specs.declared.table.change.Change.TheVariants.{Put, Remove}
use Rattle.sms_handset_rows.specs.declared.inbox.entry.Entry.{Entry}
use Rattle.sms_handset_rows.specs.declared.inbox.entry.Message.{Message}
use Rattle.sms_handset_rows.specs.declared.inbox.entry.Message.TheVariants.{Single, Part, Joined as Joined_text}
use Rattle.sms_handset_rows.specs.declared.inbox.last_accepted.LastAccepted.{LastAccepted}
use Rattle.sms_tpdu.specs.MoreMessages.{compared}
use Rattle.sms_world_model.specs.World.{World, Accepted}
use Rattle.sms_handset_draft.specs.Draft.{Changes}
use Rattle.sms_world.specs.headline.SeenWorld.{accepted_at, JoinedText, joined_at}

-- the pair that a row of the last ones says
abbrev pub pair_of_last : List ℕ → LastAccepted → Accepted
pair_of_last handset l = record { handset = handset; reference = l.reference; tpdu = compared l.tpdu }

abbrev pub taken_one : List ℕ → Change LastAccepted → List Accepted → List Accepted
taken_one handset (Put l) ps = pair_of_last handset l ∷ ps
taken_one handset (Remove n) ps = ps

-- what the changes put, on top of what was
abbrev pub taken_by : List ℕ → List (Change LastAccepted) → List Accepted → List Accepted
taken_by handset [] ps = ps
taken_by handset (c ∷ cs) ps = taken_by handset cs (taken_one handset c ps)

-- an entry that holds a joined message
abbrev pub text_put : Message → List JoinedText → List JoinedText
text_put (Single tpdu) js = js
text_put (Part g n tpdu) js = js
text_put (Joined_text source content) js = record { source = source; content = content } ∷ js

abbrev pub joined_one : Change Entry → List JoinedText → List JoinedText
joined_one (Put e) js = text_put e.message js
joined_one (Remove n) js = js

-- the joined entries that the changes put, on top of what was
abbrev pub joined_by : List (Change Entry) → List JoinedText → List JoinedText
joined_by [] js = js
joined_by (c ∷ cs) js = joined_by cs (joined_one c js)

-- what the changes put is accepted and joined, on top of what was
pub record AreNoted (h : List ℕ) (changes : Changes) (w v : World) : Type 0 where
  pub accepted : accepted_at h v.accepted ≡ taken_by h changes.last (accepted_at h w.accepted)
  pub joined : joined_at h v.joined ≡ joined_by changes.entries (joined_at h w.joined)

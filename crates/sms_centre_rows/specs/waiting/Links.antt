-- The links to handsets, in the order in which they were first used, and the frames that an event sends on them.
use Rattle.std.specs.Prelude.{ℕ, ◌&&◌, not, List, [], ◌∷◌, ◌++◌, Bool, true, false, if◌then◌else◌, Option, Some, None}
use Rattle.std.specs.Str.{bytes_eq}
use Rattle.sms_control.specs.LinkStep.{is_busy}
use Rattle.sms_link.specs.declared.ending.Side.TheVariants.{Centre}
use Rattle.sms_link.specs.declared.outgoing.Outgoing.{Outgoing}
use Rattle.sms_link.specs.LinkTurn.{Turn, new_link}
use Rattle.sms_centre_rows.specs.declared.waiting.handset_link.HandsetLink.{HandsetLink}
use Rattle.sms_centre_rows.specs.declared.waiting.handset_link.Sent.{Sent}

-- a handset of which nothing was heard has a new link, which isn't up
abbrev pub new_link_to : List ℕ → HandsetLink
new_link_to handset = record { handset = handset; is_up = false; is_awaited = false; is_full = false; near_end = new_link Centre }

abbrev pub link_at : List ℕ → List HandsetLink → Option HandsetLink
link_at handset [] = None
link_at handset (l ∷ ls) = if bytes_eq l.handset handset then Some l else link_at handset ls

abbrev pub or_new_link_to : List ℕ → Option HandsetLink → HandsetLink
or_new_link_to handset None = new_link_to handset
or_new_link_to handset (Some l) = l

abbrev pub link_of : List ℕ → List HandsetLink → HandsetLink
link_of handset links = or_new_link_to handset (link_at handset links)

-- the link takes the place of the one that it was, or the last place
abbrev pub with_link : HandsetLink → List HandsetLink → List HandsetLink
with_link link [] = link ∷ []
with_link link (l ∷ ls) = if bytes_eq l.handset link.handset then link ∷ ls else l ∷ with_link link ls

-- it is up, the handset has memory, and nothing is under way
abbrev pub is_ready : HandsetLink → Bool
is_ready link = link.is_up && (not link.is_full && not (is_busy link.near_end.links))

-- ---- what becomes of a link

-- it can be reached, and has memory
abbrev pub raised : HandsetLink → HandsetLink
raised link = record link { is_up = true; is_awaited = false; is_full = false }

-- it can't be reached, and the next connection is a new one
abbrev pub lowered : HandsetLink → HandsetLink
lowered link = record link { is_up = false; is_awaited = false; near_end = new_link Centre }

abbrev pub filled : HandsetLink → HandsetLink
filled link = record link { is_full = true }

abbrev pub emptied : HandsetLink → HandsetLink
emptied link = record link { is_full = false }

abbrev pub turned : Turn → HandsetLink → HandsetLink
turned turn link = record link { near_end = turn.link }

-- ---- frames

-- the links, what was sent on them so far, and whose TPDUs were read from the store for it, by their keys
pub record Links : Type 0 where
  pub all : List HandsetLink
  pub frames : List Sent
  pub read : List ℕ

abbrev pub to_handset : List ℕ → List Outgoing → List Sent
to_handset handset [] = []
to_handset handset (f ∷ fs) = record { handset = handset; frame = f } ∷ to_handset handset fs

-- the link as it is now
abbrev pub put_link : HandsetLink → Links → Links
put_link link links = record links { all = with_link link links.all }

-- the near end of the link did a turn
abbrev pub turn_link : HandsetLink → Turn → Links → Links
turn_link link turn links = record links { all = with_link (turned turn link) links.all; frames = links.frames ++ to_handset link.handset turn.out.frames }

-- the TPDU of that key is read from the store
abbrev pub read_for : ℕ → Links → Links
read_for key links = record links { read = links.read ++ key ∷ [] }

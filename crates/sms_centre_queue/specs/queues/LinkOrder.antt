-- The order in which links were first used.
use Rattle.std.specs.Prelude.{◌≡◌, ℕ, ◌+◌, List, [], ◌∷◌, if◌then◌else◌, true, None}
use Rattle.std.specs.Str.{bytes_eq}
use Rattle.sms_centre_rows.specs.declared.waiting.handset_link.HandsetLink.{HandsetLink}
use Rattle.sms_centre_rows.specs.waiting.Links.{link_at}

-- the place of the handset's link, where the first one has that place, or 0
abbrev pub link_place_from : ℕ → List ℕ → List HandsetLink → ℕ
link_place_from place number [] = 0
link_place_from place number (l ∷ ls) = if bytes_eq l.handset number then place else link_place_from (place + 1) number ls

-- its place, from 1, or 0 while it has no link
abbrev pub link_place_in : List ℕ → List HandsetLink → ℕ
link_place_in number links = link_place_from 1 number links

-- no handset has two links
abbrev pub AreLinks : List HandsetLink → Type 0
AreLinks [] = Unit {0}
AreLinks (l ∷ ls) = (link_at l.handset ls ≡ None) × AreLinks ls

-- it was up before a recovery, and will be up at the next tick
abbrev pub expected : HandsetLink → HandsetLink
expected link = record link { is_awaited = true }

-- Accounts in words.
use Rattle.std.specs.Prelude.{◌≡◌, ◌≢◌, ◌⊎◌, ◌<◌, ◌≤◌, ◌==◌, ◌&&◌, ℕ, zero, suc, Bool, false, List, [], ◌∷◌, ◌++◌, IsAscii, if◌then◌else◌, length}
use Rattle.std.specs.List.{AllByRecursion}
use Rattle.std.specs.Str.Iter.{LacksByte}
use Rattle.sms_base.specs.declared.address.Address.{Address}
use Rattle.smsc_cli.specs.words.Numbers.{IsSessions}
use Rattle.smsc_cli.specs.words.SimWords.{SpellsNumber}
use Rattle.smsc_cli.specs.declared.words.account.AccountWords.{AccountWords}
use Rattle.smsc_cli.specs.words.Several.{AddsEach, HasRoom, IsNew, StopsAtOne}

-- the text is what is before its first such octet, that octet, and what is behind it
pub record IsCutAt (octet : ℕ) (text before behind : List ℕ) : Type 0 where
  pub parts : text ≡ before ++ octet ∷ behind
  pub first : LacksByte octet before

-- 1 to 15 ASCII characters (SMPP v3.4 5.2.1, system_id)
pub record IsName (text : List ℕ) : Type 0 where
  pub some : 0 < length text
  pub few : length text ≤ 15
  pub ascii : IsAscii text

-- up to 8 ASCII characters (SMPP v3.4 5.2.2, password)
pub record IsPassword (text : List ℕ) : Type 0 where
  pub few : length text ≤ 8
  pub ascii : IsAscii text

-- the sessions that an account may have where it says nothing
abbrev pub usual_sessions : ℕ
usual_sessions = 4

-- the text is `NUMBER:SESSIONS`, cut at its first colon
pub record SpellsLimit (text : List ℕ) (address : Address) (sessions : ℕ) : Type 0 where
  pub number : List ℕ
  pub limit : List ℕ
  pub number_ends : IsCutAt 58 text number limit
  pub spells : SpellsNumber number address
  pub is_limit : IsSessions limit sessions

-- the text is `NUMBER`
pub record SpellsNoLimit (text : List ℕ) (address : Address) (sessions : ℕ) : Type 0 where
  pub lacks : LacksByte 58 text
  pub spells : SpellsNumber text address
  pub usual : sessions ≡ usual_sessions

abbrev pub SpellsEnd : List ℕ → Address → ℕ → Type 0
SpellsEnd text address sessions = SpellsNoLimit text address sessions ⊎ SpellsLimit text address sessions

-- the text is `NAME:PASSWORD:NUMBER` or `NAME:PASSWORD:NUMBER:SESSIONS`, cut at its first two colons
pub record SpellsAccount (text name password : List ℕ) (address : Address) (sessions : ℕ) : Type 0 where
  pub behind : List ℕ
  pub end : List ℕ
  pub name_ends : IsCutAt 58 text name behind
  pub password_ends : IsCutAt 58 behind password end
  pub is_name : IsName name
  pub is_password : IsPassword password
  pub spells : SpellsEnd end address sessions

-- ---- several

-- no account of these has the name
abbrev pub IsNewName : List ℕ → List AccountWords → Type 0
IsNewName name accounts = IsNew (λ (account : AccountWords). account.name.now) name accounts

-- there may be 32
abbrev pub most_accounts : ℕ
most_accounts = 32

-- an account of that name may be added: it is new, and there are not too many
abbrev pub HasRoomFor : List ℕ → List AccountWords → Type 0
HasRoomFor name accounts = HasRoom (λ (account : AccountWords). account.name.now) most_accounts name accounts

-- the text spells an account that may be added
pub record AddsAccount (text : List ℕ) (old new : List AccountWords) : Type 0 where
  pub account : AccountWords
  pub spells : SpellsAccount text account.name.now account.password.now account.address account.sessions
  pub room : HasRoomFor account.name.now old
  pub added : new ≡ old ++ account ∷ []

-- the text spells none
abbrev pub AddsNone : List ℕ → List AccountWords → Type 0
AddsNone text old =
    (name password : List ℕ) (address : Address) (sessions : ℕ) → SpellsAccount text name password address sessions → HasRoomFor name old → ⊥

-- each text spells one account more, in order
abbrev pub AddsAll : List (List ℕ) → List AccountWords → List AccountWords → Type 0
AddsAll texts old new = AddsEach AddsAccount texts old new

-- each text before that place spells one account more, in order, and the text at that place can't
abbrev pub StopsAt : ℕ → List (List ℕ) → List AccountWords → List AccountWords → Type 0
StopsAt place texts old new = StopsAtOne AddsAccount AddsNone place texts old new

-- ---- lines

-- the character is in front of the first line
abbrev pub in_front : ℕ → List (List ℕ) → List (List ℕ)
in_front c [] = (c ∷ []) ∷ []
in_front c (line ∷ lines) = (c ∷ line) ∷ lines

abbrev pub begins_with_feed : List ℕ → Bool
begins_with_feed [] = false
begins_with_feed (c ∷ cs) = c == 10

-- The lines of a file, in order, without their ends. A line ends with a line feed, or a carriage return and a line feed. The last may lack its end.
unfoldable pub lines_of : List ℕ → List (List ℕ)
lines_of [] = []
lines_of (c ∷ cs) =
    if c == 10 then [] ∷ lines_of cs
    else (if (c == 13) && begins_with_feed cs then lines_of cs else in_front c (lines_of cs))

-- the text without a carriage return at its end
unfoldable pub bare_of : List ℕ → List ℕ
bare_of [] = []
bare_of (c ∷ []) = if c == 13 then [] else c ∷ []
bare_of (c ∷ d ∷ ds) = c ∷ bare_of (d ∷ ds)

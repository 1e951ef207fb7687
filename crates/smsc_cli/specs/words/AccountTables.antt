-- Accounts in TOML: a table `[[account]]` for each, in order.
use Rattle.std.specs.Prelude.{◌≡◌, ◌≢◌, ◌==◌, ⊤, is_ok, if◌then◌else◌, ◌<◌, ◌≤◌, ◌||◌, ◌&&◌, ℕ, zero, suc, pos, Bool, true, false, List, [], ◌∷◌, ◌++◌, length}
use Rattle.std.specs.Prelude.{Option, Some, None, Ok, IsAscii, not, option_and_then, bytes_eq, codes}
use Rattle.std.specs.List.{AllByRecursion}
use Rattle.std.specs.Str.{chars}
use Rattle.hex.specs.Hex.{decode_sized}
use Rattle.sms_base.specs.Address.{address_of}
use Rattle.toml.specs.View.{items_view}
use Rattle.toml.specs.Data.{Data, Items, no_items, item, Members, no_members, member, as_array, as_bool, as_integer, as_str, as_table, get_member}
use Rattle.smsc_cli.specs.words.Accounts.{IsName, IsPassword, most_accounts, usual_sessions}
use Rattle.smsc_cli.specs.words.Secrets.{is_number_text}
use Rattle.smsc_cli.specs.words.SimWords.{Gives, SpellsNumber}
use Rattle.smsc_cli.specs.declared.words.account_tables.PasswordWords.{PasswordWords}
use Rattle.smsc_cli.specs.declared.words.account_tables.PasswordWords.TheVariants.{Plain, Salted}
use Rattle.smsc_cli.specs.declared.words.account_tables.SourceWords.{SourceWords}
use Rattle.smsc_cli.specs.declared.words.account_tables.SourceWords.TheVariants.{Number, Prefix, Name}
use Rattle.smsc_cli.specs.declared.words.account_tables.TableAccount.{TableAccount}
use Rattle.smsc_cli.specs.words.Several.{HasRoom, IsNew}

-- ---- keys

-- the keys of a password that is written itself, and of one of which a digest is written
abbrev pub is_password_key : List ℕ → Bool
is_password_key key = (bytes_eq key (codes "password") || bytes_eq key (codes "salt")) || bytes_eq key (codes "hash")

-- the keys of what is allowed
abbrev pub is_limit_key : List ℕ → Bool
is_limit_key key =
    (bytes_eq key (codes "sessions") || bytes_eq key (codes "rate")) || (bytes_eq key (codes "suspended") || bytes_eq key (codes "sources"))

-- the keys that an account may have
abbrev pub is_account_key : List ℕ → Bool
is_account_key key = ((bytes_eq key (codes "name") || bytes_eq key (codes "number")) || is_password_key key) || is_limit_key key

-- the key that the whole file may have
abbrev pub is_file_key : List ℕ → Bool
is_file_key key = bytes_eq key (codes "account")

abbrev pub are_account_keys : Members → Bool
are_account_keys no_members = true
are_account_keys (member key value others) = is_account_key key && are_account_keys others

abbrev pub are_file_keys : Members → Bool
are_file_keys no_members = true
are_file_keys (member key value others) = is_file_key key && are_file_keys others

-- the text at a key, where there is one
abbrev pub text_at : List ℕ → Members → Option (List ℕ)
text_at key table = option_and_then as_str (get_member key table)

-- ---- values

-- the text without an asterisk at its end, and whether it has one
unfoldable pub unstarred : List ℕ → List ℕ
unstarred [] = []
unstarred (c ∷ []) = if c == 42 then [] else c ∷ []
unstarred (c ∷ d ∷ ds) = c ∷ unstarred (d ∷ ds)

unfoldable pub ends_starred : List ℕ → Bool
ends_starred [] = false
ends_starred (c ∷ []) = c == 42
ends_starred (c ∷ d ∷ ds) = ends_starred (d ∷ ds)

-- digits and an asterisk
abbrev pub is_prefix : List ℕ → Bool
is_prefix text = ends_starred text && is_number_text (unstarred text)

-- A name as the originator of a message has it (3GPP TS 23.040 9.1.2.5). An asterisk at its end would look like any ending.
abbrev pub is_name_text : List ℕ → Bool
is_name_text text = not (ends_starred text) && is_ok (address_of 5 0 (chars text))

-- the text is a name, or a password
abbrev pub SpellsName : List ℕ → List ℕ → Type 0
SpellsName text name = (name ≡ text) × IsName text

abbrev pub SpellsPassword : List ℕ → List ℕ → Type 0
SpellsPassword text password = (password ≡ text) × IsPassword text

-- 1 to 64 ASCII characters
pub record IsSalt (text : List ℕ) : Type 0 where
  pub some : 0 < length text
  pub few : length text ≤ 64
  pub ascii : IsAscii text

abbrev pub SpellsSalt : List ℕ → List ℕ → Type 0
SpellsSalt text salt = (salt ≡ text) × IsSalt text

-- the text is the 64 hexadecimal digits of these octets
abbrev pub SpellsDigest : List ℕ → List ℕ → Type 0
SpellsDigest text digest = decode_sized text 32 ≡ Ok digest

-- The table has the password itself, or a salt and the digest of it and the password. It does not have both.
abbrev pub SaysPassword : Members → PasswordWords → Type 0
SaysPassword table (Plain password) =
    Gives SpellsPassword (text_at (codes "password") table) password.now
    × (get_member (codes "salt") table ≡ None) × (get_member (codes "hash") table ≡ None)
SaysPassword table (Salted salt digest) =
    (get_member (codes "password") table ≡ None)
    × Gives SpellsSalt (text_at (codes "salt") table) salt.now × Gives SpellsDigest (text_at (codes "hash") table) digest

-- an integer from 1 on that is not above the most
pub record IsUpTo (most : ℕ) (value : Data) (number : ℕ) : Type 0 where
  pub integer : as_integer value ≡ Some (pos number)
  pub some : 1 ≤ number
  pub few : number ≤ most

-- how many sessions an account may have, 1 to 32: the usual ones where it does not say
abbrev pub SaysSessions : Option Data → ℕ → Type 0
SaysSessions None sessions = sessions ≡ usual_sessions
SaysSessions (Some value) sessions = IsUpTo 32 value sessions

-- how many requests it may put in a second, 1 to 1,000,000: as many as it likes where it does not say
abbrev pub SaysRate : Option Data → Option ℕ → Type 0
SaysRate None rate = rate ≡ None
SaysRate (Some value) None = ⊥
SaysRate (Some value) (Some rate) = IsUpTo 1_000_000 value rate

-- whether it is suspended: it is not where it does not say
abbrev pub SaysSuspended : Option Data → Bool → Type 0
SaysSuspended None suspended = suspended ≡ false
SaysSuspended (Some value) suspended = as_bool value ≡ Some suspended

-- A source that an account may give: a number of 1 to 20 digits 0 to 9, such a number and an asterisk, or a name that an address may have
-- and that ends in no asterisk.
abbrev pub is_source : List ℕ → Bool
is_source text = (is_number_text text || is_prefix text) || is_name_text text

-- which of them it is
abbrev pub SpellsSource : List ℕ → SourceWords → Type 0
SpellsSource text (Number digits) = (digits.now ≡ text) × (is_number_text text ≡ true)
SpellsSource text (Prefix digits) = (is_number_text text ≡ false) × (is_prefix text ≡ true) × (digits.now ≡ unstarred text)
SpellsSource text (Name name) = (is_number_text text ≡ false) × (is_prefix text ≡ false) × (name.now ≡ text) × (is_name_text text ≡ true)

-- a value is a text that is one
abbrev pub is_text_of_source : Option (List ℕ) → Bool
is_text_of_source None = false
is_text_of_source (Some text) = is_source text

abbrev pub AreSources : Items → Type 0
AreSources no_items = ⊤
AreSources (item value values) = (is_text_of_source (as_str value) ≡ true) × AreSources values

-- the sources that an account may give, one at least: any where it does not say
abbrev pub SaysSources : Option Data → Items → Type 0
SaysSources None sources = sources ≡ no_items
SaysSources (Some value) sources = (as_array value ≡ Some sources) × (sources ≢ no_items) × AreSources sources

-- The table has a name, a password and a number, and perhaps what is allowed. It has no other key.
pub record SpellsTable (table : Members) (account : TableAccount) : Type 0 where
  pub known : are_account_keys table ≡ true
  pub name : Gives SpellsName (text_at (codes "name") table) account.name.now
  pub password : SaysPassword table account.password
  pub number : Gives SpellsNumber (text_at (codes "number") table) account.address
  pub sessions : SaysSessions (get_member (codes "sessions") table) account.sessions
  pub rate : SaysRate (get_member (codes "rate") table) account.rate
  pub suspended : SaysSuspended (get_member (codes "suspended") table) account.is_suspended
  pub sources : SaysSources (get_member (codes "sources") table) (items_view account.sources.now)

-- the value is a table of an account
abbrev pub SpellsValue : Data → TableAccount → Type 0
SpellsValue value account = (table : Members) × (as_table value ≡ Some table) × SpellsTable table account

-- ---- several

-- no account of these has the name
abbrev pub IsNewName : List ℕ → List TableAccount → Type 0
IsNewName name accounts = IsNew (λ (account : TableAccount). account.name.now) name accounts

abbrev pub HasRoomFor : List ℕ → List TableAccount → Type 0
HasRoomFor name accounts = HasRoom (λ (account : TableAccount). account.name.now) most_accounts name accounts

-- the value is an account that may be added
pub record AddsValue (value : Data) (old new : List TableAccount) : Type 0 where
  pub account : TableAccount
  pub spells : SpellsValue value account
  pub room : HasRoomFor account.name.now old
  pub added : new ≡ old ++ account ∷ []

abbrev pub AddsNoValue : Data → List TableAccount → Type 0
AddsNoValue value old = (account : TableAccount) → SpellsValue value account → HasRoomFor account.name.now old → ⊥

-- each value is one account more, in order
abbrev pub AddsValues : Items → List TableAccount → List TableAccount → Type 0
AddsValues no_items old new = new ≡ old
AddsValues (item value values) old new = (more : List TableAccount) × AddsValue value old more × AddsValues values more new

-- each value before that place is one account more, in order, and the one at that place can't be
abbrev pub StopsAtValue : ℕ → Items → List TableAccount → List TableAccount → Type 0
StopsAtValue place no_items old new = ⊥
StopsAtValue zero (item value values) old new = AddsNoValue value old × (new ≡ old)
StopsAtValue (suc place) (item value values) old new = (more : List TableAccount) × AddsValue value old more × StopsAtValue place values more new

-- the accounts of a file: none where it has no such key
abbrev pub values_of : Option Data → Option Items
values_of None = Some no_items
values_of (Some value) = as_array value

-- the file has these values for its accounts, and no other key
pub record HasValues (file : Members) (values : Items) : Type 0 where
  pub known : are_file_keys file ≡ true
  pub values_so : values_of (get_member (codes "account") file) ≡ Some values

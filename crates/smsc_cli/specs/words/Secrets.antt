-- Numbers and the secrets of their links, in words.
use Rattle.std.specs.Prelude.{◌≡◌, ◌≢◌, ◌<◌, ◌==◌, ◌&&◌, nat_le, ℕ, zero, suc, Bool, true, List, [], ◌∷◌, ◌++◌, if◌then◌else◌, length}
use Rattle.std.specs.Char.{is_ascii_graphic}
use Rattle.std.specs.List.{AllByRecursion, list_all}
use Rattle.sms_base.specs.HandsetNumber.{is_decimal}
use Rattle.smsc_cli.specs.declared.words.secrets.SecretWords.{SecretWords}
use Rattle.smsc_cli.specs.words.Accounts.{IsCutAt}
use Rattle.smsc_cli.specs.words.Several.{AddsEach, HasRoom, IsNew, StopsAtOne}

-- 1 to 20 digits 0 to 9
abbrev pub is_number_text : List ℕ → Bool
is_number_text text = nat_le 1 (length text) && (nat_le (length text) 20 && list_all is_decimal text)

-- 1 to 64 visible ASCII characters
abbrev pub is_secret_text : List ℕ → Bool
is_secret_text text = nat_le 1 (length text) && (nat_le (length text) 64 && list_all is_ascii_graphic text)

-- the text is `NUMBER:SECRET`, cut at its first colon
pub record SpellsSecret (text number secret : List ℕ) : Type 0 where
  pub cut : IsCutAt 58 text number secret
  pub is_number : is_number_text number ≡ true
  pub is_secret : is_secret_text secret ≡ true

-- ---- several

-- no secret of these is that of the number
abbrev pub IsNewNumber : List ℕ → List SecretWords → Type 0
IsNewNumber number secrets = IsNew (λ (words : SecretWords). words.number.now) number secrets

-- there may be a thousand
abbrev pub most_secrets : ℕ
most_secrets = 1000

-- a secret of the number may be added: it is new, and there are not too many
abbrev pub HasPlaceFor : List ℕ → List SecretWords → Type 0
HasPlaceFor number secrets = HasRoom (λ (words : SecretWords). words.number.now) most_secrets number secrets

-- the text spells a secret that may be added
pub record AddsSecret (text : List ℕ) (old new : List SecretWords) : Type 0 where
  pub words : SecretWords
  pub spells : SpellsSecret text words.number.now words.secret.now
  pub room : HasPlaceFor words.number.now old
  pub added : new ≡ old ++ words ∷ []

-- the text spells none
abbrev pub AddsNoSecret : List ℕ → List SecretWords → Type 0
AddsNoSecret text old = (number secret : List ℕ) → SpellsSecret text number secret → HasPlaceFor number old → ⊥

-- each text spells one secret more, in order
abbrev pub AddsSecrets : List (List ℕ) → List SecretWords → List SecretWords → Type 0
AddsSecrets texts old new = AddsEach AddsSecret texts old new

-- each text before that place spells one secret more, in order, and the text at that place can't
abbrev pub StopsAtSecret : ℕ → List (List ℕ) → List SecretWords → List SecretWords → Type 0
StopsAtSecret place texts old new = StopsAtOne AddsSecret AddsNoSecret place texts old new

-- ---- one

-- the text without a line feed at its end
unfoldable pub unended_of : List ℕ → List ℕ
unended_of [] = []
unended_of (c ∷ []) = if c == 10 then [] else c ∷ []
unended_of (c ∷ d ∷ ds) = c ∷ unended_of (d ∷ ds)

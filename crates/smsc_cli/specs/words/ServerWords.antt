-- The words of the server, by clap's matches of them. The first word is the program's name.
use Rattle.std.specs.Prelude.{◌≡◌, ℕ, List, [], ◌∷◌, Bool, true, false, Option, Some, None, MatchBool, bytes_eq, codes, length, map, option_map}
use Rattle.clap.specs.Words.{App, all_of, first_of, matches_of, new_app, takes}
use Rattle.smsc_cli.specs.words.Accounts.{AddsAll}
use Rattle.smsc_cli.specs.words.SimWords.{Gives, HasValue, Spells, SpellsNumber}
use Rattle.smsc_cli.specs.words.LogWords.{SpellsLog}
use Rattle.sms_base.specs.MessageId.{IsIdText}
use Rattle.smsc_cli.specs.words.LookWords.{AskForLook, IsCountText, IsIdOf, MayBe, SpelledLook, Wants, look_value}
use Rattle.smsc_cli.specs.words.Numbers.{IsCount, IsPort, SpellsCount, SpellsFrom}
use Rattle.smsc_cli.specs.words.Options.{flag_option, is_given, listed_words, needed_word, optional_option, required_option, with_rules}
use Rattle.smsc_cli.specs.declared.words.account.AccountWords.{AccountWords}
use Rattle.smsc_cli.specs.declared.words.detail.LogDetail.{LogDetail}
use Rattle.smsc_cli.specs.declared.words.server.Options.{Options}
use Rattle.smsc_cli.specs.declared.words.server.ServerRun.{ServerRun}
use Rattle.smsc_cli.specs.declared.words.server.ServerWords.{ServerWords}
use Rattle.smsc_cli.specs.declared.words.server.ServerWords.TheVariants.{Run, Show, Save, Stop, End, Reload, Order, Password}
use Rattle.smsc_cli.specs.declared.words.server.OrderWord.{OrderWord}
use Rattle.smsc_cli.specs.declared.words.server.OrderWord.TheVariants.{Retry, Cancel}

-- what a run must have and what it may have; behind the paths of accounts and the rest, what an operator says of a store or of accounts that
-- a run would refuse, and how long ended messages are kept
abbrev pub server_command : App
server_command =
    with_rules (new_app (codes "smscd")) (
    required_option (codes "store") ∷ required_option (codes "smpp") ∷ required_option (codes "links") ∷ required_option (codes "centre")
    ∷ optional_option (codes "sessions") ∷ optional_option (codes "accounts") ∷ optional_option (codes "link-secrets")
    ∷ optional_option (codes "control") ∷ optional_option (codes "status") ∷ flag_option (codes "ahead") ∷ optional_option (codes "log")
    ∷ flag_option (codes "new-store") ∷ flag_option (codes "accept-loss") ∷ flag_option (codes "accounts-open")
    ∷ optional_option (codes "keep") ∷ optional_option (codes "archive") ∷ listed_words (codes "account") ∷ [])

abbrev pub stop_command : App
stop_command = with_rules (new_app (codes "stop")) (required_option (codes "control") ∷ optional_option (codes "wait") ∷ [])

abbrev pub end_command : App
end_command = with_rules (new_app (codes "end")) (required_option (codes "control") ∷ needed_word (codes "seat") ∷ [])

abbrev pub reload_command : App
reload_command = with_rules (new_app (codes "reload")) (required_option (codes "control") ∷ [])

-- the word that orders something of a message
abbrev pub word_of : OrderWord → List ℕ
word_of Retry = codes "retry"
word_of Cancel = codes "cancel"

-- with the number of a message
abbrev pub order_command : OrderWord → App
order_command order = with_rules (new_app (word_of order)) (required_option (codes "control") ∷ needed_word (codes "id") ∷ [])

abbrev pub save_command : App
save_command = with_rules (new_app (codes "save")) (required_option (codes "store") ∷ required_option (codes "to") ∷ [])

-- the value of an option in the matches of the words of a run
abbrev pub server_value : List ℕ → List (List ℕ) → Option (List ℕ)
server_value name words = first_of name (matches_of server_command words)

-- so of the words of a copy, and of an order
abbrev pub save_value : List ℕ → List (List ℕ) → Option (List ℕ)
save_value name words = first_of name (matches_of save_command words)

abbrev pub stop_value : List ℕ → List (List ℕ) → Option (List ℕ)
stop_value name words = first_of name (matches_of stop_command words)

abbrev pub end_value : List ℕ → List (List ℕ) → Option (List ℕ)
end_value name words = first_of name (matches_of end_command words)

abbrev pub reload_value : List ℕ → List (List ℕ) → Option (List ℕ)
reload_value name words = first_of name (matches_of reload_command words)

abbrev pub order_value : OrderWord → List ℕ → List (List ℕ) → Option (List ℕ)
order_value order name words = first_of name (matches_of (order_command order) words)

-- the values of an option that may be given more than once
abbrev pub listed : Option (List (List ℕ)) → List (List ℕ)
listed None = []
listed (Some values) = values

-- the words of a run that no option takes
abbrev pub account_texts : List (List ℕ) → List (List ℕ)
account_texts words = listed (all_of (codes "account") (matches_of server_command words))

-- the values of the options spell what a run is to do
pub record SpelledServer (given : List ℕ → Option (List ℕ)) (run : ServerRun) : Type 0 where
  pub store : given (codes "store") ≡ Some run.store.now
  pub smpp : Gives (SpellsFrom 1) (given (codes "smpp")) run.smpp
  pub links : Gives (SpellsFrom 1) (given (codes "links")) run.links
  pub centre : Gives SpellsNumber (given (codes "centre")) run.centre
  pub sessions : Wants SpellsCount (given (codes "sessions")) run.sessions
  pub accounts : given (codes "accounts") ≡ option_map (λ s. s.now) run.accounts
  pub link_secrets : given (codes "link-secrets") ≡ option_map (λ s. s.now) run.link_secrets
  pub control : given (codes "control") ≡ option_map (λ s. s.now) run.control
  pub status : Wants (SpellsFrom 1) (given (codes "status")) run.status
  pub keep : Wants SpellsCount (given (codes "keep")) run.keep
  pub archive : given (codes "archive") ≡ option_map (λ s. s.now) run.archive
  pub ahead : run.is_ahead ≡ is_given (given (codes "ahead"))
  pub new_store : run.begins_anew ≡ is_given (given (codes "new-store"))
  pub accept_loss : run.accepts_loss ≡ is_given (given (codes "accept-loss"))
  pub accounts_open : run.opens_accounts ≡ is_given (given (codes "accounts-open"))
  pub log : SpellsLog (given (codes "log")) run.log

-- so where they are these
pub record SpelledOptions (o : Options) (run : ServerRun) : Type 0 where
  pub store : option_map (λ s. s.now) o.store ≡ Some run.store.now
  pub smpp : Gives (SpellsFrom 1) (option_map (λ s. s.now) o.smpp) run.smpp
  pub links : Gives (SpellsFrom 1) (option_map (λ s. s.now) o.links) run.links
  pub centre : Gives SpellsNumber (option_map (λ s. s.now) o.centre) run.centre
  pub sessions : Wants SpellsCount (option_map (λ s. s.now) o.sessions) run.sessions
  pub accounts : option_map (λ s. s.now) o.accounts ≡ option_map (λ s. s.now) run.accounts
  pub link_secrets : option_map (λ s. s.now) o.link_secrets ≡ option_map (λ s. s.now) run.link_secrets
  pub control : option_map (λ s. s.now) o.control ≡ option_map (λ s. s.now) run.control
  pub status : Wants (SpellsFrom 1) (option_map (λ s. s.now) o.status) run.status
  pub keep : Wants SpellsCount (option_map (λ s. s.now) o.keep) run.keep
  pub archive : option_map (λ s. s.now) o.archive ≡ option_map (λ s. s.now) run.archive
  pub ahead : run.is_ahead ≡ is_given (option_map (λ s. s.now) o.ahead)
  pub new_store : run.begins_anew ≡ is_given (option_map (λ s. s.now) o.new_store)
  pub accept_loss : run.accepts_loss ≡ is_given (option_map (λ s. s.now) o.accept_loss)
  pub accounts_open : run.opens_accounts ≡ is_given (option_map (λ s. s.now) o.accounts_open)
  pub log : SpellsLog (option_map (λ s. s.now) o.log) run.log

abbrev pub IsPortText : List ℕ → Type 0
IsPortText text = (port : ℕ) × IsPort text port

-- the values of these options spell a run
abbrev pub SpellsServer : Option (List ℕ) → Option (List ℕ) → Option (List ℕ) → Option (List ℕ) → Option (List ℕ) → Option (List ℕ) → Option (List ℕ)
    → Option (List ℕ) → Type 0
SpellsServer given_store given_smpp given_links given_centre given_sessions given_status given_keep given_log =
    HasValue given_store × Spells IsPort given_smpp × Spells IsPort given_links
    × Spells SpellsNumber given_centre × MayBe IsCountText given_sessions × MayBe IsPortText given_status × MayBe IsCountText given_keep
    × ((detail : LogDetail) × SpellsLog given_log detail)

-- clap takes the words, their options spell a run, and each word that no option takes adds an account
pub record AskForServer (words : List (List ℕ)) : Type 0 where
  pub taken : takes server_command words ≡ true
  pub spelled : SpellsServer (server_value (codes "store") words) (server_value (codes "smpp") words) (server_value (codes "links") words)
      (server_value (codes "centre") words) (server_value (codes "sessions") words) (server_value (codes "status") words)
      (server_value (codes "keep") words) (server_value (codes "log") words)
  pub accounts : List AccountWords
  pub added : AddsAll (account_texts words) [] accounts

-- the options have the values that the words give them, and the words that no option takes are these
pub record AreOptionsOf (given : List ℕ → Option (List ℕ)) (texts : List (List ℕ)) (o : Options) : Type 0 where
  pub store : option_map (λ s. s.now) o.store ≡ given (codes "store")
  pub smpp : option_map (λ s. s.now) o.smpp ≡ given (codes "smpp")
  pub links : option_map (λ s. s.now) o.links ≡ given (codes "links")
  pub centre : option_map (λ s. s.now) o.centre ≡ given (codes "centre")
  pub sessions : option_map (λ s. s.now) o.sessions ≡ given (codes "sessions")
  pub accounts : option_map (λ s. s.now) o.accounts ≡ given (codes "accounts")
  pub link_secrets : option_map (λ s. s.now) o.link_secrets ≡ given (codes "link-secrets")
  pub control : option_map (λ s. s.now) o.control ≡ given (codes "control")
  pub status : option_map (λ s. s.now) o.status ≡ given (codes "status")
  pub keep : option_map (λ s. s.now) o.keep ≡ given (codes "keep")
  pub archive : option_map (λ s. s.now) o.archive ≡ given (codes "archive")
  pub ahead : option_map (λ s. s.now) o.ahead ≡ given (codes "ahead")
  pub new_store : option_map (λ s. s.now) o.new_store ≡ given (codes "new-store")
  pub accept_loss : option_map (λ s. s.now) o.accept_loss ≡ given (codes "accept-loss")
  pub accounts_open : option_map (λ s. s.now) o.accounts_open ≡ given (codes "accounts-open")
  pub log : option_map (λ s. s.now) o.log ≡ given (codes "log")
  pub words : map (λ s. s.now) o.words.items ≡ texts

-- they ask for a run, with these accounts and no others
abbrev pub AsksToServe : List (List ℕ) → ServerWords → Type 0
AsksToServe words (Run run accounts) = SpelledServer (λ name. server_value name words) run × AddsAll (account_texts words) [] accounts.items
AsksToServe words (Show store filter by_handset) = ⊥
AsksToServe words (Save store to) = ⊥
AsksToServe words (Stop control wait) = ⊥
AsksToServe words (End control seat) = ⊥
AsksToServe words (Reload control) = ⊥
AsksToServe words (Order control order id) = ⊥
AsksToServe words Password = ⊥

abbrev pub AsksToLook : List (List ℕ) → ServerWords → Type 0
AsksToLook words (Run run accounts) = ⊥
AsksToLook words (Show store filter by_handset) = SpelledLook (λ name. look_value name words) store.now filter by_handset
AsksToLook words (Save store to) = ⊥
AsksToLook words (Stop control wait) = ⊥
AsksToLook words (End control seat) = ⊥
AsksToLook words (Reload control) = ⊥
AsksToLook words (Order control order id) = ⊥
AsksToLook words Password = ⊥

abbrev pub AsksToSave : List (List ℕ) → ServerWords → Type 0
AsksToSave words (Run run accounts) = ⊥
AsksToSave words (Show store filter by_handset) = ⊥
AsksToSave words (Save store to) = (save_value (codes "store") words ≡ Some store.now) × (save_value (codes "to") words ≡ Some to.now)
AsksToSave words (Stop control wait) = ⊥
AsksToSave words (End control seat) = ⊥
AsksToSave words (Reload control) = ⊥
AsksToSave words (Order control order id) = ⊥
AsksToSave words Password = ⊥

-- clap takes the words, and they ask for a copy
pub record AskForSave (words : List (List ℕ)) : Type 0 where
  pub taken : takes save_command words ≡ true
  pub store : List ℕ
  pub to : List ℕ
  pub given_store : save_value (codes "store") words ≡ Some store
  pub given_to : save_value (codes "to") words ≡ Some to

abbrev pub AsksToStop : List (List ℕ) → ServerWords → Type 0
AsksToStop words (Run run accounts) = ⊥
AsksToStop words (Show store filter by_handset) = ⊥
AsksToStop words (Save store to) = ⊥
AsksToStop words (Stop control wait) = (stop_value (codes "control") words ≡ Some control.now) × Wants SpellsCount (stop_value (codes "wait") words) wait
AsksToStop words (End control seat) = ⊥
AsksToStop words (Reload control) = ⊥
AsksToStop words (Order control order id) = ⊥
AsksToStop words Password = ⊥

-- these values spell a stop
abbrev pub SpellsStop : Option (List ℕ) → Option (List ℕ) → Type 0
SpellsStop given_control given_wait = HasValue given_control × MayBe IsCountText given_wait

-- clap takes the words, and they ask to stop
pub record AskForStop (words : List (List ℕ)) : Type 0 where
  pub taken : takes stop_command words ≡ true
  pub spelled : SpellsStop (stop_value (codes "control") words) (stop_value (codes "wait") words)

abbrev pub AsksToEnd : List (List ℕ) → ServerWords → Type 0
AsksToEnd words (Run run accounts) = ⊥
AsksToEnd words (Show store filter by_handset) = ⊥
AsksToEnd words (Save store to) = ⊥
AsksToEnd words (Stop control wait) = ⊥
AsksToEnd words (End control seat) = (end_value (codes "control") words ≡ Some control.now) × Gives SpellsCount (end_value (codes "seat") words) seat
AsksToEnd words (Reload control) = ⊥
AsksToEnd words (Order control order id) = ⊥
AsksToEnd words Password = ⊥

-- these values spell the end of a connection
abbrev pub SpellsEnd : Option (List ℕ) → Option (List ℕ) → Type 0
SpellsEnd given_control given_seat = HasValue given_control × Spells IsCount given_seat

-- clap takes the words, and they ask to end a connection
pub record AskForEnd (words : List (List ℕ)) : Type 0 where
  pub taken : takes end_command words ≡ true
  pub spelled : SpellsEnd (end_value (codes "control") words) (end_value (codes "seat") words)

abbrev pub AsksToReload : List (List ℕ) → ServerWords → Type 0
AsksToReload words (Run run accounts) = ⊥
AsksToReload words (Show store filter by_handset) = ⊥
AsksToReload words (Save store to) = ⊥
AsksToReload words (Stop control wait) = ⊥
AsksToReload words (End control seat) = ⊥
AsksToReload words (Reload control) = reload_value (codes "control") words ≡ Some control.now
AsksToReload words (Order control order id) = ⊥
AsksToReload words Password = ⊥

-- clap takes the words, and they ask to read the accounts again
pub record AskForReload (words : List (List ℕ)) : Type 0 where
  pub taken : takes reload_command words ≡ true
  pub control : List ℕ
  pub given : reload_value (codes "control") words ≡ Some control

abbrev pub AsksToOrder : OrderWord → List (List ℕ) → ServerWords → Type 0
AsksToOrder wanted words (Run run accounts) = ⊥
AsksToOrder wanted words (Show store filter by_handset) = ⊥
AsksToOrder wanted words (Save store to) = ⊥
AsksToOrder wanted words (Stop control wait) = ⊥
AsksToOrder wanted words (End control seat) = ⊥
AsksToOrder wanted words (Reload control) = ⊥
AsksToOrder wanted words (Order control order id) =
    (order ≡ wanted) × (order_value wanted (codes "control") words ≡ Some control.now) × Gives IsIdText (order_value wanted (codes "id") words) id
AsksToOrder wanted words Password = ⊥

-- these values spell an order of a message
abbrev pub SpellsOrder : Option (List ℕ) → Option (List ℕ) → Type 0
SpellsOrder given_control given_id = HasValue given_control × Spells IsIdOf given_id

-- clap takes the words, and they order something of a message
pub record AskToOrder (order : OrderWord) (words : List (List ℕ)) : Type 0 where
  pub taken : takes (order_command order) words ≡ true
  pub spelled : SpellsOrder (order_value order (codes "control") words) (order_value order (codes "id") words)

-- the word that asks what to write of a password stands alone
abbrev pub AskForPassword : List (List ℕ) → Type 0
AskForPassword words = length words ≡ 1

abbrev pub AsksForPassword : List (List ℕ) → ServerWords → Type 0
AsksForPassword words (Run run accounts) = ⊥
AsksForPassword words (Show store filter by_handset) = ⊥
AsksForPassword words (Save store to) = ⊥
AsksForPassword words (Stop control wait) = ⊥
AsksForPassword words (End control seat) = ⊥
AsksForPassword words (Reload control) = ⊥
AsksForPassword words (Order control order id) = ⊥
AsksForPassword words Password = AskForPassword words

-- whether a word is there and is this one
abbrev pub is_word : List ℕ → Option (List ℕ) → Bool
is_word wanted None = false
is_word wanted (Some word) = bytes_eq word wanted

-- `show`, `save`, `stop`, `end`, `reload`, `retry`, `cancel` and `password` as the second word ask for a look, a copy, an order, or what to write of a
-- password, by the words behind the program's name. All else asks for a run
abbrev pub AsksOfServer : Option (List ℕ) → List (List ℕ) → List (List ℕ) → ServerWords → Type 0
AsksOfServer second words behind asked =
    MatchBool (is_word (codes "show") second) (AsksToLook behind asked)
    (MatchBool (is_word (codes "save") second) (AsksToSave behind asked)
    (MatchBool (is_word (codes "stop") second) (AsksToStop behind asked)
    (MatchBool (is_word (codes "end") second) (AsksToEnd behind asked)
    (MatchBool (is_word (codes "reload") second) (AsksToReload behind asked)
    (MatchBool (is_word (codes "retry") second) (AsksToOrder Retry behind asked)
    (MatchBool (is_word (codes "cancel") second) (AsksToOrder Cancel behind asked)
    (MatchBool (is_word (codes "password") second) (AsksForPassword behind asked) (AsksToServe words asked))))))))

-- words that ask something of the server
abbrev pub AskServer : Option (List ℕ) → List (List ℕ) → List (List ℕ) → Type 0
AskServer second words behind =
    MatchBool (is_word (codes "show") second) (AskForLook behind)
    (MatchBool (is_word (codes "save") second) (AskForSave behind)
    (MatchBool (is_word (codes "stop") second) (AskForStop behind)
    (MatchBool (is_word (codes "end") second) (AskForEnd behind)
    (MatchBool (is_word (codes "reload") second) (AskForReload behind)
    (MatchBool (is_word (codes "retry") second) (AskToOrder Retry behind)
    (MatchBool (is_word (codes "cancel") second) (AskToOrder Cancel behind)
    (MatchBool (is_word (codes "password") second) (AskForPassword behind) (AskForServer words))))))))

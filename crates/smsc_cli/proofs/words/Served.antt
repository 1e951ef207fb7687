-- The values of the options are those of the words.
use Rattle.std.proofs.Common.{◌≡◌, ℕ, List, [], Option, Result, Ok, Err, IfErr, codes, map, option_map, ap, sym, subst, ◌∙◌}
use Rattle.smsc_cli.proofs.words.Asked.{memory_else}
use Rattle.smsc_cli.specs.declared.words.account.AccountWords.{AccountWords}
use Rattle.smsc_cli.specs.declared.words.fault.WordsFault.{WordsFault}
use Rattle.smsc_cli.specs.declared.words.fault.WordsFault.TheVariants.{BadWords, NoMemory}
use Rattle.smsc_cli.specs.declared.words.detail.LogDetail.{LogDetail}
use Rattle.smsc_cli.specs.declared.words.server.Options.{Options}
use Rattle.smsc_cli.specs.declared.words.server.ServerRun.{ServerRun}
use Rattle.smsc_cli.specs.words.Accounts.{AddsAll}
use Rattle.smsc_cli.specs.words.LogWords.{SpellsLog}
use Rattle.smsc_cli.specs.words.LookWords.{IsCountText, MayBe, Wants}
use Rattle.smsc_cli.specs.words.Numbers.{IsPort, SpellsCount, SpellsFrom}
use Rattle.smsc_cli.specs.words.Options.{is_given}
use Rattle.smsc_cli.specs.words.ServerWords.{AreOptionsOf, IsPortText, SpelledOptions, SpelledServer, SpellsServer}
use Rattle.smsc_cli.specs.words.SimWords.{Gives, Spells, SpellsNumber}

pub spelled : (given : List ℕ → Option (List ℕ)) (texts : List (List ℕ)) (o : Options) (run : ServerRun) → AreOptionsOf given texts o → SpelledOptions o run
    → SpelledServer given run
spelled given texts o run a h = record {
  store = sym a.store ∙ h.store;
  smpp = subst (λ v. Gives (SpellsFrom 1) v run.smpp) a.smpp h.smpp;
  links = subst (λ v. Gives (SpellsFrom 1) v run.links) a.links h.links;
  centre = subst (λ v. Gives SpellsNumber v run.centre) a.centre h.centre;
  sessions = subst (λ v. Wants SpellsCount v run.sessions) a.sessions h.sessions;
  accounts = sym a.accounts ∙ h.accounts;
  link_secrets = sym a.link_secrets ∙ h.link_secrets;
  control = sym a.control ∙ h.control;
  status = subst (λ v. Wants (SpellsFrom 1) v run.status) a.status h.status;
  keep = subst (λ v. Wants SpellsCount v run.keep) a.keep h.keep;
  archive = sym a.archive ∙ h.archive;
  ahead = h.ahead ∙ ap is_given a.ahead;
  new_store = h.new_store ∙ ap is_given a.new_store;
  accept_loss = h.accept_loss ∙ ap is_given a.accept_loss;
  accounts_open = h.accounts_open ∙ ap is_given a.accounts_open;
  log = subst (λ v. SpellsLog v run.log) a.log h.log;
}

pub given_to : (given : List ℕ → Option (List ℕ)) (texts : List (List ℕ)) (o : Options) → AreOptionsOf given texts o
    → SpellsServer (given (codes "store")) (given (codes "smpp")) (given (codes "links")) (given (codes "centre")) (given (codes "sessions")) (given (codes "status")) (given (codes "keep")) (given (codes "log"))
    → SpellsServer (option_map (λ s. s.now) o.store) (option_map (λ s. s.now) o.smpp) (option_map (λ s. s.now) o.links) (option_map (λ s. s.now) o.centre)
    (option_map (λ s. s.now) o.sessions) (option_map (λ s. s.now) o.status) (option_map (λ s. s.now) o.keep) (option_map (λ s. s.now) o.log)
given_to given texts o a h = (
  (h.0.0, a.store ∙ h.0.1),
  subst (λ v. Spells IsPort v) (sym a.smpp) h.1,
  subst (λ v. Spells IsPort v) (sym a.links) h.2,
  subst (λ v. Spells SpellsNumber v) (sym a.centre) h.3,
  subst (λ v. MayBe IsCountText v) (sym a.sessions) h.4,
  subst (λ v. MayBe IsPortText v) (sym a.status) h.5,
  subst (λ v. MayBe IsCountText v) (sym a.keep) h.6,
  subst (λ v. (detail : LogDetail) × SpellsLog v detail) (sym a.log) h.7,
)

-- ---- what a run's words give

module _ (given : List ℕ → Option (List ℕ)) (texts : List (List ℕ)) (o : Options) (are : AreOptionsOf given texts o) where
  pub memory_of_run : {B : Type 0} (r : Result B WordsFault)
      → IfErr r (λ fault. fault ≡ BadWords → (accounts : List AccountWords) → AddsAll (map (λ s. s.now) o.words.items) [] accounts
      → SpellsServer (option_map (λ s. s.now) o.store) (option_map (λ s. s.now) o.smpp) (option_map (λ s. s.now) o.links) (option_map (λ s. s.now) o.centre) (option_map (λ s. s.now) o.sessions) (option_map (λ s. s.now) o.status) (option_map (λ s. s.now) o.keep) (option_map (λ s. s.now) o.log) → ⊥)
      → SpellsServer (given (codes "store")) (given (codes "smpp")) (given (codes "links")) (given (codes "centre")) (given (codes "sessions")) (given (codes "status")) (given (codes "keep")) (given (codes "log"))
      → (accounts : List AccountWords) → AddsAll texts [] accounts → IfErr r (λ fault. fault ≡ NoMemory)
  memory_of_run (Ok x) h spells accounts added = tt
  memory_of_run (Err fault) h spells accounts added =
      memory_else fault (λ e. h e accounts (subst (λ t. AddsAll t [] accounts) (sym are.words) added) (given_to given texts o are spells))

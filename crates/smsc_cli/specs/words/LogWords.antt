-- What the log has besides, by the value of its option.
use Rattle.std.specs.Prelude.{◌≡◌, ℕ, List, ◌||◌, Option, Some, None, bytes_eq, codes, Bool, true}
use Rattle.smsc_cli.specs.declared.words.detail.LogDetail.{LogDetail}
use Rattle.smsc_cli.specs.declared.words.detail.LogDetail.TheVariants.{Runs, Messages, Access}

-- the words that its option takes
abbrev pub is_log_word : List ℕ → Bool
is_log_word word = bytes_eq word (codes "messages") || bytes_eq word (codes "access")

-- without the option only what concerns the run itself, with `messages` and with `access` what these say
abbrev pub SpellsLog : Option (List ℕ) → LogDetail → Type 0
SpellsLog None detail = detail ≡ Runs
SpellsLog (Some word) Runs = ⊥
SpellsLog (Some word) Messages = bytes_eq word (codes "messages") ≡ true
SpellsLog (Some word) Access = bytes_eq word (codes "access") ≡ true

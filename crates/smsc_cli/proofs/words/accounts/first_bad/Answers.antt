use Rattle.std.proofs.Common.{ℕ, ◌+◌, Err, List, length, ap, map}
use Rattle.smsc_cli.specs.declared.words.account.AccountWords.{AccountWords}
use Rattle.smsc_cli.proofs.words.Places.{number_of_bad}
use Rattle.smsc_cli.proofs.words.accounts.first_bad.Goals as goal

pub returns-in-Err-BadWords : goal.returns-in-Err-BadWords
returns-in-Err-BadWords c = number_of_bad (map (λ text. text.now) c.args.texts.now) c.new-accounts.result.items c.add_all.new.accounts.items
    (length c.as_slice.result.now + 1) c.new-accounts.ensures.items (ap (λ (l : List AccountWords). length l + 1) c.as_slice.ensures.value)
    (c.in-Err-BadWords.ensures.bad (ap Err c.in-Err-BadWords.field-0-is))

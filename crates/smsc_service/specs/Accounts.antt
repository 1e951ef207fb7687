-- The accounts of a run. A store has none: they are handed in as a run begins, and more may come behind them.
use Rattle.std.specs.Prelude.{◌≡◌, List, [], ◌++◌}
use Rattle.sms_centre_spec.specs.declared.rows.Rows.{Rows}
use Rattle.sms_intake.specs.declared.submission.CentreAccount.{CentreAccount}

-- the rows with these accounts in place of their own
abbrev pub with_accounts : List CentreAccount → Rows → Rows
with_accounts accounts rows = record rows { setup = record rows.setup { accounts = accounts } }

-- the rows as a store has them that was opened without accounts
abbrev pub bare : Rows → Rows
bare rows = with_accounts [] rows

-- those from before keep their places, and further ones come behind them
abbrev pub ComeBehind : List CentreAccount → List CentreAccount → Type 0
ComeBehind before now = (came : List CentreAccount) × (now ≡ before ++ came)

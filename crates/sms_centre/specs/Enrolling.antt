-- An account that comes while a centre runs.
use Rattle.std.specs.Prelude.{List, [], ◌∷◌, ◌++◌, if◌then◌else◌}
use Rattle.sms_centre_spec.specs.conditions.RowsTest.{has_address}
use Rattle.sms_centre_spec.specs.declared.rows.Rows.{Rows}
use Rattle.sms_centre_spec.specs.declared.setup.Setup.{Setup}
use Rattle.sms_centre_spec.specs.Draft.{Core}
use Rattle.sms_centre.specs.state.CentreState.{CentreStateOf}
use Rattle.sms_intake.specs.declared.submission.CentreAccount.{CentreAccount}

-- It is the last one from then on, and those before it keep their places. One whose address no unit can carry does not come.
abbrev pub accounts_with : CentreAccount → List CentreAccount → List CentreAccount
accounts_with account accounts = if has_address account then accounts ++ account ∷ [] else accounts

abbrev pub setup_with : CentreAccount → Setup → Setup
setup_with account setup = record setup { accounts = accounts_with account setup.accounts }

abbrev pub rows_with : CentreAccount → Rows → Rows
rows_with account rows = record rows { setup = setup_with account rows.setup }

-- all else of the centre stays
abbrev pub enrolled : CentreAccount → Core → Core
enrolled account c = record c { rows = rows_with account c.rows }

-- ---- in memory

abbrev pub accounts_of : CentreStateOf → List CentreAccount
accounts_of s = s.setup.accounts

abbrev pub state_with : CentreAccount → CentreStateOf → CentreStateOf
state_with account s = record s { setup = setup_with account s.setup }

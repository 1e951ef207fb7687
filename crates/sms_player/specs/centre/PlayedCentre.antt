-- What a centre of a script in play keeps, and the centre of the definition that it is.
use Rattle.std.specs.Prelude.{◌≡◌, ◌≤◌, ℕ, List, length}
use Rattle.sms_centre_spec.specs.declared.rows.Rows.{Rows}
use Rattle.sms_centre_spec.specs.Draft.{Core}
use Rattle.sms_centre.specs.state.CentreState.{Represents as StateRepresents, CentreStateOf}

-- It is that centre, and its keep has the centre's rows. It has few accounts.
pub record Represents (c : Core) (s : CentreStateOf) (rows : Rows) : Type 0 where
  pub centre : StateRepresents c s
  pub same_rows : rows ≡ c.rows
  pub accounts : length c.rows.setup.accounts ≤ 32

-- it is some centre
abbrev pub IsSomeCentre : CentreStateOf → Rows → Type 0
IsSomeCentre s rows = (c : Core) × Represents c s rows

pub record PlayedOf : Type 0 where
  pub centre : CentreStateOf
  -- the rows that its keep has
  pub rows : Rows
  pub handsets : List (List ℕ)

-- What contracts see of a store of rows at one moment.
use Rattle.sms_rows.specs.declared.keep.refusals.Refusals.{Refusals}

pub record KeepState (Rows : Type 0) : Type 1 where
  -- so far it has returned what was written
  pub is_honest : Type 0
  -- the rows that it has
  pub holds : Rows → Type 0
  -- it refuses each call from now on
  pub is_closed : Type 0
  -- the calls that it refused
  pub refusals : Refusals

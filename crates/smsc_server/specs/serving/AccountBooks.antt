-- The lists of accounts by which a run admits applications.
use Rattle.std.specs.Prelude.{◌≡◌, ◌⊎◌, Bool, true, List}
use Rattle.smpp_session.specs.declared.account.Account.{Account}
use Rattle.smsc_server.specs.serving.AccountNames.{begin_with, names_of}

-- the list with which a run begins, and whether others take its place
pub record Book : Type 0 where
  pub first : List Account
  pub is_renewed : Bool

-- An application is admitted by the first list. Where that is renewed, it may be another one. That has the same names at the same places, and
-- perhaps further ones behind them.
abbrev pub MayAdmit : Book → List Account → Type 0
MayAdmit book accounts = (accounts ≡ book.first) ⊎ ((book.is_renewed ≡ true) × (begin_with (names_of accounts) (names_of book.first) ≡ true))

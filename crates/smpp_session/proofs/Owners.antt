-- Whose name and password those of a bind are.
use Rattle.std.proofs.Common.{◌≡◌, ℕ, zero, suc, ◌+◌, Bool, true, false, cond, List, [], ◌∷◌, Option, Some, slice_get, refl, sym, ap, ◌∙◌, arith}
use Rattle.std.specs.Prelude.{bytes_eq}
use Rattle.smpp_session.specs.declared.account.Account.{Account}
use Rattle.smpp_session.specs.declared.account.Login.{Login}
use Rattle.smpp_session.specs.declared.account.Login.TheVariants.{Known, UnknownName, WrongPassword}
use Rattle.smpp_session.specs.Logins.{is_own, login}

-- the account so far behind the first has that name, and the password is its own
record IsOwners (i : ℕ) (name password : List ℕ) (accounts : List Account) : Type 0 where
  account : Account
  there : slice_get accounts i ≡ Some account
  named : bytes_eq account.name name ≡ true
  own : is_own account.password password ≡ true

from_place : (k : ℕ) (name password : List ℕ) (accounts : List Account) (place : ℕ) → login k name password accounts ≡ Known place
    → (i : ℕ) × (place ≡ i + k) × IsOwners i name password accounts
from_place k name password [] place e = absurd cc
from_place k name password (account ∷ accounts) place e = by_name (bytes_eq account.name name) (λ p. from_place (k + 1) name password accounts p) refl e where
  further : (place : ℕ) → (i : ℕ) × (place ≡ i + (k + 1)) × IsOwners i name password accounts → (i : ℕ) × (place ≡ i + k) × IsOwners i name password (account ∷ accounts)
  further place (i, is, o) = (suc i, omega (arith, is), record { account = o.account; there = o.there; named = o.named; own = o.own })

  by_password : (b : Bool) → bytes_eq account.name name ≡ true → is_own account.password password ≡ b → cond b (Known k) WrongPassword ≡ Known place
      → (i : ℕ) × (place ≡ i + k) × IsOwners i name password (account ∷ accounts)
  by_password true named own e = let same : place ≡ k = cc in (0, omega (arith, same), record { account = account; there = refl; named = named; own = own })
  by_password false named own e = absurd cc

  by_name : (b : Bool) → ((p : ℕ) → login (k + 1) name password accounts ≡ Known p → (i : ℕ) × (p ≡ i + (k + 1)) × IsOwners i name password accounts)
      → bytes_eq account.name name ≡ b
      → cond b (cond (is_own account.password password) (Known k) WrongPassword) (login (k + 1) name password accounts) ≡ Known place
      → (i : ℕ) × (place ≡ i + k) × IsOwners i name password (account ∷ accounts)
  by_name true behind named e = by_password (is_own account.password password) named refl e
  by_name false behind named e = further place (behind place e)

pub is_owners : (accounts : List Account) (name password : List ℕ) (place : ℕ) → login 0 name password accounts ≡ Known place
    → (account : Account) × (slice_get accounts place ≡ Some account) × (bytes_eq account.name name ≡ true) × (is_own account.password password ≡ true)
is_owners accounts name password place e = at (from_place 0 name password accounts place e) where
  at : (i : ℕ) × (place ≡ i + 0) × IsOwners i name password accounts
      → (account : Account) × (slice_get accounts place ≡ Some account) × (bytes_eq account.name name ≡ true) × (is_own account.password password ≡ true)
  at (i, is, o) = let same : place ≡ i = omega (arith, is) in (o.account, ap (slice_get accounts) same ∙ o.there, o.named, o.own)

-- The names of accounts, in order.
use Rattle.std.specs.Prelude.{ℕ, ◌&&◌, Bool, true, false, List, [], ◌∷◌, map, bytes_eq}
use Rattle.smpp_session.specs.declared.account.Account.{Account}

abbrev pub names_of : List Account → List (List ℕ)
names_of accounts = map (λ (account : Account). account.name) accounts

-- the first names are these, in this order, as octets are compared
abbrev pub begin_with : List (List ℕ) → List (List ℕ) → Bool
begin_with names [] = true
begin_with [] (other ∷ others) = false
begin_with (name ∷ names) (other ∷ others) = bytes_eq name other && begin_with names others

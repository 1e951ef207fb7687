-- The bars that a centre puts in one call, while it makes them.
use Rattle.std.specs.Prelude.{◌≡◌, ℕ, ◌+◌, ◌&&◌, ◌==◌, List, [], ◌∷◌, ◌++◌, Bool, false, Some}
use Rattle.sms_rows.specs.declared.table.change.Change.{Change}
use Rattle.sms_rows.specs.declared.table.change.Change.TheVariants.{Put, Remove}
use Rattle.sms_rows.specs.table.Since.{Since, oldest_first as changes_of, untouched}
use Rattle.sms_rows.specs.table.Table.{Rises}
use Rattle.sms_centre_rows.specs.declared.messages.bar.BarRow.{BarRow}
use Rattle.sms_centre_rows.specs.declared.messages.claim.Claim.{Claim}
use Rattle.sms_centre_rows.specs.messages.Bars.{bar_key, bar_of, bars_of, next_bar, put_bars}
use Rattle.sms_centre_rows.specs.messages.SplitReferences.{is_own_bar}
use Rattle.sms_centre.specs.declared.barring.NewBars.{NewBars}

-- it stands for that claim of a header
abbrev pub is_for : Claim → BarRow → Bool
is_for c b = is_own_bar c.source c.handset b && b.reference == c.reference

abbrev pub puts_for : Claim → Change BarRow → Bool
puts_for c (Put b) = is_for c b
puts_for c (Remove n) = false

-- what is put
abbrev pub puts_of : List (Change BarRow) → List BarRow
puts_of [] = []
puts_of (Put b ∷ cs) = b ∷ puts_of cs
puts_of (Remove n ∷ cs) = puts_of cs

-- the claim's bar is put behind the others
pub record IsPut (c : Claim) (old new : NewBars) : Type 0 where
  pub place : ℕ
  pub was : old.next ≡ Some place
  pub changes : new.changes.items ≡ old.changes.items ++ Put (bar_of c place) ∷ []
  pub next : (n : ℕ) → new.next ≡ Some n → n ≡ place + 1

-- The bars of some of the claims are put over these rows, and these claims are left.
pub record ArePut (bars : List BarRow) (claims left : List Claim) (b : NewBars) : Type 0 where
  pub at : Since BarRow
  pub rest : put_bars left at ≡ put_bars claims (untouched bars)
  pub changes : changes_of at.news ≡ b.changes.items
  pub rows : bars_of at ≡ bars ++ puts_of b.changes.items
  pub rises : Rises bar_key (bars_of at)
  -- the place of the next bar, where one is left
  pub next : (n : ℕ) → b.next ≡ Some n → n ≡ next_bar (bars_of at)

-- What the keeper gave a seat is what the seat took, and then the queue. One pass at most may give, and one may take.
use Rattle.std.specs.Prelude.{◌≡◌, ℕ, Bool, true, false, List, [], ◌++◌}
use mathlib.Core.Option.{some}
use lib.ListN.{get_elem?}
use Rattle.sms_seats.specs.declared.answers.AnswersView.{AnswersView}

module _ {O : Type 0} where
  abbrev pub log : Bool → Bool → List O → List O → AnswersView O
  log gives takes given taken = record { gives = gives; takes = takes; given = given; taken = taken }

  abbrev pub giver_view : List O → AnswersView O
  giver_view given = log true false given []

  abbrev pub taker_view : List O → AnswersView O
  taker_view taken = log false true [] taken

  abbrev pub joined_view : List O → List O → AnswersView O
  joined_view given taken = log true true given taken

  abbrev pub spent_view : AnswersView O
  spent_view = log false false [] []

  abbrev pub MatchesLog : ℕ → ℕ → List O → List O → ℕ → AnswersView O → Type 0
  MatchesLog giver taker given taken port v = (v.gives ≡ true → (port ≡ giver) × (v.given ≡ given)) × (v.takes ≡ true → (port ≡ taker) × (v.taken ≡ taken))

  abbrev pub Relayed : List O → List (AnswersView O) → Type 0
  Relayed items views = (giver : ℕ) × (taker : ℕ) × (given : List O) × (taken : List O) × (given ≡ taken ++ items)
      × ((port : ℕ) (v : AnswersView O) → get_elem? views port ≡ some v → MatchesLog giver taker given taken port v)

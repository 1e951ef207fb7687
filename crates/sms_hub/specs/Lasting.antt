-- What a keeper ran.
use Rattle.std.specs.Prelude.{ℕ, List, ◌++◌}
use Rattle.sms_keeper.specs.declared.keeper.Keeper.{Keeper}
use Rattle.sms_keeper.specs.declared.machine.Fate.{Fate}
use Rattle.sms_keeper.specs.declared.machine.Item.{Item}
use Rattle.sms_keeper.specs.declared.machine.Stimulus.{Stimulus}
use Rattle.sms_keeper.specs.declared.outs.Out.{Out}
use Rattle.sms_keeper.specs.History.{Leads}
use Rattle.sms_keeper.specs.Keeping.{IsStretch}

module _ {J O S : Type 0} (reads : ℕ → Type 0) (gives : S → Stimulus J → Fate → List (Out O)) (after : S → Stimulus J → Fate → S) where
  -- Between these two the keeper ran some items, and a recorder was told of them. As long as the machine is honest they lead
  -- from the state before to the state after.
  pub record Ran (honest : Type 0) (before behind : S → Type 0) (told tells : List (Item J O) → Type 0) (a b : Keeper J O) : Type 0 where
    pub items : List (Item J O)
    pub did : IsStretch reads a items b
    pub led : honest → Leads gives after before items behind
    pub recorded : (earlier : List (Item J O)) → told earlier → tells (earlier ++ items)

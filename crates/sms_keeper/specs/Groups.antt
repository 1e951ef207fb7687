-- A group of items: they are asked, committed together, and only then answered.
use Rattle.std.specs.Prelude.{◌≡◌, ◌≤◌, ℕ, Bool, true, false, List, [], ◌∷◌, ◌++◌, length}
use Rattle.sms_keeper.specs.declared.machine.Stimulus.{Stimulus}
use Rattle.sms_keeper.specs.declared.machine.Fate.{Fate}
use Rattle.sms_keeper.specs.declared.machine.Fate.TheVariants.{Refused}
use Rattle.sms_keeper.specs.declared.machine.Item.{Item}
use Rattle.sms_keeper.specs.declared.outs.Out.{Out}
use Rattle.sms_keeper.specs.declared.keeper.End.{End}
use Rattle.sms_keeper.specs.declared.keeper.HeldItem.{HeldItem}
use Rattle.sms_keeper.specs.declared.keeper.Keeper.{Keeper}
use Rattle.sms_keeper.specs.Ends.{MatchEnd}
use Rattle.sms_keeper.specs.Fates.{AllRefused, MatchFate, WentOn, IsRefused, EndsRefused}
use Rattle.sms_keeper.specs.History.{IsHistory, IsRising, Leads, asked, work}
use Rattle.sms_keeper.specs.Keeping.{given_by, last_tick, ran_by, IsSameHub, IsStretch}

-- how many items a group has at most
abbrev pub group_limit : ℕ
group_limit = 64

-- between two groups a machine is one state, whether or not the next group is refused
abbrev pub Between : {S : Type 0} → (S → S → Type 0) → S → Type 0
Between stands s = stands s s

-- whether the machine stands, or has to be opened again
abbrev pub StandsBy : {S : Type 0} → Fate → (S → S → Type 0) → (S → Type 0) → S → S → Type 0
StandsBy fate stands resumes s r = MatchFate fate (stands s r) (resumes r)

-- the first where the group was committed, the second where it was refused
abbrev pub MatchSettled : Bool → Type 0 → Type 0 → Type 0
MatchSettled true committed refused = committed
MatchSettled false committed refused = refused

module _ {J O : Type 0} where
  -- what becomes of a held item: its group is committed, or is refused, and the item with it
  abbrev pub as_item : Bool → HeldItem J O → Item J O
  as_item true h = record { stimulus = h.stimulus; fate = h.step.fate; outs = h.step.outs }
  as_item false h = record { stimulus = h.stimulus; fate = Refused; outs = h.step.if_refused }

  abbrev pub as_items : Bool → List (HeldItem J O) → List (Item J O)
  as_items committed [] = []
  as_items committed (h ∷ hs) = as_item committed h ∷ as_items committed hs

module _ {J O : Type 0} (reads : ℕ → Type 0) where
  -- The keeper asked these, in order, each as it popped it. It gave nothing.
  pub record IsHolding (a : Keeper J O) (held : List (HeldItem J O)) (b : Keeper J O) : Type 0 where
    pub hub : IsSameHub a b
    pub ran : work (ran_by b) ≡ work (ran_by a) ++ asked (as_items true held)
    pub none_given : (n : ℕ) → given_by b n ≡ given_by a n
    pub ticks : IsRising reads (last_tick a) (as_items true held) (last_tick b)

module _ {J O S : Type 0} (gives : S → Stimulus J → Fate → List (Out O)) (after : S → Stimulus J → Fate → S) where
  -- The held items are two histories: one if their group is committed, and one if it is refused.
  abbrev pub LeadsTwoWays : (S → S → Type 0) → List (HeldItem J O) → (S → S → Type 0) → Type 0
  LeadsTwoWays before held behind = (s r : S) → before s r
      → (t : S) × (u : S) × IsHistory gives after s (as_items true held) t × IsHistory gives after r (as_items false held) u × behind t u

module _ {J O S : Type 0} (reads : ℕ → Type 0) (gives : S → Stimulus J → Fate → List (Out O)) (after : S → Stimulus J → Fate → S) where
  -- What the keeper did as it asked one item more, or none. It also says what the machine is then.
  pub record IsAsked (honest : Type 0) (stood stands : S → S → Type 0) (resumes : S → Type 0)
      (a : Keeper J O) (before : List (HeldItem J O)) (b : Keeper J O) (now : List (HeldItem J O)) (fate : Fate) : Type 0 where
    pub more : List (HeldItem J O)
    pub written : now ≡ before ++ more
    pub most : length more ≤ 1
    pub matches : MatchFate fate (WentOn (as_items true more)) (1 ≤ length more)
    pub did : IsHolding reads a more b
    pub led : honest → LeadsTwoWays gives after stood more (StandsBy fate stands resumes)

  -- What a group did: nothing was given before the machine had settled. Where that was refused, each item was.
  pub record IsGroup (honest : Type 0) (stood stands : S → Type 0) (resumes : S → Type 0) (told tells : List (Item J O) → Type 0)
      (a b : Keeper J O) (fate : Fate) : Type 0 where
    pub items : List (Item J O)
    pub most : length items ≤ group_limit
    pub matches : MatchFate fate (WentOn items) (IsRefused items)
    pub did : IsStretch reads a items b
    pub led : honest → MatchFate fate (Leads gives after stood items stands) (Leads gives after stood items resumes)
    pub recorded : (before : List (Item J O)) → told before → tells (before ++ items)

  -- What a term did: groups, of which the last alone may have been refused.
  pub record IsTerm (honest : Type 0) (stood stands : S → Type 0) (resumes : S → Type 0) (told tells : List (Item J O) → Type 0)
      (a b : Keeper J O) (end : End) : Type 0 where
    pub items : List (Item J O)
    pub ends : MatchEnd end (WentOn items) (EndsRefused items)
    pub did : IsStretch reads a items b
    pub led : honest → MatchEnd end (Leads gives after stood items stands) (Leads gives after stood items resumes)
    pub recorded : (before : List (Item J O)) → told before → tells (before ++ items)

  -- What was refused item by item, once the machine could not be opened again.
  pub record IsRefusing (honest : Type 0) (failed fails : S → Type 0) (told tells : List (Item J O) → Type 0) (a b : Keeper J O) : Type 0 where
    pub items : List (Item J O)
    pub refused : AllRefused items
    pub did : IsStretch reads a items b
    pub led : honest → Leads gives after failed items fails
    pub recorded : (before : List (Item J O)) → told before → tells (before ++ items)

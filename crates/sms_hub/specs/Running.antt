-- The sessions of a hub in threads.
use Rattle.std.specs.Prelude.{◌≡◌, ◌≤◌, ◌+◌, Bool, ℕ, List, [], ◌∷◌, ◌++◌, Option, None, length, map, Vec}
use Rattle.std.specs.declared.alloc.Global.{Global}
use Rattle.std.specs.declared.thread.PromisedHandle.{PromisedHandle}
use Rattle.sms_hub.specs.declared.session.Session.{Session}
use Rattle.sms_hub.specs.declared.run.threads.SessionOf.{SessionOf}
use Rattle.sms_hub.specs.declared.run.opened.Opened.{Opened}
use Rattle.sms_keeper.specs.declared.keeper.Keeper.{Keeper}
use Rattle.sms_keeper.specs.declared.machine.Fate.{Fate}
use Rattle.sms_keeper.specs.declared.machine.Item.{Item}
use Rattle.sms_keeper.specs.declared.machine.Stimulus.{Stimulus}
use Rattle.sms_keeper.specs.declared.outs.Out.{Out}
use Rattle.sms_keeper.specs.History.{IsRising, Leads, answers_in, each_seat, jobs_of}
use Rattle.sms_seats.specs.Seats.{number_of}
use Rattle.sms_keeper.specs.Seating.{IsSeatOf, IsNewKeeper}

-- what the vectors hold
abbrev pub lists_of : {A : Type 0} → List (Vec A Global) → List (List A)
lists_of {A} vs = map (λ (v : Vec A Global). v.items) vs

-- the thread of a session
abbrev pub SessionThread : Type 0 → Type 0 → Type 0
SessionThread J O = PromisedHandle (Session J O × Bool) (SessionOf J O)

module _ {J O : Type 0} where
  -- the jobs that the sessions were given
  abbrev pub jobs_for : List (SessionThread J O) → List (List J)
  jobs_for threads = map (λ (t : SessionThread J O). t.promise.jobs.value.items) threads

  -- the threads are those of the seats from the number n on
  abbrev pub AreAt : Keeper J O → ℕ → List (SessionThread J O) → Type 0
  AreAt keeper n [] = Unit {0}
  AreAt keeper n (t ∷ ts) = IsSeatOf keeper t.promise.seat.value × (number_of t.promise.seat.value ≡ n) × AreAt keeper (n + 1) ts

  -- a keeper that has done nothing, with the threads of its seats
  pub record IsOpened (opened : Opened J O) : Type 0 where
    pub keeper : IsNewKeeper (length opened.threads.items) opened.keeper
    pub seats : AreAt opened.keeper 0 opened.threads.items

module _ {J O S : Type 0} (reads : ℕ → Type 0) (gives : S → Stimulus J → Fate → List (Out O)) (after : S → Stimulus J → Fate → S) where
  -- What sessions of these lists of jobs did, with these answers: one history of the machine, of which a recorder was told.
  pub record SessionsRan (honest : Type 0) (before behind : S → Type 0) (told tells : List (Item J O) → Type 0)
      (lists : List (List J)) (answers : List (List O)) : Type 0 where
    pub items : List (Item J O)
    pub led : honest → Leads gives after before items behind
    pub ticks : (last : Option ℕ) × IsRising reads None items last
    -- each list stands in it whole, and nothing else does
    pub jobs : each_seat (length lists) (λ n. jobs_of n items) ≡ lists
    pub others : (n : ℕ) → length lists ≤ n → jobs_of n items ≡ []
    -- the answers of each session are all of its outs
    pub answered : answers ≡ each_seat (length lists) (λ n. answers_in n items)
    pub recorded : (earlier : List (Item J O)) → told earlier → tells (earlier ++ items)

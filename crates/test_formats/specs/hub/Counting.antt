-- The machine that adds up the jobs.
use Rattle.std.specs.Prelude.{ℕ, ◌+◌, ◌%◌, ◌^◌, ◌==◌, if◌then◌else◌, List, [], ◌∷◌}
use Rattle.sms_keeper.specs.declared.machine.Stimulus.{Stimulus}
use Rattle.sms_keeper.specs.declared.machine.Stimulus.TheVariants.{Job, Tick, Own}
use Rattle.sms_keeper.specs.declared.machine.Fate.{Fate}
use Rattle.sms_keeper.specs.declared.machine.Fate.TheVariants.{Done, NoMemory, Refused}
use Rattle.sms_keeper.specs.declared.outs.Out.{Out}
use Rattle.test_formats.specs.declared.hub.reply.Reply.{Reply}
use Rattle.test_formats.specs.declared.hub.reply.Reply.TheVariants.{Sum, Failed}

abbrev pub sum_after : ℕ → Stimulus ℕ → Fate → ℕ
sum_after s (Job k j) Done = (s + j) % 2 ^ 64
sum_after s (Job k j) NoMemory = s
sum_after s (Job k j) Refused = s
sum_after s (Tick m) fate = s
sum_after s (Own errand) fate = s

abbrev pub sums_given : ℕ → Stimulus ℕ → Fate → List (Out Reply)
sums_given s (Job k j) Done = if j == 0 then [] else record { seat = k; out = Sum ((s + j) % 2 ^ 64) } ∷ []
sums_given s (Job k j) NoMemory = record { seat = k; out = Failed } ∷ []
sums_given s (Job k j) Refused = record { seat = k; out = Failed } ∷ []
sums_given s (Tick m) fate = []
sums_given s (Own errand) fate = []

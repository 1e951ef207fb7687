-- The last seconds.
use Rattle.std.specs.Prelude.{ℕ, ◌-◌, ◌/◌, ◌^◌, max, min, List, [], ◌∷◌, ◌++◌, drop, length, sum_by}
use Rattle.circular_buffer.specs.Buffer.{keep_last}
use Rattle.smsc_status.specs.declared.figures.MessageCounts.{MessageCounts}
use Rattle.smsc_status.specs.declared.figures.Sample.{Sample}

-- what happened in each of the last seconds, the oldest first, and what was counted when the last of them ended
pub record SecondsOf : Type 0 where
  pub samples : List Sample
  pub last : Sample

abbrev pub no_seconds : SecondsOf
no_seconds = record { samples = []; last = record { submissions = 0; deliveries = 0; commits = 0 } }

-- what is counted
abbrev pub counted_as : MessageCounts → ℕ → Sample
counted_as counts commits = record { submissions = counts.accepted; deliveries = counts.delivered; commits = commits }

-- what happened between two counts; nothing where a count is less than before
abbrev pub since : Sample → Sample → Sample
since last now =
    record { submissions = now.submissions - last.submissions; deliveries = now.deliveries - last.deliveries; commits = now.commits - last.commits }

-- a second has ended; ten minutes are kept
abbrev pub after_second : MessageCounts → ℕ → SecondsOf → SecondsOf
after_second counts commits seconds =
    record {
      samples = keep_last 600 (seconds.samples ++ since seconds.last (counted_as counts commits) ∷ []);
      last = counted_as counts commits;
    }

-- the last seconds, ten at most
abbrev pub last_seconds : List Sample → List Sample
last_seconds samples = drop (length samples - 10) samples

-- how many commits there were in them; a count stops at its greatest number
abbrev pub commits_in : List Sample → ℕ
commits_in samples = min (sum_by (λ (s : Sample). s.commits) samples) (2 ^ 64 - 1)

-- how many there were a second
abbrev pub commits_a_second : List Sample → ℕ
commits_a_second samples = commits_in (last_seconds samples) / max 1 (length (last_seconds samples))

-- How far a message is: by its parts, and whether it has ended.
use Rattle.std.specs.Prelude.{ℕ, List, [], ◌∷◌, Option, Some, None, max, nat_le, if◌then◌else◌}
use Rattle.sms_centre_rows.specs.declared.messages.part.PartRow.{PartRow}

-- how often the part failed that failed most often
abbrev pub attempts_from : ℕ → List PartRow → ℕ
attempts_from most [] = most
attempts_from most (p ∷ ps) = attempts_from (max most p.progress.attempts) ps

abbrev pub attempts_in : List PartRow → ℕ
attempts_in ps = attempts_from 0 ps

-- when the first of the parts that wait is offered next
abbrev pub sooner : Option ℕ → ℕ → ℕ
sooner None due = due
sooner (Some first) due = if nat_le first due then first else due

abbrev pub with_part : Option ℕ → PartRow → Option ℕ
with_part first p = if p.progress.is_done then first else Some (sooner first p.progress.due)

abbrev pub due_from : Option ℕ → List PartRow → Option ℕ
due_from first [] = first
due_from first (p ∷ ps) = due_from (with_part first p) ps

abbrev pub due_in : List PartRow → Option ℕ
due_in ps = due_from None ps

-- The parts of an open group, taken one by one as they were stored.
use Rattle.std.specs.Prelude.{ℕ, ◌==◌, List, [], ◌∷◌, Option, Some, None, if◌then◌else◌}
use Rattle.sms_concat.specs.declared.content.Part.{Part as PartOf}
use Rattle.sms_concat.specs.joiner.StepwiseJoining.{Taken, number_of, takes, with_part}
use Rattle.sms_handset_rows.specs.declared.inbox.entry.Entry.{Entry}
use Rattle.sms_handset_rows.specs.declared.inbox.entry.Group.{Group}
use Rattle.sms_handset_rows.specs.inbox.Groups.{entry_part, part_number}

-- the part, if it has the number
abbrev pub numbered : ℕ → Option PartOf → Option PartOf
numbered n None = None
numbered n (Some part) = if number_of part == n then Some part else None

-- the part that the octets of an entry are, under the entry's own number
abbrev pub carried_by : Entry → Option PartOf
carried_by e = numbered (part_number e.message) (entry_part (Some e))

abbrev pub taken_if : Taken → PartOf → Option Taken
taken_if t part = if takes t part then Some (with_part t part) else None

-- the parts so far, with one more
abbrev pub with_taken : Option Taken → Option PartOf → Option Taken
with_taken None part = None
with_taken (Some t) None = None
with_taken (Some t) (Some part) = taken_if t part

abbrev pub taken_from : Option Taken → List Entry → Option Taken
taken_from t [] = t
taken_from t (e ∷ es) = taken_from (with_taken t (carried_by e)) es

-- none of the group's parts
abbrev pub none_of : Group → Taken
none_of g = record { reference = g.reference; total = g.total; parts = [] }

-- what was taken of the group's entries: nothing any more once the octets of one are not its part
abbrev pub taken_of : Group → List Entry → Option Taken
taken_of g es = taken_from (Some (none_of g)) es

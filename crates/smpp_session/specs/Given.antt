-- What was given: nothing yet, or some things in order.
use Rattle.std.specs.Prelude.{List, [], Option, Some, None}

abbrev pub all_given : {A : Type 0} → Option (List A) → List A
all_given None = []
all_given (Some given) = given

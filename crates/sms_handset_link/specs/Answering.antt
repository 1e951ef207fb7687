-- What an owner is answered in a run.
use Rattle.std.specs.Prelude.{ℕ, List, [], ◌∷◌, ◌++◌, Result, Ok, Err}
use Rattle.sms_handset.specs.Planning.{adopted}
use Rattle.sms_handset.specs.declared.event.HandsetEvent.{HandsetEvent}
use Rattle.sms_handset.specs.declared.event.HandsetEvent.TheVariants.{Frame, Tick, Write, Delete, Discard}
use Rattle.sms_handset.specs.declared.refusal.Refusal.{Refusal}
use Rattle.sms_handset.specs.machine.Stepping.{happened}
use Rattle.sms_handset_draft.specs.Draft.{Core, Draft}
use Rattle.sms_handset_draft.specs.Outcome.{outcome_of}
use Rattle.sms_handset_link.specs.Asking.{answer_to}

-- the handset behind an event: as it was where that is refused
abbrev pub behind_by : Result Draft Refusal → Core → Core
behind_by (Ok d) before = adopted (outcome_of d) before
behind_by (Err refusal) before = before

abbrev pub behind : HandsetEvent → Core → Core
behind event before = behind_by (happened event before) before

-- What the owner asked has an answer; a frame and a tick have none.
abbrev pub answer_of : HandsetEvent → Core → List ℕ
answer_of (Frame octets tag) before = []
answer_of (Tick now) before = []
answer_of (Write text to report) before = answer_to (Write text to report) before
answer_of (Delete entry) before = answer_to (Delete entry) before
answer_of (Discard entry) before = answer_to (Discard entry) before

-- the answers to events one after the other, each by how the handset is then
abbrev pub answers_to : List HandsetEvent → Core → List ℕ
answers_to [] before = []
answers_to (event ∷ events) before = answer_of event before ++ answers_to events (behind event before)

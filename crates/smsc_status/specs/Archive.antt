-- The line of a message that is forgotten, in JSON (RFC 8259). It has no word of what the message says.
use Rattle.std.specs.Prelude.{ℕ, List, ◌++◌, codes, decimal}
use Rattle.sms_base.specs.FinalWords.{final_word}
use Rattle.sms_base.specs.declared.final_state.FinalState.{FinalState}
use Rattle.sms_base.specs.declared.originator.Originator.{Originator}
use Rattle.sms_base.specs.declared.originator.Originator.TheVariants.{Application, Handset}
use Rattle.sms_base.specs.declared.wish.Wish.{Wish}
use Rattle.sms_base.specs.declared.wish.Wish.TheVariants.{Nothing, Always, OnFailure}
use Rattle.smsc_status.specs.declared.archive.ArchiveLine.{ArchiveLine}
use Rattle.smsc_status.specs.Numbers.{moment_text}
use Rattle.smsc_status.specs.Quoting.{string}

-- what is said of a message that is forgotten
pub record Forgotten : Type 0 where
  pub id : ℕ
  pub originator : Originator
  -- the characters of both addresses
  pub source : List ℕ
  pub destination : List ℕ
  pub submitted : ℕ
  pub ended : ℕ
  pub parts : ℕ
  pub state : FinalState
  pub wish : Wish

abbrev pub said_by : ArchiveLine → Forgotten
said_by line = record {
  id = line.id;
  originator = line.originator.now;
  source = line.source.now;
  destination = line.destination.now;
  submitted = line.submitted;
  ended = line.ended;
  parts = line.parts;
  state = line.state;
  wish = line.wish;
}

unfoldable pub number_text : ℕ → List ℕ
number_text id = codes "{\"id\":" ++ decimal id

unfoldable pub account_text : List ℕ → List ℕ
account_text name = codes ",\"account\":" ++ string name

unfoldable pub reference_text : ℕ → List ℕ
reference_text reference = codes ",\"message_reference\":" ++ decimal reference

-- an application by the name of its account, or a handset by its TP-MR (3GPP TS 23.040 9.2.3.6)
abbrev pub originator_text : Originator → List ℕ
originator_text (Application account) = account_text account
originator_text (Handset reference) = reference_text reference

unfoldable pub parties_text : List ℕ → List ℕ → List ℕ
parties_text source destination = codes ",\"source\":" ++ (string source ++ (codes ",\"destination\":" ++ string destination))

unfoldable pub course_text : ℕ → ℕ → ℕ → List ℕ
course_text submitted ended parts =
    codes ",\"submitted\":\"" ++ (moment_text submitted ++ (codes "\",\"ended\":\"" ++ (moment_text ended ++ (codes "\",\"parts\":" ++ (decimal parts
    ++ codes ",\"state\":\"")))))

-- when a report was wanted (SMPP v3.4 5.2.17, 3GPP TS 23.040 9.2.3.5)
abbrev pub wish_word : Wish → List ℕ
wish_word Nothing = codes "never"
wish_word Always = codes "always"
wish_word OnFailure = codes "on_failure"

unfoldable pub end_text : FinalState → Wish → List ℕ
end_text state wish = final_word state ++ (codes "\",\"receipt\":\"" ++ (wish_word wish ++ codes "\"}\n"))

unfoldable pub archive_text : Forgotten → List ℕ
archive_text m =
    number_text m.id
    ++ (originator_text m.originator ++ (parties_text m.source m.destination ++ (course_text m.submitted m.ended m.parts ++ end_text m.state m.wish)))

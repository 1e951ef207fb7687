-- The line of a message at its end, in logfmt. It has no word of what the message says.
use Rattle.std.specs.Prelude.{ℕ, List, ◌++◌, Option, Some, None, codes, decimal}
use Rattle.sms_base.specs.MessageId.{id_text}
use Rattle.sms_base.specs.FinalWords.{final_word}
use Rattle.smsc_status.specs.declared.access.AccessLine.{AccessLine}
use Rattle.smsc_status.specs.Numbers.{millionths_text, moment_text}
use Rattle.smsc_status.specs.Words.{word_text}

-- who submitted it: an application by the name of its account, or the handset of the source
abbrev pub originator_text : Option (List ℕ) → List ℕ → List ℕ
originator_text (Some name) source = codes " account=" ++ word_text name
originator_text None source = codes " handset=" ++ word_text source

unfoldable pub number_text : ℕ → List ℕ
number_text id = codes "event=access id=" ++ id_text id

unfoldable pub parties_text : List ℕ → List ℕ → List ℕ
parties_text source destination = codes " source=" ++ (word_text source ++ (codes " destination=" ++ word_text destination))

unfoldable pub course_text : AccessLine → List ℕ
course_text a =
    codes " parts=" ++ (decimal a.parts ++ (codes " submitted=" ++ (moment_text a.submitted ++ (codes " ended=" ++ (moment_text a.ended ++ (codes " state="
    ++ (final_word a.state ++ (codes " failed_attempts=" ++ decimal a.failed_attempts))))))))

unfoldable pub cause_text : ℕ → List ℕ
cause_text cause = codes " last_cause=" ++ decimal cause

-- nothing where no handset refused a part of it
abbrev pub last_cause_text : Option ℕ → List ℕ
last_cause_text None = codes ""
last_cause_text (Some cause) = cause_text cause

unfoldable pub commit_text : ℕ → List ℕ
commit_text micros = codes " commit_seconds=" ++ millionths_text micros

unfoldable pub access_text : AccessLine → Option (List ℕ) → List ℕ → List ℕ → List ℕ
access_text a account source destination =
    number_text a.id
    ++ (originator_text account source ++ (parties_text source destination ++ (course_text a ++ (last_cause_text a.last_cause ++ commit_text a.commit_micros))))

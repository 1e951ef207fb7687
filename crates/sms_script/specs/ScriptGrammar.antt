-- Which texts are which scripts: a relation between whole texts and scripts. A text is lines, each ended by LF but perhaps
-- the last; a line is words with a space between each two.
use Rattle.std.specs.Prelude.{◌≡◌, ◌⊎◌, ℕ, ◌≤◌, List, [], ◌∷◌, ◌++◌, map, length, true, Ok, codes}
use Rattle.sms_script.specs.Lines.{is_word, words_of, lines_of}
use Rattle.sms_script.specs.Hexadecimal.{octets_of, octet_of, text_of}
use Rattle.sms_script.specs.Numbers.{number_of, small_of, flag_of, moment_of}
use Rattle.sms_script.specs.WholeScript.{most_lines, most_events}
use Rattle.sms_script.specs.ScriptReading.{longest_line}
use Rattle.sms_script.specs.declared.event.Act.{Act}
use Rattle.sms_script.specs.declared.event.Act.TheVariants.{Submit, Query, Cancel, Write, Delete, Discard, Deliver, Tick}
use Rattle.sms_script.specs.declared.event.EventSide.{EventSide}
use Rattle.sms_script.specs.declared.event.EventSide.TheVariants.{Centre as CentreSide, Handset as HandsetSide}
use Rattle.sms_script.specs.declared.event.StopPoint.{StopPoint}
use Rattle.sms_script.specs.declared.event.StopPoint.TheVariants.{Before, After}
use Rattle.sms_script.specs.declared.event.Submission.{Submission}
use Rattle.sms_script.specs.declared.event.WorldEvent.{WorldEvent}
use Rattle.sms_script.specs.declared.event.WorldEvent.TheVariants.{Whole, Stopped, Restart}
use Rattle.sms_script.specs.declared.line.Line.{Line}
use Rattle.sms_script.specs.declared.line.Line.TheVariants.{Start, Centre, Account, Handset, Event}
use Rattle.sms_script.specs.declared.script.Script.{Script}

-- ---- fields

-- a word means nothing, or what it spells
abbrev pub IsValidity : List ℕ → List ℕ → Type 0
IsValidity word validity = ((word ≡ codes "-") × (validity ≡ [])) ⊎ (¬ (word ≡ codes "-") × (validity ≡ word))

abbrev pub IsBody : List ℕ → List ℕ → Type 0
IsBody word octets = ((word ≡ codes "-") × (octets ≡ [])) ⊎ (octets_of word ≡ Ok octets)

abbrev pub IsText : List ℕ → List ℕ → Type 0
IsText word text = IsBody word text × (text_of text ≡ Ok text)

abbrev pub IsSide : List ℕ → EventSide → Type 0
IsSide word CentreSide = word ≡ codes "centre"
IsSide word (HandsetSide number) = ¬ (word ≡ codes "centre") × (number ≡ word)

abbrev pub stop_text : StopPoint → List ℕ
stop_text Before = codes "before"
stop_text After = codes "after"

-- ---- acts

-- the words of a submission behind its name and its priority
abbrev pub IsSubmission : List (List ℕ) → Submission → Type 0
IsSubmission words s =
    (coding : List ℕ) × (esm_class : List ℕ) × (registered_delivery : List ℕ) × (validity : List ℕ) × (message : List ℕ)
    × ((words ≡ s.to ∷ coding ∷ esm_class ∷ registered_delivery ∷ validity ∷ message ∷ [])
    × (small_of 255 coding ≡ Ok s.coding) × (octet_of esm_class ≡ Ok s.esm_class)
    × (small_of 255 registered_delivery ≡ Ok s.registered_delivery) × IsValidity validity s.validity × IsBody message s.message)

-- the words of an act
abbrev pub IsAct : List (List ℕ) → Act → Type 0
IsAct words (Submit s) =
    ((rest : List (List ℕ)) × ((words ≡ codes "submit" ∷ s.name ∷ rest) × (s.priority ≡ 0) × IsSubmission rest s))
    ⊎ ((priority : List ℕ) × (rest : List (List ℕ))
    × ((words ≡ codes "urgent" ∷ s.name ∷ priority ∷ rest) × (small_of 3 priority ≡ Ok s.priority) × IsSubmission rest s))
IsAct words (Query name id) = words ≡ codes "query" ∷ name ∷ id ∷ []
IsAct words (Cancel name id) = words ≡ codes "cancel" ∷ name ∷ id ∷ []
IsAct words (Write handset to report text) =
    (asked : List ℕ) × (spelling : List ℕ)
    × ((words ≡ codes "write" ∷ handset ∷ to ∷ asked ∷ spelling ∷ []) × (flag_of asked ≡ Ok report) × IsText spelling text)
IsAct words (Delete handset entry) = (number : List ℕ) × ((words ≡ codes "delete" ∷ handset ∷ number ∷ []) × (number_of number ≡ Ok entry))
IsAct words (Discard handset entry) = (number : List ℕ) × ((words ≡ codes "discard" ∷ handset ∷ number ∷ []) × (number_of number ≡ Ok entry))
IsAct words (Deliver frame) = (number : List ℕ) × ((words ≡ codes "deliver" ∷ number ∷ []) × (number_of number ≡ Ok frame))
IsAct words (Tick side now) =
    (of : List ℕ) × (second : List ℕ) × ((words ≡ codes "tick" ∷ of ∷ second ∷ []) × IsSide of side × (moment_of second ≡ Ok now))

-- ---- lines

-- the words of an event
abbrev pub IsEvent : List (List ℕ) → WorldEvent → Type 0
IsEvent words (Whole act) = IsAct words act
IsEvent words (Stopped stop act) = (rest : List (List ℕ)) × ((words ≡ codes "stopped" ∷ stop_text stop ∷ rest) × IsAct rest act)
IsEvent words (Restart side) = (of : List ℕ) × ((words ≡ codes "restart" ∷ of ∷ []) × IsSide of side)

-- the words of a line
abbrev pub Says : List (List ℕ) → Line → Type 0
Says words (Start start) = (second : List ℕ) × ((words ≡ codes "start" ∷ second ∷ []) × (number_of second ≡ Ok start))
Says words (Centre number) = words ≡ codes "centre" ∷ number ∷ []
Says words (Account a) = words ≡ codes "account" ∷ a.name ∷ a.password ∷ a.number ∷ []
Says words (Handset h) = (slots : List ℕ) × ((words ≡ codes "handset" ∷ h.number ∷ slots ∷ []) × (number_of slots ≡ Ok h.slots))
Says words (Event event) = IsEvent words event

abbrev pub AreWords : List (List ℕ) → Type 0
AreWords [] = Unit {0}
AreWords (word ∷ words) = (is_word word ≡ true) × AreWords words

abbrev pub IsLine : List ℕ → Line → Type 0
IsLine octets line = (length octets ≤ longest_line) × ((words : List (List ℕ)) × ((words_of octets ≡ words) × AreWords words × Says words line))

-- ---- scripts

-- the lines that a script has, in their order
abbrev pub script_lines : Script → List Line
script_lines s =
    Start s.setup.start ∷ Centre s.setup.centre
    ∷ (map (λ account. Account account) s.setup.accounts ++ (map (λ handset. Handset handset) s.setup.handsets ++ map (λ event. Event event) s.events))

-- each line says what is in its place
abbrev pub AreLines : List (List ℕ) → List Line → Type 0
AreLines [] [] = Unit {0}
AreLines (octets ∷ lines) (line ∷ others) = IsLine octets line × AreLines lines others
AreLines _ _ = ⊥

abbrev pub IsScript : List ℕ → Script → Type 0
IsScript text s = AreLines (lines_of text) (script_lines s) × (length (lines_of text) ≤ most_lines) × (length s.events ≤ most_events)

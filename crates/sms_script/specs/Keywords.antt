-- The first words of lines.
use Rattle.std.specs.Prelude.{ℕ, List, [], ◌∷◌, Option, codes, bytes_eq}
use Rattle.std.specs.List.{find}
use Rattle.sms_script.specs.declared.keyword.Keyword.{Keyword}
use Rattle.sms_script.specs.declared.keyword.Keyword.TheVariants.{Start, Centre, Account, Handset, Submit, Urgent, Query, Cancel, Write, Delete, Discard}
use Rattle.sms_script.specs.declared.keyword.Keyword.TheVariants.{Deliver, Tick, Restart, Stopped}

abbrev pub keyword_text : Keyword → List ℕ
keyword_text Start = codes "start"
keyword_text Centre = codes "centre"
keyword_text Account = codes "account"
keyword_text Handset = codes "handset"
keyword_text Submit = codes "submit"
keyword_text Urgent = codes "urgent"
keyword_text Query = codes "query"
keyword_text Cancel = codes "cancel"
keyword_text Write = codes "write"
keyword_text Delete = codes "delete"
keyword_text Discard = codes "discard"
keyword_text Deliver = codes "deliver"
keyword_text Tick = codes "tick"
keyword_text Restart = codes "restart"
keyword_text Stopped = codes "stopped"

abbrev pub keywords : List Keyword
keywords =
    Start ∷ Centre ∷ Account ∷ Handset ∷ Submit ∷ Urgent ∷ Query ∷ Cancel ∷ Write ∷ Delete ∷ Discard ∷ Deliver ∷ Tick ∷ Restart ∷ Stopped ∷ []

-- the keyword that a word is
unfoldable pub keyword_of : List ℕ → Option Keyword
keyword_of word = find (λ keyword. bytes_eq (keyword_text keyword) word) keywords

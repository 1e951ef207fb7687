-- What the store has as a word.
use Rattle.std.specs.Prelude.{◌≡◌, ℕ, if◌then◌else◌, List, codes, refl}
use Rattle.sms_store_sql.specs.listing.Columns.{is_word}
use Rattle.sms_store_tables.specs.handset.Types.{Coding, Septets, Octets, Ucs2, Compressed, EntryState, Queued, Sending, Sent, Failed, Unsure}

abbrev pub state_word : EntryState → List ℕ
state_word Queued = codes "queued"
state_word Sending = codes "sending"
state_word Sent = codes "sent"
state_word Failed = codes "failed"
state_word Unsure = codes "unsure"

abbrev pub state_in : List ℕ → EntryState
state_in word =
    if is_word (codes "queued") word then Queued
    else if is_word (codes "sending") word then Sending
    else if is_word (codes "sent") word then Sent
    else if is_word (codes "failed") word then Failed
    else Unsure

pub state_back : (s : EntryState) → state_in (state_word s) ≡ s
state_back Queued = refl
state_back Sending = refl
state_back Sent = refl
state_back Failed = refl
state_back Unsure = refl

abbrev pub coding_word : Coding → List ℕ
coding_word Septets = codes "septets"
coding_word Octets = codes "octets"
coding_word Ucs2 = codes "ucs2"
coding_word Compressed = codes "compressed"

abbrev pub coding_in : List ℕ → Coding
coding_in word =
    if is_word (codes "septets") word then Septets
    else if is_word (codes "octets") word then Octets
    else if is_word (codes "ucs2") word then Ucs2
    else Compressed

pub coding_back : (c : Coding) → coding_in (coding_word c) ≡ c
coding_back Septets = refl
coding_back Octets = refl
coding_back Ucs2 = refl
coding_back Compressed = refl

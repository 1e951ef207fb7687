-- Heads of scripts that can be played, and the course that begins with one.
use Rattle.std.specs.Prelude.{ℕ, ◌&&◌, ◌||◌, not, nat_le, nat_lt, List, [], ◌∷◌, length, Bool, true, false}
use Rattle.std.specs.List.{list_all}
use Rattle.std.specs.Str.{bytes_eq}
use Rattle.sms_base.specs.HandsetNumber.{is_decimal, own_address}
use Rattle.sms_intake.specs.declared.submission.CentreAccount.{CentreAccount}
use Rattle.sms_centre_spec.specs.declared.setup.Setup.{Setup as CentreSetup}
use Rattle.sms_centre_spec.specs.declared.rows.Rows.{Rows as CentreRows}
use Rattle.sms_handset_draft.specs.declared.setup.Setup.{Setup as OwnSetup}
use Rattle.sms_script.specs.declared.setup.AccountSetup.{AccountSetup}
use Rattle.sms_script.specs.declared.setup.HandsetSetup.{HandsetSetup}
use Rattle.sms_script.specs.declared.setup.Setup.{Setup}
use Rattle.sms_centre_spec.specs.CentreEvent.{started}
use Rattle.sms_handset_draft.specs.Draft.{recovered as handset_recovered}
use Rattle.sms_handset_draft.specs.FirstRows.{first_rows}
use Rattle.sms_play.specs.PlayState.{PlayState, Party, numbers_of}
use Rattle.sms_play.specs.PlayedEvent.{sessions_from}

-- ---- which heads can be played

-- 1 to 20 digits 0 to 9
abbrev pub is_number : List ℕ → Bool
is_number digits = (nat_lt 0 (length digits) && nat_le (length digits) 20) && list_all is_decimal digits

-- 2000-01-01 00:00:00 to 2099-12-31 23:59:59
abbrev pub is_moment : ℕ → Bool
is_moment seconds = nat_le 946684800 seconds && nat_le seconds 4102444799

abbrev pub has_account : List ℕ → List AccountSetup → Bool
has_account name [] = false
has_account name (a ∷ others) = bytes_eq a.name name || has_account name others

abbrev pub are_accounts : List AccountSetup → Bool
are_accounts [] = true
are_accounts (a ∷ others) = (is_number a.number && not (has_account a.name others)) && are_accounts others

abbrev pub has_handset : List ℕ → List HandsetSetup → Bool
has_handset number [] = false
has_handset number (h ∷ others) = bytes_eq h.number number || has_handset number others

abbrev pub is_handset : HandsetSetup → Bool
is_handset h = is_number h.number && (nat_lt 0 h.slots && nat_le h.slots 255)

abbrev pub are_handsets : List HandsetSetup → Bool
are_handsets [] = true
are_handsets (h ∷ others) = (is_handset h && not (has_handset h.number others)) && are_handsets others

-- at most 32 accounts, and 1 to 16 handsets
abbrev pub can_be_played : Setup → Bool
can_be_played s =
    (is_moment s.start && is_number s.centre)
    && ((nat_le (length s.accounts) 32 && are_accounts s.accounts)
    && ((nat_lt 0 (length s.handsets) && nat_le (length s.handsets) 16) && are_handsets s.handsets))

-- ---- the beginning: all stores are new, all links up, and a session of each account is bound

abbrev pub accounts_of : List AccountSetup → List CentreAccount
accounts_of [] = []
accounts_of (a ∷ others) = record { name = a.name; address = own_address a.number; sources = [] } ∷ accounts_of others

abbrev pub centre_setup : Setup → CentreSetup
centre_setup s = record { centre = own_address s.centre; start = s.start; first = 1; accounts = accounts_of s.accounts }

abbrev pub no_rows : CentreSetup → CentreRows
no_rows setup = record { messages = []; parts = []; references = []; handsets = []; reports = []; priorities = []; bars = []; setup = setup }

abbrev pub handset_setup : Setup → HandsetSetup → OwnSetup
handset_setup s h = record { number = own_address h.number; slots = h.slots; centre = own_address s.centre; start = s.start }

abbrev pub parties_of : Setup → List HandsetSetup → List Party
parties_of s [] = []
parties_of s (h ∷ others) =
    record { number = h.number; core = handset_recovered (first_rows (handset_setup s h)); accepted = []; joined = [] } ∷ parties_of s others

abbrev pub beginning_with : Setup → List Party → PlayState
beginning_with s parties = record {
  centre = started (no_rows (centre_setup s)) (numbers_of parties) (sessions_from 0 (accounts_of s.accounts));
  parties = parties;
  answers = [];
  given = [];
  bag = [];
}

abbrev pub beginning : Setup → PlayState
beginning s = beginning_with s (parties_of s s.handsets)

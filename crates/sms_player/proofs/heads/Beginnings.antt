-- What a head says that can be played.
use Rattle.std.proofs.Common.{◌≡◌, ℕ, suc, ◌<◌, ◌≤◌, ◌+◌, get_or, drop, List, [], ◌∷◌, length, Bool, true, false, refl, sym, ap, subst, ⊎_elim}
use Rattle.std.specs.List.{list_all}
use Rattle.std.specs.Prelude.{◌&&◌, nat_le, nat_lt, not}
use Rattle.std.specs.Str.{bytes_eq}
use Rattle.std.proofs.lemmas.Bool.{and_parts, leb-true, ltb-true, or_left, or_right}
use Rattle.std.proofs.lemmas.Slice.Eq.{bytes_eq-Decides}
use Rattle.sms_base.proofs.Lists.{drop_item}
use Rattle.sms_base.proofs.Msisdns.{decimal_number, own_is_address}
use Rattle.sms_base.specs.Address.{IsAddress}
use Rattle.sms_base.specs.Among.{Among}
use Rattle.sms_base.specs.declared.address.Address.{Address}
use Rattle.sms_base.specs.HandsetNumber.{is_decimal, own_address}
use Rattle.sms_base.specs.TimeStamp.{IsMoment}
use Rattle.sms_centre_rows.specs.waiting.SoundAllocations.{IsNumber}
use Rattle.sms_intake.specs.declared.submission.CentreAccount.{CentreAccount}
use Rattle.sms_script.specs.declared.setup.AccountSetup.{AccountSetup}
use Rattle.sms_script.specs.declared.setup.HandsetSetup.{HandsetSetup}
use Rattle.sms_script.specs.declared.setup.Setup.{Setup}
use Rattle.sms_centre_spec.specs.SoundCore.{AreDifferent}
use Rattle.sms_centre_spec.specs.SoundRows.{IsSetup}
use Rattle.sms_play.specs.PlayState.{numbers_of}
use Rattle.sms_play.specs.Setups.{accounts_of, are_accounts, are_handsets, can_be_played, centre_setup, has_account, has_handset, is_handset, is_moment, is_number, parties_of}
use Rattle.sms_player.specs.heads.Heads.{AreHandsets}

-- ---- numbers

pub number_is : (digits : List ℕ) → is_number digits ≡ true → IsNumber digits
number_is digits e =
    let a = and_parts (nat_lt 0 (length digits) && nat_le (length digits) 20) (list_all is_decimal digits) e in
    let b = and_parts (nat_lt 0 (length digits)) (nat_le (length digits) 20) a.0 in
    own_is_address digits (decimal_number digits (ltb-true 0 (length digits) b.0) (leb-true (length digits) 20 b.1) a.1)

pub few_digits : (digits : List ℕ) → is_number digits ≡ true → length digits ≤ 20
few_digits digits e =
    let a = and_parts (nat_lt 0 (length digits) && nat_le (length digits) 20) (list_all is_decimal digits) e in
    leb-true (length digits) 20 (and_parts (nat_lt 0 (length digits)) (nat_le (length digits) 20) a.0).1

-- ---- the parts of a head

pub record Playable (s : Setup) : Type 0 where
  pub moment : is_moment s.start ≡ true
  pub centre : is_number s.centre ≡ true
  pub few : length s.accounts ≤ 32
  pub accounts : are_accounts s.accounts ≡ true
  pub handsets : are_handsets s.handsets ≡ true

pub playable : (s : Setup) → can_be_played s ≡ true → Playable s
playable s e =
    let a = and_parts (is_moment s.start && is_number s.centre) ((nat_le (length s.accounts) 32 && are_accounts s.accounts) && ((nat_lt 0 (length s.handsets) && nat_le (length s.handsets) 16) && are_handsets s.handsets)) e in
    let b = and_parts (is_moment s.start) (is_number s.centre) a.0 in
    let c = and_parts (nat_le (length s.accounts) 32 && are_accounts s.accounts) ((nat_lt 0 (length s.handsets) && nat_le (length s.handsets) 16) && are_handsets s.handsets) a.1 in
    let accounts = and_parts (nat_le (length s.accounts) 32) (are_accounts s.accounts) c.0 in
    let handsets = and_parts (nat_lt 0 (length s.handsets) && nat_le (length s.handsets) 16) (are_handsets s.handsets) c.1 in
    record { moment = b.0; centre = b.1; few = leb-true (length s.accounts) 32 accounts.0; accounts = accounts.1; handsets = handsets.1 }

pub moment_is : (seconds : ℕ) → is_moment seconds ≡ true → IsMoment seconds
moment_is seconds e =
    let p = and_parts (nat_le 946684800 seconds) (nat_le seconds 4102444799) e in
    record { from_2000 = leb-true 946684800 seconds p.0; to_2099 = leb-true seconds 4102444799 p.1 }

-- ---- accounts

pub first_account : (a : AccountSetup) (others : List AccountSetup) → are_accounts (a ∷ others) ≡ true → (is_number a.number ≡ true) × (are_accounts others ≡ true)
first_account a others e =
    let p = and_parts (is_number a.number && not (has_account a.name others)) (are_accounts others) e in
    ((and_parts (is_number a.number) (not (has_account a.name others)) p.0).0, p.1)

-- the account at a place, and those behind it
pub account_good : (accounts : List AccountSetup) (i : ℕ) (a : AccountSetup) → i < length accounts → a ≡ get_or accounts i a → are_accounts (drop i accounts) ≡ true → (is_number a.number ≡ true) × (are_accounts (drop (i + 1) accounts) ≡ true)
account_good accounts i a low is good = first_account a (drop (i + 1) accounts) (subst (λ (rest : List AccountSetup). are_accounts rest ≡ true) (drop_item accounts i a low is) good)

pub accounts_are : (accounts : List AccountSetup) → are_accounts accounts ≡ true → (a : CentreAccount) → Among a (accounts_of accounts) → IsAddress a.address
accounts_are [] e a i = absurd i
accounts_are (x ∷ xs) e a i =
    let p = first_account x xs e in
    ⊎_elim (λ q. subst (λ (z : CentreAccount). IsAddress z.address) (sym q) (number_is x.number p.0)) (λ (j : Among a (accounts_of xs)). accounts_are xs p.1 a j) i

accounts_count : (accounts : List AccountSetup) → length (accounts_of accounts) ≡ length accounts
accounts_count [] = refl
accounts_count (x ∷ xs) = ap (λ (n : ℕ). suc n) (accounts_count xs)

pub setup_is : (s : Setup) → can_be_played s ≡ true → IsSetup (centre_setup s)
setup_is s e =
    let p = playable s e in
    record { centre = number_is s.centre p.centre; start = moment_is s.start p.moment; accounts = accounts_are s.accounts p.accounts }

pub few_accounts : (s : Setup) → can_be_played s ≡ true → length (centre_setup s).accounts ≤ 32
few_accounts s e = subst (λ (n : ℕ). n ≤ 32) (sym (accounts_count s.accounts)) (playable s e).few

-- what is made of the parts of a head
pub setup_made : (s : Setup) → can_be_played s ≡ true → (centre : Address) (start : ℕ) (accounts : List CentreAccount) → centre ≡ own_address s.centre → start ≡ s.start → accounts ≡ accounts_of s.accounts
    → IsSetup (record { centre = centre; start = start; first = 1; accounts = accounts })
setup_made s e centre start accounts same_centre same_start same =
    subst (λ (x : Address). IsSetup (record { centre = x; start = start; first = 1; accounts = accounts })) (sym same_centre)
    (subst (λ (x : ℕ). IsSetup (record { centre = own_address s.centre; start = x; first = 1; accounts = accounts })) (sym same_start)
    (subst (λ (x : List CentreAccount). IsSetup (record { centre = own_address s.centre; start = s.start; first = 1; accounts = x })) (sym same) (setup_is s e)))

-- ---- handsets

pub first_handset : (h : HandsetSetup) (others : List HandsetSetup) → are_handsets (h ∷ others) ≡ true → (is_handset h ≡ true) × (are_handsets others ≡ true)
first_handset h others e =
    let p = and_parts (is_handset h && not (has_handset h.number others)) (are_handsets others) e in
    ((and_parts (is_handset h) (not (has_handset h.number others)) p.0).0, p.1)

-- the handset at a place, and those behind it
pub handset_good : (handsets : List HandsetSetup) (i : ℕ) (h : HandsetSetup) → i < length handsets → h ≡ get_or handsets i h → are_handsets (drop i handsets) ≡ true → (is_handset h ≡ true) × (are_handsets (drop (i + 1) handsets) ≡ true)
handset_good handsets i h low is good = first_handset h (drop (i + 1) handsets) (subst (λ (rest : List HandsetSetup). are_handsets rest ≡ true) (drop_item handsets i h low is) good)

pub record Slots (h : HandsetSetup) : Type 0 where
  pub number : is_number h.number ≡ true
  pub some : 0 < h.slots
  pub few : h.slots ≤ 255

pub handset_is : (h : HandsetSetup) → is_handset h ≡ true → Slots h
handset_is h e =
    let a = and_parts (is_number h.number) (nat_lt 0 h.slots && nat_le h.slots 255) e in
    let b = and_parts (nat_lt 0 h.slots) (nat_le h.slots 255) a.1 in
    record { number = a.0; some = ltb-true 0 h.slots b.0; few = leb-true h.slots 255 b.1 }

pub not_both : (b : Bool) → b ≡ true → not b ≡ true → ⊥
not_both true e f = absurd cc
not_both false e f = absurd cc

module _ (s : Setup) where
  number_had : (n : List ℕ) (hs : List HandsetSetup) → Among n (numbers_of (parties_of s hs)) → has_handset n hs ≡ true
  number_had n [] i = absurd i
  number_had n (h ∷ hs) i = ⊎_elim
      (λ (q : n ≡ h.number). or_left (bytes_eq h.number n) (has_handset n hs) ((bytes_eq-Decides h.number n).1 (sym q)))
      (λ (j : Among n (numbers_of (parties_of s hs))). or_right (bytes_eq h.number n) (has_handset n hs) (number_had n hs j))
      i

  numbers_apart : (hs : List HandsetSetup) → are_handsets hs ≡ true → AreDifferent (numbers_of (parties_of s hs))
  numbers_apart [] e = tt
  numbers_apart (h ∷ hs) e =
      let a = and_parts (is_handset h && not (has_handset h.number hs)) (are_handsets hs) e in
      let b = and_parts (is_handset h) (not (has_handset h.number hs)) a.0 in
      ((λ i. not_both (has_handset h.number hs) (number_had h.number hs i) b.1), numbers_apart hs a.1)

  numbers_are : (hs : List HandsetSetup) → are_handsets hs ≡ true → (n : List ℕ) → Among n (numbers_of (parties_of s hs)) → IsNumber n
  numbers_are [] e n i = absurd i
  numbers_are (h ∷ hs) e n i =
      let p = first_handset h hs e in
      ⊎_elim (λ (q : n ≡ h.number). subst (λ (z : List ℕ). IsNumber z) (sym q) (number_is h.number (handset_is h p.0).number)) (λ (j : Among n (numbers_of (parties_of s hs))). numbers_are hs p.1 n j) i

pub handsets_are : (s : Setup) → can_be_played s ≡ true → AreHandsets (numbers_of (parties_of s s.handsets))
handsets_are s e =
    let p = playable s e in
    record { numbers = numbers_are s s.handsets p.handsets; apart = numbers_apart s s.handsets p.handsets }

-- A centre that takes one account more is sound, and is represented as before.
use Rattle.std.proofs.Common.{◌≡◌, inl, inr, ℕ, Bool, true, false, List, [], ◌∷◌, ◌++◌, Option, Some, None, Result, Ok, Err, OnOk, OnErr, refl, sym, ap, subst, if◌then◌else◌}
use Rattle.sms_base.specs.Address.{IsAddress}
use Rattle.sms_base.specs.Among.{Among}
use Rattle.sms_base.specs.declared.carried.Carried.{Carried}
use Rattle.sms_base.specs.declared.holder.Holder.{Holder}
use Rattle.sms_base.specs.declared.holder.Holder.TheVariants.{Part, Report, Entry, Memory}
use Rattle.sms_centre_rows.proofs.conditions.AddressTested.{address_from}
use Rattle.sms_centre_rows.specs.declared.waiting.handset_link.HandsetLink.{HandsetLink}
use Rattle.sms_centre_rows.specs.reports.Receipts.{Session}
use Rattle.sms_centre_spec.specs.conditions.RowsTest.{has_address}
use Rattle.sms_centre_spec.specs.declared.rows.Rows.{Rows}
use Rattle.sms_centre_spec.specs.declared.setup.Setup.{Setup}
use Rattle.sms_centre_spec.specs.Draft.{Core}
use Rattle.sms_centre_spec.specs.SoundCore.{IsLink, IsSentFor, IsSession, IsSoundCore, IsUnderWay}
use Rattle.sms_centre_spec.specs.SoundRows.{IsSetup, IsSound}
use Rattle.sms_centre.specs.Enrolling.{accounts_of, accounts_with, enrolled, rows_with, setup_with, state_with}
use Rattle.sms_centre.specs.state.CentreState.{CentreStateOf, Represents}
use Rattle.sms_intake.specs.declared.submission.CentreAccount.{CentreAccount}
use Rattle.sms_tpdu.specs.AddressGrammar.{relay_address}

abbrev HaveAddresses : List CentreAccount → Type 0
HaveAddresses accounts = (a : CentreAccount) → Among a accounts → IsAddress a.address

one_more : (x : CentreAccount) (accounts : List CentreAccount) → IsAddress x.address → HaveAddresses accounts → HaveAddresses (accounts ++ x ∷ [])
one_more x [] is have a (inl e) = subst (λ (y : CentreAccount). IsAddress y.address) (sym e) is
one_more x [] is have a (inr there) = absurd there
one_more x (y ∷ ys) is have a (inl e) = have a (inl e)
one_more x (y ∷ ys) is have a (inr there) = one_more x ys is (λ b among. have b (inr among)) a there

by_test : (x : CentreAccount) (accounts : List CentreAccount) (test : Bool) → has_address x ≡ test → HaveAddresses accounts
    → HaveAddresses (if test then accounts ++ x ∷ [] else accounts)
by_test x accounts true is have = one_more x accounts (address_from x.address is) have
by_test x accounts false is have = have

pub setup_more : (x : CentreAccount) (setup : Setup) → IsSetup setup → IsSetup (setup_with x setup)
setup_more x setup s = record { centre = s.centre; start = s.start; accounts = by_test x setup.accounts (has_address x) refl s.accounts }

pub rows_more : (x : CentreAccount) (rows : Rows) → IsSound rows → IsSound (rows_with x rows)
rows_more x rows s = record {
  setup = setup_more x rows.setup s.setup;
  times = s.times;
  messages = s.messages;
  report_addresses = s.report_addresses;
  allocations = s.allocations;
  reports = s.reports;
  waiting = s.waiting;
  splits = s.splits;
  bars = s.bars;
}

-- what is under way is of the same rows
module _ (x : CentreAccount) (rows : Rows) where
  sent_more : (handset : List ℕ) (reference : ℕ) (tag : Holder) → IsSentFor handset reference tag rows → IsSentFor handset reference tag (rows_with x rows)
  sent_more handset reference (Part id number) is = is
  sent_more handset reference (Report id) is = is
  sent_more handset reference (Entry n) is = is
  sent_more handset reference (Memory n) is = is

  under_way_more : (handset : List ℕ) (o : Option Carried) → IsUnderWay handset o rows → IsUnderWay handset o (rows_with x rows)
  under_way_more handset None is = is
  under_way_more handset (Some transfer) is = (is.0, sent_more handset transfer.reference transfer.tag is.1)

  link_more : (l : HandsetLink) → IsLink rows l → IsLink (rows_with x rows) l
  link_more l k = record { handset = k.handset; side = k.side; under_way = under_way_more l.handset l.near_end.under_way k.under_way; answered = k.answered }

  session_more : (s : Session) → IsSession rows s → IsSession (rows_with x rows) s
  session_more s k = record { unanswered = k.unanswered }

pub core_more : (x : CentreAccount) (c : Core) → IsSoundCore c → IsSoundCore (enrolled x c)
core_more x c s = record {
  rows = rows_more x c.rows s.rows;
  now = s.now;
  moment = s.moment;
  each_link = λ l there. link_more x c.rows l (s.each_link l there);
  apart = s.apart;
  session_keys = s.session_keys;
  each_session = λ q there. session_more x c.rows q (s.each_session q there);
}

pub represents_more : (x : CentreAccount) (c : Core) (s : CentreStateOf) → Represents c s → Represents (enrolled x c) (state_with x s)
represents_more x c s k = record {
  centre = record {
    sound = core_more x c k.centre.sound;
    setup_is = ap (λ (setup : Setup). setup_with x setup) k.centre.setup_is;
    moment_is = k.centre.moment_is;
    messages_are = k.centre.messages_are;
    queues_are = k.centre.queues_are;
    reports_are = k.centre.reports_are;
    sessions_are = k.centre.sessions_are;
  };
  reference_index = k.reference_index;
  log = k.log;
  awaited = k.awaited;
}

-- ---- after a call that puts it there, or changes nothing

pub enrolled_so : {A E : Type 0} (r : Result A E) (x : CentreAccount) (before after : CentreStateOf) → OnOk r (after ≡ state_with x before)
    → OnOk r ((c : Core) → Represents c before → Represents (enrolled x c) after)
enrolled_so (Ok done) x before after is = λ c k. subst (λ (s : CentreStateOf). Represents (enrolled x c) s) (sym is) (represents_more x c before k)
enrolled_so (Err error) x before after is = tt

pub accounts_so : {A E : Type 0} (r : Result A E) (x : CentreAccount) (before after : CentreStateOf) → OnOk r (after ≡ state_with x before)
    → OnOk r (accounts_of after ≡ accounts_with x (accounts_of before))
accounts_so (Ok done) x before after is = ap accounts_of is
accounts_so (Err error) x before after is = tt

-- what a centre has in memory besides
abbrev pub StandsOn : List ℕ → CentreStateOf → Type 0
StandsOn address s = IsSetup s.setup × (address ≡ relay_address s.setup.centre)

pub stands_still : {A E : Type 0} (r : Result A E) (x : CentreAccount) (before after : CentreStateOf) (address : List ℕ) → OnOk r (after ≡ state_with x before)
    → OnErr r (after ≡ before) → StandsOn address before → StandsOn address after
stands_still (Ok done) x before after address is same stood = subst (λ (s : CentreStateOf). StandsOn address s) (sym is) (setup_more x before.setup stood.0, stood.1)
stands_still (Err error) x before after address is same stood = subst (λ (s : CentreStateOf). StandsOn address s) (sym same) stood

-- No check of a submit_sm refuses it by ESME_RSYSERR.
use Rattle.std.proofs.Common.{◌≡◌, ℕ, ◌/◌, ◌%◌, List, length, take, drop, Bool, Option, Some, None, Result, Ok, Err, ap}
use Rattle.std.specs.Prelude.{◌==◌, ◌||◌, not, nat_le, nat_lt, min, if◌then◌else◌}
use Rattle.std.specs.Option.{ok_or}
use Rattle.std.proofs.lemmas.Bool.{cond_both}
use Rattle.sms_base.specs.Reading.{◌>>=◌, only_if}
use Rattle.sms_base.specs.HandsetNumber.{names_handset}
use Rattle.sms_base.specs.SmppTime.{smpp_time_in}
use Rattle.sms_base.specs.declared.address.Address.{Address}
use Rattle.sms_alphabet.specs.declared.scheme.Coding.{Coding}
use Rattle.sms_alphabet.specs.declared.scheme.Coding.TheVariants.{Septets, Octets, Ucs2, Compressed}
use Rattle.sms_alphabet.specs.DataCodingScheme.{coding_of}
use Rattle.sms_alphabet.specs.declared.concat_key.ConcatKey.{ConcatKey}
use Rattle.sms_concat.specs.declared.content.Content.{Content}
use Rattle.sms_alphabet.specs.declared.element.Element.{Element}
use Rattle.sms_alphabet.specs.declared.header_error.HeaderError.{HeaderError}
use Rattle.sms_alphabet.specs.HeaderGrammar.{header_at}
use Rattle.sms_concat.specs.Splitting.{split_of}
use Rattle.sms_concat.specs.TextContent.{content_of_text}
use Rattle.sms_concat.specs.UserData.{capacity, data_length, header_of}
use Rattle.smpp_pdu.specs.declared.message.Message.{Message}
use Rattle.smpp_pdu.specs.declared.status.CommandStatus.{CommandStatus}
use Rattle.smpp_pdu.specs.declared.status.CommandStatus.TheVariants.{ESME_RINVDSTADR, ESME_RINVESMCLASS, ESME_RINVEXPIRY, ESME_RINVMSGLEN, ESME_RINVPARLEN, ESME_RINVSCHED, ESME_RINVSRCADR, ESME_ROPTPARNOTALLWD, ESME_RSUBMITFAIL, ESME_RSYSERR}
use Rattle.smpp_pdu.specs.declared.tlv.Tlvs.{Tlvs}
use Rattle.sms_tpdu.specs.ValidityTable.{later}
use Rattle.sms_intake.specs.declared.submission.CentreAccount.{CentreAccount}
use Rattle.sms_intake.specs.declared.submission.Text.TheVariants.{Single, Whole}
use Rattle.sms_intake.specs.PartBodies.{body_behind}
use Rattle.sms_intake.specs.AllowedSources.{permitted}
use Rattle.sms_intake.specs.SmppIntake.{address_in, are_below, are_whole, before, class_at, content_at, due_in, from_pdu, front_in, handset_named, has_header, has_sar_lengths, has_too_much, headed_text, header_read, header_size, is_ascii, is_empty, judged_in, limit_in, limited, octets_at, plain_text, sar_key, septets_at, single_behind, source_in, splits, text_at, text_in, text_of, ucs2_at, whole_of}

-- the result is not that refusal
abbrev pub IsOther : {A : Type 0} → Result A CommandStatus → Type 0
IsOther {A} r = r ≡ Err ESME_RSYSERR → ⊥

then_other : {A B : Type 0} (r : Result A CommandStatus) (f : A → Result B CommandStatus) → (r >>= f) ≡ Err ESME_RSYSERR → IsOther r → ((x : A) → IsOther (f x)) → ⊥
then_other (Ok x) f e first rest = rest x e
then_other (Err s) f e first rest = let same : s ≡ ESME_RSYSERR = cc in first (ap (λ (t : CommandStatus). Err t) same)

if_other : {A : Type 0} (b : Bool) (r s : Result A CommandStatus) → (if b then r else s) ≡ Err ESME_RSYSERR → IsOther r → IsOther s → ⊥
if_other {A} b r s e first second = cond_both b r s (λ (z : Result A CommandStatus). z ≡ Err ESME_RSYSERR → ⊥) (λ t. first) (λ t. second) e

only_other : (b : Bool) (s : CommandStatus) → ¬ (s ≡ ESME_RSYSERR) → only_if b s ≡ Err ESME_RSYSERR → ⊥
only_other b s ne e =
    cond_both b (Ok tt) (Err s) (λ (z : Result (Unit {0}) CommandStatus). z ≡ Err ESME_RSYSERR → ⊥) (λ t q. cc q) (λ t q. let same : s ≡ ESME_RSYSERR = cc q in ne same) e

or_other : {A : Type 0} (o : Option A) (s : CommandStatus) → ¬ (s ≡ ESME_RSYSERR) → ok_or o s ≡ Err ESME_RSYSERR → ⊥
or_other (Some x) s ne e = cc
or_other None s ne e = let same : s ≡ ESME_RSYSERR = cc in ne same

-- ---- what it says

septets_other : (dcs : ℕ) (octets : List ℕ) → IsOther (septets_at dcs octets)
septets_other dcs octets e = if_other (is_ascii octets) (Ok (record { coding = Septets; dcs = dcs; units = octets })) (Err ESME_RSUBMITFAIL) e (λ q. cc q) (λ q. cc q)

text_other : (bound : ℕ) (octets : List ℕ) → IsOther (text_at bound octets)
text_other bound octets e = if_other (are_below bound octets) (Ok (content_of_text octets)) (Err ESME_RSUBMITFAIL) e (λ q. cc q) (λ q. cc q)

class_other : (dcs : ℕ) (coding : Coding) (octets : List ℕ) → IsOther (class_at dcs coding octets)
class_other dcs Septets octets e = septets_other dcs octets e
class_other dcs Octets octets e = cc
class_other dcs Ucs2 octets e = cc
class_other dcs Compressed octets e = cc

content_other : (dc : ℕ) (octets : List ℕ) → IsOther (content_at dc octets)
content_other dc octets e =
    if_other (dc == 0) (septets_at 0 octets) _ e (septets_other 0 octets)
    (λ e1. if_other (dc == 1) (text_at 128 octets) _ e1 (text_other 128 octets)
    (λ e2. if_other ((dc == 2) || (dc == 4)) (octets_at 4 octets) _ e2 (λ q. cc q)
    (λ e3. if_other (dc == 3) (text_at 256 octets) _ e3 (text_other 256 octets)
    (λ e4. if_other (dc == 8) (ucs2_at octets) _ e4 (λ q. cc q)
    (λ e5. if_other (nat_le 240 dc) (class_at dc (coding_of dc) octets) (Err ESME_RSUBMITFAIL) e5 (class_other dc (coding_of dc) octets) (λ q. cc q))))))

read_other : (r : Result (List Element) HeaderError) → IsOther (header_read r)
read_other (Ok elements) e = cc
read_other (Err fault) e = cc

single_other : (header : List ℕ) (key : Option ConcatKey) (c : Content) → IsOther (single_behind header key c)
single_other header key c e =
    if_other (nat_le (data_length c.coding (length header) (length c.units)) (capacity c.coding)) (Ok (Single (body_behind header key c))) (Err ESME_RINVMSGLEN) e (λ q. cc q) (λ q. cc q)

whole_other : (c : Content) → IsOther (whole_of c)
whole_other c e = if_other (splits (split_of c 0)) (Ok (Whole c)) (Err ESME_RINVMSGLEN) e (λ q. cc q) (λ q. cc q)

text_of_other : (key : Option ConcatKey) (c : Content) → IsOther (text_of key c)
text_of_other None c e = whole_other c e
text_of_other (Some key) c e = single_other (header_of (Some key)) (Some key) c e

headed_other : (dc : ℕ) (octets : List ℕ) → IsOther (headed_text dc octets)
unfolding headed_text
headed_other dc octets e =
    then_other (header_read (header_at octets)) _ e (read_other (header_at octets))
    (λ key e1. then_other (content_at dc (drop (header_size octets) octets)) _ e1 (content_other dc (drop (header_size octets) octets))
    (λ c e2. then_other (only_if (are_whole c.coding c.units) ESME_RINVMSGLEN) _ e2 (only_other (are_whole c.coding c.units) ESME_RINVMSGLEN (λ q. cc q))
    (λ w e3. single_other (take (header_size octets) octets) key c e3)))

plain_other : (dc : ℕ) (v : Tlvs) (octets : List ℕ) → IsOther (plain_text dc v octets)
unfolding plain_text
plain_other dc v octets e =
    then_other (content_at dc octets) _ e (content_other dc octets)
    (λ c e1. then_other (only_if (are_whole c.coding c.units) ESME_RINVMSGLEN) _ e1 (only_other (are_whole c.coding c.units) ESME_RINVMSGLEN (λ q. cc q))
    (λ w e2. text_of_other (sar_key v.sar_msg_ref_num v.sar_total_segments v.sar_segment_seqnum) c e2))

text_in_other : (m : Message) → IsOther (text_in m)
text_in_other m e = if_other (has_header m) _ _ e (λ q. headed_other m.data_coding _ q) (λ q. plain_other m.data_coding m.tlvs _ q)

-- ---- its times

limited_other : (now : ℕ) (o : Option ℕ) → IsOther (limited now o)
limited_other now None e = cc
limited_other now (Some limit) e = if_other (nat_lt now limit) (Ok (min limit (later now 38102400))) (Err ESME_RINVEXPIRY) e (λ q. cc q) (λ q. cc q)

limit_other : (now : ℕ) (time : List ℕ) → IsOther (limit_in now time)
limit_other now time e = if_other (is_empty time) (Ok (later now 172800)) (limited now (smpp_time_in time now)) e (λ q. cc q) (limited_other now (smpp_time_in time now))

before_other : (limit : ℕ) (o : Option ℕ) → IsOther (before limit o)
before_other limit None e = cc
before_other limit (Some due) e = if_other (nat_lt due limit) (Ok due) (Err ESME_RINVSCHED) e (λ q. cc q) (λ q. cc q)

due_other : (now limit : ℕ) (time : List ℕ) → IsOther (due_in now limit time)
due_other now limit time e = if_other (is_empty time) (Ok now) (before limit (smpp_time_in time now)) e (λ q. cc q) (before_other limit (smpp_time_in time now))

-- ---- its addresses

named_other : (o : Option Address) → IsOther (handset_named o)
named_other None e = cc
named_other (Some a) e = if_other (names_handset a) (Ok a.digits) (Err ESME_RINVDSTADR) e (λ q. cc q) (λ q. cc q)

front_other : (account : CentreAccount) (m : Message) → IsOther (front_in account m)
unfolding front_in
front_other account m e =
    then_other (only_if (m.esm_class / 4 % 16 == 0) ESME_RINVESMCLASS) _ e (only_other (m.esm_class / 4 % 16 == 0) ESME_RINVESMCLASS (λ q. cc q))
    (λ kind e1. then_other (ok_or (permitted account (source_in account.address m.source)) ESME_RINVSRCADR) _ e1
    (or_other (permitted account (source_in account.address m.source)) ESME_RINVSRCADR (λ q. cc q))
    (λ source e2. then_other (handset_named (address_in m.destination)) _ e2 (named_other (address_in m.destination))
    (λ handset e3. then_other (only_if (has_sar_lengths m.tlvs) ESME_RINVPARLEN) _ e3 (only_other (has_sar_lengths m.tlvs) ESME_RINVPARLEN (λ q. cc q))
    (λ lengths e4. then_other (only_if (not (has_too_much m)) ESME_ROPTPARNOTALLWD) _ e4 (only_other (not (has_too_much m)) ESME_ROPTPARNOTALLWD (λ q. cc q))
    (λ alone e5. cc e5)))))

judged_other : (account : CentreAccount) (now : ℕ) (m : Message) → IsOther (judged_in account now m)
unfolding judged_in
judged_other account now m e =
    then_other (front_in account m) _ e (front_other account m)
    (λ front e1. then_other (text_in m) _ e1 (text_in_other m)
    (λ text e2. then_other (limit_in now m.validity_period) _ e2 (limit_other now m.validity_period)
    (λ limit e3. then_other (due_in now limit m.schedule_delivery_time) _ e3 (due_other now limit m.schedule_delivery_time)
    (λ due e4. cc e4))))

pub pdu_other : (account : CentreAccount) (now : ℕ) (m : Message) → IsOther (from_pdu account now m)
unfolding from_pdu
pdu_other account now m e = then_other (judged_in account now m) _ e (judged_other account now m) (λ judged e1. cc e1)

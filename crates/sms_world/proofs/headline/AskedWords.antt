-- What a submit_sm of a script reads as, in the script's own words; and that what is read as a DELIVER was written so.
use Rattle.std.proofs.Common.{◌≡◌, ℕ, zero, suc, ◌+◌, List, [], ◌∷◌, ◌++◌, Bool, true, false, cond, refl, sym, ◌∙◌, ap, inl, inr, Option, Some, None, Result, Ok, Err}
use Rattle.std.specs.Option.{ok_or}
use Rattle.std.proofs.lemmas.Bool.{cond_both}
use Rattle.sms_base.specs.Address.{address_of}
use Rattle.sms_base.specs.Among.{Among}
use Rattle.sms_base.specs.HandsetNumber.{names_handset, own_address}
use Rattle.sms_base.specs.Reading.{only_if}
use Rattle.sms_base.specs.declared.address.Address.{Address}
use Rattle.sms_base.specs.declared.address_error.AddressError.{AddressError}
use Rattle.sms_base.specs.declared.wish.Wish.{Wish}
use Rattle.sms_base.proofs.Addresses.{address_found}
use Rattle.sms_base.proofs.Steps.{bind_ok, ok_is}
use Rattle.smpp_pdu.specs.declared.message.Message.{Message as Pdu}
use Rattle.smpp_pdu.specs.declared.status.CommandStatus.{CommandStatus}
use Rattle.smpp_pdu.specs.declared.status.CommandStatus.TheVariants.{ESME_RINVDSTADR, ESME_RINVESMCLASS, ESME_RINVPARLEN, ESME_RINVSRCADR, ESME_ROPTPARNOTALLWD}
use Rattle.std.specs.Prelude.{◌/◌, ◌%◌, ◌==◌, not}
use Rattle.sms_intake.specs.PartBodies.{deliver_octets, deliver_of, deliver_written, is_wish}
use Rattle.sms_intake.specs.AllowedSources.{allows, permitted}
use Rattle.sms_intake.specs.SmppIntake.{address_in, address_or_none, due_in, from_pdu, front_in, handset_named, has_sar_lengths, has_too_much, judged_in, limit_in, source_in, submission_for}
use Rattle.sms_intake.specs.SmppText.{is_ascii, text_in, wish_in}
use Rattle.sms_intake.specs.declared.smpp_front.Front.{Front}
use Rattle.sms_intake.specs.declared.submission.CentreAccount.{CentreAccount}
use Rattle.sms_intake.specs.declared.submission.SinglePart.{SinglePart}
use Rattle.sms_intake.specs.declared.submission.Submission.{Submission}
use Rattle.sms_intake.specs.declared.submission.Text.{Text}
use Rattle.sms_centre_rows.specs.declared.messages.message.MessageRow.{MessageRow}
use Rattle.sms_centre_rows.specs.declared.messages.part.PartRow.{PartRow}
use Rattle.sms_centre_spec.specs.Requests.{account_at}
use Rattle.sms_play.specs.Setups.{accounts_of}
use Rattle.sms_script.specs.Requests.{nobody, submit_of}
use Rattle.sms_script.specs.declared.event.Submission.{Submission as ScriptSubmission}
use Rattle.sms_script.specs.declared.setup.AccountSetup.{AccountSetup}
use Rattle.sms_tpdu.specs.AddressGrammar.{address_field}
use Rattle.sms_tpdu.specs.Bits.{bit, bit_value}
use Rattle.sms_tpdu.specs.DeliverWriting.{deliver_head, user_data_field}
use Rattle.sms_tpdu.specs.MoreMessages.{compared}
use Rattle.sms_tpdu.specs.TpduReading.{down_at}
use Rattle.sms_tpdu.specs.declared.carrier.Carrier.TheVariants.{InData}
use Rattle.sms_tpdu.specs.declared.deliver.Deliver.{Deliver as DeliverOf}
use Rattle.sms_tpdu.specs.declared.down.Down.{Down}
use Rattle.sms_tpdu.specs.declared.down.Down.TheVariants.{Deliver}
use Rattle.sms_tpdu.specs.declared.fault.TpduFault.{TpduFault}
use Rattle.sms_tpdu.proofs.MoreBits.{more_messages_keeps}
use Rattle.sms_base.specs.UtcClock.{stamp_of}
use Rattle.sms_world.specs.headline.Claims.{IsStamped}
use Rattle.sms_world.specs.headline.Origins.{IsDeliverFor, user_data_of}
use Rattle.sms_world.proofs.split_messages_stay.Places.{deliver_reads}
use Rattle.sms_world.proofs.submissions_stay.WrittenParts.{IsWritten}

-- ---- accounts

-- the account of the head that one of the centre is
pub account_of : (place : ℕ) (accounts : List AccountSetup) (a : CentreAccount) → account_at place (accounts_of accounts) ≡ Some a
    → (x : AccountSetup) × (Among x accounts × (a.name ≡ x.name) × (a.address ≡ own_address x.number))
account_of place [] a e = absurd cc
account_of zero (x ∷ accounts) a e =
    let made : CentreAccount = record { name = x.name; address = own_address x.number; sources = [] } in
    let same : made ≡ a = cc in
    (x, (inl refl, ap (λ (z : CentreAccount). z.name) (sym same), ap (λ (z : CentreAccount). z.address) (sym same)))
account_of (suc place) (x ∷ accounts) a e =
    let k = account_of place accounts a e in (k.0, (inr k.1.0, k.1.1, k.1.2))

-- ---- a submit_sm

some_text : (r : Result Address AddressError) (a : Address) → address_or_none r ≡ Some a → r ≡ Ok a
some_text (Ok x) a e = let same : x ≡ a = cc in ap (λ (z : Address). let r : Result Address AddressError = Ok z in r) same
some_text (Err fault) a e = absurd cc

international : (to : List ℕ) (a : Address) → address_in (record { ton = 1; npi = 1; addr = to }) ≡ Some a → a.digits ≡ to
international to a =
    cond_both (is_ascii to) (address_or_none (address_of 1 1 to)) None (λ (o : Option Address). o ≡ Some a → a.digits ≡ to)
    (λ t e. (address_found 1 1 to a (some_text (address_of 1 1 to) a e)).text_is) (λ t e. absurd cc)

named_so : (o : Option Address) (h : List ℕ) → handset_named o ≡ Ok h → (a : Address) × ((o ≡ Some a) × (a.digits ≡ h))
named_so None h e = absurd cc
named_so (Some a) h e =
    cond_both (names_handset a) (Ok a.digits) (Err ESME_RINVDSTADR) (λ (r : Result (List ℕ) CommandStatus). r ≡ Ok h → (x : Address) × ((Some a ≡ Some x) × (x.digits ≡ h)))
    (λ t q. (a, (refl, ok_is {E = CommandStatus} a.digits h q))) (λ t q. absurd cc) e

own_source : (own a : Address) → ok_or (source_in own nobody) ESME_RINVSRCADR ≡ Ok a → own ≡ a
own_source own a e = ok_is {E = CommandStatus} own a e

-- what it reads as, of the words of the script
pub record IsRead (own : Address) (s : ScriptSubmission) (u : Submission) : Type 0 where
  pub source : u.source ≡ own
  pub handset : u.handset ≡ s.to
  pub protocol_identifier : u.protocol_identifier ≡ 0
  pub reply_path : u.reply_path ≡ bit s.esm_class 128
  pub wish : u.wish ≡ wish_in s.registered_delivery
  pub text : text_in (submit_of s) ≡ Ok u.text

-- its source and its destination were read
record IsFront (own : Address) (m : Pdu) (f : Front) : Type 0 where
  source : ok_or (source_in own m.source) ESME_RINVSRCADR ≡ Ok f.source
  handset : handset_named (address_in m.destination) ≡ Ok f.handset

-- a source that is permitted is the one that was given
was_given : (account : CentreAccount) (o : Option Address) (x : Address) → ok_or (permitted account o) ESME_RINVSRCADR ≡ Ok x → ok_or o ESME_RINVSRCADR ≡ Ok x
was_given account None x e = e
was_given account (Some source) x e = by_test (allows account source) e where
  by_test : (b : Bool) → ok_or (cond b (Some source) None) ESME_RINVSRCADR ≡ Ok x → ok_or (Some source) ESME_RINVSRCADR ≡ Ok x
  by_test true f = f
  by_test false f = absurd cc

front_is : (account : CentreAccount) (m : Pdu) (f : Front) → front_in account m ≡ Ok f → IsFront account.address m f
unfolding front_in
front_is account m f e =
    let own = account.address in
    let kind = bind_ok (only_if (m.esm_class / 4 % 16 == 0) ESME_RINVESMCLASS) _ f e in
    let source = bind_ok (ok_or (permitted account (source_in own m.source)) ESME_RINVSRCADR) _ f kind.2 in
    let handset = bind_ok (handset_named (address_in m.destination)) _ f source.2 in
    let lengths = bind_ok (only_if (has_sar_lengths m.tlvs) ESME_RINVPARLEN) _ f handset.2 in
    let alone = bind_ok (only_if (not (has_too_much m)) ESME_ROPTPARNOTALLWD) _ f lengths.2 in
    let same = ok_is {E = CommandStatus} _ f alone.2 in
    record {
      source = was_given account (source_in own m.source) source.0 source.1 ∙ ap (λ (z : Front). let r : Result Address CommandStatus = Ok z.source in r) same;
      handset = handset.1 ∙ ap (λ (z : Front). let r : Result (List ℕ) CommandStatus = Ok z.handset in r) same;
    }

-- of any submit_sm
record IsReadOf (account : CentreAccount) (m : Pdu) (u : Submission) : Type 0 where
  front : Front
  is_front : IsFront account.address m front
  source : u.source ≡ front.source
  handset : u.handset ≡ front.handset
  protocol_identifier : u.protocol_identifier ≡ m.protocol_id
  reply_path : u.reply_path ≡ bit m.esm_class 128
  wish : u.wish ≡ wish_in m.registered_delivery
  text : text_in m ≡ Ok u.text

read_of : (account : CentreAccount) (now : ℕ) (m : Pdu) (u : Submission) → from_pdu account now m ≡ Ok u → IsReadOf account m u
unfolding from_pdu judged_in
read_of account now m u e =
    let judged = bind_ok (judged_in account now m) _ u e in
    let front = bind_ok (front_in account m) _ judged.0 judged.1 in
    let text = bind_ok (text_in m) _ judged.0 front.2 in
    let limit = bind_ok (limit_in now m.validity_period) _ judged.0 text.2 in
    let due = bind_ok (due_in now limit.0 m.schedule_delivery_time) _ judged.0 limit.2 in
    let same = ap (λ j. submission_for account m j) (ok_is {E = CommandStatus} _ judged.0 due.2) ∙ ok_is {E = CommandStatus} _ u judged.2 in
    record {
      front = front.0;
      is_front = front_is account m front.0 front.1;
      source = ap (λ (z : Submission). z.source) (sym same);
      handset = ap (λ (z : Submission). z.handset) (sym same);
      protocol_identifier = ap (λ (z : Submission). z.protocol_identifier) (sym same);
      reply_path = ap (λ (z : Submission). z.reply_path) (sym same);
      wish = ap (λ (z : Submission). z.wish) (sym same);
      text = text.1 ∙ ap (λ (z : Submission). let r : Result Text CommandStatus = Ok z.text in r) same;
    }

pub read_is : (account : CentreAccount) (now : ℕ) (s : ScriptSubmission) (u : Submission) → from_pdu account now (submit_of s) ≡ Ok u → IsRead account.address s u
read_is account now s u e =
    let k = read_of account now (submit_of s) u e in
    let to = named_so (address_in (record { ton = 1; npi = 1; addr = s.to })) k.front.handset k.is_front.handset in
    record {
      source = k.source ∙ sym (own_source account.address k.front.source k.is_front.source);
      handset = k.handset ∙ sym to.1.1 ∙ international s.to to.0 to.1.0;
      protocol_identifier = k.protocol_identifier;
      reply_path = k.reply_path;
      wish = k.wish;
      text = k.text;
    }

-- ---- DELIVERs as they are written

head_says : (a b c : Bool) → bit (4 + 0 + bit_value a 32 + bit_value b 64 + bit_value c 128) 4 ≡ true
head_says true true true = refl
head_says true true false = refl
head_says true false true = refl
head_says true false false = refl
head_says false true true = refl
head_says false true false = refl
head_says false false true = refl
head_says false false false = refl

-- it says that no more messages wait
pub deliver_kept : (moment : ℕ) (u : Submission) (b : SinglePart) → compared (deliver_octets moment u b) ≡ deliver_octets moment u b
unfolding compared
deliver_kept moment u b =
    let d : DeliverOf = deliver_of moment u b in
    more_messages_keeps false (deliver_head d) (address_field d.originating_address ++ (d.protocol_identifier ∷ d.data_coding_scheme ∷ (stamp_of d.service_centre_time_stamp ++ user_data_field d.user_data)))
    (head_says (is_wish u.wish) b.header_indicator u.reply_path)

abbrev ok_deliver : DeliverOf → Result Down TpduFault
ok_deliver d = Ok (Deliver d)

same_deliver : (a b : DeliverOf) → ok_deliver a ≡ ok_deliver b → a ≡ b
same_deliver a b e = cc

-- the octets of a part that read as the DELIVER of that part, with that time stamp, are that DELIVER as it is written
pub as_written : (m : MessageRow) (p : PartRow) (u : Submission) (b : SinglePart) (moment : ℕ) → IsWritten m p → IsDeliverFor u b (compared p.tpdu) → is_wish m.wish ≡ is_wish u.wish → IsStamped (compared p.tpdu) moment
    → compared p.tpdu ≡ deliver_octets moment u b
as_written m p u b moment k f wish stamped =
    let made : DeliverOf = deliver_of k.moment k.submission k.body in
    let octets : compared p.tpdu ≡ deliver_octets k.moment k.submission k.body = ap (λ (t : List ℕ). compared t) k.written ∙ deliver_kept k.moment k.submission k.body in
    let read : down_at InData (compared p.tpdu) ≡ ok_deliver made = ap (λ (t : List ℕ). down_at InData t) octets ∙ deliver_reads k.moment k.submission k.body k.now k.address k.fits in
    let own : made ≡ f.deliver = same_deliver made f.deliver (sym read ∙ f.reads) in
    let time : made ≡ stamped.0 = same_deliver made stamped.0 (sym read ∙ stamped.1.0) in
    let at : k.moment ≡ moment = ap (λ (z : DeliverOf). z.service_centre_time_stamp) time ∙ stamped.1.1 in
    let reported : is_wish k.submission.wish ≡ is_wish u.wish = ap (λ (z : Wish). is_wish z) k.wish ∙ wish in
    let source : k.submission.source ≡ u.source = ap (λ (z : DeliverOf). z.originating_address) own ∙ f.source in
    let identifier : k.submission.protocol_identifier ≡ u.protocol_identifier = ap (λ (z : DeliverOf). z.protocol_identifier) own ∙ f.protocol_identifier in
    let scheme : k.body.data_coding_scheme ≡ b.data_coding_scheme = ap (λ (z : DeliverOf). z.data_coding_scheme) own ∙ f.data_coding_scheme in
    let path : k.submission.reply_path ≡ u.reply_path = ap (λ (z : DeliverOf). z.reply_path) own ∙ f.reply_path in
    let header : k.body.header_indicator ≡ b.header_indicator = ap (λ (z : DeliverOf). z.user_data_header_indicator) own ∙ f.header_indicator in
    let user : user_data_of k.body ≡ user_data_of b = ap (λ (z : DeliverOf). z.user_data) own ∙ f.user_data in
    let same : made ≡ deliver_of moment u b = λ j. record {
      no_more_messages_to_send = true;
      loop_prevention = false;
      status_report_indication = reported j;
      user_data_header_indicator = header j;
      reply_path = path j;
      originating_address = source j;
      protocol_identifier = identifier j;
      data_coding_scheme = scheme j;
      service_centre_time_stamp = at j;
      user_data = user j;
    } in
    octets ∙ ap (λ (z : DeliverOf). deliver_written z) same

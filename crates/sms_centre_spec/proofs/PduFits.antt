-- A submit_sm that passed all checks is a submission that does: what it says, with a header that came or without one, where it
-- comes from and where it goes.
use Rattle.std.proofs.Common.{◌≡◌, ℕ, zero, suc, ◌+◌, ◌*◌, ◌/◌, ◌%◌, ◌<◌, ◌≤◌, List, [], ◌∷◌, ◌++◌, length, take, drop, Bool, true, false, Option, Some, None, Result, Ok, Err, refl, sym, ◌∙◌, ap, subst, inl, inr, arith}
use Rattle.std.specs.Prelude.{◌==◌, ◌&&◌, nat_le, nat_lt, not, min, if◌then◌else◌}
use Rattle.std.specs.Option.{ok_or}
use Rattle.std.proofs.lemmas.Bool.{cond_both}
use Rattle.std.proofs.lemmas.List.{take_at}
use Rattle.sms_base.specs.Address.{IsAddress, address_of}
use Rattle.sms_base.specs.Among.{Among}
use Rattle.sms_base.specs.declared.address.Address.{Address}
use Rattle.sms_base.specs.declared.address_error.AddressError.{AddressError}
use Rattle.sms_base.specs.Reading.{AreOctets, only_if}
use Rattle.sms_base.specs.TimeStamp.{IsMoment}
use Rattle.sms_base.proofs.Addresses.{address_found}
use Rattle.sms_base.proofs.Steps.{bind_ok, ok_is}
use Rattle.sms_alphabet.specs.declared.concat_key.ConcatKey.{ConcatKey}
use Rattle.sms_concat.specs.declared.content.Content.{Content}
use Rattle.sms_alphabet.specs.declared.element.Element.{Element}
use Rattle.sms_alphabet.specs.declared.header_error.HeaderError.{HeaderError}
use Rattle.sms_alphabet.specs.HeaderGrammar.{header_at, spelled, written}
use Rattle.sms_concat.specs.UserData.{header_of}
use Rattle.sms_alphabet.proofs.Elements.{read_was_written}
use Rattle.smpp_pdu.specs.declared.address.SmeAddress.{SmeAddress}
use Rattle.smpp_pdu.specs.declared.message.Message.{Message}
use Rattle.smpp_pdu.specs.declared.status.CommandStatus.{CommandStatus}
use Rattle.smpp_pdu.specs.declared.status.CommandStatus.TheVariants.{ESME_RINVDSTADR, ESME_RINVESMCLASS, ESME_RINVMSGLEN, ESME_RINVPARLEN, ESME_RINVSRCADR, ESME_ROPTPARNOTALLWD}
use Rattle.smpp_pdu.specs.declared.tlv.Tlvs.{Tlvs}
use Rattle.sms_centre_rows.specs.declared.waiting.handset_link.HandsetLink.{HandsetLink}
use Rattle.sms_centre_rows.specs.waiting.Links.{link_of}
use Rattle.sms_centre_rows.specs.waiting.SoundAllocations.{IsNumber}
use Rattle.sms_centre_spec.specs.declared.event.CentreEvent.{CentreEvent}
use Rattle.sms_centre_spec.specs.declared.event.CentreEvent.TheVariants.{Submit, Query, Cancel, Bound, Unbound, DeliverAnswered, Frame, LinkUp, LinkDown, Ordered, Tick}
use Rattle.sms_intake.specs.AllowedSources.{allows, permitted}
use Rattle.sms_intake.specs.declared.submission.CentreAccount.{CentreAccount}
use Rattle.sms_intake.specs.declared.submission.SinglePart.{SinglePart}
use Rattle.sms_intake.specs.declared.submission.Submission.{Submission}
use Rattle.sms_intake.specs.declared.submission.Text.{Text}
use Rattle.sms_centre_spec.specs.Draft.{Core}
use Rattle.sms_centre_spec.specs.Requests.{account_at}
use Rattle.sms_centre_spec.specs.SoundCore.{IsEvent, IsSoundCore}
use Rattle.sms_centre_spec.specs.Consistent.{IsBody, IsSubmission}
use Rattle.sms_centre_spec.specs.Submitted.{AccountGives, EventGives}
use Rattle.sms_centre_spec.proofs.SmppFits.{FitsText, content_fits, key_header, single_fits, whole_fits}
use Rattle.sms_centre_spec.proofs.SubmitFits.{frame_fits, named_number}
use Rattle.sms_centre_spec.proofs.TextFields.{IsHeader}
use Rattle.sms_base.specs.HandsetNumber.{names_handset}
use Rattle.sms_intake.specs.declared.smpp_front.Front.{Front}
use Rattle.sms_intake.specs.SmppIntake.{address_in, address_or_none, are_whole, content_at, due_in, has_sar_lengths, has_too_much, limit_in, from_pdu, handset_named, has_header, header_read, header_size, headed_text, is_ascii, is_empty, plain_text, sar_key, single_behind, source_in, text_in, text_of, whole_of, front_in, judged_in, submission_for}
use Rattle.sms_intake.specs.PartBodies.{bodies_under}
use Rattle.sms_centre_rows.proofs.waiting.LinksRepresented.{link_of_handset}

-- ---- what it says

-- a header that was read is the front of what is said
front_header : (octets : List ℕ) (r : Result (List Element) HeaderError) (key : Option ConcatKey) → header_at octets ≡ r → header_read r ≡ Ok key → IsHeader (take (header_size octets) octets)
front_header octets (Err fault) key e f = absurd cc
front_header octets (Ok elements) key e f =
    let begins = read_was_written octets elements e in
    let text : List ℕ = written elements in
    let front : take (header_size (text ++ begins.0)) (text ++ begins.0) ≡ text = take_at text begins.0 (length (spelled elements) + 1) (omega arith) in
    let same : take (header_size octets) octets ≡ text = ap (λ (xs : List ℕ). take (header_size xs) xs) begins.1 ∙ front in
    let found : (es : List Element) × (take (header_size octets) octets ≡ written es) = (elements, same) in inr found

headed_fits : (dc : ℕ) (octets : List ℕ) (t : Text) → headed_text dc octets ≡ Ok t → FitsText t
unfolding headed_text
headed_fits dc octets t e =
    let a = bind_ok (header_read (header_at octets)) _ t e in
    let b = bind_ok (content_at dc (drop (header_size octets) octets)) _ t a.2 in
    let w = bind_ok (only_if (are_whole b.0.coding b.0.units) ESME_RINVMSGLEN) _ t b.2 in
    single_fits (take (header_size octets) octets) a.0 b.0 t (front_header octets (header_at octets) a.0 refl a.1) (content_fits dc (drop (header_size octets) octets) b.0 b.1) w.2

keyed_fits : (key : Option ConcatKey) (c : Content) (dc : ℕ) (octets : List ℕ) (t : Text) → content_at dc octets ≡ Ok c → text_of key c ≡ Ok t → FitsText t
keyed_fits None c dc octets t e f = whole_fits c t (content_fits dc octets c e) f
keyed_fits (Some key) c dc octets t e f = single_fits (header_of (Some key)) (Some key) c t (key_header (Some key)) (content_fits dc octets c e) f

plain_fits : (dc : ℕ) (v : Tlvs) (octets : List ℕ) (t : Text) → plain_text dc v octets ≡ Ok t → FitsText t
unfolding plain_text
plain_fits dc v octets t e =
    let a = bind_ok (content_at dc octets) _ t e in
    let w = bind_ok (only_if (are_whole a.0.coding a.0.units) ESME_RINVMSGLEN) _ t a.2 in
    keyed_fits (sar_key v.sar_msg_ref_num v.sar_total_segments v.sar_segment_seqnum) a.0 dc octets t a.1 w.2

text_in_fits : (m : Message) (t : Text) → text_in m ≡ Ok t → FitsText t
text_in_fits m t e =
    cond_both (has_header m) _ _ (λ r. r ≡ Ok t → FitsText t) (λ h f. headed_fits m.data_coding _ t f) (λ h f. plain_fits m.data_coding m.tlvs _ t f) e

-- ---- where it comes from and goes

some_of : (o : Option Address) (x : Address) → ok_or o ESME_RINVSRCADR ≡ Ok x → o ≡ Some x
some_of None x e = absurd cc
some_of (Some y) x e = ap (λ (z : Address). Some z) (ok_is {E = CommandStatus} y x e)

read_address : (ton npi : ℕ) (text : List ℕ) (r : Result Address AddressError) (x : Address) → address_of ton npi text ≡ r → address_or_none r ≡ Some x → IsAddress x
read_address ton npi text (Ok y) x e f = let same : y ≡ x = cc in subst (λ (z : Address). IsAddress z) same (address_found ton npi text y e).valid
read_address ton npi text (Err fault) x e f = absurd cc

entity_address : (a : SmeAddress) (x : Address) → address_in a ≡ Some x → IsAddress x
entity_address a x e =
    cond_both (is_ascii a.addr) (address_or_none (address_of a.ton a.npi a.addr)) None (λ o. o ≡ Some x → IsAddress x)
    (λ t f. read_address a.ton a.npi a.addr (address_of a.ton a.npi a.addr) x refl f) (λ t f. absurd cc) e

source_address : (own : Address) (a : SmeAddress) (x : Address) → IsAddress own → source_in own a ≡ Some x → IsAddress x
source_address own a x is e =
    cond_both (is_empty a.addr) (Some own) (address_in a) (λ o. o ≡ Some x → IsAddress x)
    (λ t f. let same : own ≡ x = cc in subst (λ (z : Address). IsAddress z) same is) (λ t f. entity_address a x f) e

named_handset : (o : Option Address) (h : List ℕ) → ((x : Address) → o ≡ Some x → IsAddress x) → handset_named o ≡ Ok h → IsNumber h
named_handset None h are e = absurd cc
named_handset (Some a) h are e =
    cond_both (names_handset a) (Ok a.digits) (Err ESME_RINVDSTADR) (λ r. r ≡ Ok h → IsNumber h)
    (λ t f. subst (λ (n : List ℕ). IsNumber n) (ok_is {E = CommandStatus} a.digits h f) (named_number a (are a refl) t)) (λ t f. absurd cc) e

-- ---- the submission

permitted_address : (account : CentreAccount) (o : Option Address) (x : Address) → permitted account o ≡ Some x → o ≡ Some x
permitted_address account None x e = e
permitted_address account (Some source) x e =
    cond_both (allows account source) (Some source) None (λ o. o ≡ Some x → Some source ≡ Some x) (λ t f. f) (λ t f. absurd cc) e

front_fits : (account : CentreAccount) (m : Message) (f : Front) → IsAddress account.address → front_in account m ≡ Ok f → IsAddress f.source × IsNumber f.handset
unfolding front_in
front_fits account m f is e =
    let own = account.address in
    let a = bind_ok (only_if (m.esm_class / 4 % 16 == 0) ESME_RINVESMCLASS) _ f e in
    let source = bind_ok (ok_or (permitted account (source_in own m.source)) ESME_RINVSRCADR) _ f a.2 in
    let handset = bind_ok (handset_named (address_in m.destination)) _ f source.2 in
    let lengths = bind_ok (only_if (has_sar_lengths m.tlvs) ESME_RINVPARLEN) _ f handset.2 in
    let alone = bind_ok (only_if (not (has_too_much m)) ESME_ROPTPARNOTALLWD) _ f lengths.2 in
    let from : IsAddress source.0 = source_address own m.source source.0 is
    (permitted_address account (source_in own m.source) source.0 (some_of (permitted account (source_in own m.source)) source.0 source.1)) in
    let to : IsNumber handset.0 = named_handset (address_in m.destination) handset.0 (λ x g. entity_address m.destination x g) handset.1 in
    let same = ok_is {E = CommandStatus} _ f alone.2 in
    subst (λ (x : Front). IsAddress x.source × IsNumber x.handset) same (from, to)

pdu_fits : (account : CentreAccount) (now : ℕ) (m : Message) (u : Submission) → IsAddress account.address → from_pdu account now m ≡ Ok u → IsSubmission u
unfolding from_pdu judged_in
pdu_fits account now m u is e =
    let judged = bind_ok (judged_in account now m) _ u e in
    let front = bind_ok (front_in account m) _ judged.0 judged.1 in
    let text = bind_ok (text_in m) _ judged.0 front.2 in
    let limit = bind_ok (limit_in now m.validity_period) _ judged.0 text.2 in
    let due = bind_ok (due_in now limit.0 m.schedule_delivery_time) _ judged.0 limit.2 in
    let entities = front_fits account m front.0 is front.1 in
    let fits : FitsText text.0 = text_in_fits m text.0 text.1 in
    let same = ap (λ j. submission_for account m j) (ok_is {E = CommandStatus} _ judged.0 due.2) ∙ ok_is {E = CommandStatus} _ u judged.2 in
    subst (λ (x : Submission). IsSubmission x) same
    (record {
      source = entities.0;
      handset = entities.1;
      report_address = tt;
      priority = omega arith;
      some = fits.some;
      few = fits.few;
      bodies = λ reference b among. let body = fits.bodies reference b among in record { fields = body.fields; scheme = body.scheme };
    })

-- ---- events

pub account_among : (place : ℕ) (a : CentreAccount) (accounts : List CentreAccount) → account_at place accounts ≡ Some a → Among a accounts
account_among place a [] e = absurd cc
account_among zero a (x ∷ xs) e = let same : a ≡ x = cc in inl same
account_among (suc place) a (x ∷ xs) e = inr (account_among place a xs e)

account_fits : (place : ℕ) (accounts : List CentreAccount) (now : ℕ) (m : Message) (o : Option CentreAccount) → ((a : CentreAccount) → Among a accounts → IsAddress a.address) → account_at place accounts ≡ o → AccountGives o now m
account_fits place accounts now m None are e = tt
account_fits place accounts now m (Some a) are e = λ u f. pdu_fits a now m u (are a (account_among place a accounts e)) f

pub event_gives : (event : CentreEvent) (c : Core) → IsSoundCore c → IsEvent event → EventGives event c
event_gives (Submit account m) c s is = account_fits account c.rows.setup.accounts c.moment m (account_at account c.rows.setup.accounts) s.rows.setup.accounts refl
event_gives (Query account q) c s is = tt
event_gives (Cancel account q) c s is = tt
event_gives (Bound session account receives) c s is = tt
event_gives (Unbound session) c s is = tt
event_gives (DeliverAnswered session id b) c s is = tt
event_gives (Frame handset octets tag) c s is =
    let l : HandsetLink = link_of handset c.links in frame_fits c.rows.setup.accounts l c.moment octets (subst (λ (n : List ℕ). IsNumber n) (sym (link_of_handset handset c.links)) is.0) is.1
event_gives (LinkUp handset) c s is = tt
event_gives (LinkDown handset) c s is = tt
event_gives (Ordered order id) c s is = tt
event_gives (Tick now) c s is = is

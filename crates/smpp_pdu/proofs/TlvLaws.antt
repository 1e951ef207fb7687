-- Optional parameters that are read are in the grammar, and those in the grammar are read.
use Rattle.std.proofs.Common.{◌≡◌, ℕ, zero, suc, ◌+◌, ◌*◌, ◌<◌, ◌≤◌, Bool, true, false, cond, eqb, List, [], ◌∷◌, ◌++◌, length, Option, Some, None, Result, Ok, Err, refl, sym, ap, subst, ◌∙◌, arith}
use Rattle.std.proofs.lemmas.List.{length-append}
use Rattle.sms_base.specs.Reading.{◌>>=◌, octet_in, run_in, AreOctets}
use Rattle.sms_base.proofs.Steps.{bind_ok, ok_is, octet_takes, run_takes, run_again}
use Rattle.smpp_pdu.specs.declared.fault.PduFault.{PduFault}
use Rattle.smpp_pdu.specs.declared.fault.PduFault.TheVariants.{BadTlv}
use Rattle.smpp_pdu.specs.declared.tlv.Tlvs.{Tlvs}
use Rattle.smpp_pdu.specs.Fields.{two}
use Rattle.smpp_pdu.specs.FieldReading.{two_in}
use Rattle.smpp_pdu.specs.Tlvs.{Tlv, keep, later, no_tlvs, tag_number, tlv_octets, value_of, values_of, AreTlvs, tlv_of, tlvs_of}
use Rattle.smpp_pdu.specs.declared.tlv.TlvTag.{TlvTag}
use Rattle.smpp_pdu.specs.declared.tlv.TlvTag.TheVariants.{ReceiptedMessageId, SarMsgRefNum, SarTotalSegments, SarSegmentSeqnum, MessagePayload, MessageState}
use Rattle.smpp_pdu.specs.TlvReading.{tlv_in, parameters_in, tlvs_at}
use Rattle.std.proofs.lemmas.Bool.{eq-eqb}
use Rattle.smpp_pdu.proofs.FieldLaws.{took, two_takes, two_again}

-- ---- steps

two_shorter : (f : PduFault) (xs : List ℕ) (x : ℕ × List ℕ) → two_in f xs ≡ Ok x → length x.1 + 2 ≡ length xs
unfolding two_in
two_shorter f xs x e =
    let a = bind_ok (octet_in f xs) _ x e in
    let b = bind_ok (octet_in f a.0.1) _ x a.2 in
    let pa = ap length (octet_takes f xs a.0 a.1) in
    let pb = ap length (octet_takes f a.0.1 b.0 b.1) in
    let g = ap (λ (y : ℕ × List ℕ). length y.1) (ok_is {E = PduFault} (256 * a.0.0 + b.0.0, b.0.1) x b.2) in
    omega (arith, pa, pb, g)

pub tlv_shorter : (xs : List ℕ) (x : Tlv × List ℕ) → tlv_in xs ≡ Ok x → length x.1 < length xs
unfolding tlv_in
tlv_shorter xs x e =
    let a = bind_ok (two_in BadTlv xs) _ x e in
    let b = bind_ok (two_in BadTlv a.0.1) _ x a.2 in
    let d = bind_ok (run_in BadTlv b.0.0 b.0.1) _ x b.2 in
    let r = run_takes BadTlv b.0.0 b.0.1 d.0 d.1 in
    let g : length d.0.1 ≡ length x.1 = ap (λ (y : Tlv × List ℕ). length y.1) {y = x} (ok_is {E = PduFault} ((a.0.0, d.0.0), d.0.1) x d.2) in
    omega (arith, two_shorter BadTlv xs a.0 a.1, two_shorter BadTlv a.0.1 b.0 b.1, ap length r.0, length-append d.0.0 d.0.1, g)

-- the values, as the walk over the parameters gives them: those of the parameters before, and one parameter more at a time
unfoldable pub tlvs_in : ℕ → Tlvs → List ℕ → Result Tlvs PduFault
tlvs_in zero before [] = Ok before
tlvs_in zero before (octet ∷ rest) = Err BadTlv
tlvs_in (suc most) before [] = Ok before
tlvs_in (suc most) before (octet ∷ rest) = tlv_in (octet ∷ rest) >>= (λ tlv. tlvs_in most (keep tlv.0.0 tlv.0.1 before) tlv.1)

bind_same : {A B E : Type 0} (r : Result A E) (f g : A → Result B E) → ((x : A) → r ≡ Ok x → f x ≡ g x) → (r >>= f) ≡ (r >>= g)
bind_same (Ok x) f g h = h x refl
bind_same (Err e) f g h = refl

-- more steps than octets read no more
pub steps_same : (n m : ℕ) (before : Tlvs) (xs : List ℕ) → length xs ≤ n → length xs ≤ m → tlvs_in n before xs ≡ tlvs_in m before xs
unfolding tlvs_in
steps_same zero zero before xs h k = refl
steps_same zero (suc m) before [] h k = refl
steps_same zero (suc m) before (o ∷ xs) h k = absurd (omega arith)
steps_same (suc n) zero before [] h k = refl
steps_same (suc n) zero before (o ∷ xs) h k = absurd (omega arith)
steps_same (suc n) (suc m) before [] h k = refl
steps_same (suc n) (suc m) before (o ∷ xs) h k =
    bind_same (tlv_in (o ∷ xs)) (λ (x : Tlv × List ℕ). tlvs_in n (keep x.0.0 x.0.1 before) x.1) (λ (x : Tlv × List ℕ). tlvs_in m (keep x.0.0 x.0.1 before) x.1)
    (λ x e. let s = tlv_shorter (o ∷ xs) x e in steps_same n m (keep x.0.0 x.0.1 before) x.1 (omega (arith, s)) (omega (arith, s)))

pub one_step : (before : Tlvs) (xs rest : List ℕ) (tag : ℕ) (value : List ℕ) → tlv_in xs ≡ Ok ((tag, value), rest) → tlvs_in (length xs) before xs ≡ tlvs_in (length rest) (keep tag value before) rest
unfolding tlvs_in
one_step before [] rest tag value e = absurd (omega (arith, tlv_shorter [] ((tag, value), rest) e))
one_step before (o ∷ xs) rest tag value e =
    let s = tlv_shorter (o ∷ xs) ((tag, value), rest) e in
    rw e (steps_same (length xs) (length rest) (keep tag value before) rest (omega (arith, s)) (omega arith))

pub last_step : (before : Tlvs) (xs : List ℕ) → xs ≡ [] → tlvs_in (length xs) before xs ≡ Ok before
unfolding tlvs_in
last_step before xs e = rw e refl

pub no_step : (before : Tlvs) (xs : List ℕ) (e : PduFault) (some : xs ≡ [] → ⊥) → tlv_in xs ≡ Err e → tlvs_in (length xs) before xs ≡ Err e
unfolding tlvs_in
no_step before [] e some h = absurd (some refl)
no_step before (o ∷ xs) e some h = rw h refl

-- ---- the last of equal ones counts

pub keeps : Tlvs → List Tlv → Tlvs
keeps before [] = before
keeps before (tlv ∷ tlvs) = keeps (keep tlv.0 tlv.1 before) tlvs

-- the walk gives the values of the parameters
walked : (n : ℕ) (before : Tlvs) (xs : List ℕ) → tlvs_in n before xs ≡ (parameters_in n xs >>= (λ tlvs. Ok (keeps before tlvs)))
unfolding tlvs_in parameters_in keeps
walked zero before [] = refl
walked zero before (o ∷ xs) = refl
walked (suc n) before [] = refl
walked (suc n) before (o ∷ xs) = first (λ x. walked n (keep x.0.0 x.0.1 before) x.1) (tlv_in (o ∷ xs)) where
  after : Tlv → Result (List Tlv) PduFault → Result Tlvs PduFault
  after tlv r = r >>= (λ tlvs. Ok (keeps (keep tlv.0 tlv.1 before) tlvs))

  joined : (tlv : Tlv) (r : Result (List Tlv) PduFault) → after tlv r ≡ ((r >>= (λ tlvs. Ok (tlv ∷ tlvs))) >>= (λ tlvs. Ok (keeps before tlvs)))
  joined tlv (Ok tlvs) = refl
  joined tlv (Err f) = refl

  first : ((x : Tlv × List ℕ) → tlvs_in n (keep x.0.0 x.0.1 before) x.1 ≡ after x.0 (parameters_in n x.1)) → (r : Result (Tlv × List ℕ) PduFault)
      → (r >>= (λ x. tlvs_in n (keep x.0.0 x.0.1 before) x.1)) ≡ ((r >>= (λ x. parameters_in n x.1 >>= (λ tlvs. Ok (x.0 ∷ tlvs)))) >>= (λ tlvs. Ok (keeps before tlvs)))
  first more (Ok x) = more x ∙ joined x.0 (parameters_in n x.1)
  first more (Err f) = refl

-- the values of parameters, before which others were read
over : List Tlv → Tlvs → Tlvs
over tlvs before = record {
  sar_msg_ref_num = later (value_of (tag_number SarMsgRefNum) tlvs) before.sar_msg_ref_num;
  sar_total_segments = later (value_of (tag_number SarTotalSegments) tlvs) before.sar_total_segments;
  sar_segment_seqnum = later (value_of (tag_number SarSegmentSeqnum) tlvs) before.sar_segment_seqnum;
  message_payload = later (value_of (tag_number MessagePayload) tlvs) before.message_payload;
  receipted_message_id = later (value_of (tag_number ReceiptedMessageId) tlvs) before.receipted_message_id;
  message_state = later (value_of (tag_number MessageState) tlvs) before.message_state;
}

abbrev made : (a b c d e f : Option (List ℕ)) → Tlvs
made a b c d e f = record { sar_msg_ref_num = a; sar_total_segments = b; sar_segment_seqnum = c; message_payload = d; receipted_message_id = e; message_state = f }

all_same : (a b c d e f a' b' c' d' e' f' : Option (List ℕ)) → a ≡ a' → b ≡ b' → c ≡ c' → d ≡ d' → e ≡ e' → f ≡ f' → made a b c d e f ≡ made a' b' c' d' e' f'
all_same a b c d e f a' b' c' d' e' f' ha hb hc hd he hf = rw (ha, hb, hc, hd, he, hf) refl

one_later : (o : Option (List ℕ)) (b : Bool) (v : List ℕ) (before : Option (List ℕ)) → later o (cond b (Some v) before) ≡ later (later o (cond b (Some v) None)) before
one_later (Some w) b v before = refl
one_later None true v before = refl
one_later None false v before = refl

none_later : (o : Option (List ℕ)) → later o None ≡ o
none_later (Some v) = refl
none_later None = refl

keeps_over : (tlvs : List Tlv) (before : Tlvs) → keeps before tlvs ≡ over tlvs before
unfolding keeps over
keeps_over [] before = refl
keeps_over (x ∷ xs) before =
    keeps_over xs (keep x.0 x.1 before)
    ∙ all_same _ _ _ _ _ _ _ _ _ _ _ _
    (one_later (value_of 524 xs) (eqb x.0 524) x.1 before.sar_msg_ref_num)
    (one_later (value_of 526 xs) (eqb x.0 526) x.1 before.sar_total_segments)
    (one_later (value_of 527 xs) (eqb x.0 527) x.1 before.sar_segment_seqnum)
    (one_later (value_of 1060 xs) (eqb x.0 1060) x.1 before.message_payload)
    (one_later (value_of 30 xs) (eqb x.0 30) x.1 before.receipted_message_id)
    (one_later (value_of 1063 xs) (eqb x.0 1063) x.1 before.message_state)

pub keeps_values : (tlvs : List Tlv) → keeps no_tlvs tlvs ≡ values_of tlvs
unfolding over
keeps_values tlvs =
    keeps_over tlvs no_tlvs
    ∙ all_same _ _ _ _ _ _ _ _ _ _ _ _
    (none_later (value_of 524 tlvs)) (none_later (value_of 526 tlvs)) (none_later (value_of 527 tlvs))
    (none_later (value_of 1060 tlvs)) (none_later (value_of 30 tlvs)) (none_later (value_of 1063 tlvs))

pub walk_is : (xs : List ℕ) → tlvs_in (length xs) no_tlvs xs ≡ tlvs_at xs
unfolding tlvs_at
walk_is xs = walked (length xs) no_tlvs xs ∙ same (parameters_in (length xs) xs) where
  same : (r : Result (List Tlv) PduFault) → (r >>= (λ tlvs. let v : Result Tlvs PduFault = Ok (keeps no_tlvs tlvs) in v)) ≡ (r >>= (λ tlvs. Ok (values_of tlvs)))
  same (Ok tlvs) = ap (λ (t : Tlvs). let v : Result Tlvs PduFault = Ok t in v) (keeps_values tlvs)
  same (Err f) = refl

-- ---- takes and again

pub record TookTlv (xs : List ℕ) (x : Tlv × List ℕ) : Type 0 where
  pub parts : xs ≡ two x.0.0 ++ (two (length x.0.1) ++ (x.0.1 ++ x.1))
  pub octets : AreOctets x.1

pub tlv_takes : (xs : List ℕ) (x : Tlv × List ℕ) → AreOctets xs → tlv_in xs ≡ Ok x → TookTlv xs x
unfolding tlv_in
tlv_takes xs x h e =
    let a = bind_ok (two_in BadTlv xs) _ x e in
    let b = bind_ok (two_in BadTlv a.0.1) _ x a.2 in
    let d = bind_ok (run_in BadTlv b.0.0 b.0.1) _ x b.2 in
    let pa = two_takes BadTlv xs a.0 h a.1 in
    let pb = two_takes BadTlv a.0.1 b.0 pa.octets b.1 in
    let r = run_takes BadTlv b.0.0 b.0.1 d.0 d.1 in
    let pd = took d.0.0 b.0.1 d.0.1 pb.octets r.0 in
    let behind : a.0.1 ≡ two (length d.0.0) ++ (d.0.0 ++ d.0.1) = pb.parts ∙ ap (λ (n : ℕ). two n ++ b.0.1) (sym r.1) ∙ ap (λ (l : List ℕ). two (length d.0.0) ++ l) r.0 in
    let whole : xs ≡ two a.0.0 ++ (two (length d.0.0) ++ (d.0.0 ++ d.0.1)) = pa.parts ∙ ap (λ (l : List ℕ). two a.0.0 ++ l) behind in
    subst (TookTlv xs) (ok_is {E = PduFault} ((a.0.0, d.0.0), d.0.1) x d.2) (record { parts = whole; octets = pd.octets })

pub tlv_again : (tag : ℕ) (value rest : List ℕ) → tlv_in (two tag ++ (two (length value) ++ (value ++ rest))) ≡ Ok ((tag, value), rest)
unfolding tlv_in
tlv_again tag value rest =
    rw (two_again BadTlv tag (two (length value) ++ (value ++ rest)), two_again BadTlv (length value) (value ++ rest), run_again BadTlv (length value) value rest refl) refl

ValuesStay : List ℕ → Tlvs → Tlvs → Type 0
ValuesStay xs before t = (tlvs : List Tlv) × (xs ≡ tlv_octets tlvs) × (t ≡ keeps before tlvs)

tlvs_takes : (n : ℕ) (before : Tlvs) (xs : List ℕ) (t : Tlvs) → AreOctets xs → tlvs_in n before xs ≡ Ok t → ValuesStay xs before t
unfolding tlvs_in keeps ValuesStay
tlvs_takes zero before [] t h e = ([], refl, sym (ok_is {E = PduFault} before t e))
tlvs_takes zero before (o ∷ xs) t h e = absurd cc
tlvs_takes (suc n) before [] t h e = ([], refl, sym (ok_is {E = PduFault} before t e))
tlvs_takes (suc n) before (o ∷ xs) t h e =
    let a = bind_ok (tlv_in (o ∷ xs)) (λ (x : Tlv × List ℕ). tlvs_in n (keep x.0.0 x.0.1 before) x.1) t e in
    let p = tlv_takes (o ∷ xs) a.0 h a.1 in
    let q = tlvs_takes n (keep a.0.0.0 a.0.0.1 before) a.0.1 t p.octets a.2 in
    (a.0.0 ∷ q.0, p.parts ∙ ap (λ (l : List ℕ). two a.0.0.0 ++ (two (length a.0.0.1) ++ (a.0.0.1 ++ l))) q.1, q.2)

tlvs_again : (tlvs : List Tlv) (n : ℕ) (before : Tlvs) → length (tlv_octets tlvs) ≤ n → tlvs_in n before (tlv_octets tlvs) ≡ Ok (keeps before tlvs)
unfolding tlvs_in keeps
tlvs_again [] zero before h = refl
tlvs_again [] (suc n) before h = refl
tlvs_again (x ∷ xs) zero before h = absurd (omega arith)
tlvs_again (x ∷ xs) (suc n) before h =
    rw (tlv_again x.0 x.1 (tlv_octets xs)) (tlvs_again xs n (keep x.0 x.1 before) (omega (arith, length-append x.1 (tlv_octets xs))))

pub parameters_take : (xs : List ℕ) (t : Tlvs) → AreOctets xs → tlvs_at xs ≡ Ok t → AreTlvs xs t
unfolding ValuesStay
parameters_take xs t h e = let q = tlvs_takes (length xs) no_tlvs xs t h (walk_is xs ∙ e) in (q.0, q.1, q.2 ∙ keeps_values q.0)

pub parameters_again : (xs : List ℕ) (t : Tlvs) → AreTlvs xs t → tlvs_at xs ≡ Ok t
parameters_again xs t (tlvs, spelled, values) =
    let same : keeps no_tlvs tlvs ≡ t = keeps_values tlvs ∙ sym values in
    rw spelled (sym (walk_is (tlv_octets tlvs)) ∙ tlvs_again tlvs (length (tlv_octets tlvs)) no_tlvs (omega arith) ∙ ap (λ (y : Tlvs). let r : Result Tlvs PduFault = Ok y in r) same)

-- ---- as they are written

one_there : (tag : TlvTag) (o : Option (List ℕ)) (rest : List Tlv) → value_of (tag_number tag) rest ≡ None → value_of (tag_number tag) (tlv_of tag o ++ rest) ≡ o
one_there tag None rest none = none
one_there tag (Some v) rest none = let same : eqb (tag_number tag) (tag_number tag) ≡ true = eq-eqb (tag_number tag) (tag_number tag) refl in rw (none, same) refl

one_passed : (tag other : TlvTag) (o : Option (List ℕ)) (rest : List Tlv) → eqb (tag_number other) (tag_number tag) ≡ false → value_of (tag_number tag) (tlv_of other o ++ rest) ≡ value_of (tag_number tag) rest
one_passed tag other None rest ne = refl
one_passed tag other (Some v) rest ne = rw ne (none_later (value_of (tag_number tag) rest))

last_there : (tag : TlvTag) (o : Option (List ℕ)) → value_of (tag_number tag) (tlv_of tag o) ≡ o
last_there tag None = refl
last_there tag (Some v) = let same : eqb (tag_number tag) (tag_number tag) ≡ true = eq-eqb (tag_number tag) (tag_number tag) refl in rw same refl

last_passed : (tag other : TlvTag) (o : Option (List ℕ)) → eqb (tag_number other) (tag_number tag) ≡ false → value_of (tag_number tag) (tlv_of other o) ≡ None
last_passed tag other None ne = refl
last_passed tag other (Some v) ne = rw ne refl

pub values_written : (t : Tlvs) → values_of (tlvs_of t) ≡ t
values_written t =
    let r5 : List Tlv = tlv_of MessageState t.message_state in
    let r4 : List Tlv = tlv_of ReceiptedMessageId t.receipted_message_id ++ r5 in
    let r3 : List Tlv = tlv_of MessagePayload t.message_payload ++ r4 in
    let r2 : List Tlv = tlv_of SarSegmentSeqnum t.sar_segment_seqnum ++ r3 in
    let r1 : List Tlv = tlv_of SarTotalSegments t.sar_total_segments ++ r2 in
    all_same _ _ _ _ _ _ _ _ _ _ _ _
    (one_there SarMsgRefNum t.sar_msg_ref_num r1 (one_passed SarMsgRefNum SarTotalSegments t.sar_total_segments r2 refl ∙ one_passed SarMsgRefNum SarSegmentSeqnum t.sar_segment_seqnum r3 refl ∙ one_passed SarMsgRefNum MessagePayload t.message_payload r4 refl ∙ one_passed SarMsgRefNum ReceiptedMessageId t.receipted_message_id r5 refl ∙ last_passed SarMsgRefNum MessageState t.message_state refl))
    (one_passed SarTotalSegments SarMsgRefNum t.sar_msg_ref_num r1 refl ∙ one_there SarTotalSegments t.sar_total_segments r2 (one_passed SarTotalSegments SarSegmentSeqnum t.sar_segment_seqnum r3 refl ∙ one_passed SarTotalSegments MessagePayload t.message_payload r4 refl ∙ one_passed SarTotalSegments ReceiptedMessageId t.receipted_message_id r5 refl ∙ last_passed SarTotalSegments MessageState t.message_state refl))
    (one_passed SarSegmentSeqnum SarMsgRefNum t.sar_msg_ref_num r1 refl ∙ one_passed SarSegmentSeqnum SarTotalSegments t.sar_total_segments r2 refl ∙ one_there SarSegmentSeqnum t.sar_segment_seqnum r3 (one_passed SarSegmentSeqnum MessagePayload t.message_payload r4 refl ∙ one_passed SarSegmentSeqnum ReceiptedMessageId t.receipted_message_id r5 refl ∙ last_passed SarSegmentSeqnum MessageState t.message_state refl))
    (one_passed MessagePayload SarMsgRefNum t.sar_msg_ref_num r1 refl ∙ one_passed MessagePayload SarTotalSegments t.sar_total_segments r2 refl ∙ one_passed MessagePayload SarSegmentSeqnum t.sar_segment_seqnum r3 refl ∙ one_there MessagePayload t.message_payload r4 (one_passed MessagePayload ReceiptedMessageId t.receipted_message_id r5 refl ∙ last_passed MessagePayload MessageState t.message_state refl))
    (one_passed ReceiptedMessageId SarMsgRefNum t.sar_msg_ref_num r1 refl ∙ one_passed ReceiptedMessageId SarTotalSegments t.sar_total_segments r2 refl ∙ one_passed ReceiptedMessageId SarSegmentSeqnum t.sar_segment_seqnum r3 refl ∙ one_passed ReceiptedMessageId MessagePayload t.message_payload r4 refl ∙ one_there ReceiptedMessageId t.receipted_message_id r5 (last_passed ReceiptedMessageId MessageState t.message_state refl))
    (one_passed MessageState SarMsgRefNum t.sar_msg_ref_num r1 refl ∙ one_passed MessageState SarTotalSegments t.sar_total_segments r2 refl ∙ one_passed MessageState SarSegmentSeqnum t.sar_segment_seqnum r3 refl ∙ one_passed MessageState MessagePayload t.message_payload r4 refl ∙ one_passed MessageState ReceiptedMessageId t.receipted_message_id r5 refl ∙ last_there MessageState t.message_state)

pub written_parameters : (t : Tlvs) → AreTlvs (tlv_octets (tlvs_of t)) t
written_parameters t = (tlvs_of t, refl, sym (values_written t))

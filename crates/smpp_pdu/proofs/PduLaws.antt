-- Each PDU that is read is in the grammar, and each that is in the grammar is read.
use Rattle.std.proofs.Common.{◌≡◌, ◌⊎◌, ℕ, zero, suc, ◌+◌, ◌-◌, ◌*◌, ◌<◌, ◌≤◌, Bool, true, false, ◌&&◌, cond, eqb, ltb, leb, List, [], ◌∷◌, ◌++◌, length, take, Option, Some, None, Result, Ok, Err, refl, sym, ap, subst, ◌∙◌, arith, inl, inr}
use Rattle.std.specs.Prelude.{find, IfOk}
use Rattle.std.specs.Option.{ok_or}
use Rattle.std.proofs.lemmas.Bool.{eqb-true, leb-true, le-ltb, le-leb, eq-eqb, and_parts}
use Rattle.sms_base.specs.Reading.{◌>>=◌, only_if, end_in, AreOctets}
use Rattle.sms_base.proofs.Steps.{passes, ok_is, end_takes}
use Rattle.smpp_pdu.specs.declared.fault.PduFault.{PduFault}
use Rattle.smpp_pdu.specs.declared.fault.PduFault.TheVariants.{Truncated, BadLength, UnknownCommand}
use Rattle.smpp_pdu.specs.declared.command.CommandId.{CommandId}
use Rattle.smpp_pdu.specs.declared.command.CommandId.TheVariants.{BindReceiver as BindReceiverId, BindTransmitter as BindTransmitterId, BindTransceiver as BindTransceiverId, SubmitSm as SubmitSmId, DeliverSm as DeliverSmId, QuerySm as QuerySmId, CancelSm as CancelSmId, Unbind as UnbindId, EnquireLink as EnquireLinkId, GenericNack as GenericNackId, BindReceiverResp as BindReceiverRespId, BindTransmitterResp as BindTransmitterRespId, BindTransceiverResp as BindTransceiverRespId, SubmitSmResp as SubmitSmRespId, DeliverSmResp as DeliverSmRespId, QuerySmResp as QuerySmRespId, CancelSmResp as CancelSmRespId, UnbindResp as UnbindRespId, EnquireLinkResp as EnquireLinkRespId}
use Rattle.smpp_pdu.specs.declared.body.Body.{Body}
use Rattle.smpp_pdu.specs.declared.body.Body.TheVariants.{BindReceiver, BindTransmitter, BindTransceiver, SubmitSm, DeliverSm, QuerySm, CancelSm, Unbind, EnquireLink, GenericNack, BindReceiverResp, BindTransmitterResp, BindTransceiverResp, SubmitSmResp, DeliverSmResp, QuerySmResp, CancelSmResp, UnbindResp, EnquireLinkResp}
use Rattle.smpp_pdu.specs.declared.header.Header.{Header}
use Rattle.smpp_pdu.specs.declared.pdu.Pdu.{Pdu}
use Rattle.smpp_pdu.specs.Commands.{command_number, commands, command_of}
use Rattle.smpp_pdu.specs.Fields.{four}
use Rattle.smpp_pdu.specs.FieldReading.{two_in, four_in}
use Rattle.smpp_pdu.specs.BodyGrammar.{IsBindResp, IsMessageResp, IsQueryResp, OrNone}
use Rattle.smpp_pdu.specs.BodyReading.{bind_at, bind_resp_at, message_at, message_resp_at, query_at, query_resp_at, cancel_at}
use Rattle.smpp_pdu.specs.FaultReasons.{IsBodyOf}
use Rattle.smpp_pdu.specs.PduGrammar.{command_of_body, IsBody, header_octets, pdu_octets, IsPdu}
use Rattle.smpp_pdu.specs.PduReading.{header_in, or_none, body_at, cut_short, body_in, pdu_at}
use Rattle.smpp_pdu.proofs.FieldLaws.{four_takes, four_again}
use Rattle.smpp_pdu.proofs.BodyLaws.{went, bind_takes, bind_again, bind_resp_takes, bind_resp_again, message_takes, message_again, message_resp_takes, message_resp_again, query_takes, query_again, query_resp_takes, query_resp_again, cancel_takes, cancel_again}

-- ---- commands

first_or : {X : Type 0} (p : X → Bool) (y : X) (ys : List X) (x : X) (b : Bool) → p y ≡ b → (find p ys ≡ Some x → p x ≡ true) → cond b (Some y) (find p ys) ≡ Some x → p x ≡ true
first_or p y ys x true t more h = let same : y ≡ x = cc in ap p (sym same) ∙ t
first_or p y ys x false t more h = more h

found_holds : {X : Type 0} (p : X → Bool) (xs : List X) (x : X) → find p xs ≡ Some x → p x ≡ true
found_holds p [] x e = absurd cc
found_holds p (y ∷ ys) x e = first_or p y ys x (p y) refl (found_holds p ys x) e

pub command_of_is : (n : ℕ) (c : CommandId) → command_of n ≡ Some c → command_number c ≡ n
unfolding command_of
command_of_is n c e = eqb-true (command_number c) n (found_holds (λ (x : CommandId). eqb (command_number x) n) commands c e)

pub command_of-number : (c : CommandId) → command_of (command_number c) ≡ Some c
unfolding command_of
command_of-number BindReceiverId = refl
command_of-number _ = refl

-- ---- bodies

none_or_takes : {A : Type 0} (at : List ℕ → Result A PduFault) (Is : List ℕ → A → Type 0) → ((xs : List ℕ) (v : A) → AreOctets xs → at xs ≡ Ok v → Is xs v)
    → (xs : List ℕ) (o : Option A) → AreOctets xs → or_none at xs ≡ Ok o → OrNone Is xs o
none_or_takes at Is takes [] o h e = subst (OrNone Is []) (ok_is {E = PduFault} None o e) refl
none_or_takes at Is takes (x ∷ xs) o h e =
    went (at (x ∷ xs)) _ o e (λ v a b. subst (OrNone Is (x ∷ xs)) (ok_is {E = PduFault} (Some v) o b) (takes (x ∷ xs) v h a))

none_or_again : {A : Type 0} (at : List ℕ → Result A PduFault) (Is : List ℕ → A → Type 0) → ((xs : List ℕ) (v : A) → Is xs v → at xs ≡ Ok v) → at [] ≡ Err Truncated
    → (xs : List ℕ) (o : Option A) → OrNone Is xs o → or_none at xs ≡ Ok o
none_or_again at Is again none xs None h = rw h refl
none_or_again at Is again none [] (Some v) h = absurd (let e = again [] v h in cc)
none_or_again at Is again none (x ∷ xs) (Some v) h = rw (again (x ∷ xs) v h) refl

none_bind_resp : bind_resp_at [] ≡ Err Truncated
unfolding bind_resp_at Rattle.smpp_pdu.specs.FieldReading.c_string_in
none_bind_resp = refl

none_message_resp : message_resp_at [] ≡ Err Truncated
unfolding message_resp_at Rattle.smpp_pdu.specs.FieldReading.c_string_in
none_message_resp = refl

none_query_resp : query_resp_at [] ≡ Err Truncated
unfolding query_resp_at Rattle.smpp_pdu.specs.FieldReading.c_string_in
none_query_resp = refl

pub body_takes : (c : CommandId) (xs : List ℕ) (b : Body) → AreOctets xs → body_at c xs ≡ Ok b → IsBodyOf c xs b
unfolding body_at
body_takes BindReceiverId xs b h e = went (bind_at xs) _ b e (λ v r s. subst (IsBodyOf BindReceiverId xs) (ok_is {E = PduFault} (BindReceiver v) b s) (refl, bind_takes xs v h r))
body_takes BindTransmitterId xs b h e = went (bind_at xs) _ b e (λ v r s. subst (IsBodyOf BindTransmitterId xs) (ok_is {E = PduFault} (BindTransmitter v) b s) (refl, bind_takes xs v h r))
body_takes QuerySmId xs b h e = went (query_at xs) _ b e (λ v r s. subst (IsBodyOf QuerySmId xs) (ok_is {E = PduFault} (QuerySm v) b s) (refl, query_takes xs v h r))
body_takes SubmitSmId xs b h e = went (message_at xs) _ b e (λ v r s. subst (IsBodyOf SubmitSmId xs) (ok_is {E = PduFault} (SubmitSm v) b s) (refl, message_takes xs v h r))
body_takes DeliverSmId xs b h e = went (message_at xs) _ b e (λ v r s. subst (IsBodyOf DeliverSmId xs) (ok_is {E = PduFault} (DeliverSm v) b s) (refl, message_takes xs v h r))
body_takes UnbindId xs b h e = went (end_in BadLength xs) _ b e (λ v r s. subst (IsBodyOf UnbindId xs) (ok_is {E = PduFault} Unbind b s) (refl, end_takes BadLength xs v r))
body_takes CancelSmId xs b h e = went (cancel_at xs) _ b e (λ v r s. subst (IsBodyOf CancelSmId xs) (ok_is {E = PduFault} (CancelSm v) b s) (refl, cancel_takes xs v h r))
body_takes BindTransceiverId xs b h e = went (bind_at xs) _ b e (λ v r s. subst (IsBodyOf BindTransceiverId xs) (ok_is {E = PduFault} (BindTransceiver v) b s) (refl, bind_takes xs v h r))
body_takes EnquireLinkId xs b h e = went (end_in BadLength xs) _ b e (λ v r s. subst (IsBodyOf EnquireLinkId xs) (ok_is {E = PduFault} EnquireLink b s) (refl, end_takes BadLength xs v r))
body_takes GenericNackId xs b h e = went (end_in BadLength xs) _ b e (λ v r s. subst (IsBodyOf GenericNackId xs) (ok_is {E = PduFault} GenericNack b s) (refl, end_takes BadLength xs v r))
body_takes BindReceiverRespId xs b h e = went (or_none bind_resp_at xs) _ b e (λ v r s. subst (IsBodyOf BindReceiverRespId xs) (ok_is {E = PduFault} (BindReceiverResp v) b s) (refl, none_or_takes bind_resp_at IsBindResp bind_resp_takes xs v h r))
body_takes BindTransmitterRespId xs b h e = went (or_none bind_resp_at xs) _ b e (λ v r s. subst (IsBodyOf BindTransmitterRespId xs) (ok_is {E = PduFault} (BindTransmitterResp v) b s) (refl, none_or_takes bind_resp_at IsBindResp bind_resp_takes xs v h r))
body_takes QuerySmRespId xs b h e = went (or_none query_resp_at xs) _ b e (λ v r s. subst (IsBodyOf QuerySmRespId xs) (ok_is {E = PduFault} (QuerySmResp v) b s) (refl, none_or_takes query_resp_at IsQueryResp query_resp_takes xs v h r))
body_takes SubmitSmRespId xs b h e = went (or_none message_resp_at xs) _ b e (λ v r s. subst (IsBodyOf SubmitSmRespId xs) (ok_is {E = PduFault} (SubmitSmResp v) b s) (refl, none_or_takes message_resp_at IsMessageResp message_resp_takes xs v h r))
body_takes DeliverSmRespId xs b h e = went (or_none message_resp_at xs) _ b e (λ v r s. subst (IsBodyOf DeliverSmRespId xs) (ok_is {E = PduFault} (DeliverSmResp v) b s) (refl, none_or_takes message_resp_at IsMessageResp message_resp_takes xs v h r))
body_takes UnbindRespId xs b h e = went (end_in BadLength xs) _ b e (λ v r s. subst (IsBodyOf UnbindRespId xs) (ok_is {E = PduFault} UnbindResp b s) (refl, end_takes BadLength xs v r))
body_takes CancelSmRespId xs b h e = went (end_in BadLength xs) _ b e (λ v r s. subst (IsBodyOf CancelSmRespId xs) (ok_is {E = PduFault} CancelSmResp b s) (refl, end_takes BadLength xs v r))
body_takes BindTransceiverRespId xs b h e = went (or_none bind_resp_at xs) _ b e (λ v r s. subst (IsBodyOf BindTransceiverRespId xs) (ok_is {E = PduFault} (BindTransceiverResp v) b s) (refl, none_or_takes bind_resp_at IsBindResp bind_resp_takes xs v h r))
body_takes EnquireLinkRespId xs b h e = went (end_in BadLength xs) _ b e (λ v r s. subst (IsBodyOf EnquireLinkRespId xs) (ok_is {E = PduFault} EnquireLinkResp b s) (refl, end_takes BadLength xs v r))

pub body_again : (xs : List ℕ) (b : Body) → IsBody xs b → body_at (command_of_body b) xs ≡ Ok b
unfolding body_at
body_again xs (BindReceiver v) h = rw (bind_again xs v h) refl
body_again xs (BindTransmitter v) h = rw (bind_again xs v h) refl
body_again xs (BindTransceiver v) h = rw (bind_again xs v h) refl
body_again xs (SubmitSm v) h = rw (message_again xs v h) refl
body_again xs (DeliverSm v) h = rw (message_again xs v h) refl
body_again xs (QuerySm v) h = rw (query_again xs v h) refl
body_again xs (CancelSm v) h = rw (cancel_again xs v h) refl
body_again xs Unbind h = rw h refl
body_again xs EnquireLink h = rw h refl
body_again xs GenericNack h = rw h refl
body_again xs (BindReceiverResp v) h = rw (none_or_again bind_resp_at IsBindResp bind_resp_again none_bind_resp xs v h) refl
body_again xs (BindTransmitterResp v) h = rw (none_or_again bind_resp_at IsBindResp bind_resp_again none_bind_resp xs v h) refl
body_again xs (BindTransceiverResp v) h = rw (none_or_again bind_resp_at IsBindResp bind_resp_again none_bind_resp xs v h) refl
body_again xs (SubmitSmResp v) h = rw (none_or_again message_resp_at IsMessageResp message_resp_again none_message_resp xs v h) refl
body_again xs (DeliverSmResp v) h = rw (none_or_again message_resp_at IsMessageResp message_resp_again none_message_resp xs v h) refl
body_again xs (QuerySmResp v) h = rw (none_or_again query_resp_at IsQueryResp query_resp_again none_query_resp xs v h) refl
body_again xs CancelSmResp h = rw h refl
body_again xs UnbindResp h = rw h refl
body_again xs EnquireLinkResp h = rw h refl

-- ---- the body of so many octets

take_whole : (xs : List ℕ) (n : ℕ) → length xs ≡ n → take n xs ≡ xs
take_whole [] zero e = refl
take_whole [] (suc n) e = absurd (omega arith)
take_whole (x ∷ xs) zero e = absurd (omega arith)
take_whole (x ∷ xs) (suc n) e = ap (λ (l : List ℕ). x ∷ l) (take_whole xs n (omega arith))

pub record Filled (command : CommandId) (n : ℕ) (xs : List ℕ) (b : Body) : Type 0 where
  pub length_is : length xs ≡ n
  pub reads : body_at command xs ≡ Ok b

pub body_in_takes : (c : CommandId) (n : ℕ) (xs : List ℕ) (b : Body) → body_in c n xs ≡ Ok b → Filled c n xs b
unfolding body_in
body_in_takes c n xs b e = by_test (ltb (length xs) n) e where
  by_test : (t : Bool) → cond t (Err (cut_short (body_at c xs))) (body_at c (take n xs) >>= (λ body. only_if (eqb (length xs) n) BadLength >>= (λ whole. Ok body))) ≡ Ok b → Filled c n xs b
  by_test true h = absurd cc
  by_test false h =
      went (body_at c (take n xs)) _ b h (λ v r s.
      went (only_if (eqb (length xs) n) BadLength) _ b s (λ u r' s'.
      let len = eqb-true (length xs) n (passes _ BadLength u r') in
      let same : body_at c xs ≡ Ok v = ap (body_at c) (sym (take_whole xs n len)) ∙ r in
      record { length_is = len; reads = same ∙ s' }))

body_in_again : (c : CommandId) (n : ℕ) (xs : List ℕ) (b : Body) → length xs ≡ n → body_at c xs ≡ Ok b → body_in c n xs ≡ Ok b
unfolding body_in
body_in_again c n xs b len e =
    let long : ltb (length xs) n ≡ false = le-ltb (length xs) n (omega arith) in
    let same : eqb (length xs) n ≡ true = eq-eqb (length xs) n len in
    rw (long, take_whole xs n len, e, same) refl

-- ---- whole PDUs

ok_or_is : {A : Type 0} (o : Option A) (f : PduFault) (x : A) → ok_or o f ≡ Ok x → o ≡ Some x
ok_or_is (Some y) f x e = ap (λ z. Some z) (ok_is {E = PduFault} y x e)
ok_or_is None f x e = absurd cc

pub pdu_takes : (xs : List ℕ) (p : Pdu) → AreOctets xs → pdu_at xs ≡ Ok p → IsPdu xs p
unfolding pdu_at
pdu_takes xs p h e =
    went (four_in xs) _ p e (λ s1 a1 b1.
    let p1 = four_takes xs s1 h a1 in
    went (only_if (leb 16 s1.0 && leb s1.0 65536) BadLength) _ p b1 (λ u a2 b2.
    let t = and_parts (leb 16 s1.0) (leb s1.0 65536) (passes _ BadLength u a2) in
    let low : 16 ≤ s1.0 = leb-true 16 s1.0 t.0 in
    let high : s1.0 ≤ 65536 = leb-true s1.0 65536 t.1 in
    went (four_in s1.1) _ p b2 (λ s2 a3 b3.
    let p2 = four_takes s1.1 s2 p1.octets a3 in
    went (ok_or (command_of s2.0) UnknownCommand) _ p b3 (λ c a4 b4.
    went (four_in s2.1) _ p b4 (λ s3 a5 b5.
    let p3 = four_takes s2.1 s3 p2.octets a5 in
    went (four_in s3.1) _ p b5 (λ s4 a6 b6.
    let p4 = four_takes s3.1 s4 p3.octets a6 in
    went (body_in c (s1.0 - 16) s4.1) _ p b6 (λ b a7 b7.
    let filled = body_in_takes c (s1.0 - 16) s4.1 b a7 in
    let is = body_takes c s4.1 b p4.octets filled.reads in
    let made : Pdu = record { command_status = s3.0; sequence_number = s4.0; body = b } in
    let len : s1.0 ≡ 16 + length s4.1 = omega (arith, filled.length_is) in
    let id : s2.0 ≡ command_number (command_of_body b) = sym (command_of_is s2.0 c (ok_or_is (command_of s2.0) UnknownCommand c a4)) ∙ ap command_number (sym is.0) in
    let spelled : xs ≡ four s1.0 ++ (four s2.0 ++ (four s3.0 ++ (four s4.0 ++ s4.1))) =
    p1.parts ∙ ap (λ (l : List ℕ). four s1.0 ++ l) (p2.parts ∙ ap (λ (l : List ℕ). four s2.0 ++ l) (p3.parts ∙ ap (λ (l : List ℕ). four s3.0 ++ l) p4.parts)) in
    let whole : xs ≡ pdu_octets made s4.1 =
    spelled ∙ ap (λ (n : ℕ). four n ++ (four s2.0 ++ (four s3.0 ++ (four s4.0 ++ s4.1)))) len
    ∙ ap (λ (n : ℕ). four (16 + length s4.1) ++ (four n ++ (four s3.0 ++ (four s4.0 ++ s4.1)))) id in
    subst (IsPdu xs) (ok_is {E = PduFault} made p b7) (s4.1, is.1, omega (arith, len), whole))))))))

pub pdu_again : (xs : List ℕ) (p : Pdu) → IsPdu xs p → pdu_at xs ≡ Ok p
unfolding pdu_at
pdu_again xs p (body, is, short, whole) =
    let n : ℕ = 16 + length body in
    let r3 : List ℕ = four p.sequence_number ++ body in
    let r2 : List ℕ = four p.command_status ++ r3 in
    let r1 : List ℕ = four (command_number (command_of_body p.body)) ++ r2 in
    let low : leb 16 (16 + length body) ≡ true = le-leb 16 (16 + length body) (omega arith) in
    let high : leb (16 + length body) 65536 ≡ true = le-leb (16 + length body) 65536 short in
    let rest : body_in (command_of_body p.body) (16 + length body - 16) body ≡ Ok p.body = body_in_again (command_of_body p.body) (16 + length body - 16) body p.body (omega arith) (body_again body p.body is) in
    rw (whole, four_again n r1, low, high, four_again (command_number (command_of_body p.body)) r2, command_of-number (command_of_body p.body), four_again p.command_status r3, four_again p.sequence_number body, rest) refl

pub pdu_found : (xs : List ℕ) (r : Result Pdu PduFault) → AreOctets xs → r ≡ pdu_at xs → IfOk r (λ p. IsPdu xs p)
pdu_found xs (Ok p) h e = pdu_takes xs p h (sym e)
pdu_found xs (Err f) h e = tt

-- ---- headers

pub header_takes : (xs : List ℕ) (x : Header × List ℕ) → AreOctets xs → header_in xs ≡ Ok x → xs ≡ header_octets x.0 ++ x.1
unfolding header_in
header_takes xs x h e =
    went (four_in xs) _ x e (λ s1 a1 b1.
    let p1 = four_takes xs s1 h a1 in
    went (four_in s1.1) _ x b1 (λ s2 a2 b2.
    let p2 = four_takes s1.1 s2 p1.octets a2 in
    went (four_in s2.1) _ x b2 (λ s3 a3 b3.
    let p3 = four_takes s2.1 s3 p2.octets a3 in
    went (four_in s3.1) _ x b3 (λ s4 a4 b4.
    let p4 = four_takes s3.1 s4 p3.octets a4 in
    let made : Header = record { command_length = s1.0; command_id = s2.0; command_status = s3.0; sequence_number = s4.0 } in
    let whole : xs ≡ header_octets made ++ s4.1 =
    p1.parts ∙ ap (λ (l : List ℕ). four s1.0 ++ l) (p2.parts ∙ ap (λ (l : List ℕ). four s2.0 ++ l) (p3.parts ∙ ap (λ (l : List ℕ). four s3.0 ++ l) p4.parts)) in
    subst (λ (y : Header × List ℕ). xs ≡ header_octets y.0 ++ y.1) (ok_is {E = PduFault} (made, s4.1) x b4) whole))))

pub header_found : (xs rest : List ℕ) (h : Header) → AreOctets xs → header_in xs ≡ Ok (h, rest) → (after : List ℕ) × (xs ≡ header_octets h ++ after)
header_found xs rest h fits e = (rest, header_takes xs (h, rest) fits e)

bind_err : {A B : Type 0} (r : Result A PduFault) (f : A → Result B PduFault) (e : PduFault) → (r >>= f) ≡ Err e → (r ≡ Err e) ⊎ ((x : A) × (r ≡ Ok x) × (f x ≡ Err e))
bind_err (Ok x) f e h = inr (x, refl, h)
bind_err (Err d) f e h = let same : d ≡ e = cc in inl (ap (λ z. Err z) same)

pub four_short : (xs : List ℕ) (e : PduFault) → four_in xs ≡ Err e → length xs < 4
unfolding four_in two_in
four_short [] e h = omega arith
four_short (a ∷ []) e h = omega arith
four_short (a ∷ b ∷ []) e h = omega arith
four_short (a ∷ b ∷ c ∷ []) e h = omega arith
four_short (a ∷ b ∷ c ∷ d ∷ xs) e h = absurd cc

pub four_left : (xs : List ℕ) (x : ℕ × List ℕ) → four_in xs ≡ Ok x → length xs ≡ 4 + length x.1
unfolding four_in two_in
four_left [] x h = absurd cc
four_left (a ∷ []) x h = absurd cc
four_left (a ∷ b ∷ []) x h = absurd cc
four_left (a ∷ b ∷ c ∷ []) x h = absurd cc
four_left (a ∷ b ∷ c ∷ d ∷ xs) x h = let g = ap (λ (y : ℕ × List ℕ). length y.1) {y = x} (ok_is {E = PduFault} (65536 * (256 * a + b) + (256 * c + d), xs) x h) in omega (arith, g)

pub header_short : (xs : List ℕ) (e : PduFault) → header_in xs ≡ Err e → length xs < 16
unfolding header_in
header_short xs e h =
    elim (bind_err (four_in xs) _ e h) [
      | inl s ↦ omega (arith, four_short xs e s)
      | inr s ↦ let l1 = four_left xs s.0 s.1 in
          elim (bind_err (four_in s.0.1) _ e s.2) [
            | inl t ↦ omega (arith, l1, four_short s.0.1 e t)
            | inr t ↦ let l2 = four_left s.0.1 t.0 t.1 in
                elim (bind_err (four_in t.0.1) _ e t.2) [
                  | inl u ↦ omega (arith, l1, l2, four_short t.0.1 e u)
                  | inr u ↦ let l3 = four_left t.0.1 u.0 u.1 in
                      elim (bind_err (four_in u.0.1) _ e u.2) [
                        | inl v ↦ omega (arith, l1, l2, l3, four_short u.0.1 e v)
                        | inr v ↦ absurd (let w = v.2 in cc)
                      ]
                ]
          ]
    ]

-- Events that do not go so.
use Rattle.std.proofs.Common.{arith, ◌≡◌, ℕ, List, [], ◌∷◌, Bool, true, false, refl, sym, ◌∙◌, ap, inl, ⊎_elim, Option, Some, None}
use Rattle.std.specs.Prelude.{if◌then◌else◌}
use Rattle.std.proofs.lemmas.Option.{none-some}
use Rattle.smpp_pdu.specs.declared.status.CommandStatus.TheVariants.{ESME_RCANCELFAIL, ESME_ROK}
use Rattle.sms_base.specs.HandsetNumber.{own_address}
use Rattle.sms_base.specs.declared.final_state.FinalState.{FinalState}
use Rattle.sms_base.specs.declared.final_state.FinalState.TheVariants.{Deleted, Delivered}
use Rattle.sms_centre_rows.specs.declared.messages.message.MessageRow.{MessageRow}
use Rattle.sms_centre_rows.specs.messages.Messages.{ended, message_at, message_key}
use Rattle.sms_centre_rows.specs.reports.Receipts.{Session, is_account}
use Rattle.sms_play.specs.CentreSide.{state_of}
use Rattle.sms_rows.specs.table.Table.{put}
use Rattle.sms_script.specs.declared.report.answers.Answer.{Answer}
use Rattle.sms_script.specs.declared.report.answers.Answered.{Answered}
use Rattle.sms_script.specs.declared.report.answers.Answered.TheVariants.{Found, Status}
use Rattle.sms_centre_rows.specs.declared.report_lines.MessageState.{MessageState}
use Rattle.sms_centre_rows.specs.declared.report_lines.MessageState.TheVariants.{Enroute, Final}
use Rattle.sms_world.proofs.Everything.{everything}
use Rattle.sms_world.specs.headline.RequestClaims.{IsNamedBy}
use Rattle.sms_world.specs.wrong_plays.Happened.{CancelledAgainLaw, CancelledAllTheSameLaw, FalseQueryLaw, ImpossibleStepLaw, NotCancelledLaw, NotOfEventLaw, NotTakenInLaw, OtherNumberLaw, OthersQueryLaw, QueryEndsLaw, ReceiptEarlyLaw, ReceiptNotListedLaw, ReceiptToOtherLaw, ReceiptToTransmitterLaw, ReceiptUnboundLaw, ReceiptUndatedLaw, RightQueryLaw, RightReceiptLaw, holding, session}
use Rattle.sms_world.specs.wrong_plays.Plays.{from_application, from_writer}
use Rattle.sms_world.specs.wrong_plays.Shown.{submission}
use Rattle.sms_world.specs.wrong_plays.Told.{pending}
use Rattle.sms_world.specs.wrong_reports.Literals.{id_one, name, receipt, source}
use Rattle.sms_world_model.specs.World.{Message, Pending}
use Rattle.sms_world_model.specs.WorldStep.{Delete}

-- ---- steps

no_steps : Delete 1 ∷ [] ≡ [] → ⊥
no_steps e = absurd cc

pub not_of_event : NotOfEventLaw
not_of_event b = no_steps b

pub impossible_step : ImpossibleStepLaw
impossible_step run = none-some {A = Message} _ run.0.2

pub not_taken_in : NotTakenInLaw
not_taken_in b = ((b 1).0 refl).2.0

pub other_number : OtherNumberLaw
other_number b =
    let q : 5 ≡ 1 = b 5 ((record submission { id = 5 }, (Pending [], refl)), λ u st e. none-some {A = Message} _ e) in let l : ⊥ = omega (arith, q) in l

-- ---- requests

-- the only row is found, or none
only_row : (k : ℕ) (m x : MessageRow) → message_at k (m ∷ []) ≡ Some x → m ≡ x
only_row k m x e = pick _ e
  where
    pick : (b : Bool) → (if b then Some m else None) ≡ Some x → m ≡ x
    pick true q = cc
    pick false q = absurd cc

named : IsNamedBy name id_one (holding from_application) from_application
unfolding everything
named = record {
  place = 0;
  account = record { name = name; address = own_address source; sources = [] };
  named = refl;
  its = refl;
  number = 1;
  reads = refl;
  there = refl;
  own = refl;
}

abbrev found : MessageState → List Answer
found state = record { event = 1; answered = Found state } ∷ []

abbrev answered_first : List Answer → Answered
answered_first [] = Found Enroute
answered_first (a ∷ answers) = a.answered

found_state : (a b : MessageState) → Found a ≡ Found b → a ≡ b
found_state a b e = cc

same_state : (a b : MessageState) → found a ≡ found b → a ≡ b
same_state a b e = found_state a b (ap answered_first e)

pub right_query : RightQueryLaw
right_query = record { same = refl; found = λ state e. (from_application, (named, same_state (Final Delivered) state e)) }

enroute : Final Delivered ≡ Enroute → ⊥
enroute e = absurd cc

pub false_query : FalseQueryLaw
false_query q =
    let x = q.found Enroute refl in
    enroute (ap (λ (m : MessageRow). state_of m.state) (only_row x.1.0.number from_application x.0 x.1.0.there) ∙ x.1.1)

no_truth : false ≡ true → ⊥
no_truth e = absurd cc

pub others_query : OthersQueryLaw
others_query q =
    let x = q.found (Final Delivered) refl in
    no_truth
    (ap (λ (m : MessageRow). is_account x.1.0.account.name m.originator) (only_row x.1.0.number (record from_writer { id = 1 }) x.0 x.1.0.there)
    ∙ x.1.0.own)

abbrev first_state : List MessageRow → Option FinalState
first_state [] = None
first_state (m ∷ ms) = m.state

pub query_ends : QueryEndsLaw
query_ends q = none-some Delivered (sym (ap first_state q.same))

pub not_cancelled : NotCancelledLaw
not_cancelled c =
    let x = c.done refl in
    let m : pending from_application ≡ x.0 = only_row x.1.0.number (pending from_application) x.0 x.1.0.there in
    let q : pending from_application ∷ [] ≡ put message_key (ended Deleted 946684800 (pending from_application)) (pending from_application ∷ []) =
    x.1.2 ∙ ap (λ (z : MessageRow). put message_key (ended Deleted 946684800 z) (pending from_application ∷ [])) (sym m) in
    none-some Deleted (ap first_state q)

pub cancelled_again : CancelledAgainLaw
cancelled_again c =
    let x = c.done refl in
    none-some Delivered (sym (ap (λ (z : MessageRow). z.state) (only_row x.1.0.number from_application x.0 x.1.0.there) ∙ x.1.1))

refusal : Status ESME_RCANCELFAIL ≡ Status ESME_ROK → ⊥
refusal e = absurd cc

no_rows : [] ≡ pending from_application ∷ [] → ⊥
no_rows e = absurd cc

pub cancelled_all_the_same : CancelledAllTheSameLaw
cancelled_all_the_same c = no_rows (c.refused (Status ESME_RCANCELFAIL) refl refusal)

-- ---- deliver_sm

pub right_receipt : RightReceiptLaw
right_receipt = record {
  message = from_application;
  there = refl;
  state = Delivered;
  ended = refl;
  moment = 946684860;
  done = refl;
  line = receipt;
  listed = inl refl;
  says = refl;
  session = session name;
  bound = inl refl;
  number = refl;
  receives = refl;
  account = refl;
}

pub receipt_early : ReceiptEarlyLaw
receipt_early r = none-some r.state (ap (λ (z : MessageRow). z.state) (only_row 1 (pending from_application) r.message r.there) ∙ r.ended)

pub receipt_undated : ReceiptUndatedLaw
receipt_undated r =
    none-some r.moment (ap (λ (z : MessageRow). z.done) (only_row 1 (record from_application { done = None }) r.message r.there) ∙ r.done)

pub receipt_not_listed : ReceiptNotListedLaw
receipt_not_listed r = r.listed

pub receipt_unbound : ReceiptUnboundLaw
receipt_unbound r = r.bound

pub receipt_to_transmitter : ReceiptToTransmitterLaw
receipt_to_transmitter r = ⊎_elim
    (λ (e : r.session ≡ record (session name) { receives = false }). no_truth (sym (ap (λ (z : Session). z.receives) e) ∙ r.receives))
    (λ (n : ⊥). n) r.bound

pub receipt_to_other : ReceiptToOtherLaw
receipt_to_other r = ⊎_elim
    (λ (e : r.session ≡ session source).
    no_truth
    (ap (λ (z : MessageRow). is_account source z.originator) (only_row 1 from_application r.message r.there)
    ∙ (sym (ap (λ (z : Session). is_account z.account r.message.originator) e) ∙ r.account)))
    (λ (n : ⊥). n) r.bound

-- What goes up from a link has the octets of a frame that came.
use Rattle.std.proofs.Common.{◌≡◌, ℕ, List, ◌∷◌, length, Option, Some, None, Result, Ok, Err, IfOk, refl, ◌∙◌, ap, subst}
use Rattle.std.specs.Prelude.{◌&&◌, is_some}
use Rattle.std.specs.Option.{option_map}
use Rattle.std.proofs.lemmas.Bool.{cond_both}
use Rattle.sms_base.proofs.OctetLaws.{octets_behind}
use Rattle.sms_base.specs.declared.carried.Carried.{Carried}
use Rattle.sms_base.specs.Reading.{AreOctets}
use Rattle.sms_control.specs.declared.fault.CpFault.{CpFault}
use Rattle.sms_control.specs.declared.link_state.LinkState.{LinkState}
use Rattle.sms_control.specs.declared.message.Cp.{Cp}
use Rattle.sms_control.specs.declared.message.Cp.TheVariants.{DataUnit, AckUnit, ErrorUnit}
use Rattle.sms_control.specs.declared.transaction.Transaction.{Transaction}
use Rattle.sms_control.specs.declared.transaction.TransactionFlag.{TransactionFlag}
use Rattle.sms_control.specs.declared.transaction.TransactionFlag.TheVariants.{FromOriginator, ToOriginator}
use Rattle.sms_control.specs.ControlGrammar.{IsCp, spelled}
use Rattle.sms_control.specs.ControlReading.{cp_at}
use Rattle.sms_control.specs.LinkStep.{Step, ack_taken, answer_of, answer_taken, data_taken, error_taken, frame_taken, has_begun, has_opened, is_same, opening_of, opening_taken, take_step}
use Rattle.sms_control.proofs.ControlFrames.{cp_found}
use Rattle.sms_link.specs.declared.ending.Ending.{Ending}
use Rattle.sms_link.specs.declared.ending.Ending.TheVariants.{Lost}
use Rattle.sms_link.specs.declared.ending.Upward.TheVariants.{Opened, Ended}
use Rattle.sms_link.specs.Ending.{ended_by, unit_at}
use Rattle.sms_link.specs.LinkTurn.{LinkOf, passed_up, taken}
use Rattle.sms_relay.specs.declared.frame.Rp.TheVariants.{DataUnit as RpData}
use Rattle.sms_relay.specs.RelayReading.{up_at}
use Rattle.sms_relay.proofs.FieldLaws.{IsBytes-octets}
use Rattle.sms_relay.proofs.UnitLaws.{up_takes}

-- ---- CP-DATA

spelled_so : (frame unit : List ℕ) (t : Transaction) (r : Result Cp CpFault) → r ≡ Ok (DataUnit t unit) → IfOk r (λ cp. IsCp frame cp) → frame ≡ spelled (DataUnit t unit)
spelled_so frame unit t (Ok cp) e is = let same : cp ≡ DataUnit t unit = cc in is.spells ∙ ap (λ (x : Cp). spelled x) same
spelled_so frame unit t (Err fault) e is = absurd cc

data_octets : (frame unit : List ℕ) (t : Transaction) → AreOctets frame → cp_at frame ≡ Ok (DataUnit t unit) → AreOctets unit
data_octets frame unit t are e =
    let is = spelled_so frame unit t (cp_at frame) e (cp_found frame (cp_at frame) (IsBytes-octets frame are) refl) in
    let h = subst AreOctets is are in
    h.1.1.1

-- ---- a unit that opens a transaction

module _ (l : LinkOf) (unit : List ℕ) where
  abbrev s : LinkState
  s = l.links

  -- where the step opens a transaction with that unit, the unit is octets
  abbrev Right : Step → Type 0
  Right step = passed_up l.side l.under_way step.out.up ≡ Some (Opened unit) → AreOctets unit

  ended_not : (o : Option Carried) (f : Carried → Ending) → option_map (λ (t : Carried). Ended t (f t)) o ≡ Some (Opened unit) → AreOctets unit
  ended_not None f q = absurd cc
  ended_not (Some t) f q = absurd cc

  answer_right : (frame x : List ℕ) (t : Transaction) → Right (answer_taken frame x t s)
  answer_right frame x t =
      cond_both (has_begun t.identifier s.begun) _ _ Right (λ e q. ended_not l.under_way (λ (c : Carried). ended_by c.reference (unit_at l.side x)) q)
      (λ e. cond_both (is_same frame s.last_answer) _ _ Right (λ t q. absurd cc) (λ t q. absurd cc))

  opening_right : (frame x : List ℕ) (t : Transaction) → AreOctets x → Right (opening_taken frame x t s)
  opening_right frame x t are =
      cond_both (is_same frame (opening_of s.opened)) _ _ Right (λ e q. absurd cc)
      (λ e. cond_both (is_same frame s.last_opening) _ _ Right (λ e q. absurd cc) (λ e q. let same : x ≡ unit = cc in subst AreOctets same are))

  data_right : (flag : TransactionFlag) (frame x : List ℕ) (t : Transaction) → AreOctets x → Right (data_taken flag frame x t s)
  data_right ToOriginator frame x t are = answer_right frame x t
  data_right FromOriginator frame x t are = opening_right frame x t are

  ack_right : (flag : TransactionFlag) (i : ℕ) → Right (ack_taken flag i s)
  ack_right ToOriginator i = cond_both (has_begun i s.begun) _ _ Right (λ e q. absurd cc) (λ e q. absurd cc)
  ack_right FromOriginator i = cond_both (has_opened i s.opened && is_some (answer_of s.opened)) _ _ Right (λ e q. absurd cc) (λ e q. absurd cc)

  error_right : (flag : TransactionFlag) (i : ℕ) → Right (error_taken flag i s)
  error_right ToOriginator i = cond_both (has_begun i s.begun) _ _ Right (λ e q. ended_not l.under_way (λ (c : Carried). Lost) q) (λ e q. absurd cc)
  error_right FromOriginator i = cond_both (has_opened i s.opened) _ _ Right (λ e q. absurd cc) (λ e q. absurd cc)

  frame_right : (frame : List ℕ) (r : Result Cp CpFault) → AreOctets frame → cp_at frame ≡ r → Right (frame_taken frame s r)
  frame_right frame (Err fault) are e = λ q. absurd cc
  frame_right frame (Ok (DataUnit t x)) are e = data_right t.flag frame x t (data_octets frame x t are e)
  frame_right frame (Ok (AckUnit t)) are e = ack_right t.flag t.identifier
  frame_right frame (Ok (ErrorUnit t cause)) are e = error_right t.flag t.identifier

  pub opened_octets : (frame : List ℕ) → AreOctets frame → (taken frame l).out.up ≡ Some (Opened unit) → AreOctets unit
  unfolding take_step
  opened_octets frame are = frame_right frame (cp_at frame) are refl

-- ---- RP-DATA

pub tpdu_octets : (unit tpdu centre : List ℕ) (reference : ℕ) → AreOctets unit → up_at unit ≡ Ok (RpData reference centre tpdu) → AreOctets tpdu
tpdu_octets unit tpdu centre reference are e =
    let is = up_takes unit (RpData reference centre tpdu) (IsBytes-octets unit are) e in
    let h = subst AreOctets is.2 are in
    let rest : AreOctets (length tpdu ∷ tpdu) = octets_behind centre (length tpdu ∷ tpdu) h.1.1.1.1 in rest.1

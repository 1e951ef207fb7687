-- A frame of one side is one that the other may be handed.
use Rattle.std.proofs.Common.{◌≡◌, ℕ, List, [], refl, sym, ◌∙◌, ap, subst, inl, inr, Result, Ok, Err}
use Rattle.sms_control.specs.declared.fault.CpFault.{CpFault}
use Rattle.sms_control.specs.declared.message.Cp.{Cp}
use Rattle.sms_control.specs.declared.message.Cp.TheVariants.{DataUnit as CpData}
use Rattle.sms_control.specs.ControlReading.{cp_at}
use Rattle.sms_control.proofs.ControlFrames.{cp_again}
use Rattle.sms_relay.specs.declared.fault.RelayFault.{RelayFault}
use Rattle.sms_relay.specs.declared.frame.Rp.{Rp}
use Rattle.sms_relay.specs.declared.frame.Rp.TheVariants.{DataUnit, AckUnit, ErrorUnit, Smma}
use Rattle.sms_relay.specs.RelayReading.{up_at, down_at}
use Rattle.sms_base.specs.declared.carried.Carried.{Carried}
use Rattle.sms_base.specs.declared.carried.Kind.{Kind}
use Rattle.sms_base.specs.declared.carried.Kind.TheVariants.{Data, Ack, Error}
use Rattle.sms_world.specs.frames_pass_between_sides.Between.{CarriesDown, IsOfKindDown, IsUnitUp, line_to_centre, DownLaw, UpLaw}
use Rattle.sms_world.specs.headline.SeenFrames.{frame_down, frame_tpdu_down, octets_down, frame_tpdu, line_up, octets_of, unit_tpdu}
use Rattle.sms_world.specs.frames_pass_between_sides.FramesDown.{IsCarriedDown, IsUnitOf}
use Rattle.sms_world.specs.frames_pass_between_sides.FramesUp.{IsOfKind, flag_for}

same_flag : (k : Kind) → flag_for k ≡ flag_for k
same_flag Data = refl
same_flag Ack = refl
same_flag Error = refl

-- the TPDU by the kind
abbrev tpdu_by : Kind → List ℕ → List ℕ
tpdu_by Data tpdu = tpdu
tpdu_by Ack tpdu = []
tpdu_by Error tpdu = []

-- ---- up

same_line : (k : Kind) → line_up k ≡ line_to_centre k
same_line Data = refl
same_line Ack = refl
same_line Error = refl

reported_up : (k : Kind) (r : ℕ) (x : Result Rp RelayFault) → IsOfKind k r x → IsUnitUp k r (tpdu_by k (unit_tpdu x)) x
reported_up Data r (Ok (DataUnit q centre tpdu)) e = inl (centre, ap (λ (z : ℕ). Ok (DataUnit z centre tpdu)) e)
reported_up Data r (Ok (AckUnit q tpdu)) e = absurd e
reported_up Data r (Ok (ErrorUnit q cause tpdu)) e = absurd e
reported_up Data r (Ok (Smma q)) e = inr (ap (λ (z : ℕ). Ok (Smma z)) e, refl)
reported_up Data r (Err fault) e = absurd e
reported_up Ack r (Ok (DataUnit q centre tpdu)) e = absurd e
reported_up Ack r (Ok (AckUnit q tpdu)) e = (tpdu, ap (λ (z : ℕ). Ok (AckUnit z tpdu)) e)
reported_up Ack r (Ok (ErrorUnit q cause tpdu)) e = absurd e
reported_up Ack r (Ok (Smma q)) e = absurd e
reported_up Ack r (Err fault) e = absurd e
reported_up Error r (Ok (DataUnit q centre tpdu)) e = absurd e
reported_up Error r (Ok (AckUnit q tpdu)) e = absurd e
reported_up Error r (Ok (ErrorUnit q cause tpdu)) e = (cause, tpdu, ap (λ (z : ℕ). Ok (ErrorUnit z cause tpdu)) e)
reported_up Error r (Ok (Smma q)) e = absurd e
reported_up Error r (Err fault) e = absurd e

octets_up : (k : Kind) (octets : List ℕ) (x : Result Cp CpFault) → cp_at octets ≡ x → octets_of k octets ≡ tpdu_by k (frame_tpdu x)
octets_up Data octets x e = ap (λ (z : Result Cp CpFault). frame_tpdu z) e
octets_up Ack octets x e = refl
octets_up Error octets x e = refl

pub goes_up : UpLaw
goes_up h number octets c i =
    let cp = CpData i.transaction i.unit in
    record {
      transaction = i.transaction;
      unit = i.unit;
      frame = i.frame;
      flag = i.flag ∙ same_flag c.kind;
      line = same_line c.kind;
      unit_is = subst (λ (z : List ℕ). IsUnitUp c.kind c.reference z (up_at i.unit)) (sym (octets_up c.kind octets (Ok cp) (cp_again octets cp i.frame)))
          (reported_up c.kind c.reference (up_at i.unit) i.unit_is);
    }

-- ---- down

reported_down : (k : Kind) (r : ℕ) (x : Result Rp RelayFault) → IsOfKindDown k r x → IsUnitOf k r (tpdu_by k (unit_tpdu x)) x
reported_down Data r (Ok (DataUnit q centre tpdu)) e = (centre, ap (λ (z : ℕ). Ok (DataUnit z centre tpdu)) e)
reported_down Data r (Ok (AckUnit q tpdu)) e = absurd e
reported_down Data r (Ok (ErrorUnit q cause tpdu)) e = absurd e
reported_down Data r (Ok (Smma q)) e = absurd e
reported_down Data r (Err fault) e = absurd e
reported_down Ack r (Ok (DataUnit q centre tpdu)) e = absurd e
reported_down Ack r (Ok (AckUnit q tpdu)) e = (tpdu, ap (λ (z : ℕ). Ok (AckUnit z tpdu)) e)
reported_down Ack r (Ok (ErrorUnit q cause tpdu)) e = absurd e
reported_down Ack r (Ok (Smma q)) e = absurd e
reported_down Ack r (Err fault) e = absurd e
reported_down Error r (Ok (DataUnit q centre tpdu)) e = absurd e
reported_down Error r (Ok (AckUnit q tpdu)) e = absurd e
reported_down Error r (Ok (ErrorUnit q cause tpdu)) e = (cause, tpdu, ap (λ (z : ℕ). Ok (ErrorUnit z cause tpdu)) e)
reported_down Error r (Ok (Smma q)) e = absurd e
reported_down Error r (Err fault) e = absurd e

octets_read : (k : Kind) (octets : List ℕ) (x : Result Cp CpFault) → cp_at octets ≡ x → octets_down k octets ≡ tpdu_by k (frame_tpdu_down x)
octets_read Data octets x e = ap (λ (z : Result Cp CpFault). frame_tpdu_down z) e
octets_read Ack octets x e = refl
octets_read Error octets x e = refl

arrived_down : (h : List ℕ) (number : ℕ) (octets : List ℕ) (c : Carried) → CarriesDown octets c → IsCarriedDown (frame_down h number octets c) octets
arrived_down h number octets c i =
    let cp = CpData i.transaction i.unit in
    record {
      transaction = i.transaction;
      unit = i.unit;
      frame = i.frame;
      flag = i.flag ∙ same_flag c.kind;
      line = refl;
      unit_is = subst (λ (z : List ℕ). IsUnitOf c.kind c.reference z (down_at i.unit)) (sym (octets_read c.kind octets (Ok cp) (cp_again octets cp i.frame)))
          (reported_down c.kind c.reference (down_at i.unit) i.unit_is);
    }

pub goes_down : DownLaw
goes_down h number octets c w i sent = inr (frame_down h number octets c, (sent, refl, refl, refl, arrived_down h number octets c i))

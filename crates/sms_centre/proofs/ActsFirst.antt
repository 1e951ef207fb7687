-- An event acts, then receipts and offers follow; and what follows rests on what the event left.
use Rattle.std.proofs.Common.{◌≡◌, ℕ, List, [], Option, refl, sym, ◌∙◌, subst, ap}
use Rattle.sms_centre_spec.specs.declared.event.CentreEvent.{CentreEvent}
use Rattle.sms_centre_spec.specs.declared.event.CentreEvent.TheVariants.{Submit}
use Rattle.sms_centre_spec.specs.declared.rows.Rows.{Rows}
use Rattle.sms_centre_spec.specs.declared.setup.Setup.{Setup}
use Rattle.sms_centre_spec.specs.CentreEvent.{follow, happened}
use Rattle.sms_centre_spec.specs.Draft.{Core, Draft, Store, rows_of}
use Rattle.sms_centre_spec.specs.SoundCore.{IsEvent, IsSoundCore}
use Rattle.sms_centre_spec.specs.SoundRows.{IsSetup, IsSound}
use Rattle.sms_centre_spec.proofs.EventLaws.{stays_sound}
use Rattle.sms_centre_spec.proofs.Resting.{base_of, happened_bars, happened_consistent}
use Rattle.sms_centre_events.specs.offering.Stored.{CanOffer, Stores}
use Rattle.sms_centre.specs.state.CentreState.{Represents, CentreStateOf}
use Rattle.sms_tpdu.specs.AddressGrammar.{relay_address}
use Rattle.sms_centre.specs.Acting.{acted}
use Rattle.sms_centre.specs.Stored.{StoresRows}

pub acts_then_follows : (event : CentreEvent) (c : Core) → happened event c ≡ follow (acted event c)
acts_then_follows (Submit account message) c = refl
acts_then_follows _ c = refl

-- receipts and offers change no rows
pub stores_alike : (event : CentreEvent) (c : Core) → (happened event c).store ≡ (acted event c).store
stores_alike event c = ap (λ (d : Draft). d.store) (acts_then_follows event c)

-- the rows on which the event began are read
stored_under : (body : ℕ → Option (List ℕ)) (rows : Rows) (s : Store) → base_of s ≡ rows → StoresRows body rows → Stores body s
stored_under body rows s e k =
    let at : StoresRows body (base_of s) = subst (λ (r : Rows). StoresRows body r) (sym e) k in
    record { parts = at.parts; reports = at.reports }

pub stored_as_begun : (event : CentreEvent) (c : Core) (body : ℕ → Option (List ℕ)) → StoresRows body c.rows → Stores body (acted event c).store
stored_as_begun event c body k =
    subst (λ (s : Store). Stores body s) (stores_alike event c) (stored_under body c.rows (happened event c).store (happened_consistent event c) k)

pub sound_as_left : (event : CentreEvent) (c : Core) → IsSoundCore c → IsEvent event → IsSound (rows_of (acted event c).store)
sound_as_left event c s e = subst (λ (t : Store). IsSound (rows_of t)) (stores_alike event c) (stays_sound event c s e).rows

-- ---- no event puts bars

pub acted_bars : (event : CentreEvent) (c : Core) → (acted event c).store.bars.news ≡ []
acted_bars event c = ap (λ (s : Store). s.bars.news) (sym (stores_alike event c)) ∙ happened_bars event c

-- ---- the setup

setup_as_begun : (event : CentreEvent) (c : Core) → (acted event c).store.setup ≡ c.rows.setup
setup_as_begun event c = ap (λ (s : Store). s.setup) (sym (stores_alike event c)) ∙ ap (λ (r : Rows). r.setup) (happened_consistent event c)

-- a centre stands on a setup
pub setup_sound : (c : Core) (s : CentreStateOf) → Represents c s → IsSetup s.setup
setup_sound c s k = subst IsSetup (sym k.centre.setup_is) k.centre.sound.rows.setup

-- ---- what offers rest on

pub can_offer : {R : Type 0} (body_of : R → ℕ → Option (List ℕ)) (stored : R) (event : CentreEvent) (c : Core) (s : CentreStateOf) (address : List ℕ) → Represents c s → IsEvent event
    → StoresRows (body_of stored) c.rows → address ≡ relay_address s.setup.centre → CanOffer body_of stored address (acted event c).store
can_offer body_of stored event c s address k is given e = record {
  sound = sound_as_left event c k.centre.sound is;
  stored = stored_as_begun event c (body_of stored) given;
  centre_is = e ∙ ap (λ (x : Setup). relay_address x.centre) (k.centre.setup_is ∙ sym (setup_as_begun event c));
}

-- What is told of the event is what an empty centre sends.
use Rattle.std.specs.declared.alloc.AllocError.{AllocError}
use Rattle.std.proofs.Common.{◌≡◌, ℕ, List, [], Option, Result, Ok, Err, IfOk, refl, sym, subst}
use Rattle.sms_base.specs.Address.{IsAddress}
use Rattle.sms_base.specs.HandsetNumber.{own_address}
use Rattle.sms_base.specs.OwnAddress.{IsOwnAddress}
use Rattle.sms_base.specs.declared.address.Address.{Address}
use Rattle.sms_centre.specs.state.CentreState.{Represents, CentreStateOf}
use Rattle.sms_centre_spec.specs.CentreEvent.{started}
use Rattle.sms_centre_spec.specs.Draft.{Core}
use Rattle.sms_centre_spec.specs.SoundRows.{first_rows}
use Rattle.sms_centre_spec.specs.declared.rows.Rows.{Rows}
use Rattle.sms_relay.specs.RelayReading.{up_at}
use Rattle.sms_relay_run.specs.relay_laws.Relay.{IsRelayed}
use Rattle.sms_relay_run.specs.relay_laws.Relaying.{Relays, centre_for, destination_of, frame_for, handsets_for, setup_for}
use Rattle.sms_relay_run.specs.declared.relay_laws.relayed.Relayed.{Relayed}
use Rattle.sms_centre_rows.specs.reports.Receipts.{Session}
use Rattle.sms_centre_rows.specs.waiting.SoundAllocations.{IsNumber}
use Rattle.sms_relay_run.specs.Sending.{SendsFor}

-- ---- the sender

pub own_is : (a : Address) → IsOwnAddress a → own_address a.digits ≡ a
own_is a is =
    let same : own_address a.digits ≡ record { ton = a.ton; npi = a.npi; digits = a.digits } = rw (is.ton, is.npi) refl in
    same

pub own_number : (a : Address) → IsOwnAddress a → IsNumber a.digits
own_number a is = subst (λ (x : Address). IsAddress x) (sym (own_is a is)) is.valid

-- ---- results

pub if_ok : {A E : Type 0} (r : Result A E) (P Q : A → Type 0) → ((x : A) → P x → Q x) → IfOk r P → IfOk r Q
if_ok (Ok x) P Q f h = f x h
if_ok (Err e) P Q f h = tt

pub relayed_as : (centre from : Address) (now : ℕ) (unit : List ℕ) (sent relayed : Relayed) → IsRelayed centre from now unit sent → relayed ≡ sent → IsRelayed centre from now unit relayed
relayed_as centre from now unit sent relayed is e = subst (λ (r : Relayed). IsRelayed centre from now unit r) (sym e) is

pub relayed_from : (centre from : Address) (now : ℕ) (unit : List ℕ) (relayed : Relayed) → IsOwnAddress from → IsRelayed centre (own_address from.digits) now unit relayed → IsRelayed centre from now unit relayed
relayed_from centre from now unit relayed own is = subst (λ (a : Address). IsRelayed centre a now unit relayed) (own_is from own) is

-- ---- the centre that started

pub stands_as : (address : Address) (from : List ℕ) (now : ℕ) (unit : List ℕ) (rows : Rows) (handsets : List (List ℕ)) (sessions : List Session) (lent : CentreStateOf)
    → rows ≡ first_rows (setup_for address now) → handsets ≡ handsets_for from (destination_of (up_at unit)) → sessions ≡ []
    → Represents (started rows handsets sessions) lent → Represents (centre_for address from now unit) lent
stands_as address from now unit rows handsets sessions lent rows_are handsets_are none is =
    let same : started rows handsets sessions ≡ centre_for address from now unit = rw (rows_are, handsets_are, none) refl in
    subst (λ (core : Core). Represents core lent) same is

pub sent_as : (address : Address) (from frame : List ℕ) (now : ℕ) (unit : List ℕ) (to : Option Address) (shown given : CentreStateOf) (sent : Result Relayed AllocError) → SendsFor from frame to shown sent → shown ≡ given
    → Represents (centre_for address from now unit) given → frame ≡ frame_for unit → to ≡ destination_of (up_at unit) → Relays address from now unit → IfOk sent (λ r. IsRelayed address (own_address from) now unit r)
sent_as address from frame now unit to shown given sent is same represents brings named relays =
    is.is address now unit (subst (λ (s : CentreStateOf). Represents (centre_for address from now unit) s) (sym same) represents) brings named relays

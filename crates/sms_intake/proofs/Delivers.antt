-- The DELIVER of a part is that of the relation.
use Rattle.std.proofs.Common.{◌≡◌, ℕ, List, Result, Ok, Err, ap, ◌∙◌}
use Rattle.std.specs.Prelude.{IfOk}
use Rattle.sms_base.proofs.UtcClocks.{written_is_stamp}
use Rattle.sms_tpdu.specs.AddressGrammar.{address_field}
use Rattle.sms_tpdu.specs.TpduGrammar.{IsWrittenDeliver, deliver_head, deliver_fields}
use Rattle.sms_tpdu.specs.declared.deliver.Deliver.{Deliver}
use Rattle.sms_intake.specs.PartBodies.{deliver_written}

pub deliver_is : (octets : List ℕ) (d : Deliver) → IsWrittenDeliver octets d → octets ≡ deliver_written d
deliver_is octets d h =
    h.4 ∙ ap (λ (stamp : List ℕ). deliver_fields (deliver_head d) (address_field d.originating_address) stamp d) (written_is_stamp h.0 d.service_centre_time_stamp h.2)

pub if_written : {E : Type 0} (d : Deliver) (r : Result (List ℕ) E) → IfOk r (λ octets. IsWrittenDeliver octets d) → IfOk r (λ octets. octets ≡ deliver_written d)
if_written d (Ok octets) h = deliver_is octets d h
if_written d (Err error) h = tt

-- The place of a part in a long message: what the octets say of it, and tests of keys.
use Rattle.std.proofs.Common.{◌≡◌, ℕ, ◌<◌, ◌≤◌, List, true, refl, ◌∙◌, ap, subst, Option, Some, None, Result, Ok, Err, eq-eqb, eqb-true, bytes_eq}
use Rattle.std.specs.Prelude.{◌==◌, ◌&&◌}
use Rattle.std.proofs.lemmas.Bool.{and_parts, and_from}
use Rattle.std.proofs.lemmas.Slice.Eq.{bytes_eq-Decides}
use Rattle.sms_base.proofs.Addresses.{same_parts}
use Rattle.sms_base.specs.AddressKind.{type_number}
use Rattle.sms_base.specs.declared.address.Address.{Address}
use Rattle.sms_concat.specs.Joining.{is_same_reference}
use Rattle.sms_concat.specs.UserData.{part_in}
use Rattle.sms_alphabet.specs.Concatenation.{header_key}
use Rattle.sms_concat.proofs.References.{same_reference, one_reference}
use Rattle.sms_alphabet.proofs.HeaderKeys.{header_counts}
use Rattle.sms_alphabet.specs.declared.concat_key.ConcatKey.{ConcatKey}
use Rattle.sms_tpdu.specs.declared.carrier.Carrier.TheVariants.{InData}
use Rattle.sms_tpdu.specs.declared.deliver.Deliver.{Deliver as DeliverOf}
use Rattle.sms_tpdu.specs.declared.down.Down.{Down}
use Rattle.sms_tpdu.specs.declared.down.Down.TheVariants.{Deliver, StatusReport, SubmitReport}
use Rattle.sms_tpdu.specs.declared.fault.TpduFault.{TpduFault}
use Rattle.sms_tpdu.specs.declared.status_report.StatusReport.{StatusReport as StatusReportOf}
use Rattle.sms_tpdu.specs.declared.user_data.UserData.{UserData}
use Rattle.sms_tpdu.specs.TpduReading.{down_at}
use Rattle.sms_world_model.specs.Submission.{Submission, IsDeliverOf}
use Rattle.sms_world_model.specs.Place.{Key, is_same_address, is_same_key, Place, place_of, place_submitted, place_read, place_in, has_key, number_of, part_submitted, part_read, part_of, carried_in}
use Rattle.sms_world_model.specs.World.{is_same_handset, Accepted}
use Rattle.sms_world_model.specs.Groups.{number_in, is_for}

-- ---- keys that are one are equal

same_address : (a b : Address) → is_same_address a b ≡ true → a ≡ b
same_address a b e =
    let p = and_parts ((type_number a.ton == type_number b.ton) && (a.npi == b.npi)) (bytes_eq a.digits b.digits) e in
    let q = and_parts (type_number a.ton == type_number b.ton) (a.npi == b.npi) p.0 in
    same_parts a b (eqb-true (type_number a.ton) (type_number b.ton) q.0) (eqb-true a.npi b.npi q.1) ((bytes_eq-Decides a.digits b.digits).0 p.1)

pub same_key : (a b : Key) → is_same_key a b ≡ true → a ≡ b
same_key a b e =
    let p = and_parts (is_same_address a.source b.source && is_same_reference a.reference b.reference) (a.total == b.total) e in
    let q = and_parts (is_same_address a.source b.source) (is_same_reference a.reference b.reference) p.0 in
    let source : a.source ≡ b.source = same_address a.source b.source q.0 in
    let reference : a.reference ≡ b.reference = same_reference a.reference b.reference q.1 in
    let total : a.total ≡ b.total = eqb-true a.total b.total p.1 in
    λ j. record { source = source j; reference = reference j; total = total j }

pub one_key : (k : Key) → is_same_key k k ≡ true
one_key k =
    let a : Address = k.source in
    let address : is_same_address a a ≡ true =
    and_from ((type_number a.ton == type_number a.ton) && (a.npi == a.npi)) (bytes_eq a.digits a.digits)
    (and_from (type_number a.ton == type_number a.ton) (a.npi == a.npi) (eq-eqb (type_number a.ton) (type_number a.ton) refl) (eq-eqb a.npi a.npi refl))
    ((bytes_eq-Decides a.digits a.digits).1 refl) in
    and_from (is_same_address a a && is_same_reference k.reference k.reference) (k.total == k.total)
    (and_from (is_same_address a a) (is_same_reference k.reference k.reference) address (one_reference k.reference)) (eq-eqb k.total k.total refl)

-- ---- what a DELIVER says

abbrev pub place_said : DeliverOf → Option Place
place_said d = place_of d.originating_address (header_key d.user_data_header_indicator d.user_data.octets)

pub place_known : (tpdu : List ℕ) (d : DeliverOf) → down_at InData tpdu ≡ Ok (Deliver d) → place_in tpdu ≡ place_said d
unfolding place_in
place_known tpdu d e = ap (λ (r : Result Down TpduFault). place_read r) e

-- a report has no place
pub report_place : (tpdu : List ℕ) (r : StatusReportOf) → down_at InData tpdu ≡ Ok (StatusReport r) → place_in tpdu ≡ None
unfolding place_in
report_place tpdu r e = ap (λ (x : Result Down TpduFault). place_read x) e

-- what has a place is a DELIVER
pub place_deliver : (tpdu : List ℕ) (p : Place) → place_in tpdu ≡ Some p → (d : DeliverOf) × ((down_at InData tpdu ≡ Ok (Deliver d)) × (place_said d ≡ Some p))
unfolding place_in
place_deliver tpdu p e = at (down_at InData tpdu) refl e
  where
    at : (r : Result Down TpduFault) → down_at InData tpdu ≡ r → place_read r ≡ Some p → (d : DeliverOf) × ((down_at InData tpdu ≡ Ok (Deliver d)) × (place_said d ≡ Some p))
    at (Ok (Deliver d)) q e = (d, (q, e))
    at (Ok (StatusReport r)) q e = absurd (cc)
    at (Ok (SubmitReport r)) q e = absurd (cc)
    at (Err f) q e = absurd (cc)

-- the DELIVER of a part has the part's place
pub place_of_part : (s : Submission) (part : UserData) (m : ℕ) (tpdu : List ℕ) → IsDeliverOf s part m tpdu → place_in tpdu ≡ place_submitted s part
place_of_part s part m tpdu x =
    place_known tpdu x.deliver x.reads ∙ (λ j. place_of (x.source j) (header_key (x.header_indicator j) (x.user_data j).octets))

carried_known : (tpdu : List ℕ) (d : DeliverOf) → down_at InData tpdu ≡ Ok (Deliver d)
    → carried_in tpdu ≡ part_of (part_in d.user_data_header_indicator d.data_coding_scheme d.user_data.length d.user_data.octets)
unfolding carried_in
carried_known tpdu d e = ap (λ (r : Result Down TpduFault). part_read r) e

-- and carries what it carries
pub carried_of_part : (s : Submission) (part : UserData) (m : ℕ) (tpdu : List ℕ) → IsDeliverOf s part m tpdu → carried_in tpdu ≡ part_submitted s part
carried_of_part s part m tpdu x =
    carried_known tpdu x.deliver x.reads
    ∙ (λ j. part_of (part_in (x.header_indicator j) (x.data_coding_scheme j) (x.user_data j).length (x.user_data j).octets))

place_bounds : (source : Address) (o : Option ConcatKey) (p : Place) → ((k : ConcatKey) → o ≡ Some k → (0 < k.number) × (k.number ≤ k.total)) → place_of source o ≡ Some p → (source ≡ p.key.source) × (0 < p.number) × (p.number ≤ p.key.total)
place_bounds source None p all e = absurd (cc)
place_bounds source (Some k) p all e =
    let b = all k refl in
    let q : Place = record { key = record { source = source; reference = k.reference; total = k.total }; number = k.number } in
    let same : q ≡ p = cc in
    let mine : (source ≡ q.key.source) × (0 < q.number) × (q.number ≤ q.key.total) = (refl, b.0, b.1) in
    subst (λ (x : Place). (source ≡ x.key.source) × (0 < x.number) × (x.number ≤ x.key.total)) same mine

-- ---- parts of one key at one handset

-- what the test says
pub for_is : (h : List ℕ) (k : Key) (p : Accepted) → is_for h k p ≡ true → (p.handset ≡ h) × (place_in p.tpdu ≡ Some (record { key = k; number = number_in p }))
for_is h k p e =
    let both = and_parts (is_same_handset p.handset h) (has_key k (place_in p.tpdu)) e in
    ((bytes_eq-Decides p.handset h).0 both.0, at (place_in p.tpdu) both.1)
  where
    at : (o : Option Place) → has_key k o ≡ true → o ≡ Some (record { key = k; number = number_of o })
    at None e = absurd (cc)
    at (Some q) e = let same = same_key q.key k e in λ j. Some (record { key = same j; number = q.number })

pub is_for_place : (h : List ℕ) (k : Key) (n : ℕ) (p : Accepted) → p.handset ≡ h → place_in p.tpdu ≡ Some (record { key = k; number = n }) → is_for h k p ≡ true
is_for_place h k n p e f =
    and_from (is_same_handset p.handset h) (has_key k (place_in p.tpdu)) ((bytes_eq-Decides p.handset h).1 e)
    (ap (λ (o : Option Place). has_key k o) f ∙ one_key k)

pub number_placed : (p : Accepted) (k : Key) (n : ℕ) → place_in p.tpdu ≡ Some (record { key = k; number = n }) → number_in p ≡ n
number_placed p k n e = ap (λ (o : Option Place). number_of o) e

pub bounds : (h : List ℕ) (k : Key) (p : Accepted) → is_for h k p ≡ true → (p.handset ≡ h) × (0 < number_in p) × (number_in p ≤ k.total)
bounds h k p e =
    let x = for_is h k p e in
    let d = place_deliver p.tpdu (record { key = k; number = number_in p }) x.1 in
    let b = place_bounds d.0.originating_address (header_key d.0.user_data_header_indicator d.0.user_data.octets) (record { key = k; number = number_in p })
    (λ y q. header_counts d.0.user_data_header_indicator d.0.user_data.octets y q) d.1.1 in
    (x.0, b.1, b.2)

-- such a part is a DELIVER of the key's source
pub deliver_for : (h : List ℕ) (k : Key) (p : Accepted) → is_for h k p ≡ true → (d : DeliverOf) × ((down_at InData p.tpdu ≡ Ok (Deliver d)) × (d.originating_address ≡ k.source))
deliver_for h k p e =
    let x = for_is h k p e in
    let d = place_deliver p.tpdu (record { key = k; number = number_in p }) x.1 in
    let b = place_bounds d.0.originating_address (header_key d.0.user_data_header_indicator d.0.user_data.octets) (record { key = k; number = number_in p })
    (λ y q. header_counts d.0.user_data_header_indicator d.0.user_data.octets y q) d.1.1 in
    (d.0, (d.1.0, b.0))

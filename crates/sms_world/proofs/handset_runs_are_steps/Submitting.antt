-- The frame of a SUBMIT: what is sent for an entry of the outbox is a SUBMIT with its destination and its user data.
use Rattle.std.proofs.Common.{◌≡◌, ℕ, suc, ◌+◌, ◌*◌, ◌/◌, ◌%◌, ◌<◌, ◌≤◌, arith, List, [], ◌∷◌, ◌++◌, Bool, true, not, eqb, refl, sym, ◌∙◌, ap, subst, Result, Ok, length, length-append}
use Rattle.std.specs.Prelude.{◌==◌}
use Rattle.std.proofs.lemmas.Bool.{cond_both}
use Rattle.sms_base.specs.declared.address.Address.{Address}
use Rattle.sms_base.specs.Reading.{only_if, octet_in, end_in}
use Rattle.sms_base.proofs.Steps.{bind_ok, passes, ok_is}
use Rattle.sms_alphabet.specs.DataCodingScheme.{coding_of}
use Rattle.sms_relay.specs.declared.frame.Rp.TheVariants.{DataUnit}
use Rattle.sms_relay.specs.RelayGrammar.{IsCentre, data_up}
use Rattle.sms_relay.specs.RelayReading.{up_at}
use Rattle.sms_relay.proofs.UnitLaws.{up_again}
use Rattle.sms_tpdu.specs.AddressReading.{address_in}
use Rattle.sms_tpdu.specs.Bits.{bit}
use Rattle.sms_tpdu.specs.declared.fault.TpduFault.{TpduFault}
use Rattle.sms_tpdu.specs.declared.fault.TpduFault.TheVariants.{Truncated, TrailingOctets, UnsupportedType, UnsupportedValidity}
use Rattle.sms_tpdu.specs.declared.submit.Submit.{Submit}
use Rattle.sms_tpdu.specs.declared.user_data.UserData.{UserData}
use Rattle.sms_tpdu.specs.declared.validity_period.ValidityPeriod.{ValidityPeriod}
use Rattle.sms_tpdu.specs.TpduReading.{submit_at, submit_rest_in, validity_in}
use Rattle.sms_tpdu.specs.UserDataReading.{user_data_in}
use Rattle.sms_handset_rows.specs.declared.outbox.out_entry.OutEntry.{OutEntry as OutRow}
use Rattle.sms_handset_rows.specs.outbox.Offers.{rejecting_duplicates, submit_of}
use Rattle.sms_handset_rows.specs.outbox.SoundOutbox.{IsSubmitted}
use Rattle.sms_handset_rows.proofs.outbox.OutboxDecided.{submit_up}
use Rattle.sms_world_model.specs.Submission.{IsSubmitTo}
use Rattle.sms_world.specs.headline.SeenWorld.{entry_seen, user_data_in as data_in}

-- RP-DATA fits a frame
pub data_fits : (r : ℕ) (centre unit : List ℕ) → length centre ≤ 11 → length unit ≤ 200 → length (data_up r centre unit) ≤ 248
data_fits r centre unit c u =
    let q : length (data_up r centre unit) ≡ suc (suc (suc (suc (length (centre ++ (length unit ∷ unit)))))) = refl in
    let a : length (centre ++ (length unit ∷ unit)) ≡ length centre + length (length unit ∷ unit) = length-append centre (length unit ∷ unit) in
    let e : length (length unit ∷ unit) ≡ suc (length unit) = refl in
    omega (arith, q, a, e, c, u)

pub data_some : (r : ℕ) (centre unit : List ℕ) → 0 < length (data_up r centre unit)
data_some r centre unit =
    let q : length (data_up r centre unit) ≡ suc (suc (suc (suc (length (centre ++ (length unit ∷ unit)))))) = refl in omega (arith, q)

pub data_read : (r : ℕ) (centre unit : List ℕ) → IsCentre centre → length unit ≤ 200 → up_at (data_up r centre unit) ≡ Ok (DataUnit r centre unit)
data_read r centre unit c u = up_again (data_up r centre unit) (DataUnit r centre unit) (c, (let l : length unit < 256 = omega (arith, u) in l), refl)

-- ---- TP-RD

module _ (first : ℕ) where
  kind_same : (first / 8 * 8 + 4 + first % 4) % 4 ≡ first % 4
  kind_same = omega arith

  high_same : (first / 8 * 8 + 4 + first % 4) / 8 ≡ first / 8
  high_same = omega arith

  rejects : (first / 8 * 8 + 4 + first % 4) / 4 % 2 ≡ 1
  rejects = omega arith

  report_same : (first / 8 * 8 + 4 + first % 4) / 32 ≡ first / 32
  report_same = omega arith

  header_same : (first / 8 * 8 + 4 + first % 4) / 64 ≡ first / 64
  header_same = omega arith

  path_same : (first / 8 * 8 + 4 + first % 4) / 128 ≡ first / 128
  path_same = omega arith

-- what is read behind a first octet
rest_made : (g : ℕ) (xs : List ℕ) (r : ℕ × List ℕ) (c : Address × List ℕ) (f k : ℕ × List ℕ) (v : ValidityPeriod × List ℕ) (j : UserData × List ℕ) (n : Unit {0})
    → octet_in Truncated xs ≡ Ok r → address_in r.1 ≡ Ok c → octet_in Truncated c.1 ≡ Ok f → octet_in Truncated f.1 ≡ Ok k → validity_in (g / 8 % 4) k.1 ≡ Ok v
    → user_data_in (coding_of k.0) (bit g 64) v.1 ≡ Ok j → end_in TrailingOctets j.1 ≡ Ok n
    → submit_rest_in g xs ≡ Ok (record { reject_duplicates = bit g 4; status_report_request = bit g 32; user_data_header_indicator = bit g 64; reply_path = bit g 128; message_reference = r.0; destination_address = c.0; protocol_identifier = f.0; data_coding_scheme = k.0; validity_period = v.0; user_data = j.0 })
unfolding submit_rest_in
rest_made g xs r c f k v j n e1 e2 e3 e4 e5 e6 e7 = rw (e1, e2, e3, e4, e5, e6, e7) refl

rest_rejects : (first : ℕ) (xs : List ℕ) (s : Submit) → submit_rest_in first xs ≡ Ok s → submit_rest_in (first / 8 * 8 + 4 + first % 4) xs ≡ Ok (record s { reject_duplicates = true })
unfolding submit_rest_in
rest_rejects first xs s e =
    let r = bind_ok (octet_in Truncated xs) _ s e in
    let c = bind_ok (address_in r.0.1) _ s r.2 in
    let f = bind_ok (octet_in Truncated c.0.1) _ s c.2 in
    let k = bind_ok (octet_in Truncated f.0.1) _ s f.2 in
    let v = bind_ok (validity_in (first / 8 % 4) k.0.1) _ s k.2 in
    let j = bind_ok (user_data_in (coding_of k.0.0) (bit first 64) v.0.1) _ s v.2 in
    let n = bind_ok (end_in TrailingOctets j.0.1) _ s j.2 in
    let made : Submit = record { reject_duplicates = bit first 4; status_report_request = bit first 32; user_data_header_indicator = bit first 64; reply_path = bit first 128; message_reference = r.0.0; destination_address = c.0.0; protocol_identifier = f.0.0; data_coding_scheme = k.0.0; validity_period = v.0.0; user_data = j.0.0 } in
    let v2 : validity_in ((first / 8 * 8 + 4 + first % 4) / 8 % 4) k.0.1 ≡ Ok v.0 = ap (λ (z : ℕ). validity_in (z % 4) k.0.1) (high_same first) ∙ v.1 in
    let b4 : bit (first / 8 * 8 + 4 + first % 4) 4 ≡ true = ap (λ (z : ℕ). z == 1) (rejects first) in
    let b32 : bit (first / 8 * 8 + 4 + first % 4) 32 ≡ bit first 32 = ap (λ (z : ℕ). z % 2 == 1) (report_same first) in
    let b64 : bit (first / 8 * 8 + 4 + first % 4) 64 ≡ bit first 64 = ap (λ (z : ℕ). z % 2 == 1) (header_same first) in
    let b128 : bit (first / 8 * 8 + 4 + first % 4) 128 ≡ bit first 128 = ap (λ (z : ℕ). z % 2 == 1) (path_same first) in
    let j2 : user_data_in (coding_of k.0.0) (bit (first / 8 * 8 + 4 + first % 4) 64) v.0.1 ≡ Ok j.0 = ap (λ (z : Bool). user_data_in (coding_of k.0.0) z v.0.1) b64 ∙ j.1 in
    let whole = rest_made (first / 8 * 8 + 4 + first % 4) xs r.0 c.0 f.0 k.0 v.0 j.0 n.0 r.1 c.1 f.1 k.1 v2 j2 n.1 in
    subst (λ (y : Submit). submit_rest_in (first / 8 * 8 + 4 + first % 4) xs ≡ Ok (record y { reject_duplicates = true })) (ok_is {E = TpduFault} made s n.2)
    (whole ∙ (λ i. Ok (record { reject_duplicates = b4 i; status_report_request = b32 i; user_data_header_indicator = b64 i; reply_path = b128 i; message_reference = r.0.0; destination_address = c.0.0; protocol_identifier = f.0.0; data_coding_scheme = k.0.0; validity_period = v.0.0; user_data = j.0.0 })))

pub submit_rejects : (t : List ℕ) (s : Submit) → submit_at t ≡ Ok s → submit_at (rejecting_duplicates t) ≡ Ok (record s { reject_duplicates = true })
unfolding submit_at
submit_rejects [] s e = absurd cc
submit_rejects (first ∷ rest) s e =
    let b = bind_ok (only_if (eqb (first % 4) 1) UnsupportedType) _ s e in
    let v = bind_ok (only_if (not (eqb (first / 8 % 4) 1)) UnsupportedValidity) _ s b.2 in
    let kind : eqb ((first / 8 * 8 + 4 + first % 4) % 4) 1 ≡ true = ap (λ (z : ℕ). eqb z 1) (kind_same first) ∙ passes _ UnsupportedType b.0 b.1 in
    let format : not (eqb ((first / 8 * 8 + 4 + first % 4) / 8 % 4) 1) ≡ true = ap (λ (z : ℕ). not (eqb (z % 4) 1)) (high_same first) ∙ passes _ UnsupportedValidity v.0 v.1 in
    rw (kind, format) (rest_rejects first rest s v.2)

-- ---- what is sent for an entry

rejecting_fits : (t : List ℕ) → length t ≤ 200 → length (rejecting_duplicates t) ≤ 200
rejecting_fits [] l = l
rejecting_fits (first ∷ rest) l = l

pub submit_fits : (o : OutRow) → length o.tpdu ≤ 200 → length (submit_of o) ≤ 200
submit_fits o l = cond_both o.rejects_duplicates (rejecting_duplicates o.tpdu) o.tpdu (λ (z : List ℕ). length z ≤ 200) (λ t. rejecting_fits o.tpdu l) (λ t. l)

pub submit_is : (h : List ℕ) (o : OutRow) → IsSubmitted o → IsSubmitTo (entry_seen h o).destination (entry_seen h o).user_data (submit_of o)
submit_is h o i =
    let s : Submit = i.0 in
    let same : s.user_data ≡ data_in (submit_at o.tpdu) = sym (ap (λ (z : Result Submit TpduFault). data_in z) i.1.0) in
    cond_both o.rejects_duplicates (rejecting_duplicates o.tpdu) o.tpdu (λ (z : List ℕ). IsSubmitTo (entry_seen h o).destination (entry_seen h o).user_data z)
    (λ t. record {
      submit = record s { reject_duplicates = true };
      reads = submit_up (rejecting_duplicates o.tpdu) (record s { reject_duplicates = true }) (submit_rejects o.tpdu s i.1.0);
      destination_is = i.1.1;
      user_data_is = same;
    })
    (λ t. record { submit = s; reads = submit_up o.tpdu s i.1.0; destination_is = i.1.1; user_data_is = same })

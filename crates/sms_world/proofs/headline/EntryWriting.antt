-- What an owner writes: its first entry has the next number, and each SUBMIT is read as it was meant.
use Rattle.std.proofs.Common.{◌≡◌, ℕ, zero, suc, ◌+◌, List, [], ◌∷◌, length, Bool, true, false, refl, sym, ◌∙◌, ap, subst, ⊎_elim, Some, None, Result, Ok, Err}
use Rattle.std.specs.Prelude.{nat_lt, min, slice_get}
use Rattle.std.specs.List.{AllByRecursion}
use Rattle.std.proofs.lemmas.Bool.{cases_eq, cond_both}
use Rattle.sms_base.specs.Address.{IsAddress, address_of}
use Rattle.sms_base.specs.declared.address.Address.{Address}
use Rattle.sms_base.specs.declared.address_error.AddressError.{AddressError}
use Rattle.sms_alphabet.specs.declared.scheme.Coding.{Coding}
use Rattle.sms_alphabet.specs.declared.scheme.Coding.TheVariants.{Septets, Octets, Ucs2, Compressed}
use Rattle.sms_concat.specs.Splitting.{split_of}
use Rattle.sms_concat.specs.TextContent.{content_of_text}
use Rattle.sms_concat.specs.UserData.{IsUserData, body_octets, data_length, header_of, is_there}
use Rattle.sms_concat.specs.declared.content.Part.{Part as PartOf}
use Rattle.sms_concat.specs.declared.content.UserData.{UserData}
use Rattle.sms_concat.specs.declared.split_error.SplitError.{SplitError}
use Rattle.sms_concat.proofs.Bodies.{user_data_is}
use Rattle.sms_intake.specs.PartBodies.{bodies_of, body_of}
use Rattle.sms_rows.specs.table.Table.{put, row_at}
use Rattle.sms_rows.proofs.table.Tables.{row_at_put, row_at_put_other}
use Rattle.sms_tpdu.specs.TpduGrammar.{IsSubmitData, IsWrittenSubmit}
use Rattle.sms_tpdu.specs.TpduReading.{submit_at}
use Rattle.sms_tpdu.specs.declared.carrier.Carrier.TheVariants.{InData}
use Rattle.sms_tpdu.specs.declared.submit.Submit.{Submit as SubmitOf}
use Rattle.sms_tpdu.specs.declared.up.Up.TheVariants.{Submit}
use Rattle.sms_tpdu.proofs.Submits.{submit_again}
use Rattle.sms_tpdu.proofs.WrittenUnits.{written_up}
use Rattle.sms_handset_rows.specs.declared.outbox.out_entry.EntryState.TheVariants.{Sending}
use Rattle.sms_handset_rows.specs.declared.outbox.out_entry.OutEntry.{OutEntry}
use Rattle.sms_handset_rows.specs.outbox.Keys.{out_key}
use Rattle.sms_handset_rows.specs.outbox.References.{held_message_references, held_references, next_free}
use Rattle.sms_handset_rows.specs.outbox.Submits.{packed_behind, submit_for, submit_octets, written_entry}
use Rattle.sms_handset_rows.proofs.outbox.PartFields.{carries}
use Rattle.sms_handset_rows.proofs.outbox.SoundWriting.{IsWritable}
use Rattle.sms_handset_draft.specs.Draft.{Core, Draft, draft_of}
use Rattle.sms_handset_draft.specs.Outbox.{follow, lapse, lapse_rows}
use Rattle.sms_handset.specs.HandsetEvent.{wrote}
use Rattle.sms_handset.specs.OwnersActs.{count_split, fits_outbox, write, write_part, write_parts, write_split, write_to, written}
use Rattle.sms_handset.specs.declared.refusal.Refusal.{Refusal}
use Rattle.sms_handset.specs.declared.refusal.Refusal.TheVariants.{OutboxFull}
use Rattle.sms_handset.proofs.KeptByStages.{AnyEntry, IfDone, KeptByOffers, acted_keeps, lapse_keeps, lapses_each, offer_keeps}

-- ---- the outbox has an entry of that number

abbrev pub Has : ℕ → List OutEntry → Type 0
Has n os = (o : OutEntry) × (row_at out_key n os ≡ Some o)

own_has : (x : OutEntry) (os : List OutEntry) → Has x.number (put out_key x os)
own_has x os = (x, row_at_put out_key x os)

put_has : (n : ℕ) (x : OutEntry) (os : List OutEntry) → Has n os → Has n (put out_key x os)
put_has n x os (o, at) = ⊎_elim
    (λ (e : x.number ≡ n). subst (λ (k : ℕ). Has k (put out_key x os)) e (own_has x os))
    (λ (ne : x.number ≡ n → ⊥). let found : Has n (put out_key x os) = (o, row_at_put_other out_key n x os ne ∙ at) in found)
    (cases_eq x.number n)

module _ (n : ℕ) where
  abbrev HasIn : Draft → Type 0
  HasIn d = Has n d.rows.outbox

  abbrev IfHas : Result Draft Refusal → Type 0
  IfHas r = IfDone HasIn r

  -- ---- what follows

  lapsed : (d : Draft) → HasIn d → HasIn (lapse_rows d.rows.outbox (record d { is_recovered = false }))
  lapsed d k = lapses_each HasIn AnyEntry (λ o known. tt) (λ x e known here. put_has n x e.rows.outbox here) d.rows.outbox (record d { is_recovered = false }) (λ o i. tt) k

  offers_kept : KeptByOffers HasIn HasIn
  offers_kept = record {
    nothing = λ d k. k;
    entry = λ o d due idle k. put_has n (record o { state = Sending; tries = min (o.tries + 1) 255; due = None }) d.rows.outbox k;
    notice_again = λ x d i idle k. k;
    notice_first = λ d next idle k. k;
  }

  follow_has : (d : Draft) → HasIn d → HasIn (follow d)
  follow_has d k = offer_keeps HasIn HasIn offers_kept (lapse d) (lapse_keeps HasIn lapsed d k)

  -- ---- writing

  parts_has : (to : Address) (report is_long : Bool) (ps : List PartOf) (d : Draft) → HasIn d → HasIn (write_parts to report is_long ps d)
  parts_has to report is_long [] d k = k
  parts_has to report is_long (p ∷ ps) d k =
      let m = next_free d.rows.counters.message_reference (held_message_references d.rows.outbox) in
      let r = next_free d.rows.counters.reference (held_references d.notices d.rows.outbox) in
      parts_has to report is_long ps (write_part to report is_long p d) (put_has n (written_entry d.rows.counters.entry m r to report is_long p) d.rows.outbox k)

  first_has : (to : Address) (report is_long : Bool) (ps : List PartOf) (d : Draft) (i : ℕ) (p : PartOf) → slice_get ps i ≡ Some p → d.rows.counters.entry ≡ n → HasIn (write_parts to report is_long ps d)
  first_has to report is_long [] d i p e q = absurd cc
  first_has to report is_long (x ∷ ps) d i p e q =
      let m = next_free d.rows.counters.message_reference (held_message_references d.rows.outbox) in
      let r = next_free d.rows.counters.reference (held_references d.notices d.rows.outbox) in
      let w : OutEntry = written_entry d.rows.counters.entry m r to report is_long x in
      parts_has to report is_long ps (write_part to report is_long x d) (subst (λ (k : ℕ). Has k (put out_key w d.rows.outbox)) q (own_has w d.rows.outbox))

  split_counts : (is_long : Bool) (d : Draft) → (count_split is_long d).rows.counters.entry ≡ d.rows.counters.entry
  split_counts false d = refl
  split_counts true d = refl

  to_has : (report : Bool) (ps : List PartOf) (a : Address) (d : Draft) (i : ℕ) (p : PartOf) → slice_get ps i ≡ Some p → d.rows.counters.entry ≡ n → IfHas (write_to report ps (Ok a) d)
  to_has report ps a d i p e q =
      let is_long = nat_lt 1 (length ps) in
      cond_both (fits_outbox (length ps) d) (Ok (written a report ps d)) (Err OutboxFull) (λ (z : Result Draft Refusal). IfHas z)
      (λ t. first_has a report is_long ps (count_split is_long d) i p e (split_counts is_long d ∙ q)) (λ t. tt)

  pub wrote_has : (text to : List ℕ) (report : Bool) (c : Core) (d : Draft) (ps : List PartOf) (a : Address) (i : ℕ) (p : PartOf) → split_of (content_of_text text) c.rows.counters.concat_reference ≡ Ok ps
      → address_of 1 1 to ≡ Ok a → slice_get ps i ≡ Some p → c.rows.counters.entry ≡ n → wrote text to report c ≡ Ok d → HasIn d
  wrote_has text to report c d ps a i p split address e q is =
      let wrote_to : IfHas (write_to report ps (address_of 1 1 to) (draft_of c)) =
      subst (λ (z : Result Address AddressError). IfHas (write_to report ps z (draft_of c))) (sym address) (to_has report ps a (draft_of c) i p e q) in
      let wrote_split : IfHas (write text to report (draft_of c)) = subst (λ (z : Result (List PartOf) SplitError). IfHas (write_split to report z (draft_of c))) (sym split) wrote_to in
      subst (λ (z : Result Draft Refusal). IfHas z) is (acted_keeps HasIn HasIn follow_has (write text to report (draft_of c)) wrote_split)

-- ---- the SUBMIT of a part

pub same_octets : (header : List ℕ) (coding : Coding) (units : List ℕ) → body_octets header coding units ≡ packed_behind header coding units
same_octets header Septets units = refl
same_octets header Octets units = refl
same_octets header Ucs2 units = refl
same_octets header Compressed units = refl

abbrev user_with : PartOf → List ℕ → UserData
user_with part octets = record {
  header_indicator = is_there (header_of part.key);
  length = data_length part.content.coding (length (header_of part.key)) (length part.content.units);
  octets = octets;
}

pub submit_reads : (message_reference : ℕ) (destination : Address) (report : Bool) (part : PartOf) → IsAddress destination → IsWritable part
    → submit_at (submit_octets (submit_for message_reference destination report part)) ≡ Ok (submit_for message_reference destination report part)
submit_reads message_reference destination report part valid is =
    let s : SubmitOf = submit_for message_reference destination report part in
    let packed : List ℕ = packed_behind (header_of part.key) part.content.coding part.content.units in
    let user : IsUserData (header_of part.key) part.content (user_with part packed) =
    subst (λ (o : List ℕ). IsUserData (header_of part.key) part.content (user_with part o)) (same_octets (header_of part.key) part.content.coding part.content.units)
    (user_data_is (header_of part.key) part.content is.0.units) in
    let data_is : IsSubmitData s = carries part (user_with part packed) message_reference destination report is.0 is.1 user in
    let w : IsWrittenSubmit (submit_octets s) s = ([], valid, refl, data_is, refl) in
    submit_again (submit_octets s) s (written_up InData (submit_octets s) (Submit s) w)

-- ---- the parts of a text

pub body_at : (ps : List PartOf) (i : ℕ) (p : PartOf) → slice_get ps i ≡ Some p → slice_get (bodies_of ps) i ≡ Some (body_of p)
body_at [] i p e = absurd cc
body_at (x ∷ ps) zero p e = let same : x ≡ p = cc in ap (λ (z : PartOf). Some (body_of z)) same
body_at (x ∷ ps) (suc i) p e = body_at ps i p e

pub writable_at : (ps : List PartOf) (i : ℕ) (p : PartOf) → AllByRecursion (λ (z : PartOf). IsWritable z) ps → slice_get ps i ≡ Some p → IsWritable p
writable_at [] i p all e = absurd cc
writable_at (x ∷ ps) zero p all e = let same : x ≡ p = cc in subst (λ (z : PartOf). IsWritable z) same all.0
writable_at (x ∷ ps) (suc i) p all e = writable_at ps i p all.1 e

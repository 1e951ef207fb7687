-- A part is done: it is looked up so, and all else as before.
use Rattle.std.proofs.Common.{◌≡◌, ◌⊎◌, ℕ, ◌+◌, ◌*◌, ◌<◌, arith, List, true, refl, sym, ◌∙◌, ap, subst, inl, inr, ⊎_elim, Option, Some}
use Rattle.std.specs.Option.{option_map}
use Rattle.sms_base.specs.Among.{Among}
use Rattle.sms_base.specs.declared.final_state.FinalState.{FinalState}
use Rattle.sms_base.specs.declared.holder.Holder.TheVariants.{Part}
use Rattle.sms_centre_rows.specs.messages.Messages.{part_at, part_key, part_reaching}
use Rattle.sms_centre_rows.specs.declared.messages.message.MessageRow.{MessageRow}
use Rattle.sms_centre_rows.specs.declared.messages.part.PartRow.{PartRow}
use Rattle.sms_rows.proofs.table.Tables.{found_among, found_key}
use Rattle.sms_rows.specs.table.Keys.{pair_key}
use Rattle.sms_rows.specs.table.Table.{row_at}
use Rattle.sms_tpdu.specs.MoreMessages.{compared}
use Rattle.sms_centre_rows.proofs.waiting.Amending.{row_at_amended, row_at_amended_other}
use Rattle.sms_centre_rows.specs.waiting.Revisions.{amended}
use Rattle.sms_centre_rows.specs.waiting.Trying.{finished}
use Rattle.sms_centre_spec.proofs.SoundStores.{SoundStore}
use Rattle.sms_centre_spec.specs.Draft.{Store, parts_in}
use Rattle.sms_world_model.specs.Submission.{Submission}
use Rattle.sms_world_model.specs.World.{Allocation, Message}
use Rattle.sms_world.proofs.centres_refine_the_world.ByOctets.{by_octet_is, by_octet_same}
use Rattle.sms_world.proofs.centres_refine_the_world.Entering.{cases_pair}
use Rattle.sms_world.specs.centres_refine_the_world.RefinesGiven.{RefinesHolders, given_part}
use Rattle.sms_world.specs.headline.SeenWorld.{HasRows, IsInTable, IsStateOf, PartSeen, RefinesTable, part_seen, parts_by}
use Rattle.sms_world.specs.centres_refine_the_world.RefinesReports.{ReportSeen}

-- the same but for whether it is done
abbrev pub IsSameGiven : PartSeen → PartSeen → Type 0
IsSameGiven x y = (x.reference ≡ y.reference) × (x.tpdu ≡ y.tpdu)

-- the part of that message and number
module _ (s : Store) (sound_store : SoundStore s) (id number : ℕ) (p : PartRow) (at : part_at id number (parts_in s) ≡ Some p) (small : number < 256) where
  among_parts : Among p (parts_in s)
  among_parts = found_among part_key (pair_key id number) p (parts_in s) at

  part_key_is : part_key p ≡ pair_key id number
  part_key_is = found_key part_key (pair_key id number) p (parts_in s) at

  pub part_id : p.id ≡ id
  part_id =
      let few = (sound_store.consistent.held.parts.numbers p among_parts).1 in
      let key = part_key_is in
      omega (arith, key, small, few)

  pub part_number : p.number ≡ number
  part_number =
      let few = (sound_store.consistent.held.parts.numbers p among_parts).1 in
      let key = part_key_is in
      omega (arith, key, small, few)

  abbrev pub done_parts : List PartRow
  done_parts = amended part_key part_reaching (part_key p) (finished p.progress) (parts_in s)

  abbrev pub done_seen : PartSeen
  done_seen = record { reference = p.reference; tpdu = compared p.tpdu; is_done = true }

  abbrev pub was_seen : PartSeen
  was_seen = record { reference = p.reference; tpdu = compared p.tpdu; is_done = p.progress.is_done }

  pub own_now : parts_by done_parts id number ≡ Some done_seen
  own_now =
      let there : row_at part_key (part_key p) (parts_in s) ≡ Some p = ap (λ (k : ℕ). row_at part_key k (parts_in s)) part_key_is ∙ at in
      let now : part_at id number done_parts ≡ Some (part_reaching (finished p.progress) p) =
      ap (λ (k : ℕ). row_at part_key k done_parts) (sym part_key_is) ∙ row_at_amended part_key part_reaching (λ x y. refl) (part_key p) (finished p.progress) (parts_in s)
      ∙ ap (λ (o : Option PartRow). option_map (λ (x : PartRow). part_reaching (finished p.progress) x) o) there in
      by_octet_is number (part_seen (part_at id number done_parts)) small ∙ ap part_seen now

  pub own_before : parts_by (parts_in s) id number ≡ Some was_seen
  own_before = by_octet_is number (part_seen (part_at id number (parts_in s))) small ∙ ap part_seen at

  pub other_now : (i j : ℕ) → ¬ ((i ≡ id) × (j ≡ number)) → parts_by done_parts i j ≡ parts_by (parts_in s) i j
  other_now i j ne =
      by_octet_same j (part_seen (part_at i j done_parts)) (part_seen (part_at i j (parts_in s)))
      (λ octet. ap part_seen (row_at_amended_other part_key part_reaching (λ x y. refl) (pair_key i j) (part_key p) (finished p.progress) (parts_in s)
      (λ key. ne (alike (sym part_key_is ∙ key) octet, alone (sym part_key_is ∙ key) octet))))
    where
      alike : 256 * id + number ≡ 256 * i + j → j < 256 → i ≡ id
      alike key octet = omega (arith, key, octet, small)

      alone : 256 * id + number ≡ 256 * i + j → j < 256 → j ≡ number
      alone key octet = omega (arith, key, octet, small)

  pub forth : (i j : ℕ) (x : PartSeen) → parts_by (parts_in s) i j ≡ Some x → (y : PartSeen) × ((parts_by done_parts i j ≡ Some y) × IsSameGiven x y)
  forth i j x e = ⊎_elim
      (λ (q : (i ≡ id) × (j ≡ number)).
      let own : Some was_seen ≡ Some x = sym own_before ∙ (λ t. parts_by (parts_in s) (sym q.0 t) (sym q.1 t)) ∙ e in
      let same : was_seen ≡ x = cc in
      let found : (y : PartSeen) × ((parts_by done_parts i j ≡ Some y) × IsSameGiven x y) =
      (done_seen, ((λ t. parts_by done_parts (q.0 t) (q.1 t)) ∙ own_now, (ap (λ (y : PartSeen). y.reference) (sym same), ap (λ (y : PartSeen). y.tpdu) (sym same)))) in found)
      (λ (ne : ¬ ((i ≡ id) × (j ≡ number))).
      let found : (y : PartSeen) × ((parts_by done_parts i j ≡ Some y) × IsSameGiven x y) = (x, (other_now i j ne ∙ e, (refl, refl))) in found)
      (cases_pair i id j number)

  pub back : (i j : ℕ) (y : PartSeen) → parts_by done_parts i j ≡ Some y → (x : PartSeen) × ((parts_by (parts_in s) i j ≡ Some x) × IsSameGiven x y)
  back i j y e = ⊎_elim
      (λ (q : (i ≡ id) × (j ≡ number)).
      let own : Some done_seen ≡ Some y = sym own_now ∙ (λ t. parts_by done_parts (sym q.0 t) (sym q.1 t)) ∙ e in
      let same : done_seen ≡ y = cc in
      let found : (x : PartSeen) × ((parts_by (parts_in s) i j ≡ Some x) × IsSameGiven x y) =
      (was_seen, ((λ t. parts_by (parts_in s) (q.0 t) (q.1 t)) ∙ own_before, (ap (λ (z : PartSeen). z.reference) same, ap (λ (z : PartSeen). z.tpdu) same))) in found)
      (λ (ne : ¬ ((i ≡ id) × (j ≡ number))).
      let found : (x : PartSeen) × ((parts_by (parts_in s) i j ≡ Some x) × IsSameGiven x y) = (y, (sym (other_now i j ne) ∙ e, (refl, refl))) in found)
      (cases_pair i id j number)

  given_alike : (m : MessageRow) (j moment : ℕ) (x y : PartSeen) → IsSameGiven x y → given_part m j x moment ≡ given_part m j y moment
  given_alike m j moment x y same = λ t. record { handset = m.handset; reference = same.0 t; holder = Part m.id j; moment = moment; tpdu = same.1 t }

  pub done_holders : (ms : ℕ → Option MessageRow) (rs : ℕ → Option ReportSeen) (down : List Allocation) → RefinesHolders ms (parts_by (parts_in s)) rs down → RefinesHolders ms (parts_by done_parts) rs down
  done_holders ms rs down h = record {
    part = λ i j m y e f.
        let x = back i j y f in
        let g = h.part i j m x.0 e x.1.0 in
        (g.0, subst (λ (z : Allocation). Among z down) (given_alike m j g.0 x.0 y x.1.1) g.1);
    report = h.report;
    of_part = λ g i j a e.
        let x = h.of_part g i j a e in
        let y = forth i j x.1 x.2.1 in
        (x.0, y.0, (x.2.0, y.1.0, x.2.2 ∙ given_alike x.0 j g.moment x.1 y.0 y.1.1));
    of_report = h.of_report;
  }

  pub done_rows : (u : Submission) (i : ℕ) → HasRows u (parts_by (parts_in s) i) → HasRows u (parts_by done_parts i)
  done_rows u i h = record {
    there = λ j y e. let x = back i j y e in h.there j x.0 x.1.0;
    only = λ j part has. let x = h.only j part has in let y = forth i j x.0 x.1 in (y.0, y.1.0);
  }

  -- of other messages nothing changes
  pub done_elsewhere : (i : ℕ) (m : MessageRow) (table : List Message) → ¬ (i ≡ id) → IsInTable m (parts_by (parts_in s) i) table → IsInTable m (parts_by done_parts i) table
  done_elsewhere i m table ne x = subst (λ (f : ℕ → Option PartSeen). IsInTable m f table) (λ t j. sym (other_now i j (λ q. ne q.0)) t) x

-- of a message that has ended the world doesn't show which parts are done
pub ended_unseen : (s : Store) (sound_store : SoundStore s) (id number : ℕ) (p : PartRow) (at : part_at id number (parts_in s) ≡ Some p) (small : number < 256) (ms : ℕ → Option MessageRow) (m : MessageRow) (f : FinalState) (table : List Message)
    → ms id ≡ Some m → m.state ≡ Some f → RefinesTable ms (parts_by (parts_in s)) table → RefinesTable ms (parts_by (done_parts s sound_store id number p at small)) table
ended_unseen s sound_store id number p at small ms m f table there final t = record {
  there = λ i x e. ⊎_elim
      (λ (q : i ≡ id).
      let rows : Some m ≡ Some x = sym there ∙ ap ms (sym q) ∙ e in
      let row : m ≡ x = cc in
      let y = t.there i x e in
      let ended : x.state ≡ Some f = ap (λ (z : MessageRow). z.state) (sym row) ∙ final in
      let was : IsStateOf (Some f) (parts_by (parts_in s) i) y.1 = subst (λ (o : Option FinalState). IsStateOf o (parts_by (parts_in s) i) y.1) ended y.2.2 in
      let now : IsStateOf (Some f) (parts_by (done_parts s sound_store id number p at small) i) y.1 = was in
      let found : IsInTable x (parts_by (done_parts s sound_store id number p at small) i) table =
      (y.0, y.1, (y.2.0, y.2.1, subst (λ (o : Option FinalState). IsStateOf o (parts_by (done_parts s sound_store id number p at small) i) y.1) (sym ended) now, done_rows s sound_store id number p at small y.0 i y.2.3)) in found)
      (λ (ne : i ≡ id → ⊥). done_elsewhere s sound_store id number p at small i x table ne (t.there i x e))
      (cases i);
  only = t.only;
}
  where
    cases : (i : ℕ) → (i ≡ id) ⊎ ¬ (i ≡ id)
    cases i = ⊎_elim (λ (q : (i ≡ id) × (number ≡ number)). inl q.0) (λ (ne : ¬ ((i ≡ id) × (number ≡ number))). inr (λ e. ne (e, refl))) (cases_pair i id number number)

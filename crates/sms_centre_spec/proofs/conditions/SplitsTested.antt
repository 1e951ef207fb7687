-- The test of split references holds exactly where messages that aren't wholly delivered were split apart.
use Rattle.std.proofs.Common.{◌≡◌, ℕ, List, filter_map, true, false, Option, Some, None, refl, sym, ◌∙◌, ap, ⊎_elim, cond, option_map}
use Rattle.std.specs.Prelude.{◌&&◌, ◌==◌}
use Rattle.std.specs.Str.{bytes_eq}
use Rattle.std.proofs.lemmas.Bool.{and_from, and_parts, cases_Bool, cond-true, cond-false, eq-eqb, eqb-true}
use Rattle.std.proofs.lemmas.Slice.Eq.{bytes_eq-Decides}
use Rattle.sms_base.specs.declared.address.Address.{Address}
use Rattle.sms_base.specs.AddressKind.{type_number}
use Rattle.sms_rows.specs.table.Table.{Rises}
use Rattle.sms_centre_rows.specs.declared.messages.message.MessageRow.{MessageRow}
use Rattle.sms_centre_rows.specs.messages.Messages.{message_key}
use Rattle.sms_centre_rows.specs.messages.SplitReferences.{is_delivered}
use Rattle.sms_centre_spec.specs.SoundRows.{AreSplitApart}
use Rattle.sms_centre_rows.specs.declared.conditions.splits.Split.{Split}
use Rattle.sms_centre_rows.specs.conditions.SplitTest.{is_same_split, split_of, split_under, splits_differ}
use Rattle.sms_centre_rows.proofs.conditions.AddressTested.{same_address}
use Rattle.sms_centre_spec.proofs.conditions.DifferTested.{by_from, by_to}
use Rattle.sms_centre_spec.proofs.conditions.HoldsApart.{preserved_differ, one_preserved}

-- ---- splits that are one

one_split : (a b : Split) → is_same_split a b ≡ true → a ≡ b
one_split a b e =
    let p = and_parts (a.ton == b.ton) ((a.npi == b.npi) && (bytes_eq a.source.digits b.source.digits && (bytes_eq a.handset.digits b.handset.digits && (a.reference == b.reference)))) e in
    let q = and_parts (a.npi == b.npi) (bytes_eq a.source.digits b.source.digits && (bytes_eq a.handset.digits b.handset.digits && (a.reference == b.reference))) p.1 in
    let r = and_parts (bytes_eq a.source.digits b.source.digits) (bytes_eq a.handset.digits b.handset.digits && (a.reference == b.reference)) q.1 in
    let s = and_parts (bytes_eq a.handset.digits b.handset.digits) (a.reference == b.reference) r.1 in
    let ton : a.ton ≡ b.ton = eqb-true a.ton b.ton p.0 in
    let npi : a.npi ≡ b.npi = eqb-true a.npi b.npi q.0 in
    let source : a.source.digits ≡ b.source.digits = (bytes_eq-Decides a.source.digits b.source.digits).0 r.0 in
    let handset : a.handset.digits ≡ b.handset.digits = (bytes_eq-Decides a.handset.digits b.handset.digits).0 s.0 in
    let reference : a.reference ≡ b.reference = eqb-true a.reference b.reference s.1 in
    ap (λ (n : ℕ). record a { ton = n }) ton
    ∙ ap (λ (n : ℕ). record a { ton = b.ton; npi = n }) npi
    ∙ ap (λ (d : List ℕ). record a { ton = b.ton; npi = b.npi; source = record { digits = d } }) source
    ∙ ap (λ (d : List ℕ). record b { handset = record { digits = d }; reference = a.reference }) handset
    ∙ ap (λ (n : ℕ). record b { reference = n }) reference

own_split : (a b : Split) → a ≡ b → is_same_split a b ≡ true
own_split a b e = ap (λ (x : Split). is_same_split a x) (sym e) ∙ itself
  where
    itself : is_same_split a a ≡ true
    itself =
        and_from (a.ton == a.ton) ((a.npi == a.npi) && (bytes_eq a.source.digits a.source.digits && (bytes_eq a.handset.digits a.handset.digits && (a.reference == a.reference)))) (eq-eqb a.ton a.ton refl)
        (and_from (a.npi == a.npi) (bytes_eq a.source.digits a.source.digits && (bytes_eq a.handset.digits a.handset.digits && (a.reference == a.reference))) (eq-eqb a.npi a.npi refl)
        (and_from (bytes_eq a.source.digits a.source.digits) (bytes_eq a.handset.digits a.handset.digits && (a.reference == a.reference)) ((bytes_eq-Decides a.source.digits a.source.digits).1 refl)
        (and_from (bytes_eq a.handset.digits a.handset.digits) (a.reference == a.reference) ((bytes_eq-Decides a.handset.digits a.handset.digits).1 refl) (eq-eqb a.reference a.reference refl))))

-- ---- the split of a message

record SplitSo (m : MessageRow) (s : Split) : Type 0 where
  undelivered : is_delivered m.state ≡ false
  reference : m.split_reference ≡ Some s.reference
  same : s ≡ split_under m s.reference

split_from : (m : MessageRow) (s : Split) (o : Option ℕ) → m.split_reference ≡ o → cond (is_delivered m.state) None (option_map (split_under m) o) ≡ Some s → SplitSo m s
split_from m s o is e = ⊎_elim
    (λ (t : is_delivered m.state ≡ true).
    let bad : None ≡ Some s = sym (cond-true (is_delivered m.state) None (option_map (split_under m) o) t) ∙ e in absurd cc)
    (λ (t : is_delivered m.state ≡ false). given o is (sym (cond-false (is_delivered m.state) None (option_map (split_under m) o) t) ∙ e) t)
    (cases_Bool (is_delivered m.state))
  where
    given : (o : Option ℕ) → m.split_reference ≡ o → option_map (split_under m) o ≡ Some s → is_delivered m.state ≡ false → SplitSo m s
    given None is e t = absurd cc
    given (Some r) is e t =
        let same : s ≡ split_under m r = cc in
        let own : s.reference ≡ r = ap (λ (x : Split). x.reference) same in
        record { undelivered = t; reference = is ∙ ap (λ (n : ℕ). Some n) (sym own); same = same ∙ ap (λ (n : ℕ). split_under m n) (sym own) }

split_to : (m : MessageRow) (r : ℕ) → is_delivered m.state ≡ false → m.split_reference ≡ Some r → split_of m ≡ Some (split_under m r)
split_to m r t is =
    cond-false (is_delivered m.state) None (option_map (split_under m) m.split_reference) t ∙ ap (λ (o : Option ℕ). option_map (split_under m) o) is

-- ---- all of it

abbrev split_with : Address → List ℕ → ℕ → Split
split_with a handset r = record { ton = type_number a.ton; npi = a.npi; source = record { digits = a.digits }; handset = record { digits = handset }; reference = r }

pub splits_from : (ms : List MessageRow) → splits_differ (filter_map split_of ms) ≡ true → AreSplitApart ms
splits_from ms e m n r a b source handset f g x y =
    let distinct = by_from is_same_split one_split own_split (filter_map split_of ms) e in
    let alike : split_of n ≡ Some (split_under m r) =
    split_to n r y g ∙ ap (λ (s : Address). Some (split_with s n.handset r)) (sym source) ∙ ap (λ (d : List ℕ). Some (split_with m.source d r)) (sym handset) in
    ap (λ (z : MessageRow). z.id) (one_preserved split_of m n (split_under m r) ms distinct a b (split_to m r x f) alike)

pub splits_to : (ms : List MessageRow) → Rises message_key ms → AreSplitApart ms → splits_differ (filter_map split_of ms) ≡ true
splits_to ms rises apart = by_to is_same_split one_split own_split (filter_map split_of ms)
    (preserved_differ split_of message_key ms rises
    (λ m n s a b e f.
    let p = split_from m s m.split_reference refl e in
    let q = split_from n s n.split_reference refl f in
    let alike : split_under m s.reference ≡ split_under n s.reference = sym p.same ∙ q.same in
    let handset : m.handset ≡ n.handset = ap (λ (x : Split). x.handset.digits) alike in
    let source : m.source ≡ n.source = same_address m.source n.source
    (and_from (type_number m.source.ton == type_number n.source.ton) ((m.source.npi == n.source.npi) && bytes_eq m.source.digits n.source.digits)
    (eq-eqb (type_number m.source.ton) (type_number n.source.ton) (ap (λ (x : Split). x.ton) alike))
    (and_from (m.source.npi == n.source.npi) (bytes_eq m.source.digits n.source.digits) (eq-eqb m.source.npi n.source.npi (ap (λ (x : Split). x.npi) alike))
    ((bytes_eq-Decides m.source.digits n.source.digits).1 (ap (λ (x : Split). x.source.digits) alike)))) in
    apart m n s.reference a b source handset p.reference q.reference p.undelivered q.undelivered))

-- Why a reading answers a fault: octets are left over behind a front that is read, or octets are missing that would be read.
use Rattle.std.proofs.Common.{◌≡◌, ℕ, Bool, true, false, List, [], ◌∷◌, ◌++◌, Result, Ok, Err, refl, sym, ap, subst, ◌∙◌, append_assoc, arith}
use Rattle.std.proofs.lemmas.List.{append-nil}
use Rattle.sms_base.specs.Reading.{◌>>=◌, only_if, octet_in, end_in, AreOctets}
use Rattle.sms_base.proofs.Steps.{bind_ok, ok_is}
use Rattle.sms_base.proofs.OctetLaws.{octets_behind}
use Rattle.sms_tpdu.specs.declared.fault.TpduFault.{TpduFault}
use Rattle.sms_tpdu.specs.declared.fault.TpduFault.TheVariants.{Truncated, TrailingOctets}

abbrev pub Reading : Type 0 → Type 0
Reading X = List ℕ → Result (X × List ℕ) TpduFault

-- ---- results

pub no_fault : {X : Type 0} (x : X) (e : TpduFault) → (let r : Result X TpduFault = Ok x in r ≡ Err e) → ⊥
no_fault x e p = absurd cc

pub fault_is : {X : Type 0} (d e : TpduFault) → (let r : Result X TpduFault = Err d in r ≡ Err e) → d ≡ e
fault_is d e p = cc

-- a fault of a reading that goes on is that of the first, or of what follows
pub data Cause {A B : Type 0} (r : Result A TpduFault) (k : A → Result B TpduFault) (e : TpduFault) : Type 0 where
  at_once : r ≡ Err e → Cause r k e
  behind : (x : A) → r ≡ Ok x → k x ≡ Err e → Cause r k e

pub cause_of : {A B : Type 0} (r : Result A TpduFault) (k : A → Result B TpduFault) (e : TpduFault) → (r >>= k) ≡ Err e → Cause r k e
cause_of (Ok x) k e p = behind x refl p
cause_of {A} {B} (Err d) k e p = at_once (ap (λ (f : TpduFault). Err f) (fault_is {X = B} d e p))

pub untrailed_bind : {A B : Type 0} (r : Result A TpduFault) (k : A → Result B TpduFault) → (r ≡ Err TrailingOctets → ⊥) → ((x : A) → k x ≡ Err TrailingOctets → ⊥) → (r >>= k) ≡ Err TrailingOctets → ⊥
untrailed_bind r k h g p = elim (cause_of r k TrailingOctets p) [
  | at_once q ↦ h q
  | behind x q s ↦ g x s
]

pub untrailed_test : {B : Type 0} (b : Bool) (bad : TpduFault) (r : Result B TpduFault) → (bad ≡ TrailingOctets → ⊥) → (r ≡ Err TrailingOctets → ⊥) → (only_if b bad >>= (λ u. r)) ≡ Err TrailingOctets → ⊥
untrailed_test true bad r h g p = g p
untrailed_test {B} false bad r h g p = h (fault_is {X = B} bad TrailingOctets p)

-- ---- a field that is read is read in front of anything, and never finds octets left over

pub record IsField {X : Type 0} (r : Reading X) : Type 0 where
  pub front : (xs : List ℕ) (x : X × List ℕ) → AreOctets xs → r xs ≡ Ok x → (text : List ℕ) × ((xs ≡ text ++ x.1) × ((ys : List ℕ) → r (text ++ ys) ≡ Ok (x.0, ys)))
  pub untrailed : (xs : List ℕ) → r xs ≡ Err TrailingOctets → ⊥

pub octet_field_is : IsField (octet_in Truncated)
octet_field_is = record { front = octet_front; untrailed = octet_untrailed }
  where
    octet_front : (xs : List ℕ) (x : ℕ × List ℕ) → AreOctets xs → octet_in Truncated xs ≡ Ok x → (text : List ℕ) × ((xs ≡ text ++ x.1) × ((ys : List ℕ) → octet_in Truncated (text ++ ys) ≡ Ok (x.0, ys)))
    octet_front [] x fits e = absurd cc
    octet_front (o ∷ xs) x fits e =
        subst (λ (y : ℕ × List ℕ). (text : List ℕ) × ((o ∷ xs ≡ text ++ y.1) × ((ys : List ℕ) → octet_in Truncated (text ++ ys) ≡ Ok (y.0, ys)))) (ok_is {E = TpduFault} (o, xs) x e) (o ∷ [], (refl, λ ys. refl))

    octet_untrailed : (xs : List ℕ) → octet_in Truncated xs ≡ Err TrailingOctets → ⊥
    octet_untrailed [] e = absurd cc
    octet_untrailed (o ∷ xs) e = absurd cc

pub pure_field : {X : Type 0} (x : X) → IsField {X = X} (λ xs. Ok (x, xs))
pure_field {X} x = record {
  front = λ xs y fits e. subst (λ (z : X × List ℕ). (text : List ℕ) × ((xs ≡ text ++ z.1) × ((ys : List ℕ) → (let r : Result (X × List ℕ) TpduFault = Ok (x, text ++ ys) in r ≡ Ok (z.0, ys))))) (ok_is {E = TpduFault} (x, xs) y e) ([], (refl, λ ys. refl));
  untrailed = λ xs e. no_fault {X = X × List ℕ} (x, xs) TrailingOctets e;
}

pub bind_field : {X Y : Type 0} (r : Reading X) (k : X × List ℕ → Result (Y × List ℕ) TpduFault) → IsField r → ((x : X) → IsField (λ rest. k (x, rest))) → IsField (λ xs. r xs >>= k)
bind_field {X} {Y} r k hr hk = record {
  front = λ xs y fits e.
      let a = bind_ok (r xs) k y e in
      let f = hr.front xs a.0 fits a.1 in
      let rest = octets_behind f.0 a.0.1 (subst AreOctets f.1.0 fits) in
      let g = (hk a.0.0).front a.0.1 y rest a.2 in
      let whole : xs ≡ (f.0 ++ g.0) ++ y.1 = f.1.0 ∙ ap (λ (l : List ℕ). f.0 ++ l) g.1.0 ∙ sym (append_assoc f.0 g.0 y.1) in (
        f.0 ++ g.0,
        (
          whole,
          λ ys.
              ap (λ (l : List ℕ). r l >>= k) (append_assoc f.0 g.0 ys) ∙ ap (λ (m : Result (X × List ℕ) TpduFault). m >>= k) (f.1.1 (g.0 ++ ys)) ∙ g.1.1 ys,
        ),
      );
  untrailed = λ xs e. untrailed_bind (r xs) k (hr.untrailed xs) (λ x p. (hk x.0).untrailed x.1 p) e;
}

-- ---- octets left over

-- Octets are left over only behind a front that is read.
abbrev pub Trails : {Z : Type 0} → (List ℕ → Result Z TpduFault) → Type 0
Trails {Z} read = (xs : List ℕ) → AreOctets xs → read xs ≡ Err TrailingOctets → (front : List ℕ) × (octet : ℕ) × (rest : List ℕ) × (z : Z) × (xs ≡ front ++ octet ∷ rest) × (read front ≡ Ok z)

pub trails_end : {Z : Type 0} (z : Z) → Trails (λ xs. end_in TrailingOctets xs >>= (λ u. Ok z))
trails_end {Z} z [] fits e = absurd (no_fault {X = Z} z TrailingOctets e)
trails_end z (o ∷ rest) fits e = ([], o, rest, z, refl, refl)

pub trails_bind : {X Z : Type 0} (r : Reading X) (k : X × List ℕ → Result Z TpduFault) → IsField r → ((x : X) → Trails (λ rest. k (x, rest))) → Trails (λ xs. r xs >>= k)
trails_bind {X} {Z} r k hr hk xs fits e = elim (cause_of (r xs) k TrailingOctets e) [
  | at_once p ↦ absurd (hr.untrailed xs p)
  | behind x p q ↦
      let f = hr.front xs x fits p in
      let t = hk x.0 x.1 (octets_behind f.0 x.1 (subst AreOctets f.1.0 fits)) q in
      let whole : xs ≡ (f.0 ++ t.0) ++ t.1 ∷ t.2 = f.1.0 ∙ ap (λ (l : List ℕ). f.0 ++ l) t.4 ∙ sym (append_assoc f.0 t.0 (t.1 ∷ t.2)) in
      (f.0 ++ t.0, t.1, t.2, t.3, whole, ap (λ (m : Result (X × List ℕ) TpduFault). m >>= k) (f.1.1 t.0) ∙ t.5)
]

pub trails_test : {Z : Type 0} (b : Bool) (bad : TpduFault) (read : List ℕ → Result Z TpduFault) → (bad ≡ TrailingOctets → ⊥) → Trails read → Trails (λ xs. only_if b bad >>= (λ u. read xs))
trails_test true bad read other h xs fits e = h xs fits e
trails_test {Z} false bad read other h xs fits e = absurd (other (fault_is {X = Z} bad TrailingOctets e))

-- ---- octets missing

-- Where octets are missing, some that are added complete the field; and some octets are one.
pub record Completes {X : Type 0} (r : Reading X) : Type 0 where
  pub grows : (xs : List ℕ) → AreOctets xs → r xs ≡ Err Truncated → (ys : List ℕ) × (AreOctets ys × ((x : X) × (r (xs ++ ys) ≡ Ok (x, []))))
  pub starts : (ys : List ℕ) × (AreOctets ys × ((x : X) × (r ys ≡ Ok (x, []))))

pub record CompletesWhole {Z : Type 0} (read : List ℕ → Result Z TpduFault) : Type 0 where
  pub grows : (xs : List ℕ) → AreOctets xs → read xs ≡ Err Truncated → (ys : List ℕ) × (AreOctets ys × ((z : Z) × (read (xs ++ ys) ≡ Ok z)))
  pub starts : (ys : List ℕ) × (AreOctets ys × ((z : Z) × (read ys ≡ Ok z)))

pub joined_fits : (xs ys : List ℕ) → AreOctets xs → AreOctets ys → AreOctets (xs ++ ys)
joined_fits [] ys h k = k
joined_fits (x ∷ xs) ys h k = (h.0, joined_fits xs ys h.1 k)

-- what is read with nothing behind it is read with anything behind it
extended : {X : Type 0} (r : Reading X) → IsField r → (xs : List ℕ) (x : X) → AreOctets xs → r xs ≡ Ok (x, []) → (ys : List ℕ) → r (xs ++ ys) ≡ Ok (x, ys)
extended r h xs x fits e ys =
    let f = h.front xs (x, []) fits e in
    let same : xs ≡ f.0 = f.1.0 ∙ append-nil f.0 in
    ap (λ (l : List ℕ). r (l ++ ys)) same ∙ f.1.1 ys

pub octet_completes : Completes (octet_in Truncated)
octet_completes = record { grows = octet_grows; starts = (0 ∷ [], ((omega arith, tt), (0, refl))) }
  where
    octet_grows : (xs : List ℕ) → AreOctets xs → octet_in Truncated xs ≡ Err Truncated → (ys : List ℕ) × (AreOctets ys × ((x : ℕ) × (octet_in Truncated (xs ++ ys) ≡ Ok (x, []))))
    octet_grows [] fits e = (0 ∷ [], ((omega arith, tt), (0, refl)))
    octet_grows (o ∷ xs) fits e = absurd cc

pub pure_completes : {X : Type 0} (x : X) → Completes {X = X} (λ xs. Ok (x, xs))
pure_completes {X} x = record {
  grows = λ xs fits e. absurd (no_fault {X = X × List ℕ} (x, xs) Truncated e);
  starts = ([], (tt, (x, refl)));
}

pub bind_completes : {X Y : Type 0} (r : Reading X) (k : X × List ℕ → Result (Y × List ℕ) TpduFault) → IsField r → Completes r → ((x : X) → Completes (λ rest. k (x, rest))) → Completes (λ xs. r xs >>= k)
bind_completes {X} {Y} r k f hr hk = record {
  grows = λ xs fits e. elim (cause_of (r xs) k Truncated e) [
    | at_once p ↦
        let g = hr.grows xs fits p in
        let s = (hk g.1.1.0).starts in
        let both = joined_fits xs g.0 fits g.1.0 in
        let one : r (xs ++ (g.0 ++ s.0)) ≡ Ok (g.1.1.0, s.0) = ap r (sym (append_assoc xs g.0 s.0)) ∙ extended r f (xs ++ g.0) g.1.1.0 both g.1.1.1 s.0 in
        (g.0 ++ s.0, (joined_fits g.0 s.0 g.1.0 s.1.0, (s.1.1.0, ap (λ (m : Result (X × List ℕ) TpduFault). m >>= k) one ∙ s.1.1.1)))
    | behind x p q ↦
        let t = f.front xs x fits p in
        let g = (hk x.0).grows x.1 (octets_behind t.0 x.1 (subst AreOctets t.1.0 fits)) q in
        let one : r (xs ++ g.0) ≡ Ok (x.0, x.1 ++ g.0) = ap (λ (l : List ℕ). r (l ++ g.0)) t.1.0 ∙ ap r (append_assoc t.0 x.1 g.0) ∙ t.1.1 (x.1 ++ g.0) in
        (g.0, (g.1.0, (g.1.1.0, ap (λ (m : Result (X × List ℕ) TpduFault). m >>= k) one ∙ g.1.1.1)))
  ];
  starts =
      let s = hr.starts in
      let t = (hk s.1.1.0).starts in
      (s.0 ++ t.0, (joined_fits s.0 t.0 s.1.0 t.1.0, (t.1.1.0, ap (λ (m : Result (X × List ℕ) TpduFault). m >>= k) (extended r f s.0 s.1.1.0 s.1.0 s.1.1.1 t.0) ∙ t.1.1.1)));
}

pub whole_completes : {X Z : Type 0} (r : Reading X) (k : X × List ℕ → Result Z TpduFault) → IsField r → Completes r → ((x : X) → CompletesWhole (λ rest. k (x, rest))) → CompletesWhole (λ xs. r xs >>= k)
whole_completes {X} {Z} r k f hr hk = record {
  grows = λ xs fits e. elim (cause_of (r xs) k Truncated e) [
    | at_once p ↦
        let g = hr.grows xs fits p in
        let s = (hk g.1.1.0).starts in
        let both = joined_fits xs g.0 fits g.1.0 in
        let one : r (xs ++ (g.0 ++ s.0)) ≡ Ok (g.1.1.0, s.0) = ap r (sym (append_assoc xs g.0 s.0)) ∙ extended r f (xs ++ g.0) g.1.1.0 both g.1.1.1 s.0 in
        (g.0 ++ s.0, (joined_fits g.0 s.0 g.1.0 s.1.0, (s.1.1.0, ap (λ (m : Result (X × List ℕ) TpduFault). m >>= k) one ∙ s.1.1.1)))
    | behind x p q ↦
        let t = f.front xs x fits p in
        let g = (hk x.0).grows x.1 (octets_behind t.0 x.1 (subst AreOctets t.1.0 fits)) q in
        let one : r (xs ++ g.0) ≡ Ok (x.0, x.1 ++ g.0) = ap (λ (l : List ℕ). r (l ++ g.0)) t.1.0 ∙ ap r (append_assoc t.0 x.1 g.0) ∙ t.1.1 (x.1 ++ g.0) in
        (g.0, (g.1.0, (g.1.1.0, ap (λ (m : Result (X × List ℕ) TpduFault). m >>= k) one ∙ g.1.1.1)))
  ];
  starts =
      let s = hr.starts in
      let t = (hk s.1.1.0).starts in
      (s.0 ++ t.0, (joined_fits s.0 t.0 s.1.0 t.1.0, (t.1.1.0, ap (λ (m : Result (X × List ℕ) TpduFault). m >>= k) (extended r f s.0 s.1.1.0 s.1.0 s.1.1.1 t.0) ∙ t.1.1.1)));
}

pub end_completes : {Z : Type 0} (z : Z) → CompletesWhole (λ xs. end_in TrailingOctets xs >>= (λ u. Ok z))
end_completes {Z} z = record { grows = end_grows; starts = ([], (tt, (z, refl))) }
  where
    end_grows : (xs : List ℕ) → AreOctets xs → (end_in TrailingOctets xs >>= (λ u. Ok z)) ≡ Err Truncated → (ys : List ℕ) × (AreOctets ys × ((w : Z) × ((end_in TrailingOctets (xs ++ ys) >>= (λ u. Ok z)) ≡ Ok w)))
    end_grows [] fits e = absurd (no_fault {X = Z} z Truncated e)
    end_grows (o ∷ xs) fits e = absurd (trailing (fault_is {X = Z} TrailingOctets Truncated e))
      where
        trailing : TrailingOctets ≡ Truncated → ⊥
        trailing p = absurd cc

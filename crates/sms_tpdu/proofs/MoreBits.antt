-- What TP-MMS leaves as it is.
use Rattle.std.proofs.Common.{◌≡◌, ℕ, ◌+◌, ◌*◌, ◌/◌, ◌%◌, ◌<◌, Bool, true, false, not, cond, eqb, List, [], ◌∷◌, Result, Ok, Err, refl, sym, ap, ◌∙◌, arith, bytes_eq}
use Rattle.std.specs.Prelude.{◌↔◌}
use Rattle.std.proofs.lemmas.Bool.{eqb-true, eq-eqb, and_parts, and_from}
use Rattle.std.proofs.lemmas.Slice.Eq.{bytes_eq-Decides}
use Rattle.sms_base.specs.Reading.{◌>>=◌, only_if, octet_in, end_in, AreOctets}
use Rattle.sms_alphabet.specs.DataCodingScheme.{coding_of}
use Rattle.sms_tpdu.specs.declared.fault.TpduFault.{TpduFault}
use Rattle.sms_tpdu.specs.declared.fault.TpduFault.TheVariants.{Truncated, TrailingOctets, UnsupportedType}
use Rattle.sms_tpdu.specs.declared.carrier.Carrier.TheVariants.{InData}
use Rattle.sms_tpdu.specs.declared.deliver.Deliver.{Deliver as DeliverOf}
use Rattle.sms_tpdu.specs.declared.status_report.StatusReport.{StatusReport as StatusReportOf}
use Rattle.sms_tpdu.specs.declared.down.Down.TheVariants.{Deliver, StatusReport}
use Rattle.sms_tpdu.specs.Bits.{bit, bit_value}
use Rattle.sms_tpdu.specs.AddressReading.{address_in}
use Rattle.sms_tpdu.specs.TimeReading.{time_in}
use Rattle.sms_tpdu.specs.UserDataReading.{user_data_in}
use Rattle.sms_tpdu.specs.TpduReading.{deliver_at, status_report_at, status_tail_in, data_down_at, down_at}
use Rattle.sms_tpdu.specs.MoreMessages.{octet_with_more_messages, with_more_messages, compared, same_message, reading_with_more_messages}

-- ---- the first octet

one_bit : (b : Bool) → (eqb (bit_value b 4 / 4) 1 ≡ b) × (bit_value b 4 % 4 ≡ 0) × (bit_value b 4 < 8)
one_bit true = (refl, refl, omega arith)
one_bit false = (refl, refl, omega arith)

-- what the first octet says beside the bit
pub record Keeps (t first : ℕ) (b : Bool) : Type 0 where
  pub kind : t % 4 ≡ first % 4
  pub high : t / 8 ≡ first / 8
  pub told : bit t 4 ≡ b

pub keeps : (more : Bool) (first : ℕ) → Keeps (octet_with_more_messages more first) first (not more)
keeps more first =
    let b = one_bit (not more) in
    let v = bit_value (not more) 4 in
    let four : (8 * (first / 8) + v + first % 4) / 4 % 2 ≡ v / 4 = omega (arith, b.1, b.2) in
    record {
      kind = omega (arith, b.1, b.2);
      high = omega (arith, b.1, b.2);
      told = ap (λ (n : ℕ). eqb n 1) four ∙ b.0;
    }

eighth : (t first : ℕ) → t / 8 ≡ first / 8 → (bit t 8 ≡ bit first 8) × (bit t 32 ≡ bit first 32) × (bit t 64 ≡ bit first 64) × (bit t 128 ≡ bit first 128)
eighth t first e =
    let a : t / 8 % 2 ≡ first / 8 % 2 = omega (arith, e) in
    let b : t / 32 % 2 ≡ first / 32 % 2 = omega (arith, e) in
    let c : t / 64 % 2 ≡ first / 64 % 2 = omega (arith, e) in
    let d : t / 128 % 2 ≡ first / 128 % 2 = omega (arith, e) in
    (ap (λ (n : ℕ). eqb n 1) a, ap (λ (n : ℕ). eqb n 1) b, ap (λ (n : ℕ). eqb n 1) c, ap (λ (n : ℕ). eqb n 1) d)

-- ---- readings that give the same but for the bit

abbrev mapped : {A B E : Type 0} → (A → B) → Result A E → Result B E
mapped f (Ok x) = Ok (f x)
mapped f (Err e) = Err e

bind_mapped : {X A B E : Type 0} (f : A → B) (r : Result X E) (k : X → Result A E) (l : X → Result B E) → ((x : X) → l x ≡ mapped f (k x)) → (r >>= l) ≡ mapped f (r >>= k)
bind_mapped f (Ok x) k l h = h x
bind_mapped f (Err e) k l h = refl

abbrev with_bit : Bool → DeliverOf → DeliverOf
with_bit b d = record d { no_more_messages_to_send = b }

abbrev with_bit_of : Bool → StatusReportOf → StatusReportOf
with_bit_of b r = record r { no_more_messages_to_send = b }

deliver_alike : (t first : ℕ) (b : Bool) (rest : List ℕ) → Keeps t first b → deliver_at (t ∷ rest) ≡ mapped (with_bit b) (deliver_at (first ∷ rest))
unfolding deliver_at
deliver_alike t first b rest k =
    let e = eighth t first k.high in
    rw (k.kind, k.told, e.0, e.1, e.2, e.3)
    (bind_mapped (with_bit b) (only_if (eqb (first % 4) 0) UnsupportedType) _ _ (λ kind.
    bind_mapped (with_bit b) (address_in rest) _ _ (λ from.
    bind_mapped (with_bit b) (octet_in Truncated from.1) _ _ (λ protocol.
    bind_mapped (with_bit b) (octet_in Truncated protocol.1) _ _ (λ scheme.
    bind_mapped (with_bit b) (time_in scheme.1) _ _ (λ stamp.
    bind_mapped (with_bit b) (user_data_in (coding_of scheme.0) (bit first 64) stamp.1) _ _ (λ text.
    bind_mapped (with_bit b) (end_in TrailingOctets text.1) _ _ (λ done. refl))))))))

status_alike : (t first : ℕ) (b : Bool) (rest : List ℕ) → Keeps t first b → status_report_at (t ∷ rest) ≡ mapped (with_bit_of b) (status_report_at (first ∷ rest))
unfolding status_report_at
status_alike t first b rest k =
    let e = eighth t first k.high in
    rw (k.kind, k.told, e.1, e.2)
    (bind_mapped (with_bit_of b) (only_if (eqb (first % 4) 2) UnsupportedType) _ _ (λ kind.
    bind_mapped (with_bit_of b) (octet_in Truncated rest) _ _ (λ reference.
    bind_mapped (with_bit_of b) (address_in reference.1) _ _ (λ to.
    bind_mapped (with_bit_of b) (time_in to.1) _ _ (λ stamp.
    bind_mapped (with_bit_of b) (time_in stamp.1) _ _ (λ discharge.
    bind_mapped (with_bit_of b) (octet_in Truncated discharge.1) _ _ (λ status.
    bind_mapped (with_bit_of b) (status_tail_in (bit first 64) status.1) _ _ (λ parameters. refl))))))))

deliver_with_more_messages : (more : Bool) (r : Result DeliverOf TpduFault) → (mapped (with_bit (not more)) r >>= (λ d. Ok (Deliver d))) ≡ reading_with_more_messages more (r >>= (λ d. Ok (Deliver d)))
deliver_with_more_messages more (Ok d) = refl
deliver_with_more_messages more (Err f) = refl

status_with_more_messages : (more : Bool) (r : Result StatusReportOf TpduFault) → (mapped (with_bit_of (not more)) r >>= (λ s. Ok (StatusReport s))) ≡ reading_with_more_messages more (r >>= (λ s. Ok (StatusReport s)))
status_with_more_messages more (Ok d) = refl
status_with_more_messages more (Err f) = refl

data_by : (b more : Bool) (t first : ℕ) (rest : List ℕ) → Keeps t first (not more)
    → cond b (status_report_at (t ∷ rest) >>= (λ r. Ok (StatusReport r))) (deliver_at (t ∷ rest) >>= (λ d. Ok (Deliver d)))
    ≡ reading_with_more_messages more (cond b (status_report_at (first ∷ rest) >>= (λ r. Ok (StatusReport r))) (deliver_at (first ∷ rest) >>= (λ d. Ok (Deliver d))))
data_by true more t first rest k = ap (λ (r : Result StatusReportOf TpduFault). r >>= (λ s. Ok (StatusReport s))) (status_alike t first (not more) rest k) ∙ status_with_more_messages more (status_report_at (first ∷ rest))
data_by false more t first rest k = ap (λ (r : Result DeliverOf TpduFault). r >>= (λ d. Ok (Deliver d))) (deliver_alike t first (not more) rest k) ∙ deliver_with_more_messages more (deliver_at (first ∷ rest))

nothing : (more : Bool) → (deliver_at [] >>= (λ d. Ok (Deliver d))) ≡ reading_with_more_messages more (deliver_at [] >>= (λ d. Ok (Deliver d)))
unfolding deliver_at
nothing more = refl

pub more_messages_reads : (more : Bool) (octets : List ℕ) → down_at InData (with_more_messages more octets) ≡ reading_with_more_messages more (down_at InData octets)
unfolding down_at data_down_at
more_messages_reads more [] = nothing more
more_messages_reads more (first ∷ rest) =
    let k = keeps more first in
    let t = octet_with_more_messages more first in
    ap (λ (n : ℕ). cond (eqb n 2) (status_report_at (t ∷ rest) >>= (λ r. Ok (StatusReport r))) (deliver_at (t ∷ rest) >>= (λ d. Ok (Deliver d)))) k.kind
    ∙ data_by (eqb (first % 4) 2) more t first rest k

pub compared_reads : (octets : List ℕ) → down_at InData (compared octets) ≡ reading_with_more_messages false (down_at InData octets)
unfolding compared
compared_reads octets = more_messages_reads false octets

-- ---- one message

pub is_same : (one other : List ℕ) → (same_message one other ≡ true) ↔ (compared one ≡ compared other)
is_same one other = bytes_eq-Decides (compared one) (compared other)

pub same_itself : (octets : List ℕ) → same_message octets octets ≡ true
same_itself octets = (is_same octets octets).1 refl

pub same_back : (one other : List ℕ) → same_message one other ≡ true → same_message other one ≡ true
same_back one other e = (is_same other one).1 (sym ((is_same one other).0 e))

pub same_on : (one other third : List ℕ) → same_message one other ≡ true → same_message other third ≡ true → same_message one third ≡ true
same_on one other third e f = (is_same one third).1 ((is_same one other).0 e ∙ (is_same other third).0 f)

octet_parts : (first other : ℕ) → octet_with_more_messages false first ≡ octet_with_more_messages false other → (first / 8 ≡ other / 8) × (first % 4 ≡ other % 4)
octet_parts first other e = (omega (arith, e), omega (arith, e))

octet_from : (first other : ℕ) → first / 8 ≡ other / 8 → first % 4 ≡ other % 4 → octet_with_more_messages false first ≡ octet_with_more_messages false other
octet_from first other e f = omega (arith, e, f)

pub same_parts : (first other : ℕ) (rest tail : List ℕ) → (same_message (first ∷ rest) (other ∷ tail) ≡ true) ↔ ((first / 8 ≡ other / 8) × (first % 4 ≡ other % 4) × (rest ≡ tail))
unfolding compared
same_parts first other rest tail = (
  λ e.
      let p = and_parts (eqb (octet_with_more_messages false first) (octet_with_more_messages false other)) (bytes_eq rest tail) e in
      let o = octet_parts first other (eqb-true (octet_with_more_messages false first) (octet_with_more_messages false other) p.0) in
      (o.0, o.1, (bytes_eq-Decides rest tail).0 p.1),
  λ h.
      and_from (eqb (octet_with_more_messages false first) (octet_with_more_messages false other)) (bytes_eq rest tail)
      (eq-eqb (octet_with_more_messages false first) (octet_with_more_messages false other) (octet_from first other h.0 h.1)) ((bytes_eq-Decides rest tail).1 h.2),
)

pub same_empty : (octets : List ℕ) → (same_message [] octets ≡ true) ↔ (octets ≡ [])
unfolding compared
same_empty [] = (λ e. refl, λ e. refl)
same_empty (first ∷ rest) = (λ e. absurd cc, λ e. absurd cc)

-- ---- telling

octet_again : (more other : Bool) (first : ℕ) → octet_with_more_messages more (octet_with_more_messages other first) ≡ octet_with_more_messages more first
octet_again more other first =
    let k = keeps other first in
    let t = octet_with_more_messages other first in
    let high : t / 8 ≡ first / 8 = k.high in
    let low : t % 4 ≡ first % 4 = k.kind in
    let v = bit_value (not more) 4 in
    let e : 8 * (t / 8) + v + t % 4 ≡ 8 * (first / 8) + v + first % 4 = omega (arith, high, low) in e

pub more_messages_again : (more other : Bool) (octets : List ℕ) → with_more_messages more (with_more_messages other octets) ≡ with_more_messages more octets
more_messages_again more other [] = refl
more_messages_again more other (first ∷ rest) = ap (λ (n : ℕ). n ∷ rest) (octet_again more other first)

pub more_messages_same : (more : Bool) (octets : List ℕ) → compared (with_more_messages more octets) ≡ compared octets
unfolding compared
more_messages_same more octets = more_messages_again false more octets

pub more_messages_keeps : (more : Bool) (first : ℕ) (rest : List ℕ) → bit first 4 ≡ not more → with_more_messages more (first ∷ rest) ≡ first ∷ rest
more_messages_keeps more first rest e =
    let same : octet_with_more_messages more first ≡ first = by_bit more e in ap (λ (n : ℕ). n ∷ rest) same
  where
    by_bit : (more : Bool) → bit first 4 ≡ not more → octet_with_more_messages more first ≡ first
    by_bit true e = let z : first / 4 % 2 ≡ 1 → ⊥ = (λ p. absurd (contrary p e)) in omega (arith, z)
      where
        contrary : first / 4 % 2 ≡ 1 → bit first 4 ≡ false → ⊥
        contrary p e = let q : bit first 4 ≡ true = eq-eqb (first / 4 % 2) 1 p in cc
    by_bit false e = let o : first / 4 % 2 ≡ 1 = eqb-true (first / 4 % 2) 1 e in omega (arith, o)

pub more_messages_fits : (more : Bool) (octets : List ℕ) → AreOctets octets → AreOctets (with_more_messages more octets)
more_messages_fits more [] h = tt
more_messages_fits more (first ∷ rest) h =
    let b = one_bit (not more) in
    let f : first < 256 = h.0 in
    let v = bit_value (not more) 4 in
    let fits : 8 * (first / 8) + v + first % 4 < 256 = by_bit more f in
    (fits, h.1)
  where
    by_bit : (more : Bool) → first < 256 → octet_with_more_messages more first < 256
    by_bit true f = omega (arith, f)
    by_bit false f = omega (arith, f)

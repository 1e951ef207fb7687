-- Bars that are put one by one.
use Rattle.std.proofs.Common.{◌≡◌, ℕ, ◌+◌, List, [], ◌∷◌, ◌++◌, append-nil, append_assoc, Bool, true, false, Option, Some, None, Result, Ok, Err, OnOk, refl, sym, ◌∙◌, ap, subst}
use Rattle.std.specs.Prelude.{◌==◌, ◌&&◌, ◌||◌, SomeIff, if◌then◌else◌}
use Rattle.std.specs.List.{list_any}
use Rattle.std.proofs.lemmas.Bool.{cond-false, cond-true}
use Rattle.sms_base.proofs.Bools.{or_assoc}
use Rattle.sms_rows.specs.declared.table.change.Change.{Change}
use Rattle.sms_rows.specs.declared.table.change.Change.TheVariants.{Put, Remove}
use Rattle.sms_rows.specs.table.Since.{Since, oldest_first as changes_of, put_in, untouched}
use Rattle.sms_rows.specs.table.Table.{Rises}
use Rattle.sms_centre_rows.specs.declared.messages.bar.BarRow.{BarRow}
use Rattle.sms_centre_rows.specs.declared.messages.claim.Claim.{Claim}
use Rattle.sms_centre_rows.specs.messages.Bars.{bar_key, bar_of, bars_of, is_barred, next_bar, place_behind, put_bar, put_bars, with_bar}
use Rattle.sms_centre_rows.specs.messages.SplitReferences.{is_among, is_own_bar, own_bars, references_in}
use Rattle.sms_centre_spec.specs.forgetting.Forget.{bars_put}
use Rattle.sms_centre_spec.proofs.forgetting.BarsStand.{one_rises, put_behind}
use Rattle.sms_centre.specs.Barring.{ArePut, IsPut, puts_for, puts_of}
use Rattle.sms_centre.specs.declared.barring.NewBars.{NewBars}

pub on_ok_turned : {A E P Q : Type 0} (r : Result A E) → (P → Q) → OnOk r P → OnOk r Q
on_ok_turned (Ok a) f h = f h
on_ok_turned (Err e) f h = tt

-- one more than a number, if it is a number still
pub added_one : (P : Type 0) (o : Option ℕ) (m n : ℕ) → SomeIff o P (m + 1) → o ≡ Some n → n ≡ m + 1
added_one P None m n h e = absurd cc
added_one P (Some x) m n h e = let same : x ≡ n = cc in sym same ∙ h.1

-- ---- whether a bar stands

and_either : (a b c : Bool) → (a && (b || c)) ≡ ((a && b) || (a && c))
and_either true b c = refl
and_either false b c = refl

among_both : (test : BarRow → Bool) (r : ℕ) (bs cs : List BarRow)
    → is_among r (references_in test (bs ++ cs)) ≡ (is_among r (references_in test bs) || is_among r (references_in test cs))
among_both test r [] cs = refl
among_both test r (b ∷ bs) cs = of (test b) (among_both test r bs cs)
  where
    rest : List ℕ
    rest = references_in test (bs ++ cs)

    few : List ℕ
    few = references_in test bs

    of : (t : Bool) → is_among r rest ≡ (is_among r few || is_among r (references_in test cs))
        → is_among r (if t then b.reference ∷ rest else rest) ≡ (is_among r (if t then b.reference ∷ few else few) || is_among r (references_in test cs))
    of true e = ap (λ (x : Bool). (b.reference == r) || x) e ∙ or_assoc (b.reference == r) (is_among r few) (is_among r (references_in test cs))
    of false e = e

pub barred_both : (c : Claim) (bs cs : List BarRow) → is_barred c (bs ++ cs) ≡ (is_barred c bs || (c.is_own && is_among c.reference (own_bars c.source c.handset cs)))
barred_both c bs cs =
    ap (λ (b : Bool). c.is_own && b) (among_both (is_own_bar c.source c.handset) c.reference bs cs)
    ∙ and_either c.is_own (is_among c.reference (own_bars c.source c.handset bs)) (is_among c.reference (own_bars c.source c.handset cs))

pub put_for : (c : Claim) (cs : List (Change BarRow)) → list_any (puts_for c) cs ≡ is_among c.reference (own_bars c.source c.handset (puts_of cs))
put_for c [] = refl
put_for c (Put b ∷ cs) = of (is_own_bar c.source c.handset b) (put_for c cs)
  where
    rest : List ℕ
    rest = own_bars c.source c.handset (puts_of cs)

    of : (t : Bool) → list_any (puts_for c) cs ≡ is_among c.reference rest
        → ((t && b.reference == c.reference) || list_any (puts_for c) cs) ≡ is_among c.reference (if t then b.reference ∷ rest else rest)
    of true e = ap (λ (x : Bool). (b.reference == c.reference) || x) e
    of false e = e
put_for c (Remove n ∷ cs) = put_for c cs

-- ---- one bar more

puts_more : (cs : List (Change BarRow)) (b : BarRow) → puts_of (cs ++ Put b ∷ []) ≡ puts_of cs ++ b ∷ []
puts_more [] b = refl
puts_more (Put x ∷ cs) b = ap (λ (l : List BarRow). x ∷ l) (puts_more cs b)
puts_more (Remove n ∷ cs) b = puts_more cs b

behind_last : (n : ℕ) (bs : List BarRow) (b : BarRow) → place_behind n (bs ++ b ∷ []) ≡ b.place + 1
behind_last n [] b = refl
behind_last n (x ∷ xs) b = behind_last (x.place + 1) xs b

pub starts : (bars : List BarRow) (claims : List Claim) (b : NewBars) → Rises bar_key bars → b.changes.items ≡ [] → ((n : ℕ) → b.next ≡ Some n → n ≡ next_bar bars) → ArePut bars claims claims b
starts bars claims b rises none next = record {
  at = untouched bars;
  rest = refl;
  changes = sym none;
  rows = sym (append-nil bars) ∙ ap (λ (l : List (Change BarRow)). bars ++ puts_of l) (sym none);
  rises = rises;
  next = next;
}

pub kept_on : (bars : List BarRow) (claims left : List Claim) (c : Claim) (b : NewBars) → is_barred c (bars ++ puts_of b.changes.items) ≡ true → ArePut bars claims (c ∷ left) b → ArePut bars claims left b
kept_on bars claims left c b stands p =
    let barred : is_barred c (bars_of p.at) ≡ true = ap (λ (l : List BarRow). is_barred c l) p.rows ∙ stands in
    let same : put_bar c p.at ≡ p.at = cond-true (is_barred c (bars_of p.at)) p.at (put_in (bar_of c (next_bar (bars_of p.at))) p.at) barred in
    record {
      at = p.at;
      rest = ap (λ (t : Since BarRow). put_bars left t) (sym same) ∙ p.rest;
      changes = p.changes;
      rows = p.rows;
      rises = p.rises;
      next = p.next;
    }

pub put_on : (bars : List BarRow) (claims left : List Claim) (c : Claim) (b new : NewBars) → is_barred c (bars ++ puts_of b.changes.items) ≡ false → ArePut bars claims (c ∷ left) b → IsPut c b new
    → ArePut bars claims left new
put_on bars claims left c b new free p i =
    let clear : is_barred c (bars_of p.at) ≡ false = ap (λ (l : List BarRow). is_barred c l) p.rows ∙ free in
    let x : BarRow = bar_of c (next_bar (bars_of p.at)) in
    let y : BarRow = bar_of c i.place in
    let same : put_bar c p.at ≡ put_in x p.at = cond-false (is_barred c (bars_of p.at)) p.at (put_in x p.at) clear in
    let is : y ≡ x = ap (λ (n : ℕ). bar_of c n) (p.next i.place i.was) in
    let behind : bars_of (put_in x p.at) ≡ bars_of p.at ++ x ∷ [] = put_behind c (bars_of p.at) p.rises in
    let rises : Rises bar_key (with_bar c (bars_of p.at)) = one_rises c (bars_of p.at) p.rises in
    record {
      at = put_in x p.at;
      rest = ap (λ (t : Since BarRow). put_bars left t) (sym same) ∙ p.rest;
      changes = ap (λ (l : List (Change BarRow)). l ++ Put x ∷ []) p.changes ∙ ap (λ (z : BarRow). b.changes.items ++ Put z ∷ []) (sym is) ∙ sym i.changes;
      rows =
          behind ∙ ap (λ (l : List BarRow). l ++ x ∷ []) p.rows ∙ append_assoc bars (puts_of b.changes.items) (x ∷ [])
          ∙ ap (λ (z : BarRow). bars ++ (puts_of b.changes.items ++ z ∷ [])) (sym is)
          ∙ ap (λ (l : List BarRow). bars ++ l) (sym (puts_more b.changes.items y))
          ∙ ap (λ (l : List (Change BarRow)). bars ++ puts_of l) (sym i.changes);
      rises = subst (λ (l : List BarRow). Rises bar_key l) (cond-false (is_barred c (bars_of p.at)) (bars_of p.at) (bars_of (put_in x p.at)) clear) rises;
      next = λ n e.
          i.next n e ∙ ap (λ (k : ℕ). k + 1) (p.next i.place i.was) ∙ sym (ap (λ (l : List BarRow). next_bar l) behind ∙ behind_last 1 (bars_of p.at) x);
    }

-- all of them are
pub all_are : (bars : List BarRow) (claims : List Claim) (b : NewBars) → ArePut bars claims [] b → b.changes.items ≡ bars_put claims bars
all_are bars claims b p = sym p.changes ∙ ap (λ (t : Since BarRow). changes_of t.news) p.rest

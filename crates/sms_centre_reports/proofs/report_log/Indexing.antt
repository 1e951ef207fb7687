-- The place of each report is under its message: so it is found, and stays so.
use Rattle.std.proofs.Common.{◌≡◌, ◌⊎◌, ℕ, zero, suc, ◌+◌, ◌<◌, List, [], ◌∷◌, ◌++◌, length, map, take, drop, get_or, append-nil, append_assoc, Option, Some, None, refl, sym, ◌∙◌, ap, ap₂, subst, inl, inr, ⊎_elim, eq-eqb}
use Rattle.std.specs.Cmp.{nat_eq_equiv}
use Rattle.std.specs.List.{IsDistinct, slice_get}
use Rattle.std.specs.Map.{keys_of, lookup}
use Rattle.std.specs.Option.{option_map}
use Rattle.std.specs.Prelude.{nat_eq}
use Rattle.std.proofs.lemmas.Bool.{cases_eq, cond-true, cond-false, ne_eqb}
use Rattle.std.proofs.lemmas.List.{take_more}
use Rattle.indexmap.specs.IndexMap.{insert_all, insert_entry}
use Rattle.indexmap.proofs.MapLemmas.{absent_before, absent_from_lookup, insert_entry-absent}
use Rattle.sms_base.specs.Among.{Among}
use Rattle.sms_base.proofs.Lists.{among_back, among_end, among_front, among_parts}
use Rattle.sms_rows.specs.table.Table.{Rises, insert, put, row_at, without, without_all}
use Rattle.sms_rows.proofs.table.Tables.{among_found, among_put, among_without, found_among, found_key, put_among, without_among, without_behind, without_here}
use Rattle.sms_centre_rows.specs.declared.reports.report.ReportRow.{ReportRow}
use Rattle.sms_centre_rows.specs.reports.Reports.{report_key, report_of}
use Rattle.sms_centre_rows.specs.declared.waiting.revision.Revision.{Revision}
use Rattle.sms_centre_rows.specs.waiting.Revisions.{revision_key}
use Rattle.sms_centre_rows.proofs.reports.AllWaiting.{report_behind, report_found, report_here}
use Rattle.sms_centre_reports.specs.declared.report_log.log.LoggedReport.{LoggedReport}
use Rattle.sms_centre_reports.specs.report_log.Places.{AreFound, HasTaken, IsUnder, PlacesOf, message_there, messages_at, place_under}
use Rattle.sms_centre_reports.specs.report_log.ReportLog.{made_key, made_report}

abbrev logged : ℕ → ℕ → LoggedReport
logged place id = record { place = place; id = id }

-- ---- rows of none of these keys

module _ {A : Type 0} (key : A → ℕ) where
  among_without_all : (x : A) (ns : List ℕ) (xs : List A) → Among x (without_all key ns xs) → Among x xs × ¬ Among (key x) ns
  among_without_all x [] xs m = (m, λ none. none)
  among_without_all x (n ∷ ns) xs m =
      let r = among_without_all x ns (without key n xs) m in
      let s = among_without key x n xs r.0 in
      (s.0, λ a. ⊎_elim (λ (e : key x ≡ n). s.1 e) (λ (b : Among (key x) ns). r.1 b) a)

  without_all_among : (x : A) (ns : List ℕ) (xs : List A) → Among x xs → ¬ Among (key x) ns → Among x (without_all key ns xs)
  without_all_among x [] xs m out = m
  without_all_among x (n ∷ ns) xs m out = without_all_among x ns (without key n xs) (without_among key x n xs m (λ e. out (inl e))) (λ a. out (inr a))

  without_out : (n : ℕ) (xs : List A) → without key n (without key n xs) ≡ without key n xs
  without_out n [] = refl
  without_out n (x ∷ xs) = ⊎_elim
      (λ (e : key x ≡ n). ap (λ (l : List A). without key n l) (without_here key n x xs e) ∙ without_out n xs ∙ sym (without_here key n x xs e))
      (λ (e : key x ≡ n → ⊥).
      ap (λ (l : List A). without key n l) (without_behind key n x xs e) ∙ without_behind key n x (without key n xs) e
      ∙ ap (λ (l : List A). x ∷ l) (without_out n xs) ∙ sym (without_behind key n x xs e))
      (cases_eq (key x) n)

pub put_over : (r : LoggedReport) (rs : List LoggedReport) → put made_key r (without made_key r.place rs) ≡ put made_key r rs
put_over r rs = ap (λ (l : List LoggedReport). insert made_key r l) (without_out made_key r.place rs)

-- ---- what is under a message

under_same : (id : ℕ) (place : Option ℕ) (old new : PlacesOf) → IsUnder id place old new → place_under id new ≡ place
under_same id place old new is = is id ∙ cond-true (nat_eq id id) place (place_under id old) (eq-eqb id id refl)

under_other : (id other : ℕ) (place : Option ℕ) (old new : PlacesOf) → IsUnder id place old new → ¬ (id ≡ other) → place_under other new ≡ place_under other old
under_other id other place old new is ne = is other ∙ cond-false (nat_eq id other) place (place_under other old) (ne_eqb id other ne)

pub none_found : (rs : List LoggedReport) (places : PlacesOf) → rs ≡ [] → places.entries ≡ [] → AreFound rs places
none_found [] places e none = record {
  each = λ r m. absurd m;
  only = λ id place under. let bad : None ≡ Some place = sym (ap (λ (l : List (ℕ × ℕ)). lookup (nat_eq id) l) none) ∙ under in absurd cc;
}
none_found (r ∷ rs) places e none = absurd cc

-- two reports of one message stand at one place
same_place : (x y : LoggedReport) (rs : List LoggedReport) (places : PlacesOf) → AreFound rs places → Among x rs → Among y rs → x.id ≡ y.id → x.place ≡ y.place
same_place x y rs places found a b e =
    let same : Some x.place ≡ Some y.place = sym (found.each x a) ∙ ap (λ (id : ℕ). place_under id places) e ∙ found.each y b in
    let is : x.place ≡ y.place = cc in is

-- ---- one goes

pub found_out : (n : ℕ) (o : LoggedReport) (rs : List LoggedReport) (old new : PlacesOf) → Some o ≡ row_at made_key n rs → Rises made_key rs → IsUnder o.id None old new
    → AreFound rs old → AreFound (without made_key n rs) new
found_out n o rs old new there rises taken found = record {
  each = λ r m.
      let a = among_without made_key r n rs m in
      under_other o.id r.id None old new taken (λ e. a.1 (same_place r o rs old found a.0 own (sym e) ∙ at)) ∙ found.each r a.0;
  only = λ id place under. ⊎_elim
      (λ (e : o.id ≡ id).
      let bad : None ≡ Some place = sym (subst (λ (i : ℕ). place_under i new ≡ None) e (under_same o.id None old new taken)) ∙ under in absurd cc)
      (λ (ne : o.id ≡ id → ⊥).
      let x : Among (logged place id) rs = found.only id place (sym (under_other o.id id None old new taken ne) ∙ under) in
      without_among made_key (logged place id) n rs x (λ e. ne (its_message place id x e)))
      (cases_eq o.id id);
}
  where
    own : Among o rs
    own = found_among made_key n o rs (sym there)

    at : o.place ≡ n
    at = found_key made_key n o rs (sym there)

    its_message : (place id : ℕ) → Among (logged place id) rs → place ≡ n → o.id ≡ id
    its_message place id x e =
        let same : Some o ≡ Some (logged place id) = there ∙ subst (λ (k : ℕ). row_at made_key k rs ≡ Some (logged place id)) e (among_found made_key (logged place id) rs rises x) in
        let is : o ≡ logged place id = cc in
        ap (λ (y : LoggedReport). y.id) is

pub found_left : (n : ℕ) (rs : List LoggedReport) (places : PlacesOf) → None ≡ row_at made_key n rs → Rises made_key rs → AreFound rs places → AreFound (without made_key n rs) places
found_left n rs places none rises found = record {
  each = λ r m. found.each r (among_without made_key r n rs m).0;
  only = λ id place under.
      let x : Among (logged place id) rs = found.only id place under in
      without_among made_key (logged place id) n rs x (λ e. at_none place id x e);
}
  where
    at_none : (place id : ℕ) → Among (logged place id) rs → place ≡ n → ⊥
    at_none place id x e =
        let bad : None ≡ Some (logged place id) = none ∙ subst (λ (k : ℕ). row_at made_key k rs ≡ Some (logged place id)) e (among_found made_key (logged place id) rs rises x) in
        absurd cc

-- ---- one more

pub found_more : (r : LoggedReport) (rs more : List LoggedReport) (old new : PlacesOf)
    → ((x : LoggedReport) → Among x more → (x ≡ r) ⊎ Among x rs) → ((x : LoggedReport) → (x ≡ r) ⊎ Among x rs → Among x more)
    → place_under r.id old ≡ None → IsUnder r.id (Some r.place) old new → AreFound rs old → AreFound more new
found_more r rs more old new from to none is found = record {
  each = λ x m. ⊎_elim
      (λ (e : x ≡ r). subst (λ (y : LoggedReport). place_under y.id new ≡ Some y.place) (sym e) (under_same r.id (Some r.place) old new is))
      (λ (a : Among x rs). under_other r.id x.id (Some r.place) old new is (λ e. other x a e) ∙ found.each x a)
      (from x m);
  only = λ id place under. to (logged place id) (⊎_elim
      (λ (e : r.id ≡ id).
      let same : Some r.place ≡ Some place = sym (subst (λ (i : ℕ). place_under i new ≡ Some r.place) e (under_same r.id (Some r.place) old new is)) ∙ under in
      let at : r.place ≡ place = cc in
      inl (sym (ap₂ (λ (p i : ℕ). logged p i) at e)))
      (λ (ne : r.id ≡ id → ⊥). inr (found.only id place (sym (under_other r.id id (Some r.place) old new is ne) ∙ under)))
      (cases_eq r.id id));
}
  where
    other : (x : LoggedReport) → Among x rs → r.id ≡ x.id → ⊥
    other x a e = let bad : None ≡ Some x.place = sym none ∙ ap (λ (i : ℕ). place_under i old) e ∙ found.each x a in absurd cc

-- at a place at which none is any more
pub put_found : (r : LoggedReport) (before rs news : List LoggedReport) (old new : PlacesOf) → rs ≡ without made_key r.place before → news ≡ put made_key r rs
    → place_under r.id old ≡ None → IsUnder r.id (Some r.place) old new → AreFound rs old → AreFound news new
put_found r before rs news old new left front none is found = found_more r rs news old new
    (λ x m. ⊎_elim
    (λ (e : x ≡ r). inl e)
    (λ (a : Among x rs × ¬ (made_key x ≡ made_key r)). inr a.0)
    (among_put made_key x r rs (subst (λ (l : List LoggedReport). Among x l) front m)))
    (λ x m. subst (λ (l : List LoggedReport). Among x l) (sym front) (put_among made_key x r rs (⊎_elim
    (λ (e : x ≡ r). inl e)
    (λ (a : Among x rs). inr (a, (among_without made_key x r.place before (subst (λ (l : List LoggedReport). Among x l) left a)).1))
    m)))
    none is found

-- ---- several go

message_at_one : (id n : ℕ) (rs : List LoggedReport) (o : Option LoggedReport) → row_at made_key n rs ≡ o → Among id (message_there o)
    → (x : LoggedReport) × (Among x rs × ((x.id ≡ id) × (x.place ≡ n)))
message_at_one id n rs None e m = absurd m
message_at_one id n rs (Some r) e m = ⊎_elim
    (λ (q : id ≡ r.id). (r, (found_among made_key n r rs e, (sym q, found_key made_key n r rs e))))
    (λ none. absurd none)
    m

message_at_some : (id : ℕ) (ns : List ℕ) (rs : List LoggedReport) → Among id (messages_at made_key ns rs)
    → (x : LoggedReport) × (Among x rs × ((x.id ≡ id) × Among x.place ns))
message_at_some id [] rs m = absurd m
message_at_some id (n ∷ ns) rs m = ⊎_elim
    (λ (here : Among id (message_there (row_at made_key n rs))). let f = message_at_one id n rs (row_at made_key n rs) refl here in (f.0, (f.1.0, (f.1.1.0, inl f.1.1.1))))
    (λ (there : Among id (messages_at made_key ns rs)). let f = message_at_some id ns rs there in (f.0, (f.1.0, (f.1.1.0, inr f.1.1.1))))
    (among_parts id (message_there (row_at made_key n rs)) (messages_at made_key ns rs) m)

its_message_at : (x : LoggedReport) (ns : List ℕ) (rs : List LoggedReport) → Rises made_key rs → Among x.place ns → Among x rs → Among x.id (messages_at made_key ns rs)
its_message_at x [] rs rises m a = absurd m
its_message_at x (n ∷ ns) rs rises m a = ⊎_elim
    (λ (e : x.place ≡ n).
    let there : row_at made_key n rs ≡ Some x = subst (λ (k : ℕ). row_at made_key k rs ≡ Some x) e (among_found made_key x rs rises a) in
    among_front x.id (message_there (row_at made_key n rs)) (messages_at made_key ns rs)
    (subst (λ (o : Option LoggedReport). Among x.id (message_there o)) (sym there) (inl refl)))
    (λ (b : Among x.place ns). among_back x.id (message_there (row_at made_key n rs)) (messages_at made_key ns rs) (its_message_at x ns rs rises b a))
    m

pub gone_found : (ns : List ℕ) (rs : List LoggedReport) (old new : PlacesOf) → Rises made_key rs → HasTaken (messages_at made_key ns rs) old new
    → AreFound rs old → AreFound (without_all made_key ns rs) new
gone_found ns rs old new rises taken found = record {
  each = λ r m.
      let a = among_without_all made_key r ns rs m in
      taken.stays r.id (λ k. a.1 (its_place r a.0 k)) ∙ found.each r a.0;
  only = λ id place under.
      let g = taken.gone id place under in
      let x : Among (logged place id) rs = found.only id place g.0 in
      without_all_among made_key (logged place id) ns rs x (λ k. g.1 (its_message_at (logged place id) ns rs rises k x));
}
  where
    its_place : (r : LoggedReport) → Among r rs → Among r.id (messages_at made_key ns rs) → Among r.place ns
    its_place r a k =
        let f = message_at_some r.id ns rs k in
        subst (λ (n : ℕ). Among n ns) (same_place f.0 r rs old found f.1.0 a f.1.1.0) f.1.1.1

-- ---- one after the other

pub none_taken : (places : PlacesOf) → HasTaken [] places places
none_taken places = record { stays = λ id out. refl; gone = λ id place under. (under, λ none. none) }

pub one_taken : (id : ℕ) (old new : PlacesOf) → IsUnder id None old new → HasTaken (id ∷ []) old new
one_taken id old new is = record {
  stays = λ other out. under_other id other None old new is (λ e. out (inl (sym e)));
  gone = λ other place under.
      let apart = not_it other place under in
      (sym (under_other id other None old new is apart) ∙ under, λ m. ⊎_elim (λ (e : other ≡ id). apart (sym e)) (λ none. none) m);
}
  where
    not_it : (other place : ℕ) → place_under other new ≡ Some place → id ≡ other → ⊥
    not_it other place under e =
        let bad : None ≡ Some place = sym (subst (λ (i : ℕ). place_under i new ≡ None) e (under_same id None old new is)) ∙ under in absurd cc

pub both_taken : (ids more : List ℕ) (old mid new : PlacesOf) → HasTaken ids old mid → HasTaken more mid new → HasTaken (ids ++ more) old new
both_taken ids more old mid new first later = record {
  stays = λ id out. later.stays id (λ m. out (among_back id ids more m)) ∙ first.stays id (λ m. out (among_front id ids more m));
  gone = λ id place under.
      let late = later.gone id place under in
      let early = first.gone id place late.0 in
      (early.0, λ m. ⊎_elim (λ (a : Among id ids). early.1 a) (λ (a : Among id more). late.1 a) (among_parts id ids more m));
}

pub messages_more : (ns : List ℕ) (n : ℕ) (rs : List LoggedReport) → messages_at made_key (ns ++ n ∷ []) rs ≡ messages_at made_key ns rs ++ message_there (row_at made_key n rs)
messages_more [] n rs = append-nil (message_there (row_at made_key n rs))
messages_more (k ∷ ns) n rs =
    ap (λ (l : List ℕ). message_there (row_at made_key k rs) ++ l) (messages_more ns n rs)
    ∙ sym (append_assoc (message_there (row_at made_key k rs)) (messages_at made_key ns rs) (message_there (row_at made_key n rs)))

map_more : {X : Type 0} (f : X → ℕ) (xs : List X) (x : X) → map f (xs ++ x ∷ []) ≡ map f xs ++ f x ∷ []
map_more f [] x = refl
map_more f (y ∷ ys) x = ap (λ (l : List ℕ). f y ∷ l) (map_more f ys x)

-- the message of the next change
pub next_taken : (i n : ℕ) (c : Revision ReportRow) (cs : List (Revision ReportRow)) (rs : List LoggedReport) → i < length cs → c ≡ get_or cs i c → n ≡ revision_key report_key c
    → messages_at made_key (map (λ (x : Revision ReportRow). revision_key report_key x) (take (i + 1) cs)) rs
    ≡ messages_at made_key (map (λ (x : Revision ReportRow). revision_key report_key x) (take i cs)) rs ++ message_there (row_at made_key n rs)
next_taken i n c cs rs l is key =
    let next : take (i + 1) cs ≡ take i cs ++ c ∷ [] = take_more cs i c l ∙ ap (λ (x : Revision ReportRow). take i cs ++ x ∷ []) (sym is) in
    ap (λ (l : List (Revision ReportRow)). messages_at made_key (map (λ (x : Revision ReportRow). revision_key report_key x) l) rs) next
    ∙ ap (λ (l : List ℕ). messages_at made_key l rs) (map_more (λ (x : Revision ReportRow). revision_key report_key x) (take i cs) c)
    ∙ messages_more (map (λ (x : Revision ReportRow). revision_key report_key x) (take i cs)) (revision_key report_key c) rs
    ∙ ap (λ (k : ℕ). messages_at made_key (map (λ (x : Revision ReportRow). revision_key report_key x) (take i cs)) rs ++ message_there (row_at made_key k rs)) (sym key)

-- the place of the next report
pub next_found : (i : ℕ) (r : LoggedReport) (rs : List LoggedReport) (old new : PlacesOf) → i < length rs → r ≡ get_or rs i r
    → place_under r.id old ≡ None → IsUnder r.id (Some r.place) old new → AreFound (take i rs) old → AreFound (take (i + 1) rs) new
next_found i r rs old new l is none put found =
    let next : take (i + 1) rs ≡ take i rs ++ r ∷ [] = take_more rs i r l ∙ ap (λ (x : LoggedReport). take i rs ++ x ∷ []) (sym is) in
    found_more r (take i rs) (take (i + 1) rs) old new
    (λ x m. ⊎_elim
    (λ (a : Among x (take i rs)). inr a)
    (λ (e : x ≡ r). inl e)
    (among_end x r (take i rs) (subst (λ (k : List LoggedReport). Among x k) next m)))
    (λ x m. subst (λ (k : List LoggedReport). Among x k) (sym next) (⊎_elim
    (λ (e : x ≡ r). among_back x (take i rs) (r ∷ []) (inl e))
    (λ (a : Among x (take i rs)). among_front x (take i rs) (r ∷ []) a)
    m))
    none put found

-- ---- into other memory

put_all : (done es : List (ℕ × ℕ)) → IsDistinct nat_eq (keys_of (done ++ es)) → insert_all nat_eq done es ≡ done ++ es
put_all done [] d = sym (append-nil done)
put_all done (e ∷ es) d =
    let one : insert_entry nat_eq done e.0 e.1 ≡ done ++ e ∷ [] =
    insert_entry-absent nat_eq e.0 e.1 done (absent_from_lookup (nat_eq e.0) done (absent_before nat_eq_equiv done es e d)) in
    let same : (done ++ e ∷ []) ++ es ≡ done ++ e ∷ es = append_assoc done (e ∷ []) es in
    ap (λ (l : List (ℕ × ℕ)). insert_all nat_eq l es) one
    ∙ put_all (done ++ e ∷ []) es (subst (λ (l : List (ℕ × ℕ)). IsDistinct nat_eq (keys_of l)) (sym same) d) ∙ same

pub moved_all : (empty es new : List (ℕ × ℕ)) → empty ≡ [] → IsDistinct nat_eq (keys_of es) → new ≡ insert_all nat_eq empty es → new ≡ es
moved_all empty es new e d n = n ∙ ap (λ (l : List (ℕ × ℕ)). insert_all nat_eq l es) e ∙ put_all [] es d

-- ---- it is found

made_among : (r : ReportRow) (rows : List ReportRow) → Among r rows → Among (made_report r) (map made_report rows)
made_among r [] m = absurd m
made_among r (s ∷ rows) m = ⊎_elim (λ (e : r ≡ s). inl (ap made_report e)) (λ (a : Among r rows). inr (made_among r rows a)) m

some_there : (id : ℕ) (x : LoggedReport) (rows : List ReportRow) → report_of id rows ≡ None → Among x (map made_report rows) → x.id ≡ id → ⊥
some_there id x [] e m own = m
some_there id x (s ∷ rows) e m own = ⊎_elim
    (λ (q : s.id ≡ id). let bad : Some s ≡ None = sym (report_here id s rows q) ∙ e in absurd cc)
    (λ (q : s.id ≡ id → ⊥). ⊎_elim
    (λ (f : x ≡ made_report s). q (sym (ap (λ (y : LoggedReport). y.id) f) ∙ own))
    (λ (a : Among x (map made_report rows)). some_there id x rows (sym (report_behind id s rows q) ∙ e) a own)
    m)
    (cases_eq s.id id)

module _ (id : ℕ) (rows : List ReportRow) (places : PlacesOf) (found : AreFound (map made_report rows) places) where
  no_place : report_of id rows ≡ None → (o : Option ℕ) → place_under id places ≡ o → o ≡ None
  no_place e None under = refl
  no_place e (Some place) under = absurd (some_there id (logged place id) rows e (found.only id place under) refl)

  told : (o : Option ReportRow) → report_of id rows ≡ o → place_under id places ≡ option_map (λ (r : ReportRow). r.place) o
  told None e = no_place e (place_under id places) refl
  told (Some r) e =
      let f = report_found id r rows e in
      subst (λ (i : ℕ). place_under i places ≡ Some r.place) f.1 (found.each (made_report r) (made_among r rows f.0))

pub place_told : (id : ℕ) (rows : List ReportRow) (rs : List LoggedReport) (places : PlacesOf) → rs ≡ map made_report rows → AreFound rs places
    → place_under id places ≡ option_map (λ (r : ReportRow). r.place) (report_of id rows)
place_told id rows rs places is found =
    told id rows places (subst (λ (l : List LoggedReport). AreFound l places) is found) (report_of id rows) refl

-- ---- a search, report by report

pub search_found : (id i : ℕ) (rows : List ReportRow) (x : LoggedReport) → Some x ≡ slice_get (map made_report rows) i → x.id ≡ id
    → Some x.place ≡ option_map (λ (r : ReportRow). r.place) (report_of id (drop i rows))
search_found id i [] x e own = absurd cc
search_found id zero (r ∷ rows) x e own =
    let is : x ≡ made_report r = cc in
    let its : r.id ≡ id = sym (ap (λ (y : LoggedReport). y.id) is) ∙ own in
    ap (λ (y : LoggedReport). Some y.place) is ∙ sym (ap (λ (o : Option ReportRow). option_map (λ (s : ReportRow). s.place) o) (report_here id r rows its))
search_found id (suc i) (r ∷ rows) x e own = search_found id i rows x e own

pub search_on : (id i : ℕ) (rows : List ReportRow) (x : LoggedReport) → Some x ≡ slice_get (map made_report rows) i → ¬ (x.id ≡ id)
    → report_of id (drop i rows) ≡ report_of id (drop (suc i) rows)
search_on id i [] x e other = absurd cc
search_on id zero (r ∷ rows) x e other =
    let is : x ≡ made_report r = cc in
    report_behind id r rows (λ q. other (ap (λ (y : LoggedReport). y.id) is ∙ q))
search_on id (suc i) (r ∷ rows) x e other = search_on id i rows x e other

pub search_past : (id i : ℕ) (rows : List ReportRow) → None ≡ slice_get (map made_report rows) i → report_of id (drop i rows) ≡ report_of id (drop (suc i) rows)
search_past id zero [] e = refl
search_past id (suc i) [] e = refl
search_past id zero (r ∷ rows) e = absurd cc
search_past id (suc i) (r ∷ rows) e = search_past id i rows e

-- An event of a handset tells whom it gave references to, and the others tell what they told.
use Rattle.sms_base.specs.Among.{Among}
use Rattle.sms_base.specs.declared.holder.Holder.{Holder}
use Rattle.sms_base.specs.declared.holder.Holder.TheVariants.{Entry, Memory, Part, Report}
use Rattle.sms_handset_draft.specs.Draft.{Draft, draft_of}
use Rattle.sms_handset_rows.specs.declared.outbox.out_entry.OutEntry.{OutEntry as OutRow}
use Rattle.sms_handset_rows.specs.outbox.Keys.{out_key}
use Rattle.sms_play.specs.PlayState.{Party}
use Rattle.sms_play.specs.HandsetSide.{entries_given, memories_given}
use Rattle.sms_play.specs.Premises.{is_of_reference, is_same_side, last_holder}
use Rattle.sms_rows.proofs.table.Tables.{among_found, found_among, found_key}
use Rattle.sms_rows.specs.table.Table.{row_at}
use Rattle.sms_script.specs.declared.report.rows.Direction.{Direction}
use Rattle.sms_script.specs.declared.report.rows.Direction.TheVariants.{Up}
use Rattle.sms_script.specs.declared.report.rows.GivenRow.{GivenRow}
use Rattle.sms_world.proofs.entries_keep_references.Elsewhere.{AllElsewhere, last_elsewhere, agrees_still}
use Rattle.sms_world.proofs.entries_keep_references.EntriesAgreeing.{Ends, IsOpen, IsRowFor, SentOne}
use Rattle.sms_world.proofs.entries_keep_references.RowsGiven.{last_over as last_over_up, last_own}
use Rattle.sms_world.proofs.scripts_are_runs.Latest.{found_last, found_latest, last_else, last_over, latest_else, named, names, names_it, none_last, none_latest, or_else}
use Rattle.sms_world.proofs.scripts_are_runs.UpGrown.{HasEntry, IsOwnHolder, UpGrown, UpSingle}
use Rattle.sms_world.specs.scripts_are_runs.PlayRefinement.{OwnAllocations}
use Rattle.sms_world.specs.headline.SeenWorld.{IsOfAllocationUp, IsUp, AgreesUp, latest_holder}
use Rattle.sms_world_model.specs.World.{Allocation, World}
use Rattle.sms_world_model.specs.WorldStep.{Step}
use Rattle.sms_world.specs.handset_runs_are_steps.Refinement.{Refines}
use Rattle.std.proofs.Common.{ap, arith, inl, inr, refl, subst, sym, ⊎_elim, ◌∙◌}
use Rattle.std.proofs.lemmas.Bool.{and_from, and_parts, both_ways, cases_Bool, cond-false, eq-eqb, eqb-true, ltb-false, ltb-true}
use Rattle.std.proofs.lemmas.Slice.Eq.{bytes_eq-Decides}
use Rattle.std.specs.Prelude.{List, None, Option, Some, [], false, nat_lt, true, ℕ, ◌&&◌, ◌++◌, ◌+◌, ◌<◌, ◌==◌, ◌∷◌, ◌≡◌, ◌≤◌, ◌⊎◌}
use Rattle.std.specs.Str.{bytes_eq}
use Rattle.std.proofs.lemmas.Option.{same_Some}
use Rattle.std.proofs.lemmas.List.{append_assoc}
use Rattle.sms_base.proofs.Lists.{among_back, among_front, among_parts}

-- ---- rows and allocations of others

latest_other : (h : List ℕ) (r : ℕ) (ds : List Allocation) → ((x : Allocation) → Among x ds → ¬ (x.handset ≡ h)) → latest_holder h r ds ≡ None
latest_other h r [] other = refl
latest_other h r (g ∷ ds) other =
    cond-false (names h r g) (Some g.holder) (latest_holder h r ds)
    (⊎_elim
    (λ (t : names h r g ≡ true). absurd (other g (inl refl) (names_it h r g t).0))
    (λ (f : names h r g ≡ false). f)
    (cases_Bool (names h r g)))
    ∙ latest_other h r ds (λ x i. other x (inr i))

not_elsewhere : (h : List ℕ) (g : GivenRow) (gs : List GivenRow) → AllElsewhere h gs → Among g gs → IsUp g → g.handset ≡ h → ⊥
not_elsewhere h g [] all i up own = i
not_elsewhere h g (x ∷ gs) all i up own = ⊎_elim
    (λ (q : g ≡ x). ⊎_elim
    (λ (e : is_same_side x.direction Up ≡ false). both_ways (is_same_side x.direction Up) e (ap (λ (z : GivenRow). is_same_side z.direction Up) (sym q) ∙ up))
    (λ (ne : ¬ (x.handset ≡ h)). ne (ap (λ (z : GivenRow). z.handset) (sym q) ∙ own))
    all.0)
    (λ (j : Among g gs). not_elsewhere h g gs all.1 j up own)
    i

-- what others give and tell leaves what is told of this handset
pub up_still : (h : List ℕ) (given more : List GivenRow) (up ds new : List Allocation) → new ≡ ds ++ up → AllElsewhere h more → ((x : Allocation) → Among x ds → ¬ (x.handset ≡ h)) → AgreesUp h given up → AgreesUp h (given ++ more) new
up_still h given more up ds new is all other tells = subst (λ (us : List Allocation). AgreesUp h (given ++ more) us) (sym is) (record {
  each = λ g i side own. ⊎_elim
      (λ (j : Among g given). let x = tells.each g j side own in (x.0, (among_back x.0 ds up x.1.0, x.1.1)))
      (λ (j : Among g more). absurd (not_elsewhere h g more all j side own))
      (among_parts g given more i);
  only = λ x i own. ⊎_elim
      (λ (j : Among x ds). absurd (other x j own))
      (λ (j : Among x up). let g = tells.only x j own in (g.0, (among_front g.0 given more g.1.0, g.1.1, g.1.2)))
      (among_parts x ds up i);
  last = λ r. last_over Up h r None given more ∙ last_elsewhere (last_holder None h Up r given) h r more all ∙ tells.last r ∙ sym (latest_else Up h r ds up ∙ ap (λ (z : Option Holder). or_else z (latest_holder h r up)) (latest_other h r ds other));
})

pub own_still : (p : Party) (given more : List GivenRow) (up ds new : List Allocation) → new ≡ ds ++ up → AllElsewhere p.number more → OwnAllocations p given up → OwnAllocations p (given ++ more) new
own_still p given more up ds new is all own = record {
  entries = agrees_still p.number p.core.rows.outbox given more all own.entries;
  notices = λ n l. let x = own.notices n l in (x.0, (subst (λ (us : List Allocation). Among x.0 us) (sym is) (among_back x.0 ds up x.1.0), x.1.1, x.1.2));
}

-- ---- plain facts

below_or : (n k : ℕ) → n < k + 1 → (n < k) ⊎ (n ≡ k)
below_or n k l = ⊎_elim
    (λ (t : nat_lt n k ≡ true). inl (ltb-true n k t))
    (λ (f : nat_lt n k ≡ false). let m = ltb-false n k f in let e : n ≡ k = omega (arith, l, m) in inr e)
    (cases_Bool (nat_lt n k))

entry_memory : (a b : ℕ) → Some (Entry a) ≡ Some (Memory b) → ⊥
entry_memory a b e = absurd cc

side_up : (g : GivenRow) → g.direction ≡ Up → IsUp g
side_up g e = ap (λ (z : Direction). is_same_side z Up) e

of_up : (h : List ℕ) (r : ℕ) (g : GivenRow) → is_of_reference h Up r g ≡ true → (g.handset ≡ h) × (g.reference ≡ r)
of_up h r g e =
    let p = and_parts (bytes_eq g.handset h) (is_same_side g.direction Up && (g.reference == r)) e in
    let q = and_parts (is_same_side g.direction Up) (g.reference == r) p.1 in
    ((bytes_eq-Decides g.handset h).0 p.0, eqb-true g.reference r q.1)

up_of : (h : List ℕ) (r : ℕ) (g : GivenRow) → IsUp g → g.handset ≡ h → g.reference ≡ r → is_of_reference h Up r g ≡ true
up_of h r g side e q =
    and_from (bytes_eq g.handset h) (is_same_side g.direction Up && (g.reference == r)) ((bytes_eq-Decides g.handset h).1 e)
    (and_from (is_same_side g.direction Up) (g.reference == r) side (eq-eqb g.reference r q))

-- ---- rows and allocations of one event: each of one is one of the other

pub record UpNew (h : List ℕ) (gs : List GivenRow) (ds all : List Allocation) : Type 0 where
  pub row : (g : GivenRow) → Among g gs → IsUp g × (g.handset ≡ h) × ((x : Allocation) × (Among x all × IsOfAllocationUp g x))
  pub told : (x : Allocation) → Among x ds → (g : GivenRow) × (Among g gs × IsUp g × IsOfAllocationUp g x)
  pub once : (a b : GivenRow) → Among a gs → Among b gs → a.reference ≡ b.reference → a.holder ≡ b.holder

module _ (h : List ℕ) (given gs : List GivenRow) (up ds : List Allocation) (tells : AgreesUp h given up) (n : UpNew h gs ds (ds ++ up)) (mine : (x : Allocation) → Among x ds → x.handset ≡ h)
    (fresh : (x y : Allocation) → Among x ds → Among y up → y.handset ≡ x.handset → y.holder ≡ x.holder → ⊥) (single : UpSingle (ds ++ up))
    (new : (g : GivenRow) → Among g gs → (x : Allocation) × (Among x ds × IsOfAllocationUp g x)) where
  same_last : (r : ℕ) (a b : Option Holder) → last_holder None h Up r gs ≡ a → latest_holder h r ds ≡ b → a ≡ b
  same_last r None None e q = refl
  same_last r (Some k) None e q =
      let g = found_last Up h r gs k e in
      let of = of_up h r g.0 g.1.1 in
      let x = new g.0 g.1.0 in
      absurd (none_latest Up h r ds q x.0 x.1.0 (named h r x.0 (x.1.1.handset ∙ of.0) (x.1.1.reference ∙ of.1)))
  same_last r None (Some l) e q =
      let y = found_latest Up h r ds l q in
      let of = names_it h r y.0 y.1.1 in
      let g = n.told y.0 y.1.0 in
      absurd (none_last Up h r gs e g.0 g.1.0 (up_of h r g.0 g.1.1 (sym g.1.2.handset ∙ of.0) (sym g.1.2.reference ∙ of.1)))
  same_last r (Some k) (Some l) e q =
      let g = found_last Up h r gs k e in
      let of = of_up h r g.0 g.1.1 in
      let y = found_latest Up h r ds l q in
      let at = names_it h r y.0 y.1.1 in
      let z = n.told y.0 y.1.0 in
      let same : g.0.holder ≡ z.0.holder = n.once g.0 z.0 g.1.0 z.1.0 (of.1 ∙ sym at.1 ∙ z.1.2.reference) in
      ap (λ (v : Holder). Some v) (sym g.1.2 ∙ same ∙ sym z.1.2.holder ∙ y.1.2)

  pub up_more : AgreesUp h (given ++ gs) (ds ++ up)
  up_more = record {
    each = λ g i side own. ⊎_elim
        (λ (j : Among g given). let x = tells.each g j side own in (x.0, (among_back x.0 ds up x.1.0, x.1.1)))
        (λ (j : Among g gs). (n.row g j).2)
        (among_parts g given gs i);
    only = λ x i own. ⊎_elim
        (λ (j : Among x ds). let g = n.told x j in (g.0, (among_back g.0 given gs g.1.0, g.1.1, g.1.2)))
        (λ (j : Among x up). let g = tells.only x j own in (g.0, (among_front g.0 given gs g.1.0, g.1.1, g.1.2)))
        (among_parts x ds up i);
    last = λ r. last_over Up h r None given gs ∙ last_else Up h r gs (last_holder None h Up r given)
        ∙ (λ j. or_else (same_last r (last_holder None h Up r gs) (latest_holder h r ds) refl refl j) (tells.last r j))
        ∙ sym (latest_else Up h r ds up);
  }

-- ---- an event of a handset

module _ (p : Party) (d : Draft) (given : List GivenRow) (w x : World) (steps : List Step) (grown : UpGrown p.number w.up x.up)
    (so : (y : Allocation) (n : ℕ) → y.holder ≡ Entry n → Among y x.up → Among y w.up ⊎ HasEntry x.outbox y.handset n)
    (before : Refines p.number w (draft_of p.core) w) (after : Refines p.number w d x) (single : UpSingle x.up) (ends : Ends p.number given p.core.rows.outbox p.core.rows.counters.notice p.core.rows.counters.entry d)
    (tells : AgreesUp p.number given w.up) (own : OwnAllocations p given w.up) where
  abbrev h : List ℕ
  h = p.number

  abbrev base : List OutRow
  base = p.core.rows.outbox

  abbrev next : ℕ
  next = p.core.rows.counters.notice

  abbrev first : ℕ
  first = p.core.rows.counters.entry

  abbrev entries : List GivenRow
  entries = entries_given h d.moment base d.changes.outbox

  abbrev memories : List GivenRow
  memories = memories_given h d.moment next d.frames

  abbrev rows : List GivenRow
  rows = entries ++ memories

  abbrev ds : List Allocation
  ds = grown.more

  in_new : (y : Allocation) → Among y ds → Among y x.up
  in_new y i = subst (λ (us : List Allocation). Among y us) (sym grown.is) (among_front y ds w.up i)

  in_old : (y : Allocation) → Among y w.up → Among y x.up
  in_old y i = subst (λ (us : List Allocation). Among y us) (sym grown.is) (among_back y ds w.up i)

  found : (o : OutRow) → Among o d.rows.outbox → row_at out_key o.number d.rows.outbox ≡ Some o
  found o i = among_found out_key o d.rows.outbox ends.order i

  -- the giving of an entry that is there
  entry_allocation : (g : GivenRow) (o : OutRow) → Among o d.rows.outbox → IsRowFor h g o → (y : Allocation) × (Among y x.up × IsOfAllocationUp g y)
  entry_allocation g o i row =
      let y = after.out.given o.number o (found o i) in
      (record { handset = h; reference = o.reference; holder = Entry o.number; moment = y.0; tpdu = [] }, (y.1, record { handset = sym row.handset; reference = sym row.reference; holder = sym row.holder }))

  -- the giving of the RP-SMMA that went out for the first time
  notice_allocation : (s : SentOne h given base next first d) → (y : Allocation) × (Among y x.up × IsOfAllocationUp s.0 y)
  notice_allocation (g, (all, handset, direction, holder, counter, (n, (there, number, reference)))) =
      let y = after.notices.given n there in
      (record { handset = h; reference = n.reference; holder = Memory n.number; moment = y.0; tpdu = [] }, (y.1, record { handset = sym handset; reference = reference; holder = ap (λ (k : ℕ). Memory k) number ∙ sym holder }))

  only_row : (s : SentOne h given base next first d) (g : GivenRow) → Among g memories → g ≡ s.0
  only_row s g i = ⊎_elim (λ (e : g ≡ s.0). e) (λ none. absurd none) (subst (λ (gs : List GivenRow). Among g gs) s.1.0 i)

  row_reported : (g : GivenRow) → Among g rows → IsUp g × (g.handset ≡ h) × ((y : Allocation) × (Among y x.up × IsOfAllocationUp g y))
  row_reported g i = ⊎_elim
      (λ (j : Among g entries). let n = ends.news.from g j in (side_up g n.1.3.direction, n.1.3.handset, entry_allocation g n.0 n.1.0 n.1.3))
      (λ (j : Among g memories). ⊎_elim
      (λ (none : (memories ≡ []) × (d.rows.counters.notice ≡ next)). absurd (subst (λ (gs : List GivenRow). Among g gs) none.0 j))
      (λ (s : SentOne h given base next first d).
      subst (λ (z : GivenRow). IsUp z × (z.handset ≡ h) × ((y : Allocation) × (Among y x.up × IsOfAllocationUp z y))) (sym (only_row s g j)) (side_up s.0 s.1.2, s.1.1, notice_allocation s))
      ends.sent)
      (among_parts g entries memories i)

  -- ---- of a giving

  abbrev HasRow : Allocation → Type 0
  HasRow y = (g : GivenRow) × (Among g rows × IsUp g × IsOfAllocationUp g y)

  stale : (y : Allocation) → Among y ds → Among y w.up → ⊥
  stale y i j = grown.fresh y y i j refl refl

  entry_row : (y : Allocation) → Among y ds → (n : ℕ) → y.holder ≡ Entry n → HasEntry x.outbox y.handset n → HasRow y
  entry_row y i n holder (e, (there, handset, number)) =
      let own_handset : e.handset ≡ h = handset ∙ grown.mine y i in
      let o = after.out.only e there own_handset in
      let row : OutRow = o.0 in
      let name : row.number ≡ e.number = found_key out_key e.number row d.rows.outbox o.1.0 in
      let at : Among row d.rows.outbox = found_among out_key e.number row d.rows.outbox o.1.0 in
      let holder_is : y.holder ≡ Entry row.number = holder ∙ ap (λ (k : ℕ). Entry k) (sym (name ∙ number)) in
      let new : row_at out_key row.number base ≡ None = none_before row.number holder_is (row_at out_key row.number base) refl in
      let z = ends.news.to row at new in
      let same : y.reference ≡ row.reference = after.out.same row.number row y (found row at) (in_new y i) (grown.mine y i) holder_is in (
        z.0,
        (
          among_front z.0 entries memories z.1.0,
          side_up z.0 z.1.1.direction,
          record { handset = grown.mine y i ∙ sym z.1.1.handset; reference = same ∙ sym z.1.1.reference; holder = holder_is ∙ sym z.1.1.holder },
        ),
      )
    where
      none_before : (k : ℕ) → y.holder ≡ Entry k → (b : Option OutRow) → row_at out_key k base ≡ b → b ≡ None
      none_before k e None q = refl
      none_before k e (Some b) q =
          let g = before.out.given k b q in
          absurd (grown.fresh y (record { handset = h; reference = b.reference; holder = Entry k; moment = g.0; tpdu = [] }) i g.1 (sym (grown.mine y i)) (sym e))

  -- a number below the next was given before
  not_before : (y : Allocation) → Among y ds → (n : ℕ) → y.holder ≡ Memory n → n < next → ⊥
  not_before y i n holder l = let z = own.notices n l in grown.fresh y z.0 i z.1.0 (z.1.1 ∙ sym (grown.mine y i)) (z.1.2 ∙ sym holder)

  notice_row : (y : Allocation) → Among y ds → (n : ℕ) → y.holder ≡ Memory n → HasRow y
  notice_row y i n holder =
      let below : n < d.rows.counters.notice = after.notices.used n y (in_new y i) (grown.mine y i) holder in
      ⊎_elim
      (λ (none : (memories ≡ []) × (d.rows.counters.notice ≡ next)). absurd (not_before y i n holder (subst (λ (k : ℕ). n < k) none.1 below)))
      (λ (s : SentOne h given base next first d). ⊎_elim
      (λ (l : n < next). absurd (not_before y i n holder l))
      (λ (e : n ≡ next).
      let z = notice_allocation s in
      let both : y ≡ z.0 = single y z.0 (in_new y i) z.1.0 (grown.mine y i ∙ sym (z.1.1.handset ∙ s.1.1)) (holder ∙ ap (λ (k : ℕ). Memory k) e ∙ sym (z.1.1.holder ∙ s.1.3)) in (
        s.0,
        (
          among_back s.0 entries memories (subst (λ (gs : List GivenRow). Among s.0 gs) (sym s.1.0) (inl refl)),
          side_up s.0 s.1.2,
          subst (λ (v : Allocation). IsOfAllocationUp s.0 v) (sym both) z.1.1,
        ),
      ))
      (below_or n next (subst (λ (k : ℕ). n < k) s.1.4 below)))
      ends.sent

  allocation_row : (y : Allocation) → Among y ds → (k : Holder) → y.holder ≡ k → HasRow y
  allocation_row y i (Part id n) e = absurd (subst (λ (k : Holder). IsOwnHolder k) e (grown.own y i))
  allocation_row y i (Report id) e = absurd (subst (λ (k : Holder). IsOwnHolder k) e (grown.own y i))
  allocation_row y i (Entry n) e = ⊎_elim (λ (j : Among y w.up). absurd (stale y i j)) (λ (k : HasEntry x.outbox y.handset n). entry_row y i n e k) (so y n e (in_new y i))
  allocation_row y i (Memory n) e = notice_row y i n e

  -- ---- no reference has two rows

  last_reported : (o : OutRow) → Among o d.rows.outbox → IsOpen first o → last_holder None h Up o.reference (given ++ rows) ≡ Some (Entry o.number)
  last_reported o i open_o = ends.held o i open_o.0

  entries_once : (a b : GivenRow) → Among a entries → Among b entries → a.reference ≡ b.reference → a.holder ≡ b.holder
  entries_once a b i j same =
      let m = ends.news.from a i in
      let n = ends.news.from b j in
      let one : m.0.reference ≡ n.0.reference = sym m.1.3.reference ∙ same ∙ n.1.3.reference in
      let both : Entry m.0.number ≡ Entry n.0.number =
      same_Some (Entry m.0.number) (Entry n.0.number)
      (sym (last_reported m.0 m.1.0 m.1.2) ∙ ap (λ (r : ℕ). last_holder None h Up r (given ++ rows)) one ∙ last_reported n.0 n.1.0 n.1.2) in
      m.1.3.holder ∙ both ∙ sym n.1.3.holder

  -- an RP-SMMA has a reference of its own
  apart : (a b : GivenRow) → Among a entries → Among b memories → a.reference ≡ b.reference → ⊥
  apart a b i j same = ⊎_elim
      (λ (none : (memories ≡ []) × (d.rows.counters.notice ≡ next)). subst (λ (gs : List GivenRow). Among b gs) none.0 j)
      (λ (s : SentOne h given base next first d).
      let m = ends.news.from a i in
      let own_row : b ≡ s.0 = only_row s b j in
      let r : m.0.reference ≡ s.0.reference = sym m.1.3.reference ∙ same ∙ ap (λ (z : GivenRow). z.reference) own_row in
      let before_it : List GivenRow = given ++ entries in
      let all : given ++ rows ≡ before_it ++ s.0 ∷ [] = ap (λ (gs : List GivenRow). given ++ (entries ++ gs)) s.1.0 ∙ sym (append_assoc given entries (s.0 ∷ [])) in
      let last : last_holder None h Up s.0.reference (before_it ++ s.0 ∷ []) ≡ Some s.0.holder =
      last_over_up None h s.0.reference before_it (s.0 ∷ [])
      ∙ subst (λ (z : List ℕ). last_holder (last_holder None h Up s.0.reference before_it) z Up s.0.reference (s.0 ∷ []) ≡ Some s.0.holder) s.1.1
      (last_own (last_holder None h Up s.0.reference before_it) s.0 (side_up s.0 s.1.2)) in
      entry_memory m.0.number next
      (sym (last_reported m.0 m.1.0 m.1.2) ∙ (λ k. last_holder None h Up (r k) (all k)) ∙ last ∙ ap (λ (z : Holder). Some z) s.1.3))
      ends.sent

  rows_once : (a b : GivenRow) → Among a rows → Among b rows → a.reference ≡ b.reference → a.holder ≡ b.holder
  rows_once a b i j same = ⊎_elim
      (λ (m : Among a entries). ⊎_elim
      (λ (n : Among b entries). entries_once a b m n same)
      (λ (n : Among b memories). absurd (apart a b m n same))
      (among_parts b entries memories j))
      (λ (m : Among a memories). ⊎_elim
      (λ (n : Among b entries). absurd (apart b a n m (sym same)))
      (λ (n : Among b memories). ⊎_elim
      (λ (none : (memories ≡ []) × (d.rows.counters.notice ≡ next)). absurd (subst (λ (gs : List GivenRow). Among a gs) none.0 m))
      (λ (s : SentOne h given base next first d). ap (λ (z : GivenRow). z.holder) (only_row s a m ∙ sym (only_row s b n)))
      ends.sent)
      (among_parts b entries memories j))
      (among_parts a entries memories i)

  -- ---- all that is told

  -- the giving of a row is new: the row's holder had none
  row_new : (g : GivenRow) → Among g rows → (y : Allocation) × (Among y ds × IsOfAllocationUp g y)
  row_new g i =
      let r = row_reported g i in
      let y = r.2 in
      ⊎_elim
      (λ (j : Among y.0 ds). (y.0, (j, y.1.1)))
      (λ (j : Among y.0 w.up). absurd (was_not g i y.0 j y.1.1))
      (among_parts y.0 ds w.up (subst (λ (us : List Allocation). Among y.0 us) grown.is y.1.0))
    where
      was_not : (g : GivenRow) → Among g rows → (y : Allocation) → Among y w.up → IsOfAllocationUp g y → ⊥
      was_not g i y j t = ⊎_elim
          (λ (k : Among g entries).
          let n = ends.news.from g k in
          let holder : y.holder ≡ Entry n.0.number = t.holder ∙ n.1.3.holder in
          let l : n.0.number < first = before.out.used n.0.number y j (t.handset ∙ n.1.3.handset) holder in
          let m : first ≤ n.0.number = n.1.2.1 in
          let no : ⊥ = omega (arith, l, m) in no)
          (λ (k : Among g memories). ⊎_elim
          (λ (none : (memories ≡ []) × (d.rows.counters.notice ≡ next)). subst (λ (gs : List GivenRow). Among g gs) none.0 k)
          (λ (s : SentOne h given base next first d).
          let holder : y.holder ≡ Memory next = t.holder ∙ ap (λ (z : GivenRow). z.holder) (only_row s g k) ∙ s.1.3 in
          let l : next < next = before.notices.used next y j (t.handset ∙ ap (λ (z : GivenRow). z.handset) (only_row s g k) ∙ s.1.1) holder in
          let no : ⊥ = omega (arith, l) in no)
          ends.sent)
          (among_parts g entries memories i)

  pub own_up : AgreesUp h (given ++ rows) x.up
  own_up =
      subst (λ (us : List Allocation). AgreesUp h (given ++ rows) us) (sym grown.is)
      (up_more h given rows w.up ds tells
      (record {
        row = λ g i. subst (λ (us : List Allocation). IsUp g × (g.handset ≡ h) × ((y : Allocation) × (Among y us × IsOfAllocationUp g y))) grown.is (row_reported g i);
        told = λ y i. allocation_row y i y.holder refl;
        once = rows_once;
      })
      grown.mine grown.fresh (subst (λ (us : List Allocation). UpSingle us) grown.is single) row_new)

  pub own_notices : (n : ℕ) → n < d.rows.counters.notice → (y : Allocation) × (Among y x.up × (y.handset ≡ h) × (y.holder ≡ Memory n))
  own_notices n l = ⊎_elim
      (λ (none : (memories ≡ []) × (d.rows.counters.notice ≡ next)). let z = own.notices n (subst (λ (k : ℕ). n < k) none.1 l) in (z.0, (in_old z.0 z.1.0, z.1.1, z.1.2)))
      (λ (s : SentOne h given base next first d). ⊎_elim
      (λ (m : n < next). let z = own.notices n m in (z.0, (in_old z.0 z.1.0, z.1.1, z.1.2)))
      (λ (e : n ≡ next). let z = notice_allocation s in (z.0, (z.1.0, z.1.1.handset ∙ s.1.1, z.1.1.holder ∙ s.1.3 ∙ ap (λ (k : ℕ). Memory k) (sym e))))
      (below_or n next (subst (λ (k : ℕ). n < k) s.1.4 l)))
      ends.sent

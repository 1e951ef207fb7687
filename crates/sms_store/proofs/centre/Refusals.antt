-- Why a database is refused, step by step.
use Rattle.std.proofs.Common.{◌≡◌, ◌≢◌, ◌<◌, refl, inl, inr, false, true, Bool, if◌then◌else◌, nat_lt, ℕ, List, [], ◌∷◌, arith, sym, subst, Result, Ok, Err}
use Rattle.std.proofs.lemmas.Bool.Decides.{nat_tests}
use Rattle.sqlite.specs.Effect.{Database}
use Rattle.sqlite.specs.Schema.{Schema}
use Rattle.sms_rows.specs.declared.keep.error.KeepError.{KeepError}
use Rattle.sms_rows.specs.declared.keep.error.KeepError.TheVariants.{OldVersion, NotThisStore}
use Rattle.sms_store_sql.specs.declared.listing.meta.StoreKind.TheVariants.{Centre}
use Rattle.sms_store_sql.specs.schema.Judged.{judged, same_kind}
use Rattle.sms_store_sql.specs.tabled.MetaTable.{meta_list_in}
use Rattle.sms_store_tables.specs.centre.CentreSchema.{centre_schema, first_schema, second_schema}
use Rattle.sms_store_tables.specs.centre.MetaList.{first_list, meta_list, second_list}
use Rattle.sms_store.specs.keeping.Refusing.{RefusesSaid, Says}
use Rattle.sms_store.specs.centre.Refusing.{SaysNow, SaysFirst, SaysSecond, IsOldNow, IsOtherNow, RefusesEarlier, RefusesNow, IsOld, IsOther, Refuses}
use Rattle.sms_store.specs.centre.Types.{Meta}
use Rattle.sms_store.proofs.keeping.Openings.{refuses_for}

-- ---- by one who wants version 3, of the tables of version 3

pub refuses_now_said : (db : Database) (error : KeepError) → RefusesSaid centre_schema meta_list Centre 3 error db → RefusesNow error db
refuses_now_said db error h = refuses_for (SaysNow 3 (Err OldVersion)) (SaysNow 3 (Err NotThisStore)) IsOldNow IsOtherNow db (λ says. says) (λ says. inr says) error h

pub refuses_now : (least : ℕ) (db : Database) (error : KeepError) → db.schema ≢ first_schema → db.schema ≢ second_schema → RefusesNow error db → Refuses least error db
refuses_now least db error other_first other_second h = refuses_for IsOldNow IsOtherNow (IsOld least) IsOther db (λ says. inl says) foreign error h
  where
    foreign : IsOtherNow db → IsOther db
    foreign (inl others) = inl (record { some = others.0; other = others.1; other_second = other_second; other_first = other_first })
    foreign (inr says) = inr (inl says)

-- what is refused of the tables of an earlier version by one who wants that version
pub refuses_first : (db : Database) (error : KeepError) → RefusesSaid first_schema first_list Centre 1 error db → Refuses 1 error db
refuses_first db error h = refuses_for (SaysFirst 1 (Err OldVersion)) (SaysFirst 1 (Err NotThisStore)) (IsOld 1) IsOther db (λ says. inr (inr says)) (λ says. inr (inr (inr says))) error h

pub refuses_second : (db : Database) (error : KeepError) → RefusesSaid second_schema second_list Centre 2 error db → Refuses 1 error db
refuses_second db error h = refuses_for (SaysSecond 2 (Err OldVersion)) (SaysSecond 2 (Err NotThisStore)) (IsOld 1) IsOther db (λ says. inr (inl says)) (λ says. inr (inr (inl says))) error h

-- ---- one who wants version 3 refuses of them what the other refuses, and the later ones

abbrev verdict : Bool → Bool → Bool → Result (Unit {0}) KeepError
verdict ours above below = if ours then (if above then Err NotThisStore else if below then Err OldVersion else Ok tt) else Err NotThisStore

second_verdict : (ours a b c d : Bool) → (a ≡ false → b ≡ false → c ≡ true) → verdict ours a b ≡ Ok tt → verdict ours c d ≡ Err NotThisStore
second_verdict false a b c d over says = refl
second_verdict true true b c d over says = absurd cc
second_verdict true false true c d over says = absurd cc
second_verdict true false false true d over says = refl
second_verdict true false false false d over says = let no : false ≡ true = over refl refl in absurd cc

other_verdict : (ours a b c d : Bool) → (a ≡ true → c ≡ true) → verdict ours a b ≡ Err NotThisStore → verdict ours c d ≡ Err NotThisStore
other_verdict false a b c d over says = refl
other_verdict true true b true d over says = refl
other_verdict true true b false d over says = let no : false ≡ true = over refl in absurd cc
other_verdict true false true c d over says = absurd cc
other_verdict true false false c d over says = absurd cc

module _ (wanted least : ℕ) (less : least < wanted) where
  one_over : (v : ℕ) → nat_lt wanted v ≡ false → nat_lt v wanted ≡ false → nat_lt least v ≡ true
  one_over v above below = grind (arith, nat_tests, less, above, below)

  above_over : (v : ℕ) → nat_lt wanted v ≡ true → nat_lt least v ≡ true
  above_over v above = grind (arith, nat_tests, less, above)

  one_judged : (said : List Meta) → judged Centre wanted said ≡ Ok tt → judged Centre least said ≡ Err NotThisStore
  one_judged [] says = absurd cc
  one_judged (m ∷ []) says = second_verdict (same_kind m.kind Centre) (nat_lt wanted m.version) (nat_lt m.version wanted) (nat_lt least m.version) (nat_lt m.version least) (one_over m.version) says
  one_judged (m ∷ other ∷ more) says = absurd cc

  other_judged : (said : List Meta) → judged Centre wanted said ≡ Err NotThisStore → judged Centre least said ≡ Err NotThisStore
  other_judged [] says = refl
  other_judged (m ∷ []) says = other_verdict (same_kind m.kind Centre) (nat_lt wanted m.version) (nat_lt m.version wanted) (nat_lt least m.version) (nat_lt m.version least) (above_over m.version) says
  other_judged (m ∷ other ∷ more) says = refl

module _ (tables : Schema) (own : ℕ) (less : own < 3) (db : Database) where
  abbrev SaysOf : ℕ → Result (Unit {0}) KeepError → Type 0
  SaysOf version judgement = Says tables (meta_list_in tables) Centre version judgement db

  refuses_so : (SaysOf 3 (Err OldVersion) → IsOld 3 db) → (SaysOf own (Err NotThisStore) → IsOther db) → (error : KeepError) → RefusesEarlier tables error db → Refuses 3 error db
  refuses_so old other error (inl h) =
      refuses_for (Says tables (meta_list_in tables) Centre 3 (Err OldVersion)) (Says tables (meta_list_in tables) Centre 3 (Err NotThisStore)) (IsOld 3) IsOther db old
      (λ says. other (record { tables = says.tables; said = λ said held. other_judged 3 own less said (says.said said held) })) error h
  refuses_so old other error (inr later) =
      subst (λ e. Refuses 3 e db) (sym later.0)
      (other (record { tables = later.1.tables; said = λ said held. one_judged 3 own less said (later.1.said said held) }))

pub refuses_first_now : (db : Database) (error : KeepError) → RefusesEarlier first_schema error db → Refuses 3 error db
refuses_first_now db = refuses_so first_schema 1 (omega arith) db (λ says. inr (inr says)) (λ says. inr (inr (inr says)))

pub refuses_second_now : (db : Database) (error : KeepError) → RefusesEarlier second_schema error db → Refuses 3 error db
refuses_second_now db = refuses_so second_schema 2 (omega arith) db (λ says. inr (inl says)) (λ says. inr (inr (inl says)))

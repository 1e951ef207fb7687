-- Accounts that tables spell, and files of them.
use Rattle.std.proofs.Common.{◌≡◌, ◌+◌, ℕ, zero, suc, Bool, true, false, List, Result, Ok, Err, OnOk, [], ◌∷◌, length, codes, Option, Some, None, IfNone, refl, sym, true≢false, ◌∙◌, subst, arith}
use Rattle.std.specs.Prelude.{option_and_then}
use Rattle.toml.specs.Data.{Data, Members, as_str, as_table, get_member}
use Rattle.toml.specs.View.{items_view, view}
use Rattle.toml.specs.declared.value.Value.{Value}
use Rattle.smsc_cli.specs.declared.words.account_tables.PasswordWords.{PasswordWords}
use Rattle.smsc_cli.specs.declared.words.account_tables.PasswordWords.TheVariants.{Plain, Salted}
use Rattle.smsc_cli.specs.declared.words.account_tables.TableAccount.{TableAccount}
use Rattle.smsc_cli.specs.declared.words.account_tables.TableFault.{TableFault}
use Rattle.smsc_cli.specs.declared.words.account_tables.TableFault.TheVariants.{BadAccount, NoAccounts, NoMemory as NoMemoryOfFile}
use Rattle.smsc_cli.specs.declared.words.fault.WordsFault.{WordsFault}
use Rattle.smsc_cli.specs.declared.words.fault.WordsFault.TheVariants.{BadWords, NoMemory}
use Rattle.smsc_cli.specs.words.AccountTables.{AddsNoValue, AddsValue, AddsValues, HasRoomFor, SaysPassword, SpellsDigest, SpellsName, SpellsTable, SpellsValue, StopsAtValue, text_at}
use Rattle.smsc_cli.specs.words.SimWords.{Gives, Spells}

-- ---- one value, one name

one_name : (o : Option (List ℕ)) (a b : List ℕ) → Gives SpellsName o a → Gives SpellsName o b → a ≡ b
one_name None a b s t = let no = s.1 in absurd cc
one_name (Some text) a b s t =
    let x : text ≡ s.0 = let e = s.1 in cc in
    let y : text ≡ t.0 = let e = t.1 in cc in
    s.2.0 ∙ sym x ∙ y ∙ sym t.2.0

same_table : (o : Option Members) (x y : Members) → o ≡ Some x → o ≡ Some y → x ≡ y
same_table None x y e f = absurd cc
same_table (Some z) x y e f = let p : z ≡ x = cc in let q : z ≡ y = cc in sym p ∙ q

same_name : (value : Data) (a b : TableAccount) → SpellsValue value a → SpellsValue value b → a.name.now ≡ b.name.now
same_name value a b (x, e, s) (y, f, t) =
    let one : SpellsTable y a = subst (λ (table : Members). SpellsTable table a) (same_table (as_table value) x y e f) s in
    one_name _ a.name.now b.name.now one.name t.name

pub no_room_for : (value : Data) (b : TableAccount) (old seen : List TableAccount) (has : Bool) → seen ≡ old → has ≡ false → (HasRoomFor b.name.now seen → has ≡ true) → SpellsValue value b
    → AddsNoValue value old
no_room_for value b old seen has same lacks found t a s room =
    let yes : has ≡ true = found
    (subst (λ (accounts : List TableAccount). HasRoomFor b.name.now accounts) (sym same) (subst (λ (x : List ℕ). HasRoomFor x old) (same_name value a b s t) room)) in
    absurd (true≢false (sym yes ∙ lacks))

pub some_room_for : (value : Data) (b : TableAccount) (old seen : List TableAccount) (has : Bool) → seen ≡ old → has ≡ true → (has ≡ true → HasRoomFor b.name.now seen) → SpellsValue value b
    → AddsNoValue value old → ⊥
some_room_for value b old seen has same is found spells none =
    none b spells (subst (λ (accounts : List TableAccount). HasRoomFor b.name.now accounts) same (found is))

-- ---- passwords

no_text : (key : List ℕ) (table : Members) (text : List ℕ) → get_member key table ≡ None → text_at key table ≡ Some text → ⊥
no_text key table text lacks e =
    let f : option_and_then as_str None ≡ Some text = subst (λ (o : Option Data). option_and_then as_str o ≡ Some text) lacks e in
    absurd cc

no_salted : (table : Members) → get_member (codes "password") table ≡ None → (Spells SpellsDigest (text_at (codes "hash") table) → ⊥) → (password : PasswordWords) → SaysPassword table password → ⊥
no_salted table lacks none (Plain word) s = let g = s.0 in no_text (codes "password") table g.0 lacks g.1
no_salted table lacks none (Salted salt digest) s = none (digest, s.2)

pub no_digest : {A : Type 0} (table : Members) (r : Option A) {o : Option (List ℕ)} → get_member (codes "password") table ≡ None → o ≡ text_at (codes "hash") table
    → (Spells SpellsDigest o → ⊥) → IfNone r ((password : PasswordWords) → SaysPassword table password → ⊥)
no_digest table None lacks same none = no_salted table lacks (λ s. none (subst (λ (t : Option (List ℕ)). Spells SpellsDigest t) (sym same) s))
no_digest table (Some x) lacks same none = tt

-- ---- several

pub values_added : {E : Type 0} (values : List Value) (first : Value) (others : List Value) (old mid new : List TableAccount) (r : Result (Unit {0}) E) → values ≡ first ∷ others
    → AddsValue (view first) old mid → OnOk r (AddsValues (items_view others) mid new) → OnOk r (AddsValues (items_view values) old new)
values_added values first others old mid new (Ok done) e one all = subst (λ (l : List Value). AddsValues (items_view l) old new) (sym e) (mid, one, all)
values_added values first others old mid new (Err fault) e one all = tt

pub values_stop_later : (values : List Value) (first : Value) (others : List Value) (bad number : ℕ) (old mid new : List TableAccount) → values ≡ first ∷ others
    → AddsValue (view first) old mid → (place : ℕ) × (bad ≡ place + (number + 1)) × StopsAtValue place (items_view others) mid new
    → (place : ℕ) × (bad ≡ place + number) × StopsAtValue place (items_view values) old new
values_stop_later values first others bad number old mid new e one (place, is, s) =
    (suc place, omega (arith, is), subst (λ (l : List Value). StopsAtValue (suc place) (items_view l) old new) (sym e) (mid, one, s))

pub values_stop_first : (values : List Value) (first : Value) (others : List Value) (bad number : ℕ) (old new : List TableAccount) → values ≡ first ∷ others
    → (bad ≡ number) × AddsNoValue (view first) old → new ≡ old → (place : ℕ) × (bad ≡ place + number) × StopsAtValue place (items_view values) old new
values_stop_first values first others bad number old new e (is, none) same =
    (0, omega (arith, is), subst (λ (l : List Value). StopsAtValue 0 (items_view l) old new) (sym e) (none, same))

pub no_values : (values : List Value) (old : List TableAccount) → length values ≡ 0 → AddsValues (items_view values) old old
no_values [] old e = refl
no_values (value ∷ values) old e = absurd (omega (arith, e))

-- ---- faults

pub bad_account : {A : Type 0} (fault : WordsFault) (number bad : ℕ) (out : TableFault) → (fault ≡ BadWords → out ≡ BadAccount number) → (fault ≡ NoMemory → out ≡ NoMemoryOfFile)
    → ◌≡◌ {A = Result A TableFault} (Err out) (Err (BadAccount bad)) → (fault ≡ BadWords) × (bad ≡ number)
bad_account BadWords number bad out words memory e =
    let said : out ≡ BadAccount bad = cc in
    let is : BadAccount number ≡ BadAccount bad = sym (words refl) ∙ said in
    let same : bad ≡ number = cc in
    (refl, same)
bad_account NoMemory number bad out words memory e =
    let said : out ≡ BadAccount bad = cc in
    let is : NoMemoryOfFile ≡ BadAccount bad = sym (memory refl) ∙ said in
    absurd cc

pub some_accounts : {A : Type 0} (fault : WordsFault) (number : ℕ) (out : TableFault) → (fault ≡ BadWords → out ≡ BadAccount number) → (fault ≡ NoMemory → out ≡ NoMemoryOfFile)
    → ◌≡◌ {A = Result A TableFault} (Err out) (Err NoAccounts) → ⊥
some_accounts BadWords number out words memory e =
    let said : out ≡ NoAccounts = cc in
    let is : BadAccount number ≡ NoAccounts = sym (words refl) ∙ said in
    absurd cc
some_accounts NoMemory number out words memory e =
    let said : out ≡ NoAccounts = cc in
    let is : NoMemoryOfFile ≡ NoAccounts = sym (memory refl) ∙ said in
    absurd cc

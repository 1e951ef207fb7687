-- A text that is cut at its first octet of a kind, and accounts that are cut so.
use Rattle.std.proofs.Common.{◌≡◌, ◌≢◌, ◌⊎◌, inl, inr, ◌<◌, ◌+◌, ◌↔◌, ℕ, zero, suc, Bool, true, false, List, Result, Ok, Err, OnOk, [], ◌∷◌, ◌++◌, length, map, get_or, Option, Some, None, MatchOption, IfSome, IfNone, refl, sym, true≢false, ap, ◌∙◌, subst, arith, length-append}
use Rattle.std.proofs.lemmas.List.{length-map, map-append}
use Rattle.std.specs.Str.Iter.{LacksByte}
use denote.Ref.{Bor}
use Rattle.sms_base.specs.declared.address.Address.{Address}
use Rattle.smsc_cli.specs.declared.words.account.AccountWords.{AccountWords}
use Rattle.smsc_cli.specs.words.Accounts.{AddsAccount, AddsAll, AddsNone, HasRoomFor, IsCutAt, IsName, IsNewName, IsPassword, SpellsAccount, SpellsEnd, SpellsLimit, SpellsNoLimit, StopsAt}
use Rattle.smsc_cli.specs.words.Numbers.{IsSessions}
use Rattle.smsc_cli.specs.words.SimWords.{SpellsNumber}

-- what `split_parts` says of `split_once`
abbrev IsParted : ℕ → List ℕ → Option (Bor (List ℕ) × Bor (List ℕ)) → Type 0
IsParted c bs r = MatchOption r ((i : ℕ) → i < length bs → get_or bs i 0 ≢ c) (λ x. (bs ≡ x.0.now ++ (c ∷ x.1.now)) × ((i : ℕ) → i < length x.0.now → get_or x.0.now i 0 ≢ c))

pub cut_some : (c : ℕ) (bs : List ℕ) (r : Option (Bor (List ℕ) × Bor (List ℕ))) → IsParted c bs r → IfSome r (λ x. IsCutAt c bs x.0.now x.1.now)
cut_some c bs None h = tt
cut_some c bs (Some x) h = record { parts = h.0; first = h.1 }

pub cut_none : (c : ℕ) (bs : List ℕ) (r : Option (Bor (List ℕ) × Bor (List ℕ))) → IsParted c bs r → IfNone r (LacksByte c bs)
cut_none c bs None h = h
cut_none c bs (Some x) h = tt

-- ---- one cut

at_cut : (c : ℕ) (before behind : List ℕ) → get_or (before ++ c ∷ behind) (length before) 0 ≡ c
at_cut c [] behind = refl
at_cut c (x ∷ xs) behind = at_cut c xs behind

pub no_cut : (c : ℕ) (text before behind : List ℕ) → LacksByte c text → text ≡ before ++ c ∷ behind → ⊥
no_cut c text before behind h e =
    h (length before) (let l : length text ≡ length before + length (c ∷ behind) = ap length e ∙ length-append before (c ∷ behind) in omega (arith, l))
    (ap (λ (t : List ℕ). get_or t (length before) 0) e ∙ at_cut c before behind)

tail_lacks : (c x : ℕ) (xs : List ℕ) → LacksByte c (x ∷ xs) → LacksByte c xs
tail_lacks c x xs h k l = h (suc k) (omega (arith, l))

pub one_cut : (c : ℕ) (before other behind rest : List ℕ) → LacksByte c before → LacksByte c other → before ++ c ∷ behind ≡ other ++ c ∷ rest → (before ≡ other) × (behind ≡ rest)
one_cut c [] [] behind rest h k e = (refl, cc)
one_cut c [] (y ∷ ys) behind rest h k e = let q : y ≡ c = cc in absurd (k 0 (omega arith) q)
one_cut c (x ∷ xs) [] behind rest h k e = let q : x ≡ c = cc in absurd (h 0 (omega arith) q)
one_cut c (x ∷ xs) (y ∷ ys) behind rest h k e =
    let q : x ≡ y = cc in
    let t : xs ++ c ∷ behind ≡ ys ++ c ∷ rest = cc in
    let r = one_cut c xs ys behind rest (tail_lacks c x xs h) (tail_lacks c y ys k) t in
    (ap (λ (z : ℕ). z ∷ xs) q ∙ ap (λ (zs : List ℕ). y ∷ zs) r.0, r.1)

-- ---- accounts

pub no_colon : (text name password : List ℕ) (address : Address) (sessions : ℕ) → LacksByte 58 text → SpellsAccount text name password address sessions → ⊥
no_colon text name password address sessions h s = no_cut 58 text name s.behind h s.name_ends.parts

module _ (text name rest : List ℕ) (cut : IsCutAt 58 text name rest) where
  first_is : (n p : List ℕ) (a : Address) (k : ℕ) (s : SpellsAccount text n p a k) → (n ≡ name) × (s.behind ≡ rest)
  first_is n p a k s = one_cut 58 n name s.behind rest s.name_ends.first cut.first (sym s.name_ends.parts ∙ cut.parts)

  pub one_colon : (n p : List ℕ) (a : Address) (k : ℕ) → LacksByte 58 rest → SpellsAccount text n p a k → ⊥
  one_colon n p a k h s = no_cut 58 rest p s.end h (sym (first_is n p a k s).1 ∙ s.password_ends.parts)

  pub parts_are : (password number : List ℕ) → IsCutAt 58 rest password number → (n p : List ℕ) (a : Address) (k : ℕ) (s : SpellsAccount text n p a k) → (n ≡ name) × (p ≡ password) × (s.end ≡ number)
  parts_are password number more n p a k s =
      let f = first_is n p a k s in
      let r = one_cut 58 p password s.end number s.password_ends.first more.first (sym s.password_ends.parts ∙ f.1 ∙ more.parts) in
      (f.0, r.0, r.1)

  -- ---- what refuses an account

  pub bad_name : (password number : List ℕ) → IsCutAt 58 rest password number → (IsName name → ⊥) → (n p : List ℕ) (a : Address) (k : ℕ) → SpellsAccount text n p a k → ⊥
  bad_name password number more bad n p a k s = bad (subst IsName (parts_are password number more n p a k s).0 s.is_name)

  pub bad_password : (password number : List ℕ) → IsCutAt 58 rest password number → (IsPassword password → ⊥) → (n p : List ℕ) (a : Address) (k : ℕ) → SpellsAccount text n p a k → ⊥
  bad_password password number more bad n p a k s = bad (subst IsPassword (parts_are password number more n p a k s).1 s.is_password)

  pub bad_end : (password number : List ℕ) → IsCutAt 58 rest password number → ((a : Address) (k : ℕ) → SpellsEnd number a k → ⊥) → (n p : List ℕ) (a : Address) (k : ℕ) → SpellsAccount text n p a k → ⊥
  bad_end password number more bad n p a k s = bad a k (subst (λ (t : List ℕ). SpellsEnd t a k) (parts_are password number more n p a k s).2 s.spells)

-- ---- what refuses the number and the sessions

pub no_end : {A : Type 0} (r : Option A) (text : List ℕ) → ((a : Address) (k : ℕ) → SpellsEnd text a k → ⊥)
    → IfNone r ((address : Address) (sessions : ℕ) → SpellsEnd text address sessions → ⊥)
no_end None text h = h
no_end (Some x) text h = tt

-- a text without a colon
pub bare_end : (text : List ℕ) → LacksByte 58 text → ((a : Address) → SpellsNumber text a → ⊥) → (a : Address) (k : ℕ) → SpellsEnd text a k → ⊥
bare_end text lacks bad a k (inl s) = bad a s.spells
bare_end text lacks bad a k (inr s) = no_cut 58 text s.number s.limit lacks s.number_ends.parts

-- a text with one
module _ (text number limit : List ℕ) (cut : IsCutAt 58 text number limit) where
  end_parts : (a : Address) (k : ℕ) (s : SpellsLimit text a k) → (s.number ≡ number) × (s.limit ≡ limit)
  end_parts a k s = one_cut 58 s.number number s.limit limit s.number_ends.first cut.first (sym s.number_ends.parts ∙ cut.parts)

  pub bad_number : ((a : Address) → SpellsNumber number a → ⊥) → (a : Address) (k : ℕ) → SpellsEnd text a k → ⊥
  bad_number bad a k (inl s) = no_cut 58 text number limit s.lacks cut.parts
  bad_number bad a k (inr s) = bad a (subst (λ (t : List ℕ). SpellsNumber t a) (end_parts a k s).0 s.spells)

  pub bad_limit : ((k : ℕ) → IsSessions limit k → ⊥) → (a : Address) (k : ℕ) → SpellsEnd text a k → ⊥
  bad_limit bad a k (inl s) = no_cut 58 text number limit s.lacks cut.parts
  bad_limit bad a k (inr s) = bad k (subst (λ (t : List ℕ). IsSessions t k) (end_parts a k s).1 s.is_limit)

-- what gives nothing refuses it
pub refused : {A : Type 0} (r : Option A) (text : List ℕ) → ((n p : List ℕ) (a : Address) (k : ℕ) → SpellsAccount text n p a k → ⊥)
    → IfNone r ((name password : List ℕ) (address : Address) (sessions : ℕ) → SpellsAccount text name password address sessions → ⊥)
refused None text h = h
refused (Some x) text h = tt

-- ---- one more of several

pub same_name : (text n p : List ℕ) (a : Address) (k : ℕ) (m q : List ℕ) (b : Address) (l : ℕ) → SpellsAccount text n p a k → SpellsAccount text m q b l → n ≡ m
same_name text n p a k m q b l s t = (first_is text m t.behind t.name_ends n p a k s).0

pub no_room : (text m q : List ℕ) (b : Address) (l : ℕ) (old seen : List AccountWords) (has : Bool) → seen ≡ old → has ≡ false → (HasRoomFor m seen → has ≡ true) → SpellsAccount text m q b l → AddsNone text old
no_room text m q b l old seen has same lacks found t n p a k s room =
    let yes : has ≡ true = found (subst (λ (accounts : List AccountWords). HasRoomFor m accounts) (sym same) (subst (λ (x : List ℕ). HasRoomFor x old) (same_name text n p a k m q b l s t) room)) in
    absurd (true≢false (sym yes ∙ lacks))

-- ---- several accounts

abbrev name_of : AccountWords → List ℕ
name_of account = account.name.now

new_beside : (name : List ℕ) (some others : List AccountWords) → map name_of some ≡ map name_of others → IsNewName name some → IsNewName name others
new_beside name [] [] e h = tt
new_beside name [] (y ∷ ys) e h = absurd cc
new_beside name (x ∷ xs) [] e h = absurd cc
new_beside name (x ∷ xs) (y ∷ ys) e h =
    let head : name_of x ≡ name_of y = cc in
    let rest : map name_of xs ≡ map name_of ys = cc in
    (λ is. h.0 (head ∙ is), new_beside name xs ys rest h.1)

as_many : (some others : List AccountWords) → map name_of some ≡ map name_of others → length others ≡ length some
as_many some others e = sym (length-map others name_of) ∙ ap length (sym e) ∙ length-map some name_of

names_after : (text : List ℕ) (old other more further : List AccountWords) → map name_of old ≡ map name_of other → AddsAccount text old more → AddsAccount text other further
    → map name_of more ≡ map name_of further
names_after text old other more further e a b =
    ap (map name_of) a.added ∙ map-append name_of old (a.account ∷ [])
    ∙ ap (λ (names : List (List ℕ)). names ++ name_of a.account ∷ []) e
    ∙ ap (λ (name : List ℕ). map name_of other ++ name ∷ []) (same_name text (name_of a.account) a.account.password.now a.account.address a.account.sessions (name_of b.account) b.account.password.now b.account.address b.account.sessions a.spells b.spells)
    ∙ sym (map-append name_of other (b.account ∷ [])) ∙ ap (map name_of) (sym b.added)

-- texts that all add an account stop nowhere
pub stops_nowhere : (texts : List (List ℕ)) (place : ℕ) (old other new last : List AccountWords) → map name_of old ≡ map name_of other → AddsAll texts old new → StopsAt place texts other last → ⊥
stops_nowhere [] place old other new last e a s = s
stops_nowhere (text ∷ texts) zero old other new last e a s =
    let one = a.1 in
    let few = one.room.1 in
    let many = as_many old other e in
    s.0 (name_of one.account) one.account.password.now one.account.address one.account.sessions one.spells (new_beside (name_of one.account) old other e one.room.0, omega (arith, few, many))
stops_nowhere (text ∷ texts) (suc place) old other new last e a s = stops_nowhere texts place a.0 s.0 new last (names_after text old other a.0 s.0 e a.1 s.1) a.2 s.2

pub none_stops : (texts : List (List ℕ)) (old last : List AccountWords) → old ≡ [] → ((place : ℕ) × StopsAt place texts old last) → (new : List AccountWords) → AddsAll texts [] new → ⊥
none_stops texts old last none s new a = stops_nowhere texts s.0 [] old new last (ap (map name_of) (sym none)) a s.1

-- ---- a first one and others

pub all_added : {E : Type 0} (texts : List (Bor (List ℕ))) (first : Bor (List ℕ)) (others : List (Bor (List ℕ))) (old mid new : List AccountWords) (r : Result (Unit {0}) E) → texts ≡ first ∷ others
    → AddsAccount first.now old mid → OnOk r (AddsAll (map (λ text. text.now) others) mid new) → OnOk r (AddsAll (map (λ text. text.now) texts) old new)
all_added texts first others old mid new (Ok done) e one all = subst (λ l. AddsAll (map (λ text. text.now) l) old new) (sym e) (mid, one, all)
all_added texts first others old mid new (Err fault) e one all = tt

pub stops_later : (texts : List (Bor (List ℕ))) (first : Bor (List ℕ)) (others : List (Bor (List ℕ))) (old mid new : List AccountWords) → texts ≡ first ∷ others
    → AddsAccount first.now old mid → (place : ℕ) × StopsAt place (map (λ text. text.now) others) mid new → (place : ℕ) × StopsAt place (map (λ text. text.now) texts) old new
stops_later texts first others old mid new e one s = (suc s.0, subst (λ l. StopsAt (suc s.0) (map (λ text. text.now) l) old new) (sym e) (mid, one, s.1))

pub stops_first : (texts : List (Bor (List ℕ))) (first : Bor (List ℕ)) (others : List (Bor (List ℕ))) (old new : List AccountWords) → texts ≡ first ∷ others
    → AddsNone first.now old → new ≡ old → (place : ℕ) × StopsAt place (map (λ text. text.now) texts) old new
stops_first texts first others old new e none same = (0, subst (λ l. StopsAt 0 (map (λ text. text.now) l) old new) (sym e) (none, same))

pub none_more : (texts : List (Bor (List ℕ))) (old : List AccountWords) → length texts ≡ 0 → AddsAll (map (λ text. text.now) texts) old old
none_more [] old e = refl
none_more (text ∷ texts) old e = absurd (omega (arith, e))
